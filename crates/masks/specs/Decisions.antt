-- What is masked: three independent choices for a command, and the ones that the labels give.
use Rattle.std.specs.Prelude.{ℕ, ◌+◌, Bool, false, cond, ◌||◌, not as negated}
use Rattle.awhile.specs.Language.{Com, skip, assign, sequence, if, while, read, write}
use Rattle.labels.specs.Labellings.{label_of_a, label_of_b}
use Rattle.labels.specs.Analysis.{read_label}
use Rattle.labels.specs.Annotation.{Entry}
use Rattle.labels.specs.Sheet.{entry_of, annotated}
use Rattle.awhile.specs.Tables.{Table}

pub record Decision : Type 0 where
  -- the command's number in the table that is hardened
  pub node : ℕ
  pub mask_condition : Bool
  pub mask_index : Bool
  pub mask_value : Bool

abbrev pub decision : ℕ → (condition index value : Bool) → Decision
decision n c i v = record { node = n; mask_condition = c; mask_index = i; mask_value = v }

-- "A secret condition", "A secret index", "A read whose variable and index labels are public". A loop's condition is labelled by the settled
-- labelling, which is its body's entry.
unfoldable pub decide : Com Entry → Com Decision
decide (skip e) = skip (decision e.node false false false)
decide (assign e x a) = assign (decision e.node false false false) x a
decide (sequence e c d) = sequence (decision e.node false false false) (decide c) (decide d)
decide (if e b c d) = if (decision e.node (label_of_b e.labelling b) false false) b (decide c) (decide d)
decide (while e b c) = while (decision e.node (label_of_b (entry_of c) b) false false) b (decide c)
decide (read e x a i) =
    read
    (decision e.node false (label_of_a e.labelling i) (negated (read_label e.labelling e.context a i || label_of_a e.labelling i)))
    x
    a
    i
decide (write e a i v) = write (decision e.node false (label_of_a e.labelling i) false) a i v

-- the decisions on a table's program, by its labels
abbrev pub decisions_of : Table → Com Decision
decisions_of t = decide (annotated t t.labels)

-- a decision as a number, without its node: a digit for the condition, one for the index and one for the value
unfoldable pub mask_digits : Decision → ℕ
mask_digits d = cond d.mask_condition 1 0 + cond d.mask_index 2 0 + cond d.mask_value 4 0
