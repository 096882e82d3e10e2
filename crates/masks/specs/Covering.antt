-- Decisions that cover the labels: what the labels want masked is masked; more may be.
use Rattle.std.specs.Prelude.{ℕ, Bool, true, false, ◌||◌, List, ◌≡◌, get_or}
use Rattle.awhile.specs.Language.{AExp, BExp, Com, skip, assign, sequence, if, while, read, write}
use Rattle.awhile.specs.declared.Labelling.{Labelling}
use Rattle.labels.specs.Labellings.{array_mark, label_of, label_of_a, label_of_b}
use Rattle.labels.specs.Analysis.{analyse, read_label}
use Rattle.machine.specs.Steps.{inside, cell_place}
use Rattle.masks.specs.Decisions.{Decision}

-- what is secret is masked
pub record Masked (label mask : Bool) : Type 0 where
  pub masked : label ≡ true → mask ≡ true

-- a read whose variable and index labels are public has its value masked
pub record ValueMasked (variable_label index_label mask : Bool) : Type 0 where
  pub masked : variable_label ≡ false → index_label ≡ false → mask ≡ true

-- the decisions of a command cover the labels that the analysis gives from a context and a labelling
pub data Covers : Com Decision → (context : Bool) → Labelling → Type 0 where
  covers_skip : {n : Decision} {x : Bool} {l : Labelling} → Covers (skip n) x l
  covers_assign : {n : Decision} {v : ℕ} {e : AExp} {x : Bool} {l : Labelling} → Covers (assign n v e) x l
  covers_sequence : {n : Decision} {c d : Com Decision} {x : Bool} {l : Labelling}
      → Covers c x l → Covers d x (analyse c x l) → Covers (sequence n c d) x l
  covers_if : {n : Decision} {b : BExp} {c d : Com Decision} {x : Bool} {l : Labelling}
      → Masked (label_of_b l b) n.mask_condition → Covers c (label_of_b l b || x) l → Covers d (label_of_b l b || x) l → Covers (if n b c d) x l
  -- a loop's condition is labelled by the settled labelling
  covers_while : {n : Decision} {b : BExp} {c : Com Decision} {x : Bool} {l : Labelling}
      → Masked (label_of_b (analyse (while n b c) x l) b) n.mask_condition
      → Covers c (label_of_b (analyse (while n b c) x l) b || x) (analyse (while n b c) x l)
      → Covers (while n b c) x l
  covers_read : {n : Decision} {v a : ℕ} {i : AExp} {x : Bool} {l : Labelling}
      → Masked (label_of_a l i) n.mask_index → ValueMasked (read_label l x a i) (label_of_a l i) n.mask_value → Covers (read n v a i) x l
  covers_write : {n : Decision} {a : ℕ} {i e : AExp} {x : Bool} {l : Labelling} → Masked (label_of_a l i) n.mask_index → Covers (write n a i e) x l

-- "states agree on an array if all its cells are equal": the cells agree on every array that is public in the labelling
pub record AgreeOnArrays (l : Labelling) (counts cells others : List ℕ) : Type 0 where
  pub at : (a i : ℕ) → label_of l (array_mark a) ≡ false → inside counts a i ≡ true
      → get_or cells (cell_place counts a i) 0 ≡ get_or others (cell_place counts a i) 0
