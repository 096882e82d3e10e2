-- Which label costs (document 02, P8): "which single secret mark, if lifted, would change the hardened program".
use Rattle.std.specs.Prelude.{ℕ, zero, suc, ◌+◌, ◌<◌, Bool, true, false, cond, ◌&&◌, not as negated, ◌↔◌, ◌≡◌, length, eqb}
use mathlib.Core.List.{List, [], ◌∷◌, ◌++◌, map, flat_map, Memᴰ}
use Rattle.bytes_le.specs.Numbers.{le}
use Rattle.awhile.specs.Language.{Com, note_of}
use Rattle.awhile.specs.Tables.{Table}
use Rattle.labels.specs.Annotation.{parts}
use Rattle.labels.specs.Labellings.{Mark, variable_mark, array_mark, label_of, set_label}
use Rattle.masks.specs.Decisions.{Decision, decisions_of, mask_digits}
use Rattle.masks.specs.Hardening.{hardened_table}

-- ---- one mark lifted
-- "that one initial label is made public"
unfoldable pub lifted : Table → Mark → Table
lifted t k = record { version = t.version; variables = t.variables; labels = set_label t.labels k false; counts = t.counts; nodes = t.nodes }

-- ---- what is compared: the decisions on all commands of a program. That they differ exactly where the hardened nodes do is part of the promise, below.
unfoldable pub masks_of : Com Decision → List ℕ
masks_of c = map (λ (p : Com Decision). mask_digits (note_of p)) (parts c)

unfoldable pub same_numbers : List ℕ → List ℕ → Bool
same_numbers [] [] = true
same_numbers [] (n ∷ ns) = false
same_numbers (m ∷ ms) [] = false
same_numbers (m ∷ ms) (n ∷ ns) = eqb m n && same_numbers ms ns

unfoldable pub changes : (other own : Com Decision) → Bool
changes d e = negated (same_numbers (masks_of d) (masks_of e))

-- lifting the mark changes a decision
unfoldable pub costs : Table → Mark → Bool
costs t k = changes (decisions_of (lifted t k)) (decisions_of t)

-- ---- the list
-- the marks that a table declares: "variables by rising number, then arrays"
unfoldable pub marks_below : (ℕ → Mark) → (count : ℕ) → List Mark
marks_below mark zero = []
marks_below mark (suc n) = marks_below mark n ++ (mark n ∷ [])

unfoldable pub marks_of : Table → List Mark
marks_of t = marks_below variable_mark t.variables ++ marks_below array_mark (length t.counts)

-- of some marks, those that cost
unfoldable pub costing : Table → List Mark → List Mark
costing t [] = []
costing t (k ∷ ks) = cond (costs t k) (k ∷ costing t ks) (costing t ks)

-- "arrays as 256 plus their number"
unfoldable pub mark_number : Mark → ℕ
mark_number (variable_mark x) = x
mark_number (array_mark a) = 256 + a

-- "2 bytes each"
unfoldable pub marks_bytes : List Mark → List ℕ
marks_bytes ks = flat_map (λ (k : Mark). le 2 (mark_number k)) ks

unfoldable pub cost_bytes : Table → List ℕ
cost_bytes t = marks_bytes (costing t (marks_of t))

-- ---- what is promised of a list of marks
-- each number is below all that stand behind it
abbrev pub Rising : List ℕ → Type 0
Rising [] = Unit
Rising (n ∷ ns) = ((m : ℕ) → Memᴰ m ns → n < m) × Rising ns

abbrev pub DeclaresMark : Table → Mark → Type 0
DeclaresMark t (variable_mark x) = x < t.variables
DeclaresMark t (array_mark a) = a < length t.counts

-- THE MARKS OF A TABLE THAT COST
pub record TellsCosts (t : Table) (ks : List Mark) : Type 0 where
  -- "A mark is listed if and only if the hardened nodes differ when that one initial label is made public. The declared masks themselves do not
  -- count as a difference." It holds of every mark, declared or not
  pub listed : (k : Mark) → Memᴰ k ks ↔ ((hardened_table (lifted t k)).nodes ≡ (hardened_table t).nodes → ⊥)
  -- what is listed is a secret mark of the table: one that is public already is not
  pub declared : (k : Mark) → Memᴰ k ks → DeclaresMark t k
  pub secret : (k : Mark) → Memᴰ k ks → label_of t.labels k ≡ true
  -- "variables by rising number, then arrays as 256 plus their number": so each stands there once
  pub rising : Rising (map mark_number ks)
