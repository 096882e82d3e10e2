-- What every accepted table is, and what a program must be to be written as one.
use Rattle.std.specs.Prelude.{ℕ, ◌^◌, ◌≤◌, ◌<◌, Bool, true, ◌≡◌, List, length, get_or, take, ltb}
use Rattle.awhile.specs.Language.{AExp, number, variable, add, subtract, multiply, choice}
use Rattle.awhile.specs.Language.{BExp, constant, equal, less, not, and}
use Rattle.awhile.specs.Language.{Com, skip, assign, sequence, if, while, read, write}
use Rattle.awhile.specs.Lists.{sum, all}
use Rattle.awhile.specs.Nodes.{Field, form, in_range, sorted}
use Rattle.awhile.specs.Nodes.{word as word_field, constant as constant_field, variable as variable_field, array as array_field, child as child_field}
use Rattle.awhile.specs.Tables.{Table, known_version, most_variables, max_arrays, max_nodes, max_cells, all_in_order}
use Rattle.awhile.specs.declared.Labelling.{Labelling}
use Rattle.awhile.specs.declared.Node.{Node}
use Rattle.awhile.specs.declared.Node.TheVariants.{Skip}

-- ---- nodes
-- "Values are 32-bit": a number fits its 4 bytes. The other fields fit theirs because they are in range
unfoldable pub word_fits : Field → Bool
word_fits (word_field n) = ltb n (2 ^ 32)
word_fits (constant_field n) = true
word_fits (variable_field x) = true
word_fits (array_field a) = true
word_fits (child_field s n) = true

-- a node that may stand after these nodes
pub record NodeFits (variables arrays : ℕ) (before : List Node) (n : Node) : Type 0 where
  pub ranged : in_range variables arrays (length before) n ≡ true
  pub well_sorted : sorted before n ≡ true
  pub words_fit : all word_fits (form n).fields ≡ true

-- ---- declarations: version, variables, labels and cell counts within the limits
pub record Declared (version variables : ℕ) (labels : Labelling) (counts : List ℕ) : Type 0 where
  pub version_known : known_version version ≡ true
  pub variables_fit : variables ≤ most_variables version
  pub arrays_fit : length counts ≤ max_arrays
  pub variable_mask_fits : labels.variables < 2 ^ variables
  pub array_mask_fits : labels.arrays < 2 ^ length counts
  pub counts_positive : (i : ℕ) → i < length counts → 0 < get_or counts i 0
  pub cells_fit : sum counts ≤ max_cells

-- ---- tables
pub record WellFormed (t : Table) : Type 0 where
  pub declared : Declared t.version t.variables t.labels t.counts
  pub has_nodes : 0 < length t.nodes
  pub nodes_fit : length t.nodes ≤ max_nodes
  pub each_fits : (i : ℕ) → i < length t.nodes → NodeFits t.variables (length t.counts) (take i t.nodes) (get_or t.nodes i Skip)
  pub one_tree : all_in_order t.nodes (length t.nodes) ≡ true

-- ---- programs: every variable and array is declared, every number is a 32-bit value
abbrev mutual
  pub WithinA : (variables : ℕ) → AExp → Type 0
  WithinA vs (number n) = n < 2 ^ 32
  WithinA vs (variable x) = x < vs
  WithinA vs (add a b) = WithinA vs a × WithinA vs b
  WithinA vs (subtract a b) = WithinA vs a × WithinA vs b
  WithinA vs (multiply a b) = WithinA vs a × WithinA vs b
  WithinA vs (choice c a b) = WithinB vs c × WithinA vs a × WithinA vs b

  pub WithinB : (variables : ℕ) → BExp → Type 0
  WithinB vs (constant b) = Unit
  WithinB vs (equal a b) = WithinA vs a × WithinA vs b
  WithinB vs (less a b) = WithinA vs a × WithinA vs b
  WithinB vs (not b) = WithinB vs b
  WithinB vs (and b c) = WithinB vs b × WithinB vs c

module _ {Note : Type 0} where
  abbrev pub Within : (variables arrays : ℕ) → Com Note → Type 0
  Within vs arrs (skip n) = Unit
  Within vs arrs (assign n x e) = (x < vs) × WithinA vs e
  Within vs arrs (sequence n c d) = Within vs arrs c × Within vs arrs d
  Within vs arrs (if n b c d) = WithinB vs b × Within vs arrs c × Within vs arrs d
  Within vs arrs (while n b c) = WithinB vs b × Within vs arrs c
  Within vs arrs (read n x a i) = (x < vs) × (a < arrs) × WithinA vs i
  Within vs arrs (write n a i e) = (a < arrs) × WithinA vs i × WithinA vs e
