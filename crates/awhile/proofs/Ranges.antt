-- The root of a well-formed table names declared variables and arrays only, and its numbers are 32-bit values.
use Prim.Native.Nat.{ℕ, zero, suc, ◌-◌, ◌^◌, ◌<◌}
use native.Mathlib.Omega.{arith}
use mathlib.Core.Bool.{true}
use mathlib.Core.Path.{◌≡◌, sym, subst}
use mathlib.Core.List.{List, [], ◌∷◌}
use lib.ListN.{length, get_or, take}
use borrow.Author.Tests.{ltb-true}
use Rattle.awhile.specs.Lists.{all}
use Rattle.awhile.specs.Nodes.{Field, word, constant, variable, array, child, form, field_in_range, in_range}
use Rattle.awhile.specs.Tables.{Table}
use Rattle.awhile.specs.Trees.{Tree, numeric, truth, command, as_numeric, as_truth, as_command, tree_of, tree_at, trees, root_of}
use Rattle.awhile.specs.WellFormed.{WellFormed, word_fits, WithinA, WithinB, Within}
use Rattle.awhile.proofs.Lists.{all_head, all_tail}
use Rattle.awhile.proofs.Children.{EachChild, other_children}
use Rattle.awhile.proofs.Trees.{tree_of_node, tree_children}
use Rattle.awhile.specs.declared.Node.{Node}
use Rattle.awhile.specs.declared.Node.TheVariants.{Number, Variable, Add, Subtract, Multiply, Choice}
use Rattle.awhile.specs.declared.Node.TheVariants.{Constant, Equal, Less, Not, And}
use Rattle.awhile.specs.declared.Node.TheVariants.{Skip, Assign, Sequence, If, While, Read, Write}

module _ (vs arrs : ℕ) where
  -- a tree of any sort is within the declarations
  abbrev pub TreeWithin : Tree → Type 0
  TreeWithin (numeric a) = WithinA vs a
  TreeWithin (truth b) = WithinB vs b
  TreeWithin (command c) = Within vs arrs c

  numeric_within : (t : Tree) → TreeWithin t → WithinA vs (as_numeric t)
  unfolding as_numeric
  numeric_within (numeric a) h = h
  numeric_within (truth b) h = omega arith
  numeric_within (command c) h = omega arith

  truth_within : (t : Tree) → TreeWithin t → WithinB vs (as_truth t)
  unfolding as_truth
  truth_within (numeric a) h = tt
  truth_within (truth b) h = h
  truth_within (command c) h = tt

  command_within : (t : Tree) → TreeWithin t → Within vs arrs (as_command t)
  unfolding as_command
  command_within (numeric a) h = tt
  command_within (truth b) h = tt
  command_within (command c) h = h

  -- the fields of a node: words fit, variables and arrays are declared, the children's trees are within
  abbrev FieldsWithin : (ℕ → Tree) → List Field → Type 0
  FieldsWithin t [] = Unit
  FieldsWithin t (word n ∷ fs) = (n < 2 ^ 32) × FieldsWithin t fs
  FieldsWithin t (constant n ∷ fs) = FieldsWithin t fs
  FieldsWithin t (variable x ∷ fs) = (x < vs) × FieldsWithin t fs
  FieldsWithin t (array a ∷ fs) = (a < arrs) × FieldsWithin t fs
  FieldsWithin t (child s c ∷ fs) = TreeWithin (t c) × FieldsWithin t fs

  field_within : (t : ℕ → Tree) (parent : ℕ) (f : Field) (fs : List Field) → field_in_range vs arrs parent f ≡ true → word_fits f ≡ true
      → EachChild (λ s c. TreeWithin (t c)) (f ∷ fs) → FieldsWithin t fs → FieldsWithin t (f ∷ fs)
  unfolding field_in_range word_fits
  field_within t parent (word n) fs r w cs rest = (ltb-true n (2 ^ 32) w, rest)
  field_within t parent (constant n) fs r w cs rest = rest
  field_within t parent (variable x) fs r w cs rest = (ltb-true x vs r, rest)
  field_within t parent (array a) fs r w cs rest = (ltb-true a arrs r, rest)
  field_within t parent (child s c) fs r w cs rest = (cs.0, rest)

  fields_within : (t : ℕ → Tree) (parent : ℕ) (fs : List Field) → all (field_in_range vs arrs parent) fs ≡ true → all word_fits fs ≡ true
      → EachChild (λ s c. TreeWithin (t c)) fs → FieldsWithin t fs
  fields_within t parent [] r w cs = tt
  fields_within t parent (f ∷ fs) r w cs =
      field_within t parent f fs
      (all_head (field_in_range vs arrs parent) f fs r)
      (all_head word_fits f fs w)
      cs
      (fields_within t parent fs (all_tail (field_in_range vs arrs parent) f fs r) (all_tail word_fits f fs w) (other_children (λ s c. TreeWithin (t c)) f fs cs))

  -- a node's tree is within where its fields are
  tree_within : (t : ℕ → Tree) (i : ℕ) (n : Node) → FieldsWithin t (form n).fields → TreeWithin (tree_of t i n)
  unfolding tree_of form
  tree_within t i (Number v) r = r.0
  tree_within t i (Variable x) r = r.0
  tree_within t i (Add a b) r = (numeric_within (t a) r.0, numeric_within (t b) r.1.0)
  tree_within t i (Subtract a b) r = (numeric_within (t a) r.0, numeric_within (t b) r.1.0)
  tree_within t i (Multiply a b) r = (numeric_within (t a) r.0, numeric_within (t b) r.1.0)
  tree_within t i (Choice c a b) r = (truth_within (t c) r.0, numeric_within (t a) r.1.0, numeric_within (t b) r.1.1.0)
  tree_within t i (Constant v) r = tt
  tree_within t i (Equal a b) r = (numeric_within (t a) r.0, numeric_within (t b) r.1.0)
  tree_within t i (Less a b) r = (numeric_within (t a) r.0, numeric_within (t b) r.1.0)
  tree_within t i (Not a) r = truth_within (t a) r.0
  tree_within t i (And a b) r = (truth_within (t a) r.0, truth_within (t b) r.1.0)
  tree_within t i Skip r = tt
  tree_within t i (Assign x e) r = (r.0, numeric_within (t e) r.1.0)
  tree_within t i (Sequence c d) r = (command_within (t c) r.0, command_within (t d) r.1.0)
  tree_within t i (If b c d) r = (truth_within (t b) r.0, command_within (t c) r.1.0, command_within (t d) r.1.1.0)
  tree_within t i (While b c) r = (truth_within (t b) r.0, command_within (t c) r.1.0)
  tree_within t i (Read x a e) r = (r.0, r.1.0, numeric_within (t e) r.1.1.0)
  tree_within t i (Write a e v) r = (r.0, numeric_within (t e) r.1.0, numeric_within (t v) r.1.1.0)

module _ (t : Table) (w : WellFormed t) where
  -- the trees of the first nodes, from those of the nodes before them
  trees_within : (count i : ℕ) → i < count → i < length t.nodes → TreeWithin t.variables (length t.counts) (tree_at (trees t.nodes) i)
  unfolding in_range
  trees_within zero i below inside = absurd (omega arith)
  trees_within (suc count) i below inside =
      let vs : ℕ = t.variables in
      let arrs : ℕ = length t.counts in
      let tree : ℕ → Tree = tree_at (trees t.nodes) in
      let n : Node = get_or t.nodes i Skip in
      let fits = w.each_fits i inside in
      let children = tree_children t.nodes vs arrs i inside fits (λ s c. TreeWithin vs arrs (tree c)) (λ s c lower e. trees_within count c (omega arith) (omega arith)) in
      subst (TreeWithin vs arrs) (sym (tree_of_node t.nodes vs arrs i inside fits))
      (tree_within vs arrs tree i n (fields_within vs arrs tree (length (take i t.nodes)) (form n).fields fits.ranged fits.words_fit children))

  -- the root is within the declarations
  pub root_within : Within t.variables (length t.counts) (root_of t)
  unfolding root_of
  root_within =
      let some = w.has_nodes in
      let last : ℕ = length t.nodes - 1 in
      command_within t.variables (length t.counts) (tree_at (trees t.nodes) last) (trees_within (suc last) last (omega arith) (omega arith))
