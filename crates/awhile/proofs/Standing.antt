-- In the root of a well-formed table each command node stands exactly once, and nothing else does.
use Prim.Native.Nat.{ℕ, ◌+◌, ◌≤◌, ◌<◌}
use native.Mathlib.Omega.{arith}
use native.Mathlib.Decide.{ℕ_discrete}
use mathlib.Core.Bool.{Bool, true, false, cond}
use mathlib.Core.Path.{◌≡◌, refl, sym, ap, ◌∙◌}
use mathlib.Core.List.{List, map, flat_map}
use lib.Dec.{eqb, ltb}
use lib.ListN.{length, get_or}
use borrow.Author.Tests.{eq-eqb, ne_eqb}
use Rattle.awhile.specs.Lists.{sum}
use Rattle.awhile.specs.Nodes.{form, sort_of, same_sort, field_children, children_of}
use Rattle.awhile.specs.Tables.{Table}
use Rattle.awhile.specs.Trees.{Tree, numeric, truth, command, as_command, tree_of, tree_at, trees, root_of}
use Rattle.awhile.specs.WellFormed.{WellFormed}
use Rattle.awhile.specs.declared.Sort.TheVariants.{Numeric, Truth, Command}
use Rattle.awhile.specs.declared.Node.{Node}
use Rattle.awhile.specs.declared.Node.TheVariants.{Number, Variable, Add, Subtract, Multiply, Choice}
use Rattle.awhile.specs.declared.Node.TheVariants.{Constant, Equal, Less, Not, And}
use Rattle.awhile.specs.declared.Node.TheVariants.{Skip, Assign, Sequence, If, While, Read, Write}
use Rattle.awhile.proofs.Children.{EachChild}
use Rattle.awhile.proofs.Trees.{tree_sort, tree_of_node, tree_children}
use Rattle.awhile.proofs.Sums.{sum_below_same, only, sum_below_only}
use Rattle.awhile.proofs.Size.{root_tree, root_total}
use Rattle.awhile.specs.Standing.{standing, Distinct}

module _ (p : ℕ) where
  -- how many commands with this number stand in a tree
  unfoldable standing_in : Tree → ℕ
  standing_in (numeric a) = 0
  standing_in (truth b) = 0
  standing_in (command c) = standing p c

  none_numeric : (t : Tree) → tree_sort t ≡ Numeric → standing_in t ≡ 0
  unfolding tree_sort standing_in
  none_numeric (numeric a) e = refl
  none_numeric (truth b) e = cc
  none_numeric (command c) e = cc

  none_truth : (t : Tree) → tree_sort t ≡ Truth → standing_in t ≡ 0
  unfolding tree_sort standing_in
  none_truth (numeric a) e = cc
  none_truth (truth b) e = refl
  none_truth (command c) e = cc

  command_standing : (t : Tree) → tree_sort t ≡ Command → standing p (as_command t) ≡ standing_in t
  unfolding tree_sort standing_in as_command
  command_standing (numeric a) e = cc
  command_standing (truth b) e = cc
  command_standing (command c) e = refl

  -- 1 for a command with this number
  unfoldable own : (i : ℕ) → Node → ℕ
  own i n = cond (same_sort (sort_of n) Command) (cond (eqb p i) 1 0) 0

  standing_tree_of : (t : ℕ → Tree) (i : ℕ) (n : Node) → EachChild (λ s c. tree_sort (t c) ≡ s) (form n).fields
      → standing_in (tree_of t i n) ≡ own i n + sum (map (λ c. standing_in (t c)) (children_of n))
  unfolding standing_in standing tree_of own sort_of same_sort form children_of flat_map field_children sum
  standing_tree_of t i (Number v) r = refl
  standing_tree_of t i (Variable x) r = refl
  standing_tree_of t i (Add a b) r = omega (arith, none_numeric (t a) r.0, none_numeric (t b) r.1.0)
  standing_tree_of t i (Subtract a b) r = omega (arith, none_numeric (t a) r.0, none_numeric (t b) r.1.0)
  standing_tree_of t i (Multiply a b) r = omega (arith, none_numeric (t a) r.0, none_numeric (t b) r.1.0)
  standing_tree_of t i (Choice c a b) r = omega (arith, none_truth (t c) r.0, none_numeric (t a) r.1.0, none_numeric (t b) r.1.1.0)
  standing_tree_of t i (Constant v) r = refl
  standing_tree_of t i (Equal a b) r = omega (arith, none_numeric (t a) r.0, none_numeric (t b) r.1.0)
  standing_tree_of t i (Less a b) r = omega (arith, none_numeric (t a) r.0, none_numeric (t b) r.1.0)
  standing_tree_of t i (Not a) r = omega (arith, none_truth (t a) r.0)
  standing_tree_of t i (And a b) r = omega (arith, none_truth (t a) r.0, none_truth (t b) r.1.0)
  standing_tree_of t i Skip r = omega arith
  standing_tree_of t i (Assign x e) r = omega (arith, none_numeric (t e) r.0)
  standing_tree_of t i (Sequence c d) r = omega (arith, command_standing (t c) r.0, command_standing (t d) r.1.0)
  standing_tree_of t i (If b c d) r = omega (arith, none_truth (t b) r.0, command_standing (t c) r.1.0, command_standing (t d) r.1.1.0)
  standing_tree_of t i (While b c) r = omega (arith, none_truth (t b) r.0, command_standing (t c) r.1.0)
  standing_tree_of t i (Read x a e) r = omega (arith, none_numeric (t e) r.0)
  standing_tree_of t i (Write a e v) r = omega (arith, none_numeric (t e) r.0, none_numeric (t v) r.1.0)

  -- the sum over the nodes
  own_only : (weight : ℕ → Node) (i : ℕ) → own i (weight i) ≡ only p (λ k. cond (same_sort (sort_of (weight k)) Command) 1 0) i
  unfolding own only
  own_only weight i = go (same_sort (sort_of (weight i)) Command) (ℕ_discrete p i)
    where
      go : (b : Bool) → Dec (p ≡ i) → ◌≡◌ {A = ℕ} (cond b (cond (eqb p i) 1 0) 0) (cond (eqb i p) (cond b 1 0) 0)
      go true (yes e) = rw (eq-eqb p i e, eq-eqb i p (sym e))
      go true (no e) = rw (ne_eqb p i e, ne_eqb i p (λ f. e (sym f)))
      go false (yes e) = rw (eq-eqb i p (sym e))
      go false (no e) = rw (ne_eqb i p (λ f. e (sym f)))

  -- in the root a number stands once if it is a command node's, and else never
  pub root_standing : (t : Table) → WellFormed t → standing p (root_of t) ≡ cond (ltb p (length t.nodes)) (cond (same_sort (sort_of (get_or t.nodes p Skip)) Command) 1 0) 0
  unfolding standing_in
  root_standing t w =
      let ns : List Node = t.nodes in
      let tree : ℕ → Tree = tree_at (trees ns) in
      let built : (i : ℕ) → i < length ns → standing_in (tree i) ≡ own i (get_or ns i Skip) + sum (map (λ c. standing_in (tree c)) (children_of (get_or ns i Skip))) =
      λ i inside. ap standing_in (tree_of_node ns t.variables (length t.counts) i inside (w.each_fits i inside))
      ∙ standing_tree_of tree i (get_or ns i Skip)
      (tree_children ns t.variables (length t.counts) i inside (w.each_fits i inside) (λ s c. tree_sort (tree c) ≡ s) (λ s c below e. e)) in
      sym (ap standing_in (root_tree t w))
      ∙ root_total t w (λ i. own i (get_or ns i Skip)) (λ i. standing_in (tree i)) built
      ∙ sum_below_same (length ns) (λ i. own i (get_or ns i Skip)) (only p (λ k. cond (same_sort (sort_of (get_or ns k Skip)) Command) 1 0)) (λ i inside. own_only (λ k. get_or ns k Skip) i)
      ∙ sum_below_only (length ns) p (λ k. cond (same_sort (sort_of (get_or ns k Skip)) Command) 1 0)

-- a choice of 1 or 0 is at most 1
at_most_one : (a b : Bool) → cond a (cond b 1 0) 0 ≤ 1
at_most_one true true = omega arith
at_most_one true false = omega arith
at_most_one false b = omega arith

-- the commands of a well-formed table's root have numbers of their own
pub root_distinct : (t : Table) → WellFormed t → Distinct (root_of t)
root_distinct t w =
    record { once = λ p. rw (root_standing p t w) (at_most_one (ltb p (length t.nodes)) (same_sort (sort_of (get_or t.nodes p Skip)) Command)) }
