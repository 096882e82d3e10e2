-- The trees of a well-formed table: that of node i has at most i + 1 nodes, the root's has all of them. Every node but the last is a child exactly once.
use Prim.Native.Nat.{ℕ, zero, suc, ◌+◌, ◌*◌, ◌-◌, ◌≤◌, ◌<◌}
use native.Mathlib.Nat.{zero-mul, one-mul}
use native.Mathlib.Omega.{arith}
use mathlib.Core.Bool.{true}
use mathlib.Core.Path.{◌≡◌, refl, sym, ap, subst, ◌∙◌}
use mathlib.Core.List.{List, [], ◌∷◌, ◌++◌, append-nil, map, map-append, flat_map}
use lib.ListN.{length, get_or, take, drop, take-append-drop}
use lib.Seq.{take-suc, take-length}
use lib.Dec.{ltb}
use borrow.Author.Tests.{lt-ltb, eqb-true}
use Rattle.awhile.specs.Lists.{sum, all, occurrences}
use Rattle.awhile.specs.Nodes.{Field, word, constant, variable, array, child, form, sort_of, field_children, children_of}
use Rattle.awhile.specs.Tables.{Table, uses_of}
use Rattle.awhile.specs.Trees.{Tree, numeric, truth, command, as_numeric, as_truth, as_command, tree_of, tree_at, trees, root_of}
use Rattle.awhile.specs.Encoding.{nodes_of_a, nodes_of_b, nodes_of}
use Rattle.awhile.specs.WellFormed.{WellFormed}
use Rattle.awhile.proofs.Lists.{sum-append, occurrences_append, flat_map_append, all_cons, all_append}
use Rattle.awhile.proofs.Cases.{in_order_last, in_order_child, each_in_order}
use Rattle.awhile.proofs.Children.{EachChild, same_sort_true}
use Rattle.awhile.proofs.Trees.{tree_sort, command_tree, tree_sort_lem, tree_of_node, tree_children}
use Rattle.awhile.proofs.Sums.{sum_below, sum_below_same, sum_below_most, sum_below_ones, sum_by_number}
use Rattle.awhile.specs.declared.Sort.TheVariants.{Numeric, Truth, Command}
use Rattle.awhile.specs.declared.Node.{Node}
use Rattle.awhile.specs.declared.Node.TheVariants.{Number, Variable, Add, Subtract, Multiply, Choice}
use Rattle.awhile.specs.declared.Node.TheVariants.{Constant, Equal, Less, Not, And}
use Rattle.awhile.specs.declared.Node.TheVariants.{Skip, Assign, Sequence, If, While, Read, Write}

-- ---- the size of a tree
unfoldable pub tree_size : Tree → ℕ
tree_size (numeric a) = nodes_of_a a
tree_size (truth b) = nodes_of_b b
tree_size (command c) = nodes_of c

size_numeric : (t : Tree) → tree_sort t ≡ Numeric → nodes_of_a (as_numeric t) ≡ tree_size t
unfolding tree_sort tree_size as_numeric
size_numeric (numeric a) e = refl
size_numeric (truth b) e = cc
size_numeric (command c) e = cc

size_truth : (t : Tree) → tree_sort t ≡ Truth → nodes_of_b (as_truth t) ≡ tree_size t
unfolding tree_sort tree_size as_truth
size_truth (numeric a) e = cc
size_truth (truth b) e = refl
size_truth (command c) e = cc

size_command : (t : Tree) → tree_sort t ≡ Command → nodes_of (as_command t) ≡ tree_size t
unfolding tree_sort tree_size as_command
size_command (numeric a) e = cc
size_command (truth b) e = cc
size_command (command c) e = refl

-- a node's tree has one node more than its children's trees
pub tree_size_tree_of : (t : ℕ → Tree) (i : ℕ) (n : Node) → EachChild (λ s c. tree_sort (t c) ≡ s) (form n).fields
    → tree_size (tree_of t i n) ≡ 1 + sum (map (λ c. tree_size (t c)) (children_of n))
unfolding tree_size tree_of form children_of flat_map field_children sum nodes_of_a nodes_of_b nodes_of
tree_size_tree_of t i (Number v) r = refl
tree_size_tree_of t i (Variable x) r = refl
tree_size_tree_of t i (Add a b) r = omega (arith, size_numeric (t a) r.0, size_numeric (t b) r.1.0)
tree_size_tree_of t i (Subtract a b) r = omega (arith, size_numeric (t a) r.0, size_numeric (t b) r.1.0)
tree_size_tree_of t i (Multiply a b) r = omega (arith, size_numeric (t a) r.0, size_numeric (t b) r.1.0)
tree_size_tree_of t i (Choice c a b) r = omega (arith, size_truth (t c) r.0, size_numeric (t a) r.1.0, size_numeric (t b) r.1.1.0)
tree_size_tree_of t i (Constant v) r = refl
tree_size_tree_of t i (Equal a b) r = omega (arith, size_numeric (t a) r.0, size_numeric (t b) r.1.0)
tree_size_tree_of t i (Less a b) r = omega (arith, size_numeric (t a) r.0, size_numeric (t b) r.1.0)
tree_size_tree_of t i (Not a) r = omega (arith, size_truth (t a) r.0)
tree_size_tree_of t i (And a b) r = omega (arith, size_truth (t a) r.0, size_truth (t b) r.1.0)
tree_size_tree_of t i Skip r = refl
tree_size_tree_of t i (Assign x e) r = omega (arith, size_numeric (t e) r.0)
tree_size_tree_of t i (Sequence c d) r = omega (arith, size_command (t c) r.0, size_command (t d) r.1.0)
tree_size_tree_of t i (If b c d) r = omega (arith, size_truth (t b) r.0, size_command (t c) r.1.0, size_command (t d) r.1.1.0)
tree_size_tree_of t i (While b c) r = omega (arith, size_truth (t b) r.0, size_command (t c) r.1.0)
tree_size_tree_of t i (Read x a e) r = omega (arith, size_numeric (t e) r.0)
tree_size_tree_of t i (Write a e v) r = omega (arith, size_numeric (t e) r.0, size_numeric (t v) r.1.0)

-- children below a bound
children_below : (bound : ℕ) (fs : List Field) → EachChild (λ s c. c < bound) fs → all (λ c. ltb c bound) (flat_map field_children fs) ≡ true
unfolding flat_map field_children all
children_below bound [] r = refl
children_below bound (word n ∷ fs) r = children_below bound fs r
children_below bound (constant n ∷ fs) r = children_below bound fs r
children_below bound (variable x ∷ fs) r = children_below bound fs r
children_below bound (array a ∷ fs) r = children_below bound fs r
children_below bound (child s c ∷ fs) r = all_cons (λ c. ltb c bound) c (flat_map field_children fs) (lt-ltb c bound r.0) (children_below bound fs r.1)

-- what is counted at most once
at_most_once : (k n : ℕ) → k ≤ 1 → k * n ≤ n
at_most_once zero n few = rw (zero-mul n) (omega arith)
at_most_once (suc zero) n few = rw (one-mul n) (omega arith)
at_most_once (suc (suc k)) n few = absurd (omega arith)

-- ---- a table's nodes, counted by node and by child
module _ (t : Table) (w : WellFormed t) where
  size_at : ℕ → ℕ
  size_at i = tree_size (tree_at (trees t.nodes) i)

  size_node : (i : ℕ) → i < length t.nodes → size_at i ≡ 1 + sum (map size_at (children_of (get_or t.nodes i Skip)))
  unfolding size_at
  size_node i inside =
      let n : Node = get_or t.nodes i Skip in
      let tree : ℕ → Tree = tree_at (trees t.nodes) in
      let sorts = tree_children t.nodes t.variables (length t.counts) i inside (w.each_fits i inside) (λ s c. tree_sort (tree c) ≡ s) (λ s c below e. e) in
      ap tree_size (tree_of_node t.nodes t.variables (length t.counts) i inside (w.each_fits i inside)) ∙ tree_size_tree_of tree i n sorts

  -- the children of the nodes up to a last one are below it
  lower : (last count : ℕ) → count ≤ length t.nodes → count ≤ suc last → all (λ c. ltb c last) (flat_map children_of (take count t.nodes)) ≡ true
  unfolding flat_map all children_of
  lower last zero fits up = refl
  lower last (suc i) fits up =
      let n : Node = get_or t.nodes i Skip in
      let own = tree_children t.nodes t.variables (length t.counts) i fits (w.each_fits i fits) (λ s c. c < last) (λ s c below e. omega arith) in
      rw (take-suc t.nodes i Skip fits, flat_map_append, append-nil)
      (all_append (λ c. ltb c last) (flat_map children_of (take i t.nodes)) (children_of n) (lower last i (omega arith) (omega arith)) (children_below last (form n).fields own))

  -- each node but the last is a child exactly once
  pub used_once : (i : ℕ) → i < length t.nodes - 1 → uses_of t.nodes i ≡ 1
  used_once i below =
      eqb-true (uses_of t.nodes i) 1
      (sym (in_order_child t.nodes i (omega arith)) ∙ each_in_order t.nodes (length t.nodes) w.one_tree i (omega arith))

  -- and at most once among the children of the first nodes
  once_in_front : (count i : ℕ) → i < length t.nodes - 1 → occurrences i (flat_map children_of (take count t.nodes)) ≤ 1
  unfolding uses_of
  once_in_front count i below =
      let front : List ℕ = flat_map children_of (take count t.nodes) in
      let rest : List ℕ = flat_map children_of (drop count t.nodes) in
      let both : front ++ rest ≡ flat_map children_of t.nodes =
      sym (flat_map_append children_of (take count t.nodes) (drop count t.nodes)) ∙ ap (flat_map children_of) (take-append-drop count t.nodes) in
      omega (arith, occurrences_append i front rest, ap (occurrences i) both, used_once i below)

  -- the last node is a command
  pub last_command : sort_of (get_or t.nodes (length t.nodes - 1) Skip) ≡ Command
  last_command =
      let last : ℕ = length t.nodes - 1 in
      let some = w.has_nodes in
      same_sort_true (sort_of (get_or t.nodes last Skip)) Command
      (sym (in_order_last t.nodes last (omega arith)) ∙ each_in_order t.nodes (length t.nodes) w.one_tree last (omega arith))

  -- the last tree is the root
  pub root_tree : tree_at (trees t.nodes) (length t.nodes - 1) ≡ command (root_of t)
  unfolding root_of
  root_tree =
      let some = w.has_nodes in
      let last : ℕ = length t.nodes - 1 in
      command_tree (tree_at (trees t.nodes) last) (tree_sort_lem t.nodes last (omega arith) ∙ last_command)

  -- what is added up over the nodes of each tree: at the root, the sum over all the table's nodes
  module _ (own total : ℕ → ℕ) (built : (i : ℕ) → i < length t.nodes → total i ≡ own i + sum (map total (children_of (get_or t.nodes i Skip)))) where
    totals : (count : ℕ) → count ≤ length t.nodes → sum_below count total ≡ sum_below count own + sum (map total (flat_map children_of (take count t.nodes)))
    unfolding sum_below flat_map sum
    totals zero fits = refl
    totals (suc i) fits =
        rw (take-suc t.nodes i Skip fits, flat_map_append, map-append, sum-append, append-nil)
        (omega (arith, totals i (omega arith), built i fits))

    -- at another node, no more than the sum over the nodes up to it
    up_to : (i : ℕ) → i < length t.nodes → total i ≤ sum_below (suc i) own
    unfolding sum_below
    up_to i inside =
        let children : List ℕ = flat_map children_of (take (suc i) t.nodes) in
        let by_number = sum_by_number total i children (lower i (suc i) inside (omega arith)) in
        let most = sum_below_most i (λ n. occurrences n children * total n) total (λ n below. at_most_once (occurrences n children) (total n) (once_in_front (suc i) n (omega arith))) in
        omega (arith, totals (suc i) inside, by_number, most)

    pub root_total : total (length t.nodes - 1) ≡ sum_below (length t.nodes) own
    unfolding sum_below uses_of
    root_total =
        let ns : List Node = t.nodes in
        let some = w.has_nodes in
        let last : ℕ = length ns - 1 in
        let children : List ℕ = flat_map children_of ns in
        let all_nodes : sum_below (length ns) total ≡ sum_below (length ns) own + sum (map total children) =
        subst (λ l. sum_below (length ns) total ≡ sum_below (length ns) own + sum (map total (flat_map children_of l))) (take-length ns) (totals (length ns) (omega arith)) in
        let below : all (λ c. ltb c last) children ≡ true = subst (λ l. all (λ c. ltb c last) (flat_map children_of l) ≡ true) (take-length ns) (lower last (length ns) (omega arith) (omega arith)) in
        let by_number = sum_by_number total last children below in
        let once = sum_below_same last (λ n. occurrences n children * total n) total (λ n inside. ap (λ k. k * total n) (used_once n inside) ∙ one-mul (total n)) in
        let many : length ns ≡ suc last = omega arith in
        let next : sum_below (length ns) total ≡ sum_below last total + total last = ap (λ k. sum_below k total) many in
        omega (arith, all_nodes, by_number, once, next)

  -- the tree of node i has at most i + 1 nodes
  pub tree_size_lem : (i : ℕ) → i < length t.nodes → tree_size (tree_at (trees t.nodes) i) ≤ i + 1
  unfolding size_at
  tree_size_lem i inside = omega (arith, up_to (λ n. 1) size_at size_node i inside, sum_below_ones (suc i))

  -- the root's tree has all the table's nodes
  pub root_size : nodes_of (root_of t) ≡ length t.nodes
  unfolding root_of size_at
  root_size =
      let some = w.has_nodes in
      let last : ℕ = length t.nodes - 1 in
      size_command (tree_at (trees t.nodes) last) (tree_sort_lem t.nodes last (omega arith) ∙ last_command)
      ∙ root_total (λ i. 1) size_at size_node
      ∙ sum_below_ones (length t.nodes)
