-- The tree of each node: built from its children's trees, of the node's sort, a command noted with its own number.
use Prim.Native.Nat.{ℕ, suc, ◌+◌, ◌≤◌, ◌<◌}
use native.Mathlib.Omega.{arith}
use mathlib.Core.Path.{◌≡◌, refl, sym, ap, ◌∙◌}
use mathlib.Core.List.{List, [], ◌∷◌, ◌++◌}
use lib.ListN.{length, get_or, take, drop, length-append, take-append-drop, get_or-append}
use lib.Seq.{get_or_at, length-take-le, split_at, get_or-take}
use Rattle.awhile.specs.Language.{Com, note_of}
use Rattle.awhile.specs.Nodes.{form, sort_of}
use Rattle.awhile.specs.Trees.{Tree, numeric, truth, command, as_numeric, as_truth, as_command, tree_of, tree_at, grow_trees, trees}
use Rattle.awhile.specs.WellFormed.{NodeFits}
use Rattle.awhile.proofs.Children.{EachChild, fit_children}
use Rattle.awhile.specs.declared.Sort.{Sort}
use Rattle.awhile.specs.declared.Sort.TheVariants.{Numeric, Truth, Command}
use Rattle.awhile.specs.declared.Node.{Node}
use Rattle.awhile.specs.declared.Node.TheVariants.{Number, Variable, Add, Subtract, Multiply, Choice}
use Rattle.awhile.specs.declared.Node.TheVariants.{Constant, Equal, Less, Not, And}
use Rattle.awhile.specs.declared.Node.TheVariants.{Skip, Assign, Sequence, If, While, Read, Write}

-- ---- growing trees
-- one tree for each node
pub length_grow : (ts : List Tree) (ns : List Node) → length (grow_trees ts ns) ≡ length ts + length ns
unfolding grow_trees
length_grow ts [] = omega arith
length_grow ts (n ∷ ns) =
    let next : List Tree = ts ++ (tree_of (tree_at ts) (length ts) n ∷ []) in
    omega (arith, length_grow next ns, length-append ts (tree_of (tree_at ts) (length ts) n ∷ []))

-- first the trees of some nodes, then those of the others
pub grow_append : (ts : List Tree) (ms ns : List Node) → grow_trees ts (ms ++ ns) ≡ grow_trees (grow_trees ts ms) ns
unfolding grow_trees
grow_append ts [] ns = refl
grow_append ts (m ∷ ms) ns = grow_append (ts ++ (tree_of (tree_at ts) (length ts) m ∷ [])) ms ns

-- the trees that are there stay
pub grow_keeps : (ts : List Tree) (ns : List Node) (i : ℕ) → i < length ts → tree_at (grow_trees ts ns) i ≡ tree_at ts i
unfolding grow_trees tree_at
grow_keeps ts [] i inside = refl
grow_keeps ts (n ∷ ns) i inside =
    let next : List Tree = ts ++ (tree_of (tree_at ts) (length ts) n ∷ []) in
    let longer : i < length next = rw length-append (omega arith) in
    grow_keeps next ns i longer ∙ get_or-append ts (tree_of (tree_at ts) (length ts) n ∷ []) (command (Com.skip 0)) i inside

-- the next tree is the next node's
pub grow_next : (ts : List Tree) (n : Node) (ns : List Node) (i : ℕ) → length ts ≡ i → tree_at (grow_trees ts (n ∷ ns)) i ≡ tree_of (tree_at ts) i n
unfolding grow_trees tree_at
grow_next ts n ns i e =
    let new : Tree = tree_of (tree_at ts) (length ts) n in
    let inside : i < length (ts ++ (new ∷ [])) = rw length-append (omega arith) in
    grow_keeps (ts ++ (new ∷ [])) ns i inside ∙ get_or_at ts new [] (command (Com.skip 0)) i e ∙ ap (λ k. tree_of (tree_at ts) k n) e

-- a tree's sort
unfoldable pub tree_sort : Tree → Sort
tree_sort (numeric a) = Numeric
tree_sort (truth b) = Truth
tree_sort (command c) = Command

-- the tree of a node is of its sort
pub tree_sort_tree_of : (t : ℕ → Tree) (i : ℕ) (n : Node) → tree_sort (tree_of t i n) ≡ sort_of n
unfolding tree_sort tree_of sort_of form
tree_sort_tree_of t i (Number v) = refl
tree_sort_tree_of t i (Variable x) = refl
tree_sort_tree_of t i (Add a b) = refl
tree_sort_tree_of t i (Subtract a b) = refl
tree_sort_tree_of t i (Multiply a b) = refl
tree_sort_tree_of t i (Choice c a b) = refl
tree_sort_tree_of t i (Constant v) = refl
tree_sort_tree_of t i (Equal a b) = refl
tree_sort_tree_of t i (Less a b) = refl
tree_sort_tree_of t i (Not a) = refl
tree_sort_tree_of t i (And a b) = refl
tree_sort_tree_of t i Skip = refl
tree_sort_tree_of t i (Assign x e) = refl
tree_sort_tree_of t i (Sequence c d) = refl
tree_sort_tree_of t i (If b c d) = refl
tree_sort_tree_of t i (While b c) = refl
tree_sort_tree_of t i (Read x a e) = refl
tree_sort_tree_of t i (Write a e v) = refl

-- a node's tree depends on its children's trees alone
pub tree_of_agree : (t u : ℕ → Tree) (i : ℕ) (n : Node) → EachChild (λ s c. t c ≡ u c) (form n).fields → tree_of t i n ≡ tree_of u i n
unfolding tree_of form
tree_of_agree t u i (Number v) r = refl
tree_of_agree t u i (Variable x) r = refl
tree_of_agree t u i (Add a b) r = rw (r.0, r.1.0)
tree_of_agree t u i (Subtract a b) r = rw (r.0, r.1.0)
tree_of_agree t u i (Multiply a b) r = rw (r.0, r.1.0)
tree_of_agree t u i (Choice c a b) r = rw (r.0, r.1.0, r.1.1.0)
tree_of_agree t u i (Constant v) r = refl
tree_of_agree t u i (Equal a b) r = rw (r.0, r.1.0)
tree_of_agree t u i (Less a b) r = rw (r.0, r.1.0)
tree_of_agree t u i (Not a) r = rw r.0
tree_of_agree t u i (And a b) r = rw (r.0, r.1.0)
tree_of_agree t u i Skip r = refl
tree_of_agree t u i (Assign x e) r = rw r.0
tree_of_agree t u i (Sequence c d) r = rw (r.0, r.1.0)
tree_of_agree t u i (If b c d) r = rw (r.0, r.1.0, r.1.1.0)
tree_of_agree t u i (While b c) r = rw (r.0, r.1.0)
tree_of_agree t u i (Read x a e) r = rw r.0
tree_of_agree t u i (Write a e v) r = rw (r.0, r.1.0)

-- a command's tree is noted with its node's number
pub tree_of_note : (t : ℕ → Tree) (i : ℕ) (n : Node) → sort_of n ≡ Command → note_of (as_command (tree_of t i n)) ≡ i
unfolding tree_of sort_of form as_command note_of
tree_of_note t i (Number v) e = cc
tree_of_note t i (Variable x) e = cc
tree_of_note t i (Add a b) e = cc
tree_of_note t i (Subtract a b) e = cc
tree_of_note t i (Multiply a b) e = cc
tree_of_note t i (Choice c a b) e = cc
tree_of_note t i (Constant v) e = cc
tree_of_note t i (Equal a b) e = cc
tree_of_note t i (Less a b) e = cc
tree_of_note t i (Not a) e = cc
tree_of_note t i (And a b) e = cc
tree_of_note t i Skip e = refl
tree_of_note t i (Assign x v) e = refl
tree_of_note t i (Sequence c d) e = refl
tree_of_note t i (If b c d) e = refl
tree_of_note t i (While b c) e = refl
tree_of_note t i (Read x a j) e = refl
tree_of_note t i (Write a j v) e = refl

-- a tree of a sort is the expression or command that its parent takes it for
pub numeric_tree : (t : Tree) → tree_sort t ≡ Numeric → t ≡ numeric (as_numeric t)
unfolding tree_sort as_numeric
numeric_tree (numeric a) e = refl
numeric_tree (truth b) e = cc
numeric_tree (command c) e = cc

-- the same of a truth
pub truth_tree : (t : Tree) → tree_sort t ≡ Truth → t ≡ truth (as_truth t)
unfolding tree_sort as_truth
truth_tree (numeric a) e = cc
truth_tree (truth b) e = refl
truth_tree (command c) e = cc

-- the same of a command
pub command_tree : (t : Tree) → tree_sort t ≡ Command → t ≡ command (as_command t)
unfolding tree_sort as_command
command_tree (numeric a) e = cc
command_tree (truth b) e = cc
command_tree (command c) e = refl

-- ---- the trees of a table's nodes
module _ (ns : List Node) where
  -- tree i is built by node i from the trees before it
  pub tree_grown : (i : ℕ) → i < length ns → tree_at (trees ns) i ≡ tree_of (tree_at (trees (take i ns))) i (get_or ns i Skip)
  unfolding trees
  tree_grown i inside =
      let first : List Tree = grow_trees [] (take i ns) in
      let counted : length first ≡ i = omega (arith, length_grow [] (take i ns), length-take-le i ns (omega arith)) in
      ap (λ l. tree_at (grow_trees [] l) i) (split_at ns i Skip inside)
      ∙ ap (λ l. tree_at l i) (grow_append [] (take i ns) (get_or ns i Skip ∷ drop (suc i) ns))
      ∙ grow_next first (get_or ns i Skip) (drop (suc i) ns) i counted

  -- the trees of the first nodes are those of the first nodes alone
  pub trees_take : (i c : ℕ) → i ≤ length ns → c < i → tree_at (trees (take i ns)) c ≡ tree_at (trees ns) c
  unfolding trees
  trees_take i c inside below =
      let shorter : c < length (grow_trees [] (take i ns)) = omega (arith, length_grow [] (take i ns), length-take-le i ns inside) in
      sym
      (ap (λ l. tree_at (grow_trees [] l) c) (sym (take-append-drop i ns))
      ∙ ap (λ l. tree_at l c) (grow_append [] (take i ns) (drop i ns))
      ∙ grow_keeps (grow_trees [] (take i ns)) (drop i ns) c shorter)

  -- its sort is its node's
  pub tree_sort_lem : (i : ℕ) → i < length ns → tree_sort (tree_at (trees ns) i) ≡ sort_of (get_or ns i Skip)
  tree_sort_lem i inside = rw (tree_grown i inside) (tree_sort_tree_of (tree_at (trees (take i ns))) i (get_or ns i Skip))

  -- a command among them is noted with its number
  pub tree_note : (i : ℕ) → i < length ns → sort_of (get_or ns i Skip) ≡ Command → note_of (as_command (tree_at (trees ns) i)) ≡ i
  tree_note i inside e = rw (tree_grown i inside) (tree_of_note (tree_at (trees (take i ns))) i (get_or ns i Skip) e)

  -- tree i is built by node i from the trees of all nodes
  pub tree_of_node : (vs arrs i : ℕ) → i < length ns → NodeFits vs arrs (take i ns) (get_or ns i Skip)
      → tree_at (trees ns) i ≡ tree_of (tree_at (trees ns)) i (get_or ns i Skip)
  tree_of_node vs arrs i inside fits =
      tree_grown i inside
      ∙ tree_of_agree (tree_at (trees (take i ns))) (tree_at (trees ns)) i (get_or ns i Skip)
      (fit_children vs arrs (take i ns) (λ s c. tree_at (trees (take i ns)) c ≡ tree_at (trees ns) c) (get_or ns i Skip) fits
      (λ s c below e. trees_take i c (omega arith) (omega (arith, length-take-le i ns (omega arith)))))

  -- the children of node i are lower and their trees are of the wanted sorts
  pub tree_children : (vs arrs i : ℕ) → i < length ns → NodeFits vs arrs (take i ns) (get_or ns i Skip) → (P : Sort → ℕ → Type 0)
      → ((s : Sort) (c : ℕ) → c < i → tree_sort (tree_at (trees ns) c) ≡ s → P s c) → EachChild P (form (get_or ns i Skip)).fields
  tree_children vs arrs i inside fits P each =
      fit_children vs arrs (take i ns) P (get_or ns i Skip) fits
      (λ s c below e.
      let lower : c < i = omega (arith, length-take-le i ns (omega arith)) in
      each s c lower (tree_sort_lem c (omega arith) ∙ ap sort_of (sym (get_or-take i ns c Skip lower)) ∙ e))
