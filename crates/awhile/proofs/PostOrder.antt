-- Nodes in post-order: "parts first, left to right, then the parent". What is written is so, and so are its lengths, trees, children and sorts.
use Prim.Native.Nat.{ℕ, ◌+◌, ◌-◌, ◌<◌}
use native.Mathlib.Omega.{arith}
use mathlib.Core.Bool.{true, false}
use mathlib.Core.Path.{◌≡◌, refl}
use mathlib.Core.List.{List, [], ◌∷◌, ◌++◌, map}
use Rattle.awhile.specs.Language.{AExp, number, variable, add, subtract, multiply, choice}
use Rattle.awhile.specs.Language.{BExp, constant, equal, less, not, and}
use Rattle.awhile.specs.Language.{Com, skip, assign, sequence, if, while, read, write, map_notes}
use Rattle.awhile.specs.Nodes.{Field, form, sort_of}
use Rattle.awhile.specs.Nodes.{word as word_field, constant as constant_field, variable as variable_field, array as array_field, child as child_field}
use Rattle.awhile.specs.Trees.{Tree, numeric, truth, command, as_numeric, as_truth, as_command, tree_of}
use Rattle.awhile.specs.Encoding.{nodes_of_a, nodes_of_b, nodes_of, binary, ternary, write_a, write_b, write_c, number_of, numbered_from}
use Rattle.awhile.proofs.Trees.{tree_sort}
use Rattle.awhile.specs.declared.Sort.{Sort}
use Rattle.awhile.specs.declared.Node.{Node}

-- ---- parts and children
-- a part that is written: its tree and the number of its last node
pub data Part : Type 0 where
  part_at : Tree → ℕ → Part

-- a child that a field asks for
pub record Child : Type 0 where
  pub sort : Sort
  pub place : ℕ

-- the child of a sort and a number
abbrev pub child_at : Sort → ℕ → Child
child_at s n = record { sort = s; place = n }

-- a part as the child that its parent asks for
abbrev pub as_child : Part → Child
as_child (part_at t n) = child_at (tree_sort t) n

-- the children that the fields ask for, in their order
unfoldable pub child_fields : List Field → List Child
child_fields [] = []
child_fields (word_field n ∷ fs) = child_fields fs
child_fields (constant_field n ∷ fs) = child_fields fs
child_fields (variable_field x ∷ fs) = child_fields fs
child_fields (array_field a ∷ fs) = child_fields fs
child_fields (child_field s n ∷ fs) = child_at s n ∷ child_fields fs

-- where the parts stand, their trees are found
abbrev pub Found : (ℕ → Tree) → List Part → Type 0
Found u [] = Unit
Found u (part_at t n ∷ ps) = (u n ≡ t) × Found u ps

-- a node, the last of its tree, whose children are these parts
pub record IsRoot (last : ℕ) (n : Node) (ps : List Part) (t : Tree) : Type 0 where
  pub children : child_fields (form n).fields ≡ map as_child ps
  pub is_sort : sort_of n ≡ tree_sort t
  pub builds : (u : ℕ → Tree) → Found u ps → tree_of u last n ≡ t

-- ---- post-order, of so many nodes that are numbered from a number on
mutual
  -- parts one after the other, then the node whose parts they are
  pub data Parts : (from : ℕ) → List Node → (count : ℕ) → Node → List Part → Type 0 where
    root : {from k : ℕ} {ns : List Node} {n : Node} → ns ≡ n ∷ [] → k ≡ 1 → Parts from ns k n []
    part : {from count m k : ℕ} {all ms ns : List Node} {n : Node} {t : Tree} {ps : List Part} (place : ℕ)
        → PostOrder from ms m t
        → Parts (from + m) ns k n ps
        → all ≡ ms ++ ns → count ≡ m + k → place + 1 ≡ from + m
        → Parts from all count n (part_at t place ∷ ps)

  -- the nodes of one tree
  pub data PostOrder : (from : ℕ) → List Node → (count : ℕ) → Tree → Type 0 where
    whole : {from k : ℕ} {ns : List Node} {n : Node} {ps : List Part} {t : Tree} (count last : ℕ)
        → Parts from ns k n ps
        → count ≡ k → last + 1 ≡ from + count
        → IsRoot last n ps t
        → PostOrder from ns count t

mutual
  -- there is the node itself at least
  pub parts_some : {from k : ℕ} {ns : List Node} {n : Node} {ps : List Part} → Parts from ns k n ps → 0 < k
  parts_some (root e f) = omega arith
  parts_some (part place p rest e f g) = omega (arith, parts_some rest)

  -- there is a node at least
  pub order_some : {from k : ℕ} {ns : List Node} {t : Tree} → PostOrder from ns k t → 0 < k
  order_some (whole count last parts e f r) = omega (arith, parts_some parts)

-- a part in front of others
front : {from m k : ℕ} {ms ns : List Node} {n : Node} {t : Tree} {ps : List Part} → PostOrder from ms m t
    → Parts (from + m) ns k n ps → Parts from (ms ++ ns) (m + k) n (part_at t (from + m - 1) ∷ ps)
front {from = from} {m = m} p rest = part (from + m - 1) p rest refl refl (omega (arith, order_some p))

-- a node without parts, and with one to three
module _ {from : ℕ} {n : Node} {t : Tree} where
  -- a node without parts
  pub no_part : IsRoot from n [] t → PostOrder from (n ∷ []) 1 t
  no_part is_root = whole 1 from (root refl refl) refl refl is_root

  module _ {m : ℕ} {ms : List Node} {t₁ : Tree} (first : PostOrder from ms m t₁) where
    -- a node after its one part
    pub one_part : IsRoot (from + m) n (part_at t₁ (from + m - 1) ∷ []) t → PostOrder from (ms ++ (n ∷ [])) (m + 1) t
    one_part is_root = whole (m + 1) (from + m) (front first (root refl refl)) refl (omega arith) is_root

    module _ {k : ℕ} {ns : List Node} {t₂ : Tree} (second : PostOrder (from + m) ns k t₂) where
      -- a node after its two parts
      pub two_parts : IsRoot (from + m + k) n (part_at t₁ (from + m - 1) ∷ part_at t₂ (from + m + k - 1) ∷ []) t
          → PostOrder from (ms ++ (ns ++ (n ∷ []))) (m + k + 1) t
      two_parts is_root = whole (m + k + 1) (from + m + k) (front first (front second (root refl refl))) (omega arith) (omega arith) is_root

      -- a node after its three parts
      pub three_parts : {l : ℕ} {ls : List Node} {t₃ : Tree} → PostOrder (from + m + k) ls l t₃
          → IsRoot (from + m + k + l) n (part_at t₁ (from + m - 1) ∷ part_at t₂ (from + m + k - 1) ∷ part_at t₃ (from + m + k + l - 1) ∷ []) t
          → PostOrder from (ms ++ (ns ++ (ls ++ (n ∷ [])))) (m + k + l + 1) t
      three_parts {l} third is_root = whole (m + k + l + 1) (from + m + k + l) (front first (front second (front third (root refl refl)))) (omega arith) (omega arith) is_root

-- ---- what is written is in post-order
mutual
  unfolding write_a write_b nodes_of_a nodes_of_b binary ternary child_fields form sort_of tree_sort tree_of as_numeric as_truth

  -- a numeric expression
  pub postorder_a : (a : AExp) (from : ℕ) → PostOrder from (write_a from a) (nodes_of_a a) (numeric a)
  postorder_a (number n) from = no_part (record { children = refl; is_sort = refl; builds = λ u r. refl })
  postorder_a (variable x) from = no_part (record { children = refl; is_sort = refl; builds = λ u r. refl })
  postorder_a (add a b) from =
      two_parts (postorder_a a from) (postorder_a b (from + nodes_of_a a))
      (record { children = refl; is_sort = refl; builds = λ u r. rw (r.0, r.1.0) })
  postorder_a (subtract a b) from =
      two_parts (postorder_a a from) (postorder_a b (from + nodes_of_a a))
      (record { children = refl; is_sort = refl; builds = λ u r. rw (r.0, r.1.0) })
  postorder_a (multiply a b) from =
      two_parts (postorder_a a from) (postorder_a b (from + nodes_of_a a))
      (record { children = refl; is_sort = refl; builds = λ u r. rw (r.0, r.1.0) })
  postorder_a (choice c a b) from =
      three_parts (postorder_b c from) (postorder_a a (from + nodes_of_b c)) (postorder_a b (from + nodes_of_b c + nodes_of_a a))
      (record { children = refl; is_sort = refl; builds = λ u r. rw (r.0, r.1.0, r.1.1.0) })

  -- a truth expression
  pub postorder_b : (b : BExp) (from : ℕ) → PostOrder from (write_b from b) (nodes_of_b b) (truth b)
  postorder_b (constant true) from = no_part (record { children = refl; is_sort = refl; builds = λ u r. refl })
  postorder_b (constant false) from = no_part (record { children = refl; is_sort = refl; builds = λ u r. refl })
  postorder_b (equal a b) from =
      two_parts (postorder_a a from) (postorder_a b (from + nodes_of_a a))
      (record { children = refl; is_sort = refl; builds = λ u r. rw (r.0, r.1.0) })
  postorder_b (less a b) from =
      two_parts (postorder_a a from) (postorder_a b (from + nodes_of_a a))
      (record { children = refl; is_sort = refl; builds = λ u r. rw (r.0, r.1.0) })
  postorder_b (not b) from =
      one_part (postorder_b b from)
      (record { children = refl; is_sort = refl; builds = λ u r. rw r.0 })
  postorder_b (and b c) from =
      two_parts (postorder_b b from) (postorder_b c (from + nodes_of_b b))
      (record { children = refl; is_sort = refl; builds = λ u r. rw (r.0, r.1.0) })

module _ {Note : Type 0} where
  -- a command
  pub postorder_c : (c : Com Note) (from : ℕ)
      → PostOrder from (write_c from c) (nodes_of c) (command (map_notes number_of (numbered_from from c)))
  unfolding write_c nodes_of numbered_from map_notes binary ternary child_fields form sort_of tree_sort tree_of as_numeric as_truth as_command
  postorder_c (skip n) from = no_part (record { children = refl; is_sort = refl; builds = λ u r. refl })
  postorder_c (assign n x e) from =
      one_part (postorder_a e from)
      (record { children = refl; is_sort = refl; builds = λ u r. rw r.0 })
  postorder_c (sequence n c d) from =
      two_parts (postorder_c c from) (postorder_c d (from + nodes_of c))
      (record { children = refl; is_sort = refl; builds = λ u r. rw (r.0, r.1.0) })
  postorder_c (if n b c d) from =
      three_parts (postorder_b b from) (postorder_c c (from + nodes_of_b b)) (postorder_c d (from + nodes_of_b b + nodes_of c))
      (record { children = refl; is_sort = refl; builds = λ u r. rw (r.0, r.1.0, r.1.1.0) })
  postorder_c (while n b c) from =
      two_parts (postorder_b b from) (postorder_c c (from + nodes_of_b b))
      (record { children = refl; is_sort = refl; builds = λ u r. rw (r.0, r.1.0) })
  postorder_c (read n x a i) from =
      one_part (postorder_a i from)
      (record { children = refl; is_sort = refl; builds = λ u r. rw r.0 })
  postorder_c (write n a i e) from =
      two_parts (postorder_a i from) (postorder_a e (from + nodes_of_a i))
      (record { children = refl; is_sort = refl; builds = λ u r. rw (r.0, r.1.0) })
