-- The total of a node from those of its parts, and the totals of a table's nodes one behind the other.
use Prim.Native.Nat.{ℕ, zero, suc, ◌+◌, ◌*◌, ◌<◌, ◌≤◌}
use native.Mathlib.Decide.{ℕ_discrete}
use native.Mathlib.Omega.{arith}
use mathlib.Core.Bool.{Bool, true, false, cond}
use mathlib.Core.List.{List, [], ◌∷◌}
use mathlib.Core.Logic.{◌⊎◌, inl, inr}
use mathlib.Core.Option.{some}
use mathlib.Core.Path.{◌≡◌, refl, sym, ap, ◌∙◌}
use lib.ListN.{get_or, set, length-set}
use lib.Seq.{get_or-set_same, get_or-set_other}
use Rattle.std.specs.List.{sum_by}
use Rattle.std.proofs.lemmas.List.Sums.{sum_by-cons, sum_by-le}
use Rattle.awhile.specs.Language.{Com, sequence}
use Rattle.awhile.specs.Lists.{sum}
use Rattle.awhile.specs.Nodes.{form, field_size, size_of, sort_of}
use Rattle.awhile.specs.Encoding.{nodes_of, binary, write_c}
use Rattle.awhile.specs.declared.Node.TheVariants.{Skip, Assign, Sequence, If, While, Read, Write}
use Rattle.awhile.specs.declared.Node.{Node}
use Rattle.awhile.specs.declared.Node.TheVariants.{Variable, Add, Subtract, Multiply, Constant, Equal, Less, And}
use Rattle.awhile.specs.declared.Sort.{Sort}
use Rattle.awhile.specs.declared.Sort.TheVariants.{Numeric, Truth, Command}
use Rattle.reader.specs.Index.{nodes_in, node_in, numeric_in, truth_in, command_in}
use Rattle.reader.proofs.Index.{Child, Parts, numeric_size, truth_size, command_size}
use Rattle.reader.specs.Admitted.{Admitted}
use Rattle.reader.proofs.Admitted.{offsets_in, bytes, indexed}
use Rattle.masks.specs.Hardening.{Origin}
use Rattle.masks.proofs.Growth.{hardened_most, nodes_of_mapped}
use Rattle.deciding.specs.Deciding.{decision_in, decided_in}
use Rattle.deciding.specs.declared.decisions.Decision.{Decision as Choices}
use Rattle.masking.specs.InMemory.{hardened_at}
use Rattle.copier.specs.Sizes.{bytes_of}
use Rattle.copier.specs.Totals.{total, total_of, Totals, OverTwo, HasTotal, NumericTotal, TruthTotal}
use Rattle.copier.proofs.Lengths.{counted_c, bytes_a, bytes_b, bytes_c_lem}
use Rattle.copier.proofs.NodeTotals.{behind_two, counted_total_a, counted_total_b, numeric_node, truth_node, command_node, totals_every_copy}
use Rattle.copier.proofs.NodeTotals.{total_variable, total_add, total_subtract, total_multiply, numeric_as, total_constant, total_equal, total_less, total_and, truth_as}
use Rattle.hardener.specs.Sizes.{Sizable, NodeSize, SizesBelow, AllSized}
use Rattle.hardener.proofs.CommandWrites.{own, own_condition, in_skip, in_assign, in_sequence, in_if, in_while, in_read, in_write}
use Rattle.hardener.proofs.CommandSizes.{read_total, write_total, if_total, while_total}

-- ---- commands
-- a command's total is that of what it is
total_c : {c d : Com Origin} {r : ℕ} → c ≡ d → r ≡ total_of d → r ≡ total_of c
total_c p v = v ∙ ap total_of (sym p)

-- and that of its nodes
nodes_total : (from : ℕ) (c : Com Origin) {r : ℕ} → r ≡ total_of c → Totals (write_c from c) r
nodes_total from c e = let n = counted_c from c in record { adds = omega (arith, n.nodes_are, n.bytes_are) }

total_nodes : (from : ℕ) (c : Com Origin) {r : ℕ} → Totals (write_c from c) r → r ≡ total_of c
total_nodes from c t = let n = counted_c from c in omega (arith, t.adds, n.nodes_are, n.bytes_are)

sequence_total : (o : Origin) (c d : Com Origin) {s u r : ℕ} → s ≡ total_of c → u ≡ total_of d → OverTwo s u r → r ≡ total_of (sequence o c d)
unfolding write_c binary size_of form field_size sum
sequence_total o c d x y t =
    total_nodes 0 (sequence o c d) (behind_two t (write_c 0 c) (write_c (0 + nodes_of c) d) _ refl (nodes_total 0 c x) (nodes_total (0 + nodes_of c) d y))

-- what a mask adds is no more than its size
pub added_small : (mask : Bool) (size : ℕ) → cond mask size 0 ≤ size
added_small true size = omega arith
added_small false size = omega arith

-- the totals of one part and of two, added up
sum_one : (f : ℕ → ℕ) (a : ℕ) → sum_by f (a ∷ []) ≡ f a
sum_one f a = omega (arith, sum_by-cons f a [], sum_by-le f 0 [] (λ k d inside. absurd (omega arith)))

sum_two : (f : ℕ → ℕ) (a b : ℕ) → sum_by f (a ∷ b ∷ []) ≡ f a + f b
sum_two f a b = omega (arith, sum_by-cons f a (b ∷ []), sum_one f b)

module _ {table : List ℕ} {ds : List Choices} {totals : List ℕ} {n : ℕ} (t : SizesBelow table ds totals n) where
  -- ---- the totals of a node's parts
  pub part_a : {c : ℕ} → Child table Numeric n c → NumericTotal (numeric_in table c) (get_or totals c 0)
  part_a {c} h = (t.at c h.below).expression.numeric h.is_sort

  pub part_b : {c : ℕ} → Child table Truth n c → TruthTotal (truth_in table c) (get_or totals c 0)
  part_b {c} h = (t.at c h.below).expression.truth h.is_sort

  part_c : {c : ℕ} → Child table Command n c → get_or totals c 0 ≡ total_of (hardened_at table ds 0 c)
  part_c {c} h = (t.at c h.below).command h.is_sort

  -- ---- the total of a command, by its kind
  module _ {r : ℕ} where
    pub assign_sized : (x e : ℕ) → Parts table n (Assign x e) → r ≡ get_or totals e 0 + total 1 8 → r ≡ total_of (hardened_at table ds 0 n)
    unfolding nodes_of bytes_of
    assign_sized x e p v = total_c (in_assign table ds 0 n p.2) (omega (arith, v, counted_total_a (part_a p.1)))

    pub sequence_sized : (c d : ℕ) → Parts table n (Sequence c d) → OverTwo (get_or totals c 0) (get_or totals d 0) r → r ≡ total_of (hardened_at table ds 0 n)
    sequence_sized c d p v =
        total_c (in_sequence table ds 0 n c d p.2) (sequence_total (some n) (hardened_at table ds 0 c) (hardened_at table ds 0 d) (part_c p.0) (part_c p.1) v)

    pub if_sized : (b c d : ℕ) → Parts table n (If b c d)
        → r ≡ 3 * (get_or totals b 0 + cond (own ds n).condition (total 4 30) 0) + sum_by (λ part. get_or totals part 0) (c ∷ d ∷ []) + total 11 (86 + 2 * 2)
        → r ≡ total_of (hardened_at table ds 0 n)
    if_sized b c d p v =
        total_c (in_if table ds 0 n b c d p.3)
        (omega (
          arith,
          v,
          sum_two (λ part. get_or totals part 0) c d,
          counted_total_b (part_b p.0),
          part_c p.1,
          part_c p.2,
          if_total 0 table ds (own_condition ds n b) (some n) c d,
        ))

    pub while_sized : (b c : ℕ) → Parts table n (While b c)
        → r ≡ 3 * (get_or totals b 0 + cond (own ds n).condition (total 4 30) 0) + sum_by (λ part. get_or totals part 0) (c ∷ []) + total 11 (86 + 2 * 1)
        → r ≡ total_of (hardened_at table ds 0 n)
    while_sized b c p v =
        total_c (in_while table ds 0 n b c p.2)
        (omega (
          arith,
          v,
          sum_one (λ part. get_or totals part 0) c,
          counted_total_b (part_b p.0),
          part_c p.1,
          while_total 0 table ds (own_condition ds n b) (some n) c,
        ))

    pub read_sized : (x a i : ℕ) → Parts table n (Read x a i)
        → r ≡ get_or totals i 0 + cond (own ds n).index (total 5 40) 0 + cond (own ds n).value (total 8 62) 0 + total 1 10
        → r ≡ total_of (hardened_at table ds 0 n)
    read_sized x a i p v =
        total_c (in_read table ds 0 n p.3)
        (omega (arith, v, counted_total_a (part_a p.2), read_total 0 x a n (own ds n).index (own ds n).value (numeric_in table i)))

    pub write_sized : (a i e : ℕ) → Parts table n (Write a i e)
        → r ≡ get_or totals i 0 + cond (own ds n).index (total 5 40) 0 + get_or totals e 0 + total 1 10
        → r ≡ total_of (hardened_at table ds 0 n)
    write_sized a i e p v =
        total_c (in_write table ds 0 n p.3)
        (omega (
          arith,
          v,
          counted_total_a (part_a p.1),
          counted_total_a (part_a p.2),
          write_total 0 a n (own ds n).index (numeric_in table i) (numeric_in table e),
        ))

  -- ---- the totals of parts are there, and small: the tree of node i has at most i + 1 nodes
  module _ (admitted : Admitted table) (s : Sizable table ds) where
    pub holds : {sort : Sort} {c : ℕ} → Child table sort n c → HasTotal totals c
    unfolding hardened_at decided_in
    holds {sort = Numeric} {c} h =
        let size = numeric_size table (offsets_in table) (bytes admitted) (indexed admitted) c h.inside h.is_sort in
        record {
          inside = omega (arith, h.inside, t.room);
          small = omega (arith, counted_total_a (part_a h), size, h.inside, s.few, (bytes_a (numeric_in table c)).short);
        }
    holds {sort = Truth} {c} h =
        let size = truth_size table (offsets_in table) (bytes admitted) (indexed admitted) c h.inside h.is_sort in
        record {
          inside = omega (arith, h.inside, t.room);
          small = omega (arith, counted_total_b (part_b h), size, h.inside, s.few, (bytes_b (truth_in table c)).short);
        }
    holds {sort = Command} {c} h =
        let size = command_size table (offsets_in table) (bytes admitted) (indexed admitted) c h.inside h.is_sort in
        record {
          inside = omega (arith, h.inside, t.room);
          small = omega (
            arith,
            part_c h,
            size,
            h.inside,
            s.few,
            hardened_most 0 (decided_in table ds c),
            nodes_of_mapped (decision_in ds) (command_in table c),
            (bytes_c_lem (hardened_at table ds 0 c)).short,
          );
        }

  -- ---- with that of this node, those below the next have theirs
  pub sizes_next : {r : ℕ} → n < nodes_in table → NodeSize table ds n r → SizesBelow table ds (set totals n r) (n + 1)
  sizes_next {r} inside own = record { room = simp length-set t.room; at = λ k below. go k below (ℕ_discrete k n) }
    where
      go : (k : ℕ) → k < n + 1 → Dec (k ≡ n) → NodeSize table ds k (get_or (set totals n r) k 0)
      go k below (yes e) = rw (e, get_or-set_same totals n r 0 (omega (arith, t.room))) own
      go k below (no e) = rw (get_or-set_other totals n k r 0 e) (t.at k (omega arith))

-- a skip is one node
pub skip_sized : (table : List ℕ) (ds : List Choices) (n : ℕ) → Parts table n Skip → total 1 4 ≡ total_of (hardened_at table ds 0 n)
unfolding nodes_of bytes_of
skip_sized table ds n p = total_c (in_skip table ds 0 n p) refl

-- ---- each of one part, of two and of three has its total
module _ {totals : List ℕ} {a : ℕ} (x : HasTotal totals a) where
  pub each_one : (k d : ℕ) → k < 1 → HasTotal totals (get_or (a ∷ []) k d)
  each_one zero d h = x
  each_one (suc k) d h = absurd (omega arith)

  module _ {b : ℕ} (y : HasTotal totals b) where
    pub each_two : (k d : ℕ) → k < 2 → HasTotal totals (get_or (a ∷ b ∷ []) k d)
    each_two zero d h = x
    each_two (suc zero) d h = y
    each_two (suc (suc k)) d h = absurd (omega arith)

    pub each_three : {c : ℕ} → HasTotal totals c → (k d : ℕ) → k < 3 → HasTotal totals (get_or (a ∷ b ∷ c ∷ []) k d)
    each_three z zero d h = x
    each_three z (suc zero) d h = y
    each_three z (suc (suc zero)) d h = z
    each_three z (suc (suc (suc k))) d h = absurd (omega arith)

-- ---- the total of a node, by its sort
module _ {table : List ℕ} {ds : List Choices} {n r : ℕ} {m : Node} (e : node_in table n ≡ m) where
  pub numeric_sized : sort_of m ≡ Numeric → NumericTotal (numeric_in table n) r → NodeSize table ds n r
  numeric_sized s t = record { expression = numeric_node (ap sort_of e ∙ s) t; command = λ q. absurd (let z : ◌≡◌ {A = ℕ} 0 1 = cc (ap sort_of e) in omega arith) }

  pub truth_sized : sort_of m ≡ Truth → TruthTotal (truth_in table n) r → NodeSize table ds n r
  truth_sized s t = record { expression = truth_node (ap sort_of e ∙ s) t; command = λ q. absurd (let z : ◌≡◌ {A = ℕ} 0 1 = cc (ap sort_of e) in omega arith) }

  pub command_sized : sort_of m ≡ Command → r ≡ total_of (hardened_at table ds 0 n) → NodeSize table ds n r
  command_sized s t = record { expression = command_node (ap sort_of e ∙ s); command = λ q. t }

-- of a node over two expressions
abbrev pub OverExpressions : (node : Node) → (left right : ℕ) → Type 0
OverExpressions m a b = (m ≡ Add a b) ⊎ ((m ≡ Subtract a b) ⊎ ((m ≡ Multiply a b) ⊎ ((m ≡ Equal a b) ⊎ ((m ≡ Less a b) ⊎ (m ≡ And a b)))))

module _ {table : List ℕ} {ds : List Choices} {totals : List ℕ} {n : ℕ} {node : Node} (t : SizesBelow table ds totals n) (value : node ≡ node_in table n)
    (parts : (m : Node) → node ≡ m → Parts table n m) where
  is : {m : Node} → node ≡ m → node_in table n ≡ m
  is e = sym value ∙ e

  pub expressions_held : {a b : ℕ} → Admitted table → Sizable table ds → OverExpressions node a b → (k d : ℕ) → k < 2 → HasTotal totals (get_or (a ∷ b ∷ []) k d)
  expressions_held admitted s =
      elim [
        | inl e ↦ let p = parts _ e in each_two (holds t admitted s p.0) (holds t admitted s p.1)
        | inr (inl e) ↦ let p = parts _ e in each_two (holds t admitted s p.0) (holds t admitted s p.1)
        | inr (inr (inl e)) ↦ let p = parts _ e in each_two (holds t admitted s p.0) (holds t admitted s p.1)
        | inr (inr (inr (inl e))) ↦ let p = parts _ e in each_two (holds t admitted s p.0) (holds t admitted s p.1)
        | inr (inr (inr (inr (inl e)))) ↦ let p = parts _ e in each_two (holds t admitted s p.0) (holds t admitted s p.1)
        | inr (inr (inr (inr (inr e)))) ↦ let p = parts _ e in each_two (holds t admitted s p.0) (holds t admitted s p.1)
      ]

  pub expressions_sized : {a b r : ℕ} → OverExpressions node a b → OverTwo (get_or totals a 0) (get_or totals b 0) r → NodeSize table ds n r
  unfolding sort_of form
  expressions_sized o over =
      elim o [
        | inl e ↦ let p = parts _ e in numeric_sized (is e) refl (numeric_as p.2 (total_add (part_a t p.0) (part_a t p.1) over))
        | inr (inl e) ↦ let p = parts _ e in numeric_sized (is e) refl (numeric_as p.2 (total_subtract (part_a t p.0) (part_a t p.1) over))
        | inr (inr (inl e)) ↦ let p = parts _ e in numeric_sized (is e) refl (numeric_as p.2 (total_multiply (part_a t p.0) (part_a t p.1) over))
        | inr (inr (inr (inl e))) ↦ let p = parts _ e in truth_sized (is e) refl (truth_as p.2 (total_equal (part_a t p.0) (part_a t p.1) over))
        | inr (inr (inr (inr (inl e)))) ↦ let p = parts _ e in truth_sized (is e) refl (truth_as p.2 (total_less (part_a t p.0) (part_a t p.1) over))
        | inr (inr (inr (inr (inr e)))) ↦ let p = parts _ e in truth_sized (is e) refl (truth_as p.2 (total_and (part_b t p.0) (part_b t p.1) over))
      ]

  -- and of a node without parts in a record of 6 bytes
  pub single_sized : ((x : ℕ) × (node ≡ Variable x)) ⊎ ((v : ℕ) × (node ≡ Constant v)) → NodeSize table ds n (total 1 6)
  unfolding sort_of form
  single_sized =
      elim [
        | inl (x, e) ↦ numeric_sized (is e) refl (numeric_as (parts _ e).1 (total_variable x))
        | inr (v, e) ↦ truth_sized (is e) refl (truth_as (parts _ e).1 (total_constant _))
      ]

-- ---- all nodes
pub all_sized : {table : List ℕ} {ds : List Choices} {totals : List ℕ} → Admitted table → SizesBelow table ds totals (nodes_in table) → AllSized table ds totals
all_sized admitted t =
    record {
      copies = totals_every_copy (bytes admitted) (indexed admitted) (record { at = λ n inside. (t.at n inside).expression });
      commands = λ n inside. (t.at n inside).command;
    }
