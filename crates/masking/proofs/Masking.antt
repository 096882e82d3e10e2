-- Masks by their decisions, and the nodes that the added tests and updates are written as.
use Prim.Native.Nat.{ℕ, ◌+◌, ◌-◌, ◌≤◌, ◌<◌}
use native.Mathlib.Omega.{arith}
use mathlib.Core.Bool.{Bool, true, false, cond}
use mathlib.Core.Bool.{not as negated}
use mathlib.Core.List.{List, [], ◌∷◌, ◌++◌, append_assoc}
use mathlib.Core.Path.{◌≡◌, ap, ◌∙◌}
use Rattle.std.proofs.Common.{sum_by}
use Rattle.awhile.specs.Language.{AExp, number, variable, choice, BExp, equal, and}
use Rattle.awhile.specs.Encoding.{nodes_of_a, nodes_of_b, nodes_of, binary, ternary, write_a, write_b, write_c}
use Rattle.awhile.specs.Lists.{sum}
use Rattle.awhile.specs.Nodes.{form, field_size, size_of}
use Rattle.awhile.specs.declared.Node.{Node}
use Rattle.awhile.specs.declared.Node.TheVariants.{Number, Variable, Choice, Equal, And, Assign}
use Rattle.masks.specs.Hardening.{masked_condition, zero_if_guessing, masked_index, flag_if_true, flag_if_false, mask_value_of}
use Rattle.reader.specs.Index.{numeric_in, truth_in}
use Rattle.masking.specs.InMemory.{flag_update, guard_nodes, test_in, index_in}
use Rattle.masking.specs.declared.Maskable.{Maskable}
use Rattle.copier.specs.Sizes.{bytes_of_a, bytes_of_b, bytes_of}
use Rattle.copier.specs.Written.{Appended, AppendedAll, Wrote, Both, SpaceFor, RoomBehind}
use Rattle.copier.specs.declared.Pair.{Pair}
use Rattle.copier.specs.declared.Size.{Size}
use Rattle.copier.proofs.Lengths.{Counted, counted_node, counted_append, counted_a, counted_b, some_b, bytes_a, bytes_b}
use Rattle.copier.proofs.Writers.{size_is, rest_of, with_rest, wrote_sized, wrote_as, wrote_all, room_all, room_front, room_first}
use Rattle.copier.proofs.ExpressionWrites.{wrote_a, wrote_b, room_a, room_b}
use Rattle.masking.proofs.TwoParts.{FirstWritten, first_written, parent_wrote}

-- ---- masked and not
module _ (table : List ℕ) (f : ℕ) (p : Maskable) where
  condition_masked : p.mask ≡ true → test_in table f p ≡ and (equal (variable f) (number 0)) (truth_in table p.node)
  unfolding test_in masked_condition
  condition_masked e = rw e

  pub condition_plain : p.mask ≡ false → test_in table f p ≡ truth_in table p.node
  unfolding test_in masked_condition
  condition_plain e = rw e

  index_masked : p.mask ≡ true → index_in table f p ≡ choice (equal (variable f) (number 1)) (number 0) (numeric_in table p.node)
  unfolding index_in masked_index zero_if_guessing
  index_masked e = rw e

  pub index_plain : p.mask ≡ false → index_in table f p ≡ numeric_in table p.node
  unfolding index_in masked_index
  index_plain e = rw e

-- ---- the nodes of a test of the flag
abbrev pub test_list : (from f v : ℕ) → List Node
test_list from f v = Variable f ∷ Number v ∷ Equal from (from + 1) ∷ []

pub test_nodes : (from f v : ℕ) → test_list from f v ≡ write_b from (equal (variable f) (number v))
unfolding write_a write_b binary nodes_of_a
test_nodes from f v =
    let left : from + 1 - 1 ≡ from = omega arith in
    let right : from + 1 + 1 - 1 ≡ from + 1 = omega arith in
    rw (left, right)

pub test_fits : (from f v : ℕ) {l : List ℕ} → SpaceFor from 3 22 l → RoomBehind (size_is 0 0) 3 (sum_by size_of (test_list from f v)) l
unfolding size_of form field_size sum
test_fits from f v room = room_front (test_list from f v) room (omega arith) (omega arith)

-- they are three, whatever the flag is compared with
pub counted_test : (from f v : ℕ) → Counted (write_b from (equal (variable f) (number v))) 3 22
unfolding nodes_of_a nodes_of_b bytes_of_a bytes_of_b
counted_test from f v = counted_b from (equal (variable f) (number v))

-- ---- a masked condition: a test of the flag, the condition and the `and` over them
abbrev pub TestWritten : (from f value : ℕ) → (condition : BExp) → (before after : List ℕ) → (answer : Size) → Type 0
TestWritten from f v b l m s = FirstWritten from (write_b from (equal (variable f) (number v))) (λ n. write_b n b) 3 22 (nodes_of_b b) (bytes_of_b b) 1 8 l m s

module _ {from : ℕ} (table : List ℕ) (f : ℕ) (p : Maskable) {l : List ℕ} (e : p.mask ≡ true)
    (room : SpaceFor from (nodes_of_b (test_in table f p)) (bytes_of_b (test_in table f p)) l) where
  condition_room : SpaceFor from (3 + nodes_of_b (truth_in table p.node) + 1) (22 + bytes_of_b (truth_in table p.node) + 8) l
  unfolding nodes_of_b bytes_of_b nodes_of_a bytes_of_a
  condition_room = room_b (condition_masked table f p e) room

  pub test_room : SpaceFor from 3 22 l
  test_room = room_first condition_room (omega arith) (omega arith)

  -- the test is written, and has room behind it whatever the flag is compared with
  pub test_written : (v : ℕ) {m : List ℕ} {s : Size} → Wrote (write_b from (equal (variable f) (number v))) l m s → TestWritten from f v (truth_in table p.node) l m s
  test_written v w =
      first_written w (counted_test from f v) (λ n. counted_b n (truth_in table p.node)) (omega arith) (record { short = omega arith })
      (bytes_b (truth_in table p.node)) condition_room

  -- where the flag is compared with 0, all of it is the masked condition
  pub wrote_condition : {m rest : List ℕ} {s u : Size} {q : Pair} → Wrote (write_b from (equal (variable f) (number 0))) l m s
      → Wrote (write_b (from + s.nodes) (truth_in table p.node)) (rest_of s.bytes m) rest u → Both from s u q
      → {x : List ℕ} {r : Size} → Appended q.size.nodes q.size.bytes (And q.left q.right) (with_rest s.bytes m rest) x r
      → Wrote (write_b from (test_in table f p)) l x r
  unfolding write_b nodes_of_b nodes_of_a
  wrote_condition w v added parent = wrote_b from (condition_masked table f p e) (parent_wrote (test_written 0 w) v added And parent)

-- ---- the nodes of (f = 1) ? 0 : e
counted_guard : (from f : ℕ) → Counted (guard_nodes from f) 4 30
unfolding guard_nodes size_of form field_size sum
counted_guard from f = counted_append (counted_test from f 1) (counted_node (Number 0))

index_nodes : (from f : ℕ) (i : AExp)
    → guard_nodes from f ++ (write_a (from + 4) i ++ (binary (λ l r. Choice (from + 2) (from + 3) r) from 4 (nodes_of_a i) ∷ []))
    ≡ write_a from (choice (equal (variable f) (number 1)) (number 0) i)
unfolding guard_nodes write_a write_b binary ternary nodes_of_a nodes_of_b
index_nodes from f i =
    let a : from + 3 + 1 ≡ from + 4 = omega arith in
    let b : from + 3 - 1 ≡ from + 2 = omega arith in
    let c : from + 3 + 1 - 1 ≡ from + 3 = omega arith in
    rw (b, c, a)

-- ---- a masked index: the guard, the index and the choice over them
abbrev pub GuardWritten : (from f : ℕ) → (index : AExp) → (before after : List ℕ) → (answer : Size) → Type 0
GuardWritten from f i l m s = FirstWritten from (guard_nodes from f) (λ n. write_a n i) 4 30 (nodes_of_a i) (bytes_of_a i) 1 10 l m s

module _ {from : ℕ} (table : List ℕ) (f : ℕ) (p : Maskable) {l : List ℕ} (e : p.mask ≡ true)
    (room : SpaceFor from (nodes_of_a (index_in table f p)) (bytes_of_a (index_in table f p)) l) where
  index_room : SpaceFor from (4 + nodes_of_a (numeric_in table p.node) + 1) (30 + bytes_of_a (numeric_in table p.node) + 10) l
  unfolding nodes_of_a bytes_of_a nodes_of_b bytes_of_b
  index_room = room_a (index_masked table f p e) room

  pub guard_room : SpaceFor from 4 30 l
  guard_room = room_first index_room (omega arith) (omega arith)

  -- the guard is written
  pub guard_written : {m : List ℕ} {s : Size} → Wrote (guard_nodes from f) l m s → GuardWritten from f (numeric_in table p.node) l m s
  guard_written w =
      first_written w (counted_guard from f) (λ n. counted_a n (numeric_in table p.node)) (omega arith) (record { short = omega arith })
      (bytes_a (numeric_in table p.node)) index_room

  -- all of it is the masked index
  pub wrote_index : {m rest : List ℕ} {s u : Size} {q : Pair} → Wrote (guard_nodes from f) l m s
      → Wrote (write_a (from + s.nodes) (numeric_in table p.node)) (rest_of s.bytes m) rest u → Both from s u q
      → {x : List ℕ} {r : Size} → Appended q.size.nodes q.size.bytes (Choice (from + 2) (from + 3) q.right) (with_rest s.bytes m rest) x r
      → Wrote (write_a from (index_in table f p)) l x r
  wrote_index w v added parent =
      wrote_a from (index_masked table f p e)
      (wrote_as (parent_wrote (guard_written w) v added (λ l r. Choice (from + 2) (from + 3) r) parent) (index_nodes from f (numeric_in table p.node)))

-- ---- the nodes of x := (f = 1) ? 0 : x
abbrev pub value_list : (from x : ℕ) → List Node
value_list from x = Variable x ∷ Choice (from + 2) (from + 3) (from + 4) ∷ Assign x (from + 5) ∷ []

pub value_nodes : (from f x : ℕ) → guard_nodes from f ++ value_list from x ≡ write_c from (mask_value_of f x)
unfolding guard_nodes mask_value_of zero_if_guessing write_a write_b write_c binary ternary nodes_of_a nodes_of_b
value_nodes from f x =
    let b : from + 3 - 1 ≡ from + 2 = omega arith in
    let c : from + 3 + 1 - 1 ≡ from + 3 = omega arith in
    let d : from + 3 + 1 + 1 - 1 ≡ from + 4 = omega arith in
    let e : from + 6 - 1 ≡ from + 5 = omega arith in
    rw (b, c, d, e)

pub value_fits : (from f x : ℕ) {l m : List ℕ} {s : Size} → SpaceFor from 7 54 l → Wrote (guard_nodes from f) l m s
    → RoomBehind s 3 (sum_by size_of (value_list from x)) m
unfolding size_of form field_size sum
value_fits from f x room w = room_all (value_list from x) w (counted_guard from f) room (omega arith) (omega arith)

-- ---- the flag's update: the condition, the two sides of the choice, the choice and the assignment
-- the flag where it is kept, and 1 where it is not
abbrev pub kept_node : Bool → (f : ℕ) → Node
kept_node kept f = cond kept (Variable f) (Number 1)

-- what stands behind a condition whose last node has a number
abbrev pub update_list : (first second : Node) → (f at : ℕ) → List Node
update_list first second f at = first ∷ second ∷ Choice at (at + 1) (at + 2) ∷ Assign f (at + 3) ∷ []

abbrev update_tail : (taken : Bool) → (f at : ℕ) → List Node
update_tail taken f at = update_list (kept_node taken f) (kept_node (negated taken) f) f at

update_room : (taken : Bool) (f from : ℕ) (b : BExp) {l : List ℕ} → SpaceFor from (nodes_of (flag_update f taken b)) (bytes_of (flag_update f taken b)) l
    → SpaceFor from (nodes_of_b b + 4) (bytes_of_b b + sum_by size_of (update_tail taken f 0)) l
unfolding flag_update flag_if_true flag_if_false nodes_of bytes_of nodes_of_a bytes_of_a size_of form field_size sum
update_room true f from b r = record { numbers = omega (arith, r.numbers); fits = omega (arith, r.fits) }
update_room false f from b r = record { numbers = omega (arith, r.numbers); fits = omega (arith, r.fits) }

update_nodes : (taken : Bool) (from f : ℕ) (b : BExp) → 0 < nodes_of_b b
    → write_b from b ++ update_tail taken f (from + nodes_of_b b - 1) ≡ write_c from (flag_update f taken b)
unfolding flag_update flag_if_true flag_if_false write_a write_c ternary nodes_of_a
update_nodes taken from f b some =
    let yes : from + nodes_of_b b - 1 + 1 ≡ from + nodes_of_b b + 1 - 1 = omega arith in
    let no : from + nodes_of_b b - 1 + 2 ≡ from + nodes_of_b b + 1 + 1 - 1 = omega arith in
    let all : from + nodes_of_b b - 1 + 3 ≡ from + (nodes_of_b b + 1 + 1 + 1) - 1 = omega arith in
    rw (yes, no, all) (either taken)
  where
    either : (taken : Bool)
        → write_b from b
        ++ (kept_node taken f ∷ kept_node (negated taken) f ∷ Choice (from + nodes_of_b b - 1) (from + nodes_of_b b + 1 - 1) (from + nodes_of_b b + 1 + 1 - 1)
        ∷ Assign f (from + (nodes_of_b b + 1 + 1 + 1) - 1) ∷ []) ≡ write_c from (flag_update f taken b)
    either true = simp append_assoc
    either false = simp append_assoc

-- the condition is written, with room for what stands behind it
module _ (taken : Bool) (f : ℕ) {from : ℕ} (b : BExp) {l : List ℕ} (room : SpaceFor from (nodes_of (flag_update f taken b)) (bytes_of (flag_update f taken b)) l) where
  pub update_test_room : SpaceFor from (nodes_of_b b) (bytes_of_b b) l
  update_test_room = room_first (update_room taken f from b room) (omega arith) (omega arith)

  module _ {m : List ℕ} {s : Size} (w : Wrote (write_b from b) l m s) where
    pub test_last : (0 < s.nodes) × (from + s.nodes + 3 ≤ 4096)
    test_last =
        let z = wrote_sized w (counted_b from b) in
        (omega (arith, z.nodes_counted, some_b b), omega (arith, (update_room taken f from b room).numbers, z.nodes_counted))

    module _ {first second : Node} (kept : first ≡ kept_node taken f) (other : second ≡ kept_node (negated taken) f) where
      pub update_fits : (at : ℕ) → RoomBehind s 4 (sum_by size_of (update_list first second f at)) m
      unfolding size_of form field_size sum
      update_fits at = rw (kept, other) (room_all (update_tail taken f at) w (counted_b from b) (update_room taken f from b room) (omega arith) (omega arith))

      -- and with it, it is the update
      pub wrote_update : {at : ℕ} → at ≡ from + s.nodes - 1 → {k : List ℕ} {r : Size} → AppendedAll s (update_list first second f at) m k r
          → Wrote (write_c from (flag_update f taken b)) l k r
      wrote_update {at} e a =
          let z = wrote_sized w (counted_b from b) in
          let i : at ≡ from + nodes_of_b b - 1 = omega (arith, e, z.nodes_counted) in
          let nodes : update_list first second f at ≡ update_tail taken f (from + nodes_of_b b - 1) = rw (kept, other, i) in
          wrote_as (wrote_all w a) (ap (λ ns. write_b from b ++ ns) nodes ∙ update_nodes taken from f b (some_b b))
