-- Hardened reads and writes by their decisions; their nodes do not depend on the number that they are noted with.
use Prim.Native.Nat.{ℕ, ◌+◌, ◌-◌, ◌≤◌, ◌<◌}
use native.Mathlib.Omega.{arith}
use mathlib.Core.Bool.{Bool, true, false}
use mathlib.Core.List.{List}
use mathlib.Core.Option.{none, some}
use mathlib.Core.Path.{◌≡◌, sym, subst}
use Rattle.awhile.specs.Language.{AExp, Com, sequence, read, write}
use Rattle.awhile.specs.Encoding.{nodes_of_a, nodes_of_b, nodes_of, write_a, write_c}
use Rattle.awhile.specs.declared.Node.TheVariants.{Sequence, Read, Write}
use Rattle.masks.specs.Decisions.{decision}
use Rattle.masks.specs.Hardening.{Origin, zero_if_guessing, masked_index, mask_value_of, harden}
use Rattle.copier.specs.Sizes.{bytes_of_a, bytes_of_b, bytes_of}
use Rattle.copier.specs.Written.{Appended, SpaceFor, RoomBehind, Wrote, Both, pair_of}
use Rattle.copier.specs.declared.Pair.{Pair}
use Rattle.copier.specs.declared.Size.{Size}
use Rattle.copier.proofs.Lengths.{counted_a, counted_c, some_a, some_c, bytes_a, bytes_c_lem}
use Rattle.copier.proofs.Writers.{rest_of, with_rest, room_first, room_parent}
use Rattle.copier.proofs.Joins.{one_parent, one_last}
use Rattle.masking.proofs.TwoParts.{FirstWritten, first_written, parent_wrote, joined_wrote}

-- what is written for a command is written for what it is
pub wrote_c : (from : ℕ) {c d : Com Origin} {l m : List ℕ} {r : Size} → c ≡ d → Wrote (write_c from d) l m r → Wrote (write_c from c) l m r
wrote_c from {l = l} {m} {r} p w = subst (λ c. Wrote (write_c from c) l m r) (sym p) w

pub room_c : {c d : Com Origin} {from : ℕ} {l : List ℕ} → c ≡ d → SpaceFor from (nodes_of c) (bytes_of c) l → SpaceFor from (nodes_of d) (bytes_of d) l
room_c {from = from} {l} p w = subst (λ c. SpaceFor from (nodes_of c) (bytes_of c) l) p w

-- ---- a read: its index and the read, and the masked value behind it where that is hidden
-- the read is written, with room for the masked value and the sequence over both
abbrev pub ReadWritten : (from f x a n : ℕ) → (index : AExp) → (before after : List ℕ) → (answer : Size) → Type 0
ReadWritten from f x a n i l m s =
    FirstWritten from (write_c {Note = Origin} from (read (some n) x a i)) (λ k. write_c k (mask_value_of f x)) (nodes_of_a i + 1) (bytes_of_a i + 10) 7 54 1 8 l m s

-- the read itself has room in either case
read_room : {from : ℕ} (f x a n : ℕ) (mask : Bool) (i : AExp) (hide : Bool) {l : List ℕ}
    → SpaceFor from (nodes_of (harden f (read (decision n false mask hide) x a i))) (bytes_of (harden f (read (decision n false mask hide) x a i))) l
    → SpaceFor from (nodes_of_a (masked_index f mask i) + 1) (bytes_of_a (masked_index f mask i) + 10) l
unfolding harden nodes_of bytes_of
read_room f x a n mask i true r = record { numbers = omega (arith, r.numbers); fits = omega (arith, r.fits) }
read_room f x a n mask i false r = r

module _ {from : ℕ} (f x a n : ℕ) (mask : Bool) (i : AExp) (hide : Bool) {l : List ℕ}
    (room : SpaceFor from (nodes_of (harden f (read (decision n false mask hide) x a i))) (bytes_of (harden f (read (decision n false mask hide) x a i))) l) where
  pub read_index_room : SpaceFor from (nodes_of_a (masked_index f mask i)) (bytes_of_a (masked_index f mask i)) l
  read_index_room = room_first (read_room f x a n mask i hide room) (omega arith) (omega arith)

  module _ {m : List ℕ} {s : Size} (w : Wrote (write_a from (masked_index f mask i)) l m s) where
    -- the number of the index's last node can be computed
    pub read_last : (0 < s.nodes) × (from + s.nodes ≤ 4096)
    read_last = one_last from w (counted_a from (masked_index f mask i)) (read_room f x a n mask i hide room) (omega arith) (some_a (masked_index f mask i))

    -- and the read has room
    pub read_fits : RoomBehind s 1 10 m
    read_fits = room_parent 10 w (counted_a from (masked_index f mask i)) (read_room f x a n mask i hide room) (omega arith) (omega arith)

    module _ {at : ℕ} (is : at ≡ from + s.nodes - 1) {k : List ℕ} {r : Size} (parent : Appended s.nodes s.bytes (Read x a at) m k r) where
      wrote_copy : Wrote (write_c {Note = Origin} from (read (some n) x a (masked_index f mask i))) l k r
      unfolding write_c
      wrote_copy = one_parent from (Read x a) w (counted_a from (masked_index f mask i)) is parent

      -- not hidden
      pub wrote_shown : hide ≡ false → Wrote (write_c from (harden f (read (decision n false mask hide) x a i))) l k r
      unfolding harden
      wrote_shown e = wrote_c from (rw e) wrote_copy

      -- hidden
      module _ (e : hide ≡ true) where
        is_hidden : harden f (read (decision n false mask hide) x a i) ≡ sequence none (read (some n) x a (masked_index f mask i)) (mask_value_of f x)
        unfolding harden
        is_hidden = rw e

        pub read_written : ReadWritten from f x a n (masked_index f mask i) l k r
        unfolding mask_value_of zero_if_guessing nodes_of bytes_of nodes_of_a bytes_of_a nodes_of_b bytes_of_b
        read_written =
            let copy : Com Origin = read (some n) x a (masked_index f mask i) in
            first_written wrote_copy (counted_c from copy) (λ k. counted_c k (mask_value_of f x)) (some_c copy) (bytes_c_lem copy) (bytes_c_lem (mask_value_of f x)) (room_c is_hidden room)

        pub wrote_hidden : {rest y : List ℕ} {u t : Size} → Wrote (write_c (from + r.nodes) (mask_value_of f x)) (rest_of r.bytes k) rest u
            → Appended (r.nodes + u.nodes) (r.bytes + u.bytes) (Sequence (pair_of from r u).left (pair_of from r u).right) (with_rest r.bytes k rest) y t
            → Wrote (write_c from (harden f (read (decision n false mask hide) x a i))) l y t
        unfolding write_c mask_value_of zero_if_guessing nodes_of nodes_of_a nodes_of_b
        wrote_hidden v joined = wrote_c from is_hidden (joined_wrote read_written v joined)

-- ---- a write: its index and its value
abbrev pub IndexWritten : (from : ℕ) → (index value : AExp) → (before after : List ℕ) → (answer : Size) → Type 0
IndexWritten from i e l m s = FirstWritten from (write_a from i) (λ n. write_a n e) (nodes_of_a i) (bytes_of_a i) (nodes_of_a e) (bytes_of_a e) 1 10 l m s

module _ {from : ℕ} (f a n : ℕ) (mask : Bool) (i e : AExp) {l : List ℕ}
    (room : SpaceFor from (nodes_of (harden f (write (decision n false mask false) a i e))) (bytes_of (harden f (write (decision n false mask false) a i e))) l) where
  write_room : SpaceFor from (nodes_of_a (masked_index f mask i) + nodes_of_a e + 1) (bytes_of_a (masked_index f mask i) + bytes_of_a e + 10) l
  unfolding harden nodes_of bytes_of
  write_room = room

  pub write_index_room : SpaceFor from (nodes_of_a (masked_index f mask i)) (bytes_of_a (masked_index f mask i)) l
  write_index_room = room_first write_room (omega arith) (omega arith)

  module _ {m : List ℕ} {s : Size} (w : Wrote (write_a from (masked_index f mask i)) l m s) where
    pub index_written : IndexWritten from (masked_index f mask i) e l m s
    index_written = first_written w (counted_a from (masked_index f mask i)) (λ n. counted_a n e) (some_a (masked_index f mask i)) (bytes_a (masked_index f mask i)) (bytes_a e) write_room

    pub wrote_write : {rest x : List ℕ} {u r : Size} {q : Pair} → Wrote (write_a (from + s.nodes) e) (rest_of s.bytes m) rest u → Both from s u q
        → Appended q.size.nodes q.size.bytes (Write a q.left q.right) (with_rest s.bytes m rest) x r
        → Wrote (write_c from (harden f (write (decision n false mask false) a i e))) l x r
    unfolding harden write_c
    wrote_write v added parent = parent_wrote index_written v added (Write a) parent
