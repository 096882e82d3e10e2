-- A class that holds a table, by its header's bytes, has room for its nodes; and where it does not, there is a larger one.
use Prim.Native.Nat.{ℕ, ◌<◌}
use native.Mathlib.Omega.{arith}
use mathlib.Core.Bool.{true, false}
use mathlib.Core.List.{List}
use mathlib.Core.Path.{◌≡◌, ap, sym}
use lib.ListN.{length, replicate, length-replicate}
use lib.Dec.{leb}
use borrow.Author.Tests.{leb-true}
use Rattle.bytes_le.specs.Numbers.{le_at}
use Rattle.awhile.specs.Refusals.{got}
use Rattle.awhile.specs.Tables.{header_size, length_of_kind, read_header}
use Rattle.awhile.specs.declared.Header.{Header}
use Rattle.awhile.proofs.Accepted.{check_got, framed_rest, got_same, header_fits}
use Rattle.record.proofs.Tally.{zeros_below}
use Rattle.reader.specs.Classes.{RoomFor, class_nodes, stated_nodes, holds_table, next_class, larger_classes}
use Rattle.reader.specs.Walk.{Fresh}
use Rattle.reader.specs.declared.classes.Class.{Class}
use Rattle.reader.specs.declared.classes.Class.TheVariants.{Small, Medium, Full}

-- a header that is read declares the nodes that its bytes state
header_states : (s : List ℕ) (h : Header) → read_header s ≡ got h → h.nodes ≡ stated_nodes s
unfolding read_header
header_states s h e =
    let read : Header = record { version = le_at 2 s 4; variables = le_at 1 s 6; arrays = le_at 1 s 7; nodes = le_at 2 s 8 } in
    let rest = framed_rest s 0 (length_of_kind 1 header_size s 0) _ h e in
    ap (λ (x : Header). x.nodes) (sym (got_same read h (check_got _ _ (got read) h rest).1))

stated_room : (s : List ℕ) (room : ℕ) → leb (stated_nodes s) room ≡ true → RoomFor s room
stated_room s room e = record { holds = λ h r. omega (arith, header_states s h r, leb-true (stated_nodes s) room e) }

pub held_room : (class : Class) (s : List ℕ) → holds_table class s ≡ true → RoomFor s (class_nodes class)
unfolding holds_table class_nodes
held_room Small s e = stated_room s 64 e
held_room Medium s e = stated_room s 512 e
held_room Full s e = record { holds = λ h r. (header_fits s h r).nodes_fit }

pub larger_next : (class : Class) (s : List ℕ) → holds_table class s ≡ false → larger_classes (next_class class) < larger_classes class
unfolding holds_table next_class larger_classes
larger_next Small s e = omega arith
larger_next Medium s e = omega arith
larger_next Full s e = absurd (let z : ◌≡◌ {A = ℕ} 0 1 = cc e in omega arith)

-- so has memory that was just made
pub fresh_memory : {s : List ℕ} (room : ℕ) → RoomFor s room → Fresh s (replicate room 0) (replicate room 0)
fresh_memory {s} room h =
    let long : RoomFor s (length (replicate {A = ℕ} room 0)) = rw (length-replicate {A = ℕ} room 0) h in
    record { long = record { long_index = long; long_uses = long }; zeros = zeros_below room }
