-- `run_in` runs a table in its class where that holds it, and otherwise in a larger one: at each call fewer classes are larger.
use Prim.Native.Nat.{ℕ}
use mathlib.Core.List.{List}
use mathlib.Core.Bool.{true}
use mathlib.Core.Path.{◌≡◌, sym, subst}
use native.Mathlib.Omega.{arith}
use Rattle.reader.specs.Classes.{RoomFor, class_nodes, holds_table}
use Rattle.reader.specs.declared.classes.Class.{Class}
use Rattle.reader.proofs.Rooms.{held_room, larger_next}
use Rattle.run_entries.proofs.memory.+run_in.Goals as goal

-- the room of the class that the table's header asks for
held_as : {class variant : Class} {table : List ℕ} → class ≡ variant → true ≡ holds_table class table → RoomFor table (class_nodes variant)
held_as {class} {variant} {table} is held = subst (λ x. RoomFor table (class_nodes x)) is (held_room class table (sym held))

pub run_in-requires : goal.run_in-requires
run_in-requires t c =
    let less = larger_next c.args.class c.args.table.now (sym c.if-not-holds.ensures) in
    (rw c.next.ensures (omega (arith, less, c.decreases)), c.requires)

pub run_sized-requires : goal.run_sized-requires
unfolding class_nodes
run_sized-requires t c = (held_as c.in-Small.is c.if-not-holds.ensures, omega arith)

pub run_sized-requires-in-Medium : goal.run_sized-requires-in-Medium
unfolding class_nodes
run_sized-requires-in-Medium t c = (held_as c.in-Medium.is c.if-not-holds.ensures, omega arith)

pub run_sized-requires-in-Full : goal.run_sized-requires-in-Full
unfolding class_nodes
run_sized-requires-in-Full t c = (held_as c.in-Full.is c.if-not-holds.ensures, omega arith)
