-- `done_in` does a job in its class where that holds the table, and otherwise in a larger one: at each call fewer classes are larger.
use Prim.Native.Nat.{ℕ, ◌<◌}
use mathlib.Core.Bool.{Bool, true, false, not}
use mathlib.Core.List.{List}
use mathlib.Core.Path.{◌≡◌, sym, ap, subst, ◌∙◌}
use borrow.Author.Tests.{not-true, not-false}
use native.Mathlib.Omega.{arith}
use Rattle.reader.specs.Classes.{RoomFor, holds_table, class_nodes, next_class, larger_classes}
use Rattle.reader.specs.declared.classes.Class.{Class}
use Rattle.reader.proofs.Rooms.{held_room, larger_next}
use Rattle.write_entries.proofs.memory.+done_in.Goals as goal

pub done_in-requires : goal.done_in-requires
done_in-requires t c =
    let fewer-larger : (next : Class) → not c.holds.result ≡ true → next ≡ next_class c.args.class → larger_classes next < t = λ next taken is_next. let less = larger_next c.args.class c.args.table.now (sym c.holds.ensures ∙ not-true _ taken) in
    omega (arith, less, ap larger_classes is_next, c.decreases) in
    (fewer-larger _ c.if-not-holds.true-raw c.next.ensures, c.requires)

-- the class that holds the table has room for its nodes
room : (class variant : Class) (table : List ℕ) {held : Bool} → held ≡ holds_table class table → not held ≡ false → class ≡ variant → RoomFor table (class_nodes variant)
room class variant table e left is = subst (λ x. RoomFor table (class_nodes x)) is (held_room class table (sym e ∙ not-false _ left))

pub done_within-requires-clause-room : goal.done_within-requires-clause-room
unfolding class_nodes
done_within-requires-clause-room t c = room _ _ c.args.table.now c.holds.ensures c.if-not-holds.false-raw c.in-Small.is

pub done_within-requires-in-Medium-clause-room : goal.done_within-requires-in-Medium-clause-room
unfolding class_nodes
done_within-requires-in-Medium-clause-room t c = room _ _ c.args.table.now c.holds.ensures c.if-not-holds.false-raw c.in-Medium.is

pub done_within-requires-in-Full-clause-room : goal.done_within-requires-in-Full-clause-room
unfolding class_nodes
done_within-requires-in-Full-clause-room t c = room _ _ c.args.table.now c.holds.ensures c.if-not-holds.false-raw c.in-Full.is
