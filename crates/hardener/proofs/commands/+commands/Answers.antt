-- Hardened commands: each function writes what its parts harden to behind each other, whose numbers are lower, and the node behind them.
use native.Mathlib.Omega.{arith}
use mathlib.Core.Option.{none}
use Rattle.awhile.specs.Lists.{sum}
use Rattle.awhile.specs.Nodes.{size_of, form, field_size}
use Rattle.awhile.specs.Encoding.{nodes_of, write_c}
use Rattle.awhile.specs.declared.Node.TheVariants.{While}
use Rattle.reader.proofs.Admitted.{parts, child}
use Rattle.masking.specs.InMemory.{side_in, if_in, loop_in, while_in}
use Rattle.masking.proofs.TwoParts.{rest_number, rest_begins, rest_room, first_last, both_few, parent_room, parent_wrote, both_wrote, joined_asks, joined_wrote}
use Rattle.copier.specs.Sizes.{bytes_of}
use Rattle.copier.proofs.Writers.{room_first}
use Rattle.hardener.specs.Forms.{sequence_in}
use Rattle.hardener.proofs.CommandParts.{sides_fit, sides_asks, sides_wrote, sequence_begun, side_begun, sides_begun, if_begun, loop_begun, while_begun}
use Rattle.hardener.proofs.PartWrites.{sequence_asks, sequence_whole, if_asks, if_whole, while_asks, while_whole}
use Rattle.hardener.proofs.commands.+commands.Goals as goal

pub harden_command-harden_sequence-requires : goal.harden_command-harden_sequence-requires
harden_command-harden_sequence-requires t c = sequence_asks c.args.plan.now c.args.from c.requires.space_for c.decreases _ _ (parts c.command-node.ensures.admitted c.requires.of_sort.inside c.command-node.ensures.value _ c.in-Sequence.is)

pub harden_command-returns-in-Sequence : goal.harden_command-returns-in-Sequence
harden_command-returns-in-Sequence t c = sequence_whole c.args.plan.now c.args.from c.requires.space_for _ _ (parts c.command-node.ensures.admitted c.requires.of_sort.inside c.command-node.ensures.value _ c.in-Sequence.is) c.harden_sequence.ensures

pub harden_command-invariant_of-test : goal.harden_command-invariant_of-test
harden_command-invariant_of-test t c = record { of_sort = child (parts c.command-node.ensures.admitted c.requires.of_sort.inside c.command-node.ensures.value _ c.in-If.is).0 }

pub harden_command-invariant_of-test-in-While : goal.harden_command-invariant_of-test-in-While
harden_command-invariant_of-test-in-While t c = record { of_sort = child (parts c.command-node.ensures.admitted c.requires.of_sort.inside c.command-node.ensures.value _ c.in-While.is).0 }

pub harden_command-harden_if-requires : goal.harden_command-harden_if-requires
harden_command-harden_if-requires t c = if_asks c.args.plan.now c.args.from c.requires.space_for c.decreases _ _ _ (parts c.command-node.ensures.admitted c.requires.of_sort.inside c.command-node.ensures.value _ c.in-If.is)

pub harden_command-returns-in-If : goal.harden_command-returns-in-If
harden_command-returns-in-If t c = if_whole c.args.plan.now c.args.from c.requires.space_for _ _ _ (parts c.command-node.ensures.admitted c.requires.of_sort.inside c.command-node.ensures.value _ c.in-If.is) c.harden_if.ensures

pub harden_command-harden_while-requires : goal.harden_command-harden_while-requires
harden_command-harden_while-requires t c = while_asks c.args.plan.now c.args.from c.requires.space_for c.decreases _ _ (parts c.command-node.ensures.admitted c.requires.of_sort.inside c.command-node.ensures.value _ c.in-While.is)

pub harden_command-returns-in-While : goal.harden_command-returns-in-While
harden_command-returns-in-While t c = while_whole c.args.plan.now c.args.from c.requires.space_for _ _ (parts c.command-node.ensures.admitted c.requires.of_sort.inside c.command-node.ensures.value _ c.in-While.is) c.harden_while.ensures

-- ---- two commands, one behind the other

pub harden_sequence-harden_command-one-requires : goal.harden_sequence-harden_command-one-requires
unfolding sequence_in nodes_of bytes_of
harden_sequence-harden_command-one-requires t c = (omega (arith, c.decreases), (c.requires.of_sort.0, room_first c.requires.space_for (omega arith) (omega arith)))

pub harden_sequence-overflow_add-from : goal.harden_sequence-overflow_add-from
harden_sequence-overflow_add-from t c = rest_number (sequence_begun c.args.plan.now _ _ c.requires.space_for c.harden_command-one.ensures)

pub harden_sequence-slice_bounds-harden_command-count : goal.harden_sequence-slice_bounds-harden_command-count
harden_sequence-slice_bounds-harden_command-count t c = rest_begins (sequence_begun c.args.plan.now _ _ c.requires.space_for c.harden_command-one.ensures)

pub harden_sequence-slice_bounds-harden_command-start : goal.harden_sequence-slice_bounds-harden_command-start
harden_sequence-slice_bounds-harden_command-start t c = rest_begins (sequence_begun c.args.plan.now _ _ c.requires.space_for c.harden_command-one.ensures)

pub harden_sequence-harden_command-two-requires : goal.harden_sequence-harden_command-two-requires
harden_sequence-harden_command-two-requires t c = (omega (arith, c.decreases), (c.requires.of_sort.1, rest_room (sequence_begun c.args.plan.now _ _ c.requires.space_for c.harden_command-one.ensures)))

pub harden_sequence-append_sequence-requires : goal.harden_sequence-append_sequence-requires
harden_sequence-append_sequence-requires t c = let asked = joined_asks (sequence_begun c.args.plan.now _ _ c.requires.space_for c.harden_command-one.ensures) c.harden_command-two.ensures in record { few = asked.0; bytes_in_bounds = asked.1 }

pub harden_sequence-returns : goal.harden_sequence-returns
unfolding sequence_in write_c nodes_of
harden_sequence-returns t c = joined_wrote (sequence_begun c.args.plan.now _ _ c.requires.space_for c.harden_command-one.ensures) c.harden_command-two.ensures c.append_sequence.ensures

-- ---- a side: the flag's update and a command

pub harden_side-put_flag_update-update-requires : goal.harden_side-put_flag_update-update-requires
unfolding side_in nodes_of bytes_of
harden_side-put_flag_update-update-requires t c = record { of_sort = c.args.test.now.of_sort; space_for = room_first c.requires.space_for (omega arith) (omega arith) }

pub harden_side-overflow_add-from : goal.harden_side-overflow_add-from
harden_side-overflow_add-from t c = rest_number (side_begun c.args.test.now _ _ c.requires.space_for c.put_flag_update-update.ensures)

pub harden_side-slice_bounds-harden_command-count : goal.harden_side-slice_bounds-harden_command-count
harden_side-slice_bounds-harden_command-count t c = rest_begins (side_begun c.args.test.now _ _ c.requires.space_for c.put_flag_update-update.ensures)

pub harden_side-slice_bounds-harden_command-start : goal.harden_side-slice_bounds-harden_command-start
harden_side-slice_bounds-harden_command-start t c = rest_begins (side_begun c.args.test.now _ _ c.requires.space_for c.put_flag_update-update.ensures)

pub harden_side-harden_command-rest-requires : goal.harden_side-harden_command-rest-requires
harden_side-harden_command-rest-requires t c = (omega (arith, c.decreases), (c.requires.of_sort, rest_room (side_begun c.args.test.now _ _ c.requires.space_for c.put_flag_update-update.ensures)))

pub harden_side-append_sequence-requires : goal.harden_side-append_sequence-requires
harden_side-append_sequence-requires t c = let asked = joined_asks (side_begun c.args.test.now _ _ c.requires.space_for c.put_flag_update-update.ensures) c.harden_command-rest.ensures in record { few = asked.0; bytes_in_bounds = asked.1 }

pub harden_side-returns : goal.harden_side-returns
unfolding side_in write_c nodes_of
harden_side-returns t c = joined_wrote (side_begun c.args.test.now _ _ c.requires.space_for c.put_flag_update-update.ensures) c.harden_command-rest.ensures c.append_sequence.ensures

-- ---- both sides

pub harden_sides-harden_side-one-requires : goal.harden_sides-harden_side-one-requires
harden_sides-harden_side-one-requires t c = (omega (arith, c.decreases), (c.requires.of_sort.0, room_first c.requires.space_for (omega arith) (omega arith)))

pub harden_sides-overflow_add-from : goal.harden_sides-overflow_add-from
harden_sides-overflow_add-from t c = rest_number (sides_begun c.args.test.now _ _ c.requires.space_for c.harden_side-one.ensures)

pub harden_sides-slice_bounds-harden_side-count : goal.harden_sides-slice_bounds-harden_side-count
harden_sides-slice_bounds-harden_side-count t c = rest_begins (sides_begun c.args.test.now _ _ c.requires.space_for c.harden_side-one.ensures)

pub harden_sides-slice_bounds-harden_side-start : goal.harden_sides-slice_bounds-harden_side-start
harden_sides-slice_bounds-harden_side-start t c = rest_begins (sides_begun c.args.test.now _ _ c.requires.space_for c.harden_side-one.ensures)

pub harden_sides-harden_side-two-requires : goal.harden_sides-harden_side-two-requires
harden_sides-harden_side-two-requires t c = (omega (arith, c.decreases), (c.requires.of_sort.1, rest_room (sides_begun c.args.test.now _ _ c.requires.space_for c.harden_side-one.ensures)))

pub harden_sides-both-requires : goal.harden_sides-both-requires
harden_sides-both-requires t c = both_few (sides_begun c.args.test.now _ _ c.requires.space_for c.harden_side-one.ensures) c.harden_side-two.ensures

pub harden_sides-returns : goal.harden_sides-returns
harden_sides-returns t c = both_wrote (sides_begun c.args.test.now _ _ c.requires.space_for c.harden_side-one.ensures) c.harden_side-two.ensures c.both.ensures

-- ---- an if: its condition and both sides

pub harden_if-copy_condition-copy-requires : goal.harden_if-copy_condition-copy-requires
unfolding if_in nodes_of bytes_of
harden_if-copy_condition-copy-requires t c = record { of_sort = c.args.test.now.of_sort; space_for = room_first c.requires.space_for (omega arith) (omega arith) }

pub harden_if-overflow_add-from : goal.harden_if-overflow_add-from
harden_if-overflow_add-from t c = rest_number (if_begun c.args.test.now _ _ c.requires.space_for c.copy_condition-copy.ensures).parts

pub harden_if-slice_bounds-harden_sides-count : goal.harden_if-slice_bounds-harden_sides-count
harden_if-slice_bounds-harden_sides-count t c = rest_begins (if_begun c.args.test.now _ _ c.requires.space_for c.copy_condition-copy.ensures).parts

pub harden_if-slice_bounds-harden_sides-start : goal.harden_if-slice_bounds-harden_sides-start
harden_if-slice_bounds-harden_sides-start t c = rest_begins (if_begun c.args.test.now _ _ c.requires.space_for c.copy_condition-copy.ensures).parts

pub harden_if-harden_sides-sides-requires : goal.harden_if-harden_sides-sides-requires
harden_if-harden_sides-sides-requires t c = (omega (arith, c.decreases), (c.requires.of_sort, rest_room (if_begun c.args.test.now _ _ c.requires.space_for c.copy_condition-copy.ensures).parts))

pub harden_if-add-requires : goal.harden_if-add-requires
harden_if-add-requires t c = sides_fit (if_begun c.args.test.now _ _ c.requires.space_for c.copy_condition-copy.ensures) c.harden_sides-sides.ensures

pub harden_if-last-requires : goal.harden_if-last-requires
harden_if-last-requires t c = first_last (if_begun c.args.test.now _ _ c.requires.space_for c.copy_condition-copy.ensures).parts

pub harden_if-append-requires : goal.harden_if-append-requires
unfolding size_of form field_size sum
harden_if-append-requires t c = sides_asks (if_begun c.args.test.now _ _ c.requires.space_for c.copy_condition-copy.ensures) c.harden_sides-sides.ensures c.add.ensures

pub harden_if-returns : goal.harden_if-returns
unfolding if_in
harden_if-returns t c = sides_wrote (if_begun c.args.test.now _ _ c.requires.space_for c.copy_condition-copy.ensures) c.harden_sides-sides.ensures c.add.ensures c.last.ensures c.append.ensures none

-- ---- a loop: its condition and its body

pub harden_loop-copy_condition-copy-requires : goal.harden_loop-copy_condition-copy-requires
unfolding loop_in nodes_of bytes_of
harden_loop-copy_condition-copy-requires t c = record { of_sort = c.args.test.now.of_sort; space_for = room_first c.requires.space_for (omega arith) (omega arith) }

pub harden_loop-overflow_add-from : goal.harden_loop-overflow_add-from
harden_loop-overflow_add-from t c = rest_number (loop_begun c.args.test.now _ c.requires.space_for c.copy_condition-copy.ensures)

pub harden_loop-slice_bounds-harden_side-count : goal.harden_loop-slice_bounds-harden_side-count
harden_loop-slice_bounds-harden_side-count t c = rest_begins (loop_begun c.args.test.now _ c.requires.space_for c.copy_condition-copy.ensures)

pub harden_loop-slice_bounds-harden_side-start : goal.harden_loop-slice_bounds-harden_side-start
harden_loop-slice_bounds-harden_side-start t c = rest_begins (loop_begun c.args.test.now _ c.requires.space_for c.copy_condition-copy.ensures)

pub harden_loop-harden_side-side-requires : goal.harden_loop-harden_side-side-requires
harden_loop-harden_side-side-requires t c = (omega (arith, c.decreases), (c.requires.of_sort, rest_room (loop_begun c.args.test.now _ c.requires.space_for c.copy_condition-copy.ensures)))

pub harden_loop-both-parts-requires : goal.harden_loop-both-parts-requires
harden_loop-both-parts-requires t c = both_few (loop_begun c.args.test.now _ c.requires.space_for c.copy_condition-copy.ensures) c.harden_side-side.ensures

pub harden_loop-append-requires : goal.harden_loop-append-requires
unfolding size_of form field_size sum
harden_loop-append-requires t c = parent_room (loop_begun c.args.test.now _ c.requires.space_for c.copy_condition-copy.ensures) c.harden_side-side.ensures c.both-parts.ensures (omega arith)

pub harden_loop-returns : goal.harden_loop-returns
unfolding loop_in write_c nodes_of
harden_loop-returns t c = parent_wrote (loop_begun c.args.test.now _ c.requires.space_for c.copy_condition-copy.ensures) c.harden_side-side.ensures c.both-parts.ensures While c.append.ensures

-- ---- a while: a loop and the flag's update

pub harden_while-harden_loop-whole-requires : goal.harden_while-harden_loop-whole-requires
unfolding while_in nodes_of bytes_of
harden_while-harden_loop-whole-requires t c = (omega (arith, c.decreases), (c.requires.of_sort, room_first c.requires.space_for (omega arith) (omega arith)))

pub harden_while-overflow_add-from : goal.harden_while-overflow_add-from
harden_while-overflow_add-from t c = rest_number (while_begun c.args.test.now _ c.requires.space_for c.harden_loop-whole.ensures)

pub harden_while-slice_bounds-put_flag_update-count : goal.harden_while-slice_bounds-put_flag_update-count
harden_while-slice_bounds-put_flag_update-count t c = rest_begins (while_begun c.args.test.now _ c.requires.space_for c.harden_loop-whole.ensures)

pub harden_while-slice_bounds-put_flag_update-start : goal.harden_while-slice_bounds-put_flag_update-start
harden_while-slice_bounds-put_flag_update-start t c = rest_begins (while_begun c.args.test.now _ c.requires.space_for c.harden_loop-whole.ensures)

pub harden_while-put_flag_update-update-requires : goal.harden_while-put_flag_update-update-requires
harden_while-put_flag_update-update-requires t c = record { of_sort = c.args.test.now.of_sort; space_for = rest_room (while_begun c.args.test.now _ c.requires.space_for c.harden_loop-whole.ensures) }

pub harden_while-append_sequence-requires : goal.harden_while-append_sequence-requires
harden_while-append_sequence-requires t c = let asked = joined_asks (while_begun c.args.test.now _ c.requires.space_for c.harden_loop-whole.ensures) c.put_flag_update-update.ensures in record { few = asked.0; bytes_in_bounds = asked.1 }

pub harden_while-returns : goal.harden_while-returns
unfolding while_in write_c nodes_of
harden_while-returns t c = joined_wrote (while_begun c.args.test.now _ c.requires.space_for c.harden_loop-whole.ensures) c.put_flag_update-update.ensures c.append_sequence.ensures
