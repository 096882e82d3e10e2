-- `copy_index` copies the index, behind a guard where it is masked.
use native.Mathlib.Omega.{arith}
use Rattle.awhile.specs.Lists.{sum}
use Rattle.awhile.specs.Nodes.{size_of, form, field_size}
use Rattle.copier.proofs.ExpressionWrites.{wrote_a, room_a}
use Rattle.masking.proofs.TwoParts.{rest_number, rest_begins, rest_room, both_few, parent_room}
use Rattle.masking.proofs.Masking.{index_plain, GuardWritten, guard_room, guard_written, wrote_index}
use Rattle.reader.specs.Index.{numeric_in}
use Rattle.masking.proofs.masked.copy_index.Goals as goal
use Rattle.masking.proofs.masked.copy_index.Goals.{After-put_guard-guard}

module _ (c : After-put_guard-guard) where
  guarded : GuardWritten c.args.from c.args.flag (numeric_in c.args.table.now c.args.place.node) c.args.out.now c.put_guard-guard.new.out c.put_guard-guard.result
  guarded = guard_written c.args.table.now c.args.flag c.args.place c.if-place.true c.requires.space_for c.put_guard-guard.ensures

pub put_guard-guard-requires : goal.put_guard-guard-requires
put_guard-guard-requires c = guard_room c.args.table.now c.args.flag c.args.place c.if-place.true c.requires.space_for

pub overflow_add-from : goal.overflow_add-from
overflow_add-from c = rest_number (guarded (goal.at.overflow_add-from c).After-put_guard-guard)

pub slice_bounds-copy_numeric-count : goal.slice_bounds-copy_numeric-count
slice_bounds-copy_numeric-count c = rest_begins (guarded (goal.at.slice_bounds-copy_numeric-count c).After-put_guard-guard)

pub slice_bounds-copy_numeric-start : goal.slice_bounds-copy_numeric-start
slice_bounds-copy_numeric-start c = rest_begins (guarded (goal.at.slice_bounds-copy_numeric-start c).After-put_guard-guard)

pub copy_numeric-part-requires-clause-space_for : goal.copy_numeric-part-requires-clause-space_for
copy_numeric-part-requires-clause-space_for c = rest_room (guarded (goal.at.copy_numeric-part-requires-clause-space_for c).After-put_guard-guard)

pub both-parts-requires : goal.both-parts-requires
both-parts-requires c = both_few (guarded (goal.at.both-parts-requires c).After-put_guard-guard) c.copy_numeric-part.ensures

pub append-requires : goal.append-requires
unfolding size_of form field_size sum
append-requires c = parent_room (guarded (goal.at.append-requires c).After-put_guard-guard) c.copy_numeric-part.ensures c.both-parts.ensures (omega arith)

pub copy_numeric-requires-clause-space_for : goal.copy_numeric-requires-clause-space_for
copy_numeric-requires-clause-space_for c = room_a (index_plain c.args.table.now c.args.flag c.args.place c.if-place.false) c.requires.space_for

pub returns-then-place : goal.returns-then-place
returns-then-place c =
    wrote_index c.args.table.now c.args.flag c.args.place c.if-place.true c.requires.space_for c.put_guard-guard.ensures c.copy_numeric-part.ensures c.both-parts.ensures c.append.ensures

pub returns-else-place : goal.returns-else-place
returns-else-place c = wrote_a c.args.from (index_plain c.args.table.now c.args.flag c.args.place c.if-place.false) c.copy_numeric.ensures
