-- `harden_write` copies the index, masked or not, and the value behind it.
use native.Mathlib.Omega.{arith}
use Rattle.awhile.specs.Lists.{sum}
use Rattle.awhile.specs.Nodes.{size_of, form, field_size}
use Rattle.masking.specs.InMemory.{index_in}
use Rattle.masking.proofs.TwoParts.{rest_number, rest_begins, rest_room, both_few, parent_room}
use Rattle.masking.proofs.AccessWrites.{IndexWritten, write_index_room, index_written, wrote_write}
use Rattle.reader.specs.Index.{numeric_in}
use Rattle.masking.proofs.accesses.harden_write.Goals as goal
use Rattle.masking.proofs.accesses.harden_write.Goals.{After-copy_index-first}

module _ (c : After-copy_index-first) where
  placed : IndexWritten c.args.from (index_in c.args.table.now c.args.flag c.args.place) (numeric_in c.args.table.now c.args.value) c.args.out.now c.copy_index-first.new.out c.copy_index-first.result
  unfolding index_in
  placed = index_written _ _ _ _ _ _ c.requires.space_for c.copy_index-first.ensures

pub copy_index-first-requires-clause-space_for : goal.copy_index-first-requires-clause-space_for
unfolding index_in
copy_index-first-requires-clause-space_for c = write_index_room _ _ _ _ _ _ c.requires.space_for

pub overflow_add-from : goal.overflow_add-from
overflow_add-from c = rest_number (placed (goal.at.overflow_add-from c).After-copy_index-first)

pub slice_bounds-copy_numeric-count : goal.slice_bounds-copy_numeric-count
slice_bounds-copy_numeric-count c = rest_begins (placed (goal.at.slice_bounds-copy_numeric-count c).After-copy_index-first)

pub slice_bounds-copy_numeric-start : goal.slice_bounds-copy_numeric-start
slice_bounds-copy_numeric-start c = rest_begins (placed (goal.at.slice_bounds-copy_numeric-start c).After-copy_index-first)

pub copy_numeric-second-requires-clause-space_for : goal.copy_numeric-second-requires-clause-space_for
copy_numeric-second-requires-clause-space_for c = rest_room (placed (goal.at.copy_numeric-second-requires-clause-space_for c).After-copy_index-first)

pub both-parts-requires : goal.both-parts-requires
both-parts-requires c = both_few (placed (goal.at.both-parts-requires c).After-copy_index-first) c.copy_numeric-second.ensures

pub append-requires : goal.append-requires
unfolding size_of form field_size sum
append-requires c = parent_room (placed (goal.at.append-requires c).After-copy_index-first) c.copy_numeric-second.ensures c.both-parts.ensures (omega arith)

pub returns : goal.returns
unfolding index_in
returns c =
    wrote_write _ _ _ _ _ _ c.requires.space_for c.copy_index-first.ensures c.copy_numeric-second.ensures c.both-parts.ensures c.append.ensures
