-- `harden_read` copies the index, masked or not, and hides the value behind the read or not.
use Rattle.awhile.specs.Lists.{sum}
use Rattle.awhile.specs.Nodes.{size_of, form, field_size}
use Rattle.masking.specs.InMemory.{index_in}
use Rattle.masking.proofs.TwoParts.{rest_number, rest_begins, rest_room, joined_asks}
use Rattle.masking.proofs.AccessWrites.{ReadWritten, read_index_room, read_last, read_fits, read_written, wrote_hidden, wrote_shown}
use Rattle.masking.proofs.accesses.harden_read.Goals as goal
use Rattle.masking.proofs.accesses.harden_read.Goals.{Then-hide}

module _ (c : Then-hide) where
  hidden : ReadWritten c.args.from c.args.flag c.args.variable c.args.array 0 (index_in c.args.table.now c.args.flag c.args.place) c.args.out.now c.append-copy.new.out c.append-copy.result
  unfolding index_in
  hidden = read_written _ _ _ _ _ _ _ c.requires.space_for c.copy_index-part.ensures c.last.ensures c.append-copy.ensures c.if-hide.true

pub copy_index-part-requires-clause-space_for : goal.copy_index-part-requires-clause-space_for
unfolding index_in
copy_index-part-requires-clause-space_for c = read_index_room _ _ _ _ _ _ _ c.requires.space_for

pub last-requires : goal.last-requires
unfolding index_in
last-requires c = read_last _ _ _ _ _ _ _ c.requires.space_for c.copy_index-part.ensures

pub append-copy-requires : goal.append-copy-requires
unfolding index_in size_of form field_size sum
append-copy-requires c = read_fits _ _ _ _ _ _ _ c.requires.space_for c.copy_index-part.ensures

pub overflow_add-from : goal.overflow_add-from
overflow_add-from c = rest_number (hidden (goal.at.overflow_add-from c).Then-hide)

pub slice_bounds-put_value_mask-count : goal.slice_bounds-put_value_mask-count
slice_bounds-put_value_mask-count c = rest_begins (hidden (goal.at.slice_bounds-put_value_mask-count c).Then-hide)

pub slice_bounds-put_value_mask-start : goal.slice_bounds-put_value_mask-start
slice_bounds-put_value_mask-start c = rest_begins (hidden (goal.at.slice_bounds-put_value_mask-start c).Then-hide)

pub put_value_mask-value-requires : goal.put_value_mask-value-requires
put_value_mask-value-requires c = rest_room (hidden (goal.at.put_value_mask-value-requires c).Then-hide)

pub append_sequence-requires : goal.append_sequence-requires
append_sequence-requires c = let asked = joined_asks (hidden (goal.at.append_sequence-requires c).Then-hide) c.put_value_mask-value.ensures in record { few = asked.0; bytes_in_bounds = asked.1 }

pub returns-then-hide : goal.returns-then-hide
unfolding index_in
returns-then-hide c =
    wrote_hidden _ _ _ _ _ _ _ c.requires.space_for c.copy_index-part.ensures c.last.ensures c.append-copy.ensures c.if-hide.true c.put_value_mask-value.ensures c.append_sequence.ensures

pub returns-else-hide : goal.returns-else-hide
unfolding index_in
returns-else-hide c = wrote_shown _ _ _ _ _ _ _ c.requires.space_for c.copy_index-part.ensures c.last.ensures c.append-copy.ensures c.if-hide.false
