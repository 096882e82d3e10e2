-- `sort_of` asks for the sort of the node's record.
use Rattle.bytes_le.proofs.Numbers.{slice_bytes}
use Rattle.reader.proofs.Index.{indexed_node}
use Rattle.record.proofs.RecordKinds.{head_there}
use Rattle.reader.proofs.lookup.sort_of.Goals as goal

pub sort_at-requires : goal.sort_at-requires
sort_at-requires c = rw c.from.ensures (head_there _ _ _ (indexed_node _ _ (slice_bytes _ c.type_inv.table) c.requires.0 _ c.requires.1))

pub returns : goal.returns
returns c = c.sort_at.ensures.is_sort _ (rw c.from.ensures (indexed_node _ _ (slice_bytes _ c.type_inv.table) c.requires.0 _ c.requires.1).decoded)
