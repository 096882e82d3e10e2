-- `sort_at` answers the sort of the record's kind.
use Rattle.record.proofs.RecordKinds.{kind_read}
use Rattle.record.proofs.node.sort_at.Goals as goal

pub returns : goal.returns
returns c = kind_read _ _ _ _ c.whole_u16.ensures.0 c.sort_of_kind.ensures
