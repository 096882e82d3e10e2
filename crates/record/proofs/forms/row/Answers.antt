-- `row` takes its sort from its kind.
use Rattle.record.proofs.RecordKinds.{row_told}
use Rattle.record.proofs.forms.row.Goals as goal

pub returns : goal.returns
returns c = row_told _ _ _ c.sort_of_kind.ensures
