-- `flow_sheet` is the job of the sheet.
use Rattle.write_entries.proofs.Promises.{sheet_promised}
use Rattle.flow.proofs.sheet.flow_sheet.Goals as goal

pub returns : goal.returns
returns c = let args = c.args in sheet_promised args.table.now _ args.sheet.now args.answer.now c.answer_job.ensures
