-- `put_row` writes nothing for what is no command.
use Rattle.sheets.proofs.SheetNodes.{found_none, none_put}
use Rattle.sheets.proofs.rows.put_row.Goals as goal

pub returns : goal.returns
returns c = none_put _ _ _ (found_none _ c.args.labelled.now.expressions.admitted c.requires.0 c.is_command.ensures.value c.if-is_command.false)
