-- `put_final` stores the first record.
use Rattle.labels.specs.Sheet.{head_record}
use Rattle.sheets.proofs.SheetLengths.{head_put}
use Rattle.sheets.proofs.sheet.put_final.Goals as goal

pub returns : goal.returns
unfolding head_record
returns c = head_put c.args.masks c.version_of-version.ensures c.count.ensures.value c.requires c.put_record.ensures
