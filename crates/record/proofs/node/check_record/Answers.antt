-- `check_record` makes the tests that as many fields ask for.
use Rattle.record.proofs.Sorting.{word_checked}
use Rattle.record.proofs.RecordForms.{fields_short}
use native.Mathlib.Omega.{arith}
use Rattle.record.proofs.node.check_record.Goals as goal

pub frame-requires : goal.frame-requires
frame-requires c = let few = fields_short c.args.fields in omega (arith, c.record_size.ensures)

pub returns-in-Word : goal.returns-in-Word
returns-in-Word c = word_checked _ _ _ _ _ _ c.in-Word.is _ (rw c.record_size.ensures at c.frame.ensures)
