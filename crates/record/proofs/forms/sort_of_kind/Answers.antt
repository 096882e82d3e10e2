-- `sort_of_kind` tells a kind's sort by where the kinds of the next begin.
use Rattle.awhile.specs.declared.Sort.TheVariants.{Numeric, Truth, Command}
use Rattle.record.proofs.RecordKinds.{span_tells}
use Rattle.record.proofs.forms.sort_of_kind.Goals as goal

pub returns-then-kind-lt-FIRST_TRUTH : goal.returns-then-kind-lt-FIRST_TRUTH
returns-then-kind-lt-FIRST_TRUTH c = span_tells Numeric _ c.if-kind-lt-FIRST_TRUTH.true

pub returns-then-kind-lt-FIRST_COMMAND : goal.returns-then-kind-lt-FIRST_COMMAND
returns-then-kind-lt-FIRST_COMMAND c = span_tells Truth _ (c.if-kind-lt-FIRST_TRUTH.false, c.if-kind-lt-FIRST_COMMAND.true)

pub returns-else-kind-lt-FIRST_COMMAND : goal.returns-else-kind-lt-FIRST_COMMAND
returns-else-kind-lt-FIRST_COMMAND c = span_tells Command _ c.if-kind-lt-FIRST_COMMAND.false
