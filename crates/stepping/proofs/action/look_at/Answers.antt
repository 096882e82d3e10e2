-- What a node's command does is read off its kind.
use Rattle.std.proofs.Common.{ap, ◌∙◌}
use Rattle.awhile.specs.Nodes.{sort_of}
use Rattle.awhile.proofs.Unnamed.{never_command}
use Rattle.reader.proofs.Admitted.{child}
use Rattle.stepping.proofs.Evaluation.{asked_parts}
use Rattle.stepping.proofs.Actions.{looked_skip, looked_assign, looked_sequence, looked_if, looked_while, looked_read, looked_write}
use borrow.Enum.Refused.{opened}
use Rattle.stepping.proofs.action.look_at.Goals as goal

pub value-value-requires : goal.value-value-requires
value-value-requires c = child (asked_parts c.requires c.in-Assign.ensures.admitted c.in-Assign.ensures.value).1

pub truth-requires : goal.truth-requires
truth-requires c = child (asked_parts c.requires c.in-If.ensures.admitted c.in-If.ensures.value).0

pub truth-requires-in-While : goal.truth-requires-in-While
truth-requires-in-While c = child (asked_parts c.requires c.in-While.ensures.admitted c.in-While.ensures.value).0

pub value-index-requires : goal.value-index-requires
value-index-requires c = child (asked_parts c.requires c.in-Read.ensures.admitted c.in-Read.ensures.value).2

pub value-index-requires-in-Write : goal.value-index-requires-in-Write
value-index-requires-in-Write c = child (asked_parts c.requires c.in-Write.ensures.admitted c.in-Write.ensures.value).1

pub value-value-requires-in-Write : goal.value-value-requires-in-Write
value-value-requires-in-Write c = child (asked_parts c.requires c.in-Write.ensures.admitted c.in-Write.ensures.value).2

pub returns-in-Assign : goal.returns-in-Assign
returns-in-Assign c = looked_assign _ _ _ c.value-value.ensures (asked_parts c.requires c.in-Assign.ensures.admitted c.in-Assign.ensures.value)

pub returns-in-Sequence : goal.returns-in-Sequence
returns-in-Sequence c = looked_sequence _ _ _ (asked_parts c.requires c.in-Sequence.ensures.admitted c.in-Sequence.ensures.value)

pub returns-in-If : goal.returns-in-If
returns-in-If c = looked_if _ _ _ c.truth.ensures (asked_parts c.requires c.in-If.ensures.admitted c.in-If.ensures.value)

pub returns-in-While : goal.returns-in-While
returns-in-While c = looked_while _ _ _ c.truth-in-While.ensures c.requires (asked_parts c.requires c.in-While.ensures.admitted c.in-While.ensures.value)

pub returns-in-Read : goal.returns-in-Read
returns-in-Read c = looked_read _ _ _ c.value-index.ensures (asked_parts c.requires c.in-Read.ensures.admitted c.in-Read.ensures.value)

pub returns-in-Write : goal.returns-in-Write
returns-in-Write c = looked_write _ _ _ c.value-index-in-Write.ensures c.value-value-in-Write.ensures (asked_parts c.requires c.in-Write.ensures.admitted c.in-Write.ensures.value)

pub returns-in-Skip : goal.returns-in-Skip
returns-in-Skip c = looked_skip _ _ _ (asked_parts c.requires c.in-Skip.ensures.admitted c.in-Skip.ensures.value)

pub returns-in_default : goal.returns-in_default
returns-in_default c = never_command c.command.result (opened c.in_default.in_default-own.keys8) (ap sort_of c.command.ensures.value ∙ c.requires.is_sort)
