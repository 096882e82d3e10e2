-- `kept_or_one` is the flag or 1.
use Rattle.masking.proofs.masked.kept_or_one.Goals as goal

pub returns-then-kept : goal.returns-then-kept
returns-then-kept c = rw c.if-kept.true

pub returns-else-kept : goal.returns-else-kept
returns-else-kept c = rw c.if-kept.false
