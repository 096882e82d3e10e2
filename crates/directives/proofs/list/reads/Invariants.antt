-- `reads`: at every turn the rest of the list reads exactly when the whole list does.
use Rattle.std.proofs.Common.{◌≡◌, length}
use Rattle.directives.specs.Listed.{is_some, read_on}
use Rattle.directives.proofs.list.reads.Given as goal

abbrev pub invariant-loop-rest : goal.invariant-loop-rest
invariant-loop-rest l = is_some (read_on l.board l.rest) ≡ is_some (read_on l.board l.list)

abbrev pub decreases-loop-rest : goal.decreases-loop-rest
decreases-loop-rest l = length l.rest
