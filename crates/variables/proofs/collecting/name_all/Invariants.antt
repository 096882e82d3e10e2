-- `name_all` notes the expressions of one node after the other.
use Rattle.variables.specs.Named.{NamedBelow}
use Rattle.variables.proofs.collecting.name_all.Given as goal

abbrev pub invariant-loop-n : goal.invariant-loop-n
invariant-loop-n l = NamedBelow l.table l.named l.n
