-- `find_broken`: at every turn the nodes passed are children exactly once.
use Rattle.record.proofs.Searching.{UsedOnce}
use Rattle.record.proofs.uses.find_broken.Given as goal

abbrev pub invariant-loop-n : goal.invariant-loop-n
invariant-loop-n l = UsedOnce l.uses l.nodes l.root l.n
