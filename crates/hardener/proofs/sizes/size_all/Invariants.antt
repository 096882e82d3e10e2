-- The totals of the nodes that are done.
use Rattle.hardener.specs.Sizes.{SizesBelow}
use Rattle.hardener.proofs.sizes.size_all.Given as goal

abbrev pub invariant-loop-n : goal.invariant-loop-n
invariant-loop-n l = SizesBelow l.table l.decisions l.totals l.n
