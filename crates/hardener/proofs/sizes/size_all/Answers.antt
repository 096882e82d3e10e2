-- `size_all` fills in the total of one node after the other.
use native.Mathlib.Omega.{arith}
use mathlib.Core.Path.{subst}
use Rattle.hardener.specs.Sizes.{SizesBelow}
use Rattle.hardener.proofs.PartSizes.{sizes_next, all_sized}
use Rattle.hardener.proofs.sizes.size_all.Goals as goal

pub loop-n-preserved : goal.loop-n-preserved
loop-n-preserved c = sizes_next c.loop-n.invariant (omega arith) c.node_size.ensures

pub returns : goal.returns
returns c =
    all_sized c.count-n-end.ensures.admitted
    (subst (SizesBelow c.args.table.now c.args.decisions.now c.loop-n.totals) (omega arith) c.loop-n.invariant)
