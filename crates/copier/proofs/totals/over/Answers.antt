-- `over` adds its own record to the totals of its parts. What it promises comes first, so that an edit is told by it.
use Prim.Native.Nat.{◌+◌, ◌*◌}
use native.Mathlib.Omega.{arith}
use Rattle.copier.proofs.NodeTotals.{all_inside, sum_small, total_over_each}
use Rattle.copier.proofs.totals.over.Goals as goal

pub returns : goal.returns
returns g c = total_over_each c.args.totals.now c.args.parts (4 + 2 * g.row.N) (omega arith) c.sum_of.ensures (omega (arith, c.more.ensures))

pub sum_of-requires : goal.sum_of-requires
sum_of-requires g c =
    let args = c.args in
    let each = c.requires.each in (
      omega (arith, c.requires.few),
      (omega (arith, c.requires.few, sum_small args.totals.now args.parts each), all_inside args.totals.now args.parts each),
    )

pub more-requires : goal.more-requires
more-requires g c = omega (arith, c.requires.few, c.sum_of.ensures, sum_small c.args.totals.now c.args.parts c.requires.each)
