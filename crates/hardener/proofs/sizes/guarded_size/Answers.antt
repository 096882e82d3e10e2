-- `guarded_size` adds up totals that are small.
use native.Mathlib.Omega.{arith}
use Rattle.copier.proofs.NodeTotals.{all_inside, sum_small}
use Rattle.hardener.proofs.PartSizes.{added_small}
use Rattle.hardener.proofs.sizes.guarded_size.Goals as goal

pub sum_of-requires : goal.sum_of-requires
sum_of-requires g c =
    let args = c.args in
    let each = c.requires.each.1 in (
      omega (arith, c.requires.few),
      (omega (arith, c.requires.few, sum_small args.totals.now args.parts each), all_inside args.totals.now args.parts each),
    )

pub overflow_add-test-2 : goal.overflow_add-test-2
overflow_add-test-2 g c =
    omega (
      arith,
      c.requires.few,
      c.requires.each.0.small,
      c.added.ensures,
      added_small c.args.condition.mask 262174,
      c.sum_of.ensures,
      sum_small c.args.totals.now c.args.parts c.requires.each.1,
    )

pub more-requires : goal.more-requires
more-requires g c =
    omega (
      arith,
      c.requires.few,
      c.requires.each.0.small,
      c.added.ensures,
      added_small c.args.condition.mask 262174,
      c.sum_of.ensures,
      sum_small c.args.totals.now c.args.parts c.requires.each.1,
    )
