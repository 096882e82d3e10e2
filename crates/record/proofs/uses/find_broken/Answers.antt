-- `find_broken`: where all others are children exactly once, the last node decides by its sort.
use native.Mathlib.Omega.{arith}
use mathlib.Core.Path.{refl}
use Rattle.record.proofs.Searching.{last_decides}
use Rattle.record.proofs.uses.find_broken.Goals as goal

pub returns : goal.returns
returns c = rw (c.then_some.ensures, c.ne.ensures) (last_decides _ _ _ _ c.loop-n.invariant (omega (arith, c.loop-n-test.false)) _ refl)
