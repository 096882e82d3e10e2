-- `save_right` saves the state with the right side put back, then puts back the wrong side.
use Rattle.interpreter.proofs.Changing.{height_above}
use native.Mathlib.Omega.{arith}
use Rattle.interpreter.proofs.saving.save_right.Goals as goal

pub height-high-requires : goal.height-high-requires
height-high-requires c = omega (arith, height_above c.args.forced.right c.args.rest, c.requires.high)
