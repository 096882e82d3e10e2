-- `mask_fits` shifts the mask by the width, in two parts.
use Prim.Native.Nat.{◌/◌}
use Rattle.record.proofs.Declaring.{shifted_twice}
use native.Mathlib.Omega.{arith}
use Rattle.record.proofs.mask.mask_fits.Goals as goal

pub returns : goal.returns
returns c = shifted_twice c.args.mask c.args.width (c.args.width / 2) (omega arith)
