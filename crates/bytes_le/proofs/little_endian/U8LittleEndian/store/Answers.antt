-- A byte is its own lowest byte.
use native.Mathlib.Omega.{arith}
use Prim.Native.Nat.{◌%◌}
use mathlib.Core.Path.{◌≡◌}
use Rattle.bytes_le.specs.Numbers.{le}
use Rattle.bytes_le.proofs.little_endian.U8LittleEndian.store.Goals as goal

pub returns : goal.returns
unfolding le
returns c =
    let same : c.args.self % 256 ≡ c.args.self = omega (arith, c.ranges.self.fits) in
    rw same
