-- `u16_at` is the sum of two bytes, the second 0 where the slice ends before it.
use Prim.Native.Nat.{◌+◌}
use native.Mathlib.Omega.{arith}
use lib.ListN.{get_or-eq_default}
use Rattle.bytes_le.proofs.Loads.{le_at_one, le_at_two}
use Rattle.bytes_le.proofs.get.u16_at.Goals as goal

pub returns-then-bytes_from-ge2 : goal.returns-then-bytes_from-ge2
returns-then-bytes_from-ge2 c = c.whole_u16.ensures

pub returns : goal.returns
returns c =
    let s = c.args.s.now in
    let at = c.args.at in
    omega (arith, le_at_one s at, le_at_two s at, get_or-eq_default s 0 {n = at + 1} (omega arith), c.byte_at.ensures)
