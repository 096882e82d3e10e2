-- A number of one byte or more is whole where as many bytes are left.
use native.Mathlib.Omega.{arith}
use Rattle.bytes_le.proofs.get.number_at.Goals as goal

pub load-requires : goal.load-requires
load-requires g c = let h = g.met.T.LittleEndian.sizes in omega (arith, h.0)
