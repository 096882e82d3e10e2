-- A byte is the number of one byte.
use mathlib.Core.Path.{sym}
use Rattle.bytes_le.proofs.Loads.{le_at_one}
use Rattle.bytes_le.proofs.little_endian.U8LittleEndian.load.Goals as goal

pub returns : goal.returns
returns c = sym (le_at_one c.args.s.now c.args.at)
