-- std reads the number of eight bytes.
use mathlib.Core.Path.{ap, ◌∙◌}
use Rattle.std.specs.Int.{w64, from_le_bytes}
use Rattle.bytes_le.proofs.StdNumbers.{number_eight}
use Rattle.bytes_le.proofs.little_endian.U64LittleEndian.load.Goals as goal

pub returns : goal.returns
returns c = c.from_le_bytes.ensures ∙ ap (from_le_bytes w64) c.bytes_at.ensures ∙ number_eight c.args.s.now c.args.at
