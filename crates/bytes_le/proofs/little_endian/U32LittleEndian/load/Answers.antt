-- std reads the number of four bytes.
use mathlib.Core.Path.{ap, ◌∙◌}
use Rattle.std.specs.Int.{w32, from_le_bytes}
use Rattle.bytes_le.proofs.StdNumbers.{number_four}
use Rattle.bytes_le.proofs.little_endian.U32LittleEndian.load.Goals as goal

pub returns : goal.returns
returns c = c.from_le_bytes.ensures ∙ ap (from_le_bytes w32) c.bytes_at.ensures ∙ number_four c.args.s.now c.args.at
