-- std reads the number of two bytes.
use mathlib.Core.Path.{ap, ◌∙◌}
use Rattle.std.specs.Int.{w16, from_le_bytes}
use Rattle.bytes_le.proofs.StdNumbers.{number_two}
use Rattle.bytes_le.proofs.little_endian.U16LittleEndian.load.Goals as goal

pub returns : goal.returns
returns c = c.from_le_bytes.ensures ∙ ap (from_le_bytes w16) c.bytes_at.ensures ∙ number_two c.args.s.now c.args.at
