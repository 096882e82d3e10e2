-- std writes a number's four bytes.
use mathlib.Core.Path.{ap, ◌∙◌}
use lib.Seq.{sets}
use Rattle.bytes_le.proofs.StdNumbers.{low_bytes}
use Rattle.bytes_le.proofs.little_endian.U32LittleEndian.store.Goals as goal

pub returns : goal.returns
returns c = let d = c.args in c.put_bytes.ensures ∙ ap (sets d.out.now d.at) (c.to_le_bytes.ensures ∙ low_bytes 4 d.self)
