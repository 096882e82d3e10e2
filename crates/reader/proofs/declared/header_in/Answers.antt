-- `header_in`: the fields stand where the header's definition reads them.
use Rattle.reader.proofs.Declares.{header_stands}
use Rattle.reader.proofs.declared.header_in.Goals as goal

pub returns : goal.returns
returns c = rw (c.u16_at.ensures.0, c.byte_at.ensures.0, c.byte_at-2.ensures.0, c.u16_at-2.ensures.0) (header_stands c.requires)
