-- `labels_in`: the masks stand where the labels' definition reads them.
use Rattle.reader.proofs.Declares.{labels_stand}
use Rattle.reader.proofs.declared.labels_in.Goals as goal

pub returns : goal.returns
returns c = rw (c.mask_at.ensures, c.u16_at.ensures.0, c.mask_bytes.ensures.0, c.requires.1) (labels_stand c.requires.0)
