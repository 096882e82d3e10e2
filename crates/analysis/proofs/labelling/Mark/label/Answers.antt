-- A mark's label is a digit of its mask.
use Rattle.labels.specs.Labellings.{label_of}
use Rattle.analysis.proofs.labelling.Mark.label.Goals as goal

pub returns-in-Variable : goal.returns-in-Variable
unfolding label_of
returns-in-Variable c = rw c.in-Variable.is c.digit.ensures

pub returns-in-Array : goal.returns-in-Array
unfolding label_of
returns-in-Array c = rw (c.in-Array.is, ← c.from.ensures) c.digit-in-Array.ensures
