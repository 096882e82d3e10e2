-- What bears a label, as the code names it.
use Rattle.std.specs.Prelude.{◌<◌}
use Rattle.labels.specs.Labellings.{Mark, variable_mark, array_mark}
use Rattle.analysis.specs.declared.labelling.Mark.{Mark as CodeMark}
use Rattle.analysis.specs.declared.labelling.Mark.TheVariants.{Variable, Array}

abbrev pub mark_of : CodeMark → Mark
mark_of (Variable x) = variable_mark x
mark_of (Array a) = array_mark a

-- the masks of a labelling have a digit for it: 64 variables, 16 arrays
abbrev pub HasDigit : CodeMark → Type 0
HasDigit (Variable x) = x < 64
HasDigit (Array a) = a < 16
