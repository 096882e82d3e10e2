-- `is_command` compares the node's sort.
use mathlib.Core.Path.{◌∙◌}
use Rattle.record.proofs.Sorting.{sorts_equal}
use Rattle.reader.proofs.lookup.is_command.Goals as goal

pub returns : goal.returns
returns c = rw (← c.sort_of.ensures) (c.eq.ensures ∙ sorts_equal _ _)
