-- `decide_all` decides on one command after the other; the commands passed stay decided.
use Rattle.deciding.specs.Deciding.{DecidedBelow}
use Rattle.deciding.proofs.program.decide_all.Given as goal

abbrev pub invariant-loop-n : goal.invariant-loop-n
invariant-loop-n l = DecidedBelow l.labelled.expressions.table.now l.labelled.notes.now l.decisions l.n
