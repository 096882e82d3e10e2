-- The measures, and what stands between two of a loop's passes.
use Rattle.std.proofs.Common.{◌+◌, ◌*◌}
use Rattle.reader.specs.Index.{truth_in, command_in}
use Rattle.labels.specs.Rules.{public_among, declared_marks}
use Rattle.analysis.proofs.Settling.{Passing}
use Rattle.analysis.proofs.commands.+commands.Given as goal

abbrev pub decreases-analyse : goal.decreases-analyse
decreases-analyse l = 3 * l.n + 2

abbrev pub decreases-analyse_if : goal.decreases-analyse_if
decreases-analyse_if l = 3 * l.n + 1

abbrev pub decreases-analyse_loop : goal.decreases-analyse_loop
decreases-analyse_loop l = 3 * l.n + 1

abbrev pub decreases-analyse_sequence : goal.decreases-analyse_sequence
decreases-analyse_sequence l = 3 * l.n + 1

abbrev pub decreases-settle : goal.decreases-settle
decreases-settle l = 3 * l.body + 3

abbrev pub invariant-settle-loop-next : goal.invariant-settle-loop-next
invariant-settle-loop-next l =
    Passing (truth_in l.expressions.table.now l.condition) (command_in l.expressions.table.now l.body) l.context l.initial.masks l.initial.notes l.masks l.notes

abbrev pub decreases-settle-loop-next : goal.decreases-settle-loop-next
decreases-settle-loop-next l = public_among (declared_marks 64 16) l.masks
