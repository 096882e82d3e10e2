-- `follow_single` sets the label that the command sets.
use Rattle.analysis.proofs.CommandCases.{unnamed_after, assign_after, read_after, write_after}
use mathlib.Core.Path.{ap, ◌∙◌}
use Rattle.labels.specs.Labellings.{variable_mark, array_mark, set_label}
use Rattle.analysis.proofs.commands.follow_single.Goals as goal

pub returns-in-Assign : goal.returns-in-Assign
returns-in-Assign c =
    assign_after c.in-Assign.is
    (c.set.ensures ∙ ap (set_label c.args.labels.now (variable_mark c.in-Assign.variable)) (rw c.new-entering.ensures at c.guarded-secret.ensures))

pub returns-in-Read : goal.returns-in-Read
returns-in-Read c =
    read_after c.in-Read.is
    (c.set-in-Read.ensures ∙ ap (set_label c.args.labels.now (variable_mark c.in-Read.variable)) (rw c.new-entering.ensures at c.read_label-secret.ensures))

pub returns-in-Write : goal.returns-in-Write
returns-in-Write c =
    write_after c.in-Write.is
    (c.set-in-Write.ensures ∙ ap (set_label c.args.labels.now (array_mark c.in-Write.array)) (rw c.new-entering.ensures at c.write_label-secret.ensures))

pub returns-in_default : goal.returns-in_default
returns-in_default c = let no = c.in_default in unnamed_after no.not-Assign no.not-Read no.not-Write
