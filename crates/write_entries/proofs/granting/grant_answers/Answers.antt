-- `grant_answers` refuses a list that is not answered.
use mathlib.Core.Path.{sym, ◌∙◌}
use Rattle.write_entries.proofs.Jobs.{list_granted, list_refused}
use Rattle.write_entries.proofs.granting.grant_answers.Goals as goal

pub returns-then-not-answerable : goal.returns-then-not-answerable
returns-then-not-answerable c = list_refused _ _ (sym c.answerable.ensures ∙ c.if-not-answerable.true)

pub returns : goal.returns
returns c = list_granted _ _ (sym c.answerable.ensures ∙ c.if-not-answerable.false)
