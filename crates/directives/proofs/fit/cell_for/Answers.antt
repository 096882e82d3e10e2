-- `cell_for` uses the cell asked for only where the own one is missing and the flag is set.
use Rattle.std.proofs.Common.{◌∙◌}
use Rattle.directives.specs.Fitting.{cell_for}
use Rattle.directives.proofs.CellPlaces.{used_guessing, used_clear}
use Rattle.directives.proofs.fit.cell_for.Goals as goal

pub returns-then-flag : goal.returns-then-flag
unfolding cell_for
returns-then-flag c = rw (c.if-flag.true, ← used_guessing, ← c.cell_at-place.ensures, ← c.cell_at.ensures) c.or.ensures

pub returns-else-flag : goal.returns-else-flag
unfolding cell_for
returns-else-flag c = rw c.if-flag.false (c.cell_at-place.ensures ∙ used_clear _ _ _ _)
