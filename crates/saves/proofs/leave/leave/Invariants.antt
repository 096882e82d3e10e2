-- `leave`: at every turn the places passed so far are cleared, and the others as they were.
use mathlib.Core.Path.{◌≡◌}
use Rattle.saves.specs.Leaving.{left_places}
use Rattle.saves.proofs.leave.leave.Given as goal

abbrev pub invariant-loop-k : goal.invariant-loop-k
invariant-loop-k l = l.saves ≡ left_places l.heights l.count l.before l.nodes l.k l.initial.saves
