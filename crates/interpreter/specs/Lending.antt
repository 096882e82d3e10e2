-- What is lent for a run: the memory of its machine, and that a call gives back the slices that it was lent.
use Rattle.std.specs.Prelude.{◌≡◌, length}
use Rattle.stepping.specs.Stepping.{Memory, memory_at}
use Rattle.interpreter.specs.declared.lent.Lent.{Lent}

abbrev pub memory_lent : Lent → Memory
memory_lent l = memory_at l.variables.now l.cells.now l.pending.now

-- the same slices are lent, each as long as it was, whatever stands in them
abbrev pub SameLent : Lent → Lent → Type 0
SameLent l l' =
    (l.variables.ghost_name ≡ l'.variables.ghost_name) × (l.cells.ghost_name ≡ l'.cells.ghost_name) × (l.pending.ghost_name ≡ l'.pending.ghost_name)
    × (l.saves.ghost_name ≡ l'.saves.ghost_name) × (l.observations.ghost_name ≡ l'.observations.ghost_name)
    × (length l'.variables.now ≡ length l.variables.now) × (length l'.cells.now ≡ length l.cells.now) × (length l'.pending.now ≡ length l.pending.now)
    × (length l'.saves.now ≡ length l.saves.now) × (length l'.observations.now ≡ length l.observations.now)
