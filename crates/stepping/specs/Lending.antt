-- That a call gives back the slices that it was lent.
use Rattle.std.specs.Prelude.{◌≡◌, length}
use Rattle.stepping.specs.declared.memory.Memory.{Memory}

-- the same slices are lent, each as long as it was, whatever stands in them
abbrev pub SameMemory : Memory → Memory → Type 0
SameMemory m m' =
    (m.variables.ghost_name ≡ m'.variables.ghost_name) × (m.cells.ghost_name ≡ m'.cells.ghost_name) × (m.pending.ghost_name ≡ m'.pending.ghost_name)
    × (length m'.variables.now ≡ length m.variables.now) × (length m'.cells.now ≡ length m.cells.now) × (length m'.pending.now ≡ length m.pending.now)
