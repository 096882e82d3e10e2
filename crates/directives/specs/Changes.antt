-- How many commands a change leaves pending.
use Rattle.std.specs.Prelude.{ℕ, ◌+◌}
use Rattle.directives.specs.declared.change.Back.TheVariants.{Nothing, One, Two}
use Rattle.directives.specs.declared.change.Change.{Change}
use Rattle.directives.specs.declared.change.Change.TheVariants.{PutBack, Assign, Store}

unfoldable pub height_of : Change → (rest : ℕ) → ℕ
height_of (PutBack Nothing) rest = rest
height_of (PutBack (One n)) rest = rest + 1
height_of (PutBack (Two m n)) rest = rest + 2
height_of (Assign x v) rest = rest
height_of (Store p v) rest = rest
