-- What the code answers of a directive list, as the definitions have it.
use Rattle.std.specs.Prelude.{ℕ, Bool, true, false, cond, ◌&&◌, List, eqb, leb, None, Some}
use Rattle.std.specs.Prelude.{Option as Found}
use Rattle.std.proofs.Math.Option.{Option, none, some}
use Rattle.machine.specs.Directives.{directive_size, read_rolling_directives, is_rollback, without_rollback}
use Rattle.machine.specs.declared.Board.{Board}
use Rattle.machine.specs.declared.Board.TheVariants.{Plain, Guessing, Rolling}
use Rattle.machine.specs.declared.Directive.{Directive}

-- what the definitions find, if anything, as the code has it
abbrev pub found : {A : Type 0} → Option A → Found A
found none = None
found (some a) = Some a

-- a directive whose record gives a length, where so many bytes are left
unfoldable pub whole_if : Directive → (given left : ℕ) → Option Directive
whole_if d given left = cond (eqb given (directive_size d) && leb (directive_size d) left) (some d) none

unfoldable pub is_some : {A : Type 0} → Option A → Bool
is_some none = false
is_some (some a) = true

-- only the rolling board takes a rollback
unfoldable pub takes_on : Board → Directive → Bool
takes_on Plain d = cond (is_rollback d) false true
takes_on Guessing d = cond (is_rollback d) false true
takes_on Rolling d = true

unfoldable pub taken_on : Board → Option (List Directive) → Option (List Directive)
taken_on Plain ds = without_rollback ds
taken_on Guessing ds = without_rollback ds
taken_on Rolling ds = ds

-- the list of a board, none where it is refused
unfoldable pub read_on : Board → List ℕ → Option (List Directive)
read_on board s = taken_on board (read_rolling_directives s)
