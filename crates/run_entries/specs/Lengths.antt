-- The lengths of the slices that are lent for a run, by a table's declarations and by the table itself.
use Rattle.std.specs.Prelude.{ℕ, ◌+◌, ◌*◌, ◌≤◌, Bool, true, cond, List, Result, Ok, Err, length, eqb, leb}
use Rattle.awhile.specs.Refusals.{Answer, refused, got, check, and_then}
use Rattle.awhile.specs.Tables.{Table, max_variables, max_cells, max_nodes}
use Rattle.awhile.specs.declared.Declarations.{Declarations}
use Rattle.awhile.specs.declared.Refusal.{Refusal}
use Rattle.awhile.specs.declared.Refusal.TheVariants.{WrongVariables, WrongCells, ShortPending, ShortSaves}
use Rattle.machine.specs.declared.Board.{Board}
use Rattle.machine.specs.declared.Board.TheVariants.{Plain, Guessing, Rolling}
use Rattle.entries.specs.Running.{Lent, lent_for}
use Rattle.entries.specs.Rolling.{save_size}
use Rattle.machine.specs.Runs.{max_saves}

-- a table's numbers are small
pub record Small (d : Declarations) : Type 0 where
  pub variables : d.header.variables ≤ max_variables
  pub cells : d.cells ≤ max_cells
  pub nodes : d.header.nodes ≤ max_nodes

-- only the board that rolls back wants save words
unfoldable pub enough_for : Board → (saves words : ℕ) → Bool
enough_for Plain saves words = true
enough_for Guessing saves words = true
enough_for Rolling saves words = leb (4 * max_saves * words) saves

unfoldable pub lengths_of : Declarations → Board → (variables cells pending saves : ℕ) → Result (Unit {0}) Refusal
lengths_of d board v c p s =
    cond (eqb v (4 * d.header.variables))
    (cond (eqb c (4 * d.cells))
    (cond (leb (4 * d.header.nodes) p)
    (cond (enough_for board s (d.header.variables + (d.cells + d.header.nodes))) (Ok tt)
    (Err ShortSaves))
    (Err ShortPending))
    (Err WrongCells))
    (Err WrongVariables)

-- 20 to 22 of the slices of every run, and 24 of the save words
unfoldable pub fit_for : Board → Lent → (saves : List ℕ) → Table → Answer Table
fit_for board lent saves t = and_then (lent_for lent t) (λ u. check (enough_for board (length saves) (save_size u)) ShortSaves (got u))

-- what the lengths answer for a table
abbrev pub answer_for : Table → Result (Unit {0}) Refusal → Answer Table
answer_for t (Ok u) = got t
answer_for t (Err r) = refused r
