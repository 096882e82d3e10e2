-- The lengths of the lent slices, as the code tests them, are those that the entries ask for.
use Prim.Native.Nat.{ℕ, ◌+◌, ◌*◌, ◌≤◌}
use mathlib.Core.Bool.{Bool, true, false, cond}
use mathlib.Core.List.{List}
use mathlib.Core.Path.{◌≡◌, refl}
use lib.ListN.{length}
use lib.Dec.{eqb, leb}
use borrow.Author.Tests.{eqb-true, leb-true}
use Rattle.awhile.specs.Lists.{sum}
use Rattle.awhile.specs.Refusals.{got, check, and_then}
use Rattle.awhile.specs.Tables.{Table}
use Rattle.awhile.specs.declared.Declarations.{Declarations}
use Rattle.awhile.specs.declared.Refusal.TheVariants.{WrongVariables, WrongCells, ShortPending, ShortSaves}
use Rattle.reader.specs.Index.{Ready, table_of, nodes_in}
use Rattle.reader.proofs.Ready.{ready_variables, ready_nodes, ready_cells}
use Rattle.machine.specs.declared.Board.{Board}
use Rattle.machine.specs.declared.Board.TheVariants.{Rolling}
use Rattle.entries.specs.Running.{Lent, lent_for}
use Rattle.entries.specs.Rolling.{save_size}
use Rattle.run_entries.specs.Lengths.{enough_for, lengths_of, fit_for, answer_for}
use Rattle.std.specs.Prelude.{Ok, Err}

-- ---- the tests
pub enough_rolling : (b : Board) (saves words : ℕ) → b ≡ Rolling → leb (32 * words) saves ≡ enough_for b saves words
unfolding enough_for
enough_rolling b saves words is = rw (is, enough_for)

module _ (d : Declarations) (board : Board) (v c p s : ℕ) where
  abbrev words : ℕ
  words = d.header.variables + (d.cells + d.header.nodes)

  -- what right lengths are
  pub record RightLengths : Type 0 where
    pub variables : v ≡ 4 * d.header.variables
    pub cells : c ≡ 4 * d.cells
    pub pending : 4 * d.header.nodes ≤ p
    pub saves : enough_for board s words ≡ true

  pub right_lengths : lengths_of d board v c p s ≡ Ok (tt {0}) → RightLengths
  unfolding lengths_of
  right_lengths is =
      go (eqb v (4 * d.header.variables)) (eqb c (4 * d.cells)) (leb (4 * d.header.nodes) p) (enough_for board s words) refl refl refl refl is
    where
      go : (a b e f : Bool) → eqb v (4 * d.header.variables) ≡ a → eqb c (4 * d.cells) ≡ b → leb (4 * d.header.nodes) p ≡ e → enough_for board s words ≡ f
          → cond a (cond b (cond e (cond f (Ok (tt {0})) (Err ShortSaves)) (Err ShortPending)) (Err WrongCells)) (Err WrongVariables) ≡ Ok (tt {0}) → RightLengths
      go true true true true h i j k q = record { variables = eqb-true _ _ h; cells = eqb-true _ _ i; pending = leb-true _ _ j; saves = k }
      go true true true false h i j k q = absurd (cc)
      go true true false f h i j k q = absurd (cc)
      go true false e f h i j k q = absurd (cc)
      go false b e f h i j k q = absurd (cc)

-- ---- what they answer for a table that was read
module _ (table index : List ℕ) (declared : Declarations) (ready : Ready table index declared) (board : Board) (lent : Lent) (ss : List ℕ) where
  abbrev t : Table
  t = table_of table

  pub lengths_answer : fit_for board lent ss t
      ≡ answer_for t (lengths_of declared board (length lent.variables) (length lent.cells) (length lent.pending) (length ss))
  unfolding fit_for lent_for lengths_of save_size nodes_in check and_then
  lengths_answer =
      rw (ready_variables ready, ready_cells ready, ready_nodes ready)
      (go (eqb (length lent.variables) (4 * t.variables)) (eqb (length lent.cells) (4 * sum t.counts)) (leb (4 * length t.nodes) (length lent.pending))
      (enough_for board (length ss) (save_size t)) refl)
    where
      go : (a b e f : Bool) → enough_for board (length ss) (save_size t) ≡ f
          → and_then (check a WrongVariables (check b WrongCells (check e ShortPending (got t)))) (λ u. check (enough_for board (length ss) (save_size u)) ShortSaves (got u))
          ≡ answer_for t (cond a (cond b (cond e (cond f (Ok (tt {0})) (Err ShortSaves)) (Err ShortPending)) (Err WrongCells)) (Err WrongVariables))
      go true true true true h = rw h
      go true true true false h = rw h
      go true true false f h = refl
      go true false e f h = refl
      go false b e f h = refl
