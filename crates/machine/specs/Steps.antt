-- One step of a machine under a directive (figure 7 of source 004, a load or a store as in its figure 15, what a force saves as in its
-- figure 16). The plain machine takes every step by the directive `Step`.
use Rattle.std.specs.Prelude.{ℕ, ◌+◌, Bool, true, cond, List, [], ◌∷◌, get_or, set, take, ltb}
use Rattle.std.proofs.Math.Option.{Option, none, some, map}
use Rattle.awhile.specs.Language.{Com}
use Rattle.awhile.specs.Lists.{sum}
use Rattle.machine.specs.declared.Directive.{Directive}
use Rattle.machine.specs.declared.Directive.TheVariants.{Step, Force, Load, Store, Rollback}

-- what a step starts from and leaves: the pending list, the variables, the cells array after array, and the machine's flag
pub record State (Note : Type 0) : Type 0 where
  pub pending : List (Com Note)
  pub variables : List ℕ
  pub cells : List ℕ
  pub flag : Bool

-- an array has a cell of this index; an array that is not declared has none
unfoldable pub inside : (counts : List ℕ) → (array index : ℕ) → Bool
inside counts a i = ltb i (get_or counts a 0)

-- where a cell stands: "cells (array after array by number)"
unfoldable pub cell_place : (counts : List ℕ) → (array index : ℕ) → ℕ
cell_place counts a i = sum (take a counts) + i

unfoldable pub only_if : {A : Type 0} → Bool → A → Option A
only_if b a = cond b (some a) none

-- the place of a cell, if it exists
unfoldable pub cell_at : (counts : List ℕ) → (array index : ℕ) → Option ℕ
cell_at counts a i = only_if (inside counts a i) (cell_place counts a i)

-- the cell that a redirected read or write uses. Figure 15 of source 004: in bounds the program's own, with the flag set or clear and
-- whatever the other one is. Out of bounds the other one, "only if the flag is set"; a cell that is named "must exist"
unfoldable pub cell_used : (counts : List ℕ) → (flag : Bool) → (array index : ℕ) → (other : Option ℕ) → Option ℕ
cell_used counts f a i other = cond (inside counts a i) (some (cell_place counts a i)) (cond f other none)

module _ {Note : Type 0} (s : State Note) where
  -- a silent step
  unfoldable pub quietly : List (Com Note) → List ℕ → State Note
  quietly rest vs = record { pending = rest; variables = vs; cells = s.cells; flag = s.flag }

  -- a branch goes on with one of its sides, with the flag as given
  unfoldable pub turned : List (Com Note) → (flag : Bool) → State Note
  turned rest f = record { pending = rest; variables = s.variables; cells = s.cells; flag = f }

  -- a read that takes the cell at a place among all cells
  unfoldable pub loaded : (variable place : ℕ) → List (Com Note) → State Note
  loaded x p rest =
      record { pending = rest; variables = set s.variables x (get_or s.cells p 0); cells = s.cells; flag = s.flag }

  -- a write to the cell at a place
  unfoldable pub stored : (place value : ℕ) → List (Com Note) → State Note
  stored p v rest = record { pending = rest; variables = s.variables; cells = set s.cells p v; flag = s.flag }

-- a shown step that is taken: the state after it, and what it gives to save, if anything
pub record Taken (Note : Type 0) : Type 0 where
  pub state : State Note
  pub kept : List (State Note)

-- a step that gives nothing to save
unfoldable pub onward : {Note : Type 0} → State Note → Taken Note
onward s = record { state = s; kept = [] }

module _ {Note : Type 0} (counts : List ℕ) (s : State Note) where
  -- a shown step under a directive, or none where index or directive does not fit.
  -- "73 force, at a branch, goes the other way and sets the flag", and "saves the state of the right side"; a load fits only at a read and
  -- a store only at a write, and each is used up by its step. A rollback fits no step of a program
  unfoldable pub at_fork : (value : Bool) → (on_true on_false : List (Com Note)) → Directive → Option (Taken Note)
  at_fork v on_true on_false Step = some (onward (turned s (cond v on_true on_false) s.flag))
  at_fork v on_true on_false Force =
      some (record { state = turned s (cond v on_false on_true) true; kept = turned s (cond v on_true on_false) s.flag ∷ [] })
  at_fork v on_true on_false (Load b j) = none
  at_fork v on_true on_false (Store b j) = none
  at_fork v on_true on_false Rollback = none

  unfoldable pub at_get : (variable array index : ℕ) → List (Com Note) → Directive → Option (Taken Note)
  at_get x a i rest Step = only_if (inside counts a i) (onward (loaded s x (cell_place counts a i) rest))
  at_get x a i rest Force = none
  at_get x a i rest (Load b j) = map (λ p. onward (loaded s x p rest)) (cell_used counts s.flag a i (cell_at counts b j))
  at_get x a i rest (Store b j) = none
  at_get x a i rest Rollback = none

  unfoldable pub at_put : (array index value : ℕ) → List (Com Note) → Directive → Option (Taken Note)
  at_put a i v rest Step = only_if (inside counts a i) (onward (stored s (cell_place counts a i) v rest))
  at_put a i v rest Force = none
  at_put a i v rest (Load b j) = none
  at_put a i v rest (Store b j) = map (λ p. onward (stored s p v rest)) (cell_used counts s.flag a i (cell_at counts b j))
  at_put a i v rest Rollback = none
