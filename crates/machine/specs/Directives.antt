-- Directives: "72 step; 73 force, at a branch, goes the other way and sets the flag; 74 load, at a read, and 75 store, at a write (array, index in
-- 4 bytes)", and "76 (no fields, length 4)", a rollback; and the reading of a list of them, refused by 10 where it is cut or holds a wrong kind or length.
use Rattle.std.specs.Prelude.{ℕ, zero, suc, Bool, true, false, cond, ◌&&◌, length, drop, eqb, leb}
use Rattle.std.proofs.Math.Option.{Option, none, some}
use mathlib.Core.List.{List, [], ◌∷◌, ◌++◌, flat_map}
use Rattle.bytes_le.specs.Numbers.{le, le_at}
use Rattle.machine.specs.declared.Directive.{Directive}
use Rattle.machine.specs.declared.Directive.TheVariants.{Step, Force, Load, Store, Rollback}

-- a directive's record
unfoldable pub directive_bytes : Directive → List ℕ
directive_bytes Step = le 2 4 ++ le 2 72
directive_bytes Force = le 2 4 ++ le 2 73
directive_bytes (Load a i) = le 2 10 ++ (le 2 74 ++ (le 2 a ++ le 4 i))
directive_bytes (Store a i) = le 2 10 ++ (le 2 75 ++ (le 2 a ++ le 4 i))
directive_bytes Rollback = le 2 4 ++ le 2 76

unfoldable pub directive_size : Directive → ℕ
directive_size Step = 4
directive_size Force = 4
directive_size (Load a i) = 10
directive_size (Store a i) = 10
directive_size Rollback = 4

unfoldable pub directive_of : (kind array index : ℕ) → Option Directive
directive_of kind a i =
    cond (eqb kind 72) (some Step)
    (cond (eqb kind 73) (some Force)
    (cond (eqb kind 74) (some (Load a i))
    (cond (eqb kind 75) (some (Store a i))
    (cond (eqb kind 76) (some Rollback)
    none))))

-- the directive whose record stands first in bytes, if its length is right and it is all there
unfoldable pub whole_directive : List ℕ → Directive → Option Directive
whole_directive s d = cond (eqb (le_at 2 s 0) (directive_size d) && leb (directive_size d) (length s)) (some d) none

unfoldable pub first_directive : List ℕ → Option Directive
first_directive s =
    elim (directive_of (le_at 2 s 2) (le_at 2 s 4) (le_at 4 s 6)) [
      | none ↦ none
      | some d ↦ whole_directive s d
    ]

unfoldable pub before : Directive → Option (List Directive) → Option (List Directive)
before d none = none
before d (some ds) = some (d ∷ ds)

-- the directives of a list's bytes, at most so many, or none where the list is refused
unfoldable pub directives_in : (most : ℕ) → List ℕ → Option (List Directive)
directives_in zero s = elim s [ [] ↦ some [] | b ∷ bs ↦ none ]
directives_in (suc most) s =
    elim s [
      | [] ↦ some []
      | b ∷ bs ↦
          elim (first_directive (b ∷ bs)) [
            | none ↦ none
            | some d ↦ before d (directives_in most (drop (directive_size d) (b ∷ bs)))
          ]
    ]

-- the list of a machine that rolls back. A record has at least one byte, so a list has no more directives than bytes
unfoldable pub read_rolling_directives : List ℕ → Option (List Directive)
read_rolling_directives s = directives_in (length s) s

unfoldable pub is_rollback : Directive → Bool
is_rollback Step = false
is_rollback Force = false
is_rollback (Load a i) = false
is_rollback (Store a i) = false
is_rollback Rollback = true

unfoldable pub has_rollback : List Directive → Bool
has_rollback [] = false
has_rollback (d ∷ ds) = cond (is_rollback d) true (has_rollback ds)

-- how many of a list are forces
unfoldable pub forces_in : List Directive → ℕ
forces_in [] = 0
forces_in (Step ∷ ds) = forces_in ds
forces_in (Force ∷ ds) = suc (forces_in ds)
forces_in (Load a i ∷ ds) = forces_in ds
forces_in (Store a i ∷ ds) = forces_in ds
forces_in (Rollback ∷ ds) = forces_in ds

unfoldable pub without_rollback : Option (List Directive) → Option (List Directive)
without_rollback none = none
without_rollback (some ds) = cond (has_rollback ds) none (some ds)

-- the list of the guessing machine: "The forward machine still refuses 76 by 10"
unfoldable pub read_directives : List ℕ → Option (List Directive)
read_directives s = without_rollback (read_rolling_directives s)

unfoldable pub directives_bytes : List Directive → List ℕ
directives_bytes ds = flat_map directive_bytes ds
