-- "no bytes: 1 at 0"; "V 31 hardens, 32 is 9", which "becomes 63 and 64"
use Rattle.std.specs.Prelude.{ℕ, refl, List, [], ◌∷◌}
use Rattle.entries.specs.Writing.{harden_entry}
use Rattle.entries.proofs.Open.{opened}
use Rattle.marked_cases.specs.Claims.{HardensTo, Refuses, AllRefuse, written}

-- P: no bytes are refused by 1 at 0, by each entry; all lent memory is unchanged
pub no_bytes : AllRefuse [] 1 0
unfolding opened
no_bytes = (
  λ buffer answer. refl,
  λ questions buffer answer. refl,
  λ buffer answer. refl,
  λ lent budget answer. refl,
  λ directives lent budget answer. refl,
  λ directives lent saves budget answer. refl,
)

-- `skip` with so many variables, as a table of version 1 and of version 2
abbrev pub skip_one : ℕ → List ℕ
skip_one v =
    10 ∷ 0 ∷ 1 ∷ 0 ∷ 1 ∷ 0 ∷ v ∷ 0 ∷ 1 ∷ 0  -- header: version 1, V, A 0, N 1
    ∷ 10 ∷ 0 ∷ 3 ∷ 0 ∷ 0 ∷ 0 ∷ 0 ∷ 0 ∷ 0 ∷ 0  -- labels: variable mask 0 in 4 bytes, array mask 0
    ∷ 4 ∷ 0 ∷ 48 ∷ 0  -- 0: skip
    ∷ []

abbrev pub skip_two : ℕ → List ℕ
skip_two v =
    10 ∷ 0 ∷ 1 ∷ 0 ∷ 2 ∷ 0 ∷ v ∷ 0 ∷ 1 ∷ 0  -- header: version 2, V, A 0, N 1
    ∷ 14 ∷ 0 ∷ 3 ∷ 0 ∷ 0 ∷ 0 ∷ 0 ∷ 0 ∷ 0 ∷ 0 ∷ 0 ∷ 0 ∷ 0 ∷ 0  -- labels: variable mask 0 in 8 bytes, array mask 0
    ∷ 4 ∷ 0 ∷ 48 ∷ 0  -- 0: skip
    ∷ []

-- P: V 63 hardens, 64 is 9
pub no_free_variable : HardensTo (skip_two 63) (skip_two 64) × Refuses harden_entry (skip_two 64) 9 0
unfolding opened
no_free_variable = (written (skip_two 64), λ buffer answer. refl)
