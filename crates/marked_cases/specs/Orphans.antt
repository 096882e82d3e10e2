-- P1. "A supplier sent a table with eleven orphaned nodes and we gave him the last."
use Rattle.std.specs.Prelude.{ℕ, refl, List, [], ◌∷◌}
use Rattle.entries.proofs.Open.{opened}
use Rattle.marked_cases.specs.Claims.{AllRefuse}

-- the root has its two parts; nodes 1 to 11 between them are no one's children
abbrev pub eleven_orphans : List ℕ
eleven_orphans =
    10 ∷ 0 ∷ 1 ∷ 0 ∷ 1 ∷ 0 ∷ 0 ∷ 0 ∷ 14 ∷ 0  -- header: version 1, V 0, A 0, N 14
    ∷ 10 ∷ 0 ∷ 3 ∷ 0 ∷ 0 ∷ 0 ∷ 0 ∷ 0 ∷ 0 ∷ 0  -- labels: variable mask 0, array mask 0
    ∷ 4 ∷ 0 ∷ 48 ∷ 0  -- 0: skip, at 20
    ∷ 8 ∷ 0 ∷ 16 ∷ 0 ∷ 5 ∷ 0 ∷ 0 ∷ 0  -- 1: number 5, at 24
    ∷ 8 ∷ 0 ∷ 16 ∷ 0 ∷ 5 ∷ 0 ∷ 0 ∷ 0  -- 2: number 5, at 32
    ∷ 8 ∷ 0 ∷ 16 ∷ 0 ∷ 5 ∷ 0 ∷ 0 ∷ 0  -- 3: number 5, at 40
    ∷ 8 ∷ 0 ∷ 16 ∷ 0 ∷ 5 ∷ 0 ∷ 0 ∷ 0  -- 4: number 5, at 48
    ∷ 8 ∷ 0 ∷ 16 ∷ 0 ∷ 5 ∷ 0 ∷ 0 ∷ 0  -- 5: number 5, at 56
    ∷ 8 ∷ 0 ∷ 16 ∷ 0 ∷ 5 ∷ 0 ∷ 0 ∷ 0  -- 6: number 5, at 64
    ∷ 8 ∷ 0 ∷ 16 ∷ 0 ∷ 5 ∷ 0 ∷ 0 ∷ 0  -- 7: number 5, at 72
    ∷ 8 ∷ 0 ∷ 16 ∷ 0 ∷ 5 ∷ 0 ∷ 0 ∷ 0  -- 8: number 5, at 80
    ∷ 8 ∷ 0 ∷ 16 ∷ 0 ∷ 5 ∷ 0 ∷ 0 ∷ 0  -- 9: number 5, at 88
    ∷ 8 ∷ 0 ∷ 16 ∷ 0 ∷ 5 ∷ 0 ∷ 0 ∷ 0  -- 10: number 5, at 96
    ∷ 8 ∷ 0 ∷ 16 ∷ 0 ∷ 5 ∷ 0 ∷ 0 ∷ 0  -- 11: number 5, at 104
    ∷ 4 ∷ 0 ∷ 48 ∷ 0  -- 12: skip, at 112
    ∷ 8 ∷ 0 ∷ 50 ∷ 0 ∷ 0 ∷ 0 ∷ 12 ∷ 0  -- 13: sequence 0 12, at 116
    ∷ []

-- every entry refuses it by 6 at the record of node 1, the lowest-numbered orphan
pub first_of_eleven : AllRefuse eleven_orphans 6 24
unfolding opened
first_of_eleven = (
  λ buffer answer. refl,
  λ questions buffer answer. refl,
  λ buffer answer. refl,
  λ lent budget answer. refl,
  λ directives lent budget answer. refl,
  λ directives lent saves budget answer. refl,
)
