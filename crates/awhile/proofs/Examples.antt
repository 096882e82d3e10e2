-- Reading, computed on small tables.
use Prim.Native.Nat.{ℕ}
use mathlib.Core.Path.{◌≡◌, refl}
use mathlib.Core.List.{List, [], ◌∷◌}
use Rattle.awhile.specs.Refusals.{refused}
use Rattle.awhile.specs.Tables.{read_table}
use Rattle.awhile.specs.declared.Refusal.TheVariants.{OutOfRange}
use Rattle.awhile.proofs.Open.{opened}

-- an if whose condition, node 0, is a command (5) and whose last side, node 9, is not below it (4)
abbrev wrong_twice : List ℕ
wrong_twice =
    10 ∷ 0 ∷ 1 ∷ 0 ∷ 1 ∷ 0 ∷ 0 ∷ 0 ∷ 2 ∷ 0  -- header: version 1, V 0, A 0, N 2
    ∷ 10 ∷ 0 ∷ 3 ∷ 0 ∷ 0 ∷ 0 ∷ 0 ∷ 0 ∷ 0 ∷ 0  -- labels: variable mask 0, array mask 0
    ∷ 4 ∷ 0 ∷ 48 ∷ 0  -- 0: skip
    ∷ 10 ∷ 0 ∷ 51 ∷ 0 ∷ 0 ∷ 0 ∷ 0 ∷ 0 ∷ 9 ∷ 0  -- 1: if 0 0 9
    ∷ []

-- "Within it: 1 (head), 2, 1 (body), 3, 4, 5": 4 comes before 5, at the record's offset
pub range_before_sort : read_table wrong_twice ≡ refused (OutOfRange 24)
unfolding opened
range_before_sort = refl
