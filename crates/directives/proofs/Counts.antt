-- Where each array's cells begin.
use Prim.Native.Nat.{ℕ, zero, suc, ◌+◌, ◌≤◌, ◌<◌}
use native.Mathlib.Omega.{arith}
use mathlib.Core.Bool.{true}
use mathlib.Core.Path.{◌≡◌, refl}
use mathlib.Core.List.{List, [], ◌∷◌}
use lib.ListN.{get_or, take}
use borrow.Author.Tests.{ltb-true}
use Rattle.awhile.specs.Lists.{sum}
use Rattle.machine.specs.Steps.{inside, cell_place}

-- the next array begins where this one ends
pub starts_next : (counts : List ℕ) (a : ℕ) → sum (take (suc a) counts) ≡ sum (take a counts) + get_or counts a 0
unfolding sum
starts_next [] zero = refl
starts_next [] (suc a) = refl
starts_next (n ∷ ns) zero = omega arith
starts_next (n ∷ ns) (suc a) = let r = starts_next ns a in omega arith

-- no array begins behind the last cell
pub starts_within : (counts : List ℕ) (a : ℕ) → sum (take a counts) ≤ sum counts
unfolding sum
starts_within counts zero = omega arith
starts_within [] (suc a) = omega arith
starts_within (n ∷ ns) (suc a) = let r = starts_within ns a in omega arith

-- a cell that exists is one of the cells
pub cell_within : (counts : List ℕ) (a i : ℕ) → inside counts a i ≡ true → cell_place counts a i < sum counts
unfolding inside cell_place
cell_within counts a i h = omega (arith, ltb-true i (get_or counts a 0) h, starts_next counts a, starts_within counts (suc a))
