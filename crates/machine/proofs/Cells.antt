-- Where cells stand: the cells of different arrays are apart.
use Prim.Native.Nat.{ℕ, zero, suc, ◌+◌, ◌<◌, ◌≤◌}
use native.Mathlib.Nat.{le_of_suc-le-suc}
use native.Mathlib.Omega.{arith}
use mathlib.Core.Bool.{true}
use mathlib.Core.List.{List, [], ◌∷◌}
use mathlib.Core.Path.{◌≡◌}
use lib.ListN.{get_or, take}
use borrow.Author.Tests.{ltb-true}
use Rattle.awhile.specs.Lists.{sum}
use Rattle.machine.specs.Steps.{inside, cell_place}

-- an array ends where a later one begins, or before
array_before : (counts : List ℕ) (a b : ℕ) → a < b → sum (take a counts) + get_or counts a 0 ≤ sum (take b counts)
unfolding sum
array_before [] zero (suc b) h = omega arith
array_before [] (suc a) (suc b) h = omega arith
array_before (n ∷ ns) zero (suc b) h = omega arith
array_before (n ∷ ns) (suc a) (suc b) h = let r = array_before ns a b (le_of_suc-le-suc h) in omega arith
array_before counts a zero h = absurd (omega arith)

module _ (counts : List ℕ) (a i b j : ℕ) where
  pub cells_apart : a < b → inside counts a i ≡ true → cell_place counts a i ≡ cell_place counts b j → ⊥
  unfolding inside cell_place
  cells_apart h p e = omega (arith, array_before counts a b h, ltb-true i (get_or counts a 0) p)
