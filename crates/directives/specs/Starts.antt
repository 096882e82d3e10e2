-- Where the cells of each array begin.
use Rattle.std.specs.Prelude.{ℕ, ◌≤◌, ◌≡◌, List, length, get_or, take}
use Rattle.awhile.specs.Lists.{sum}
use Rattle.awhile.specs.Tables.{max_arrays}

-- a list that says where each array's cells begin: entry a for array a, up to the end of the last array that there could be
pub record Starts (counts starts : List ℕ) : Type 0 where
  pub few : length counts ≤ max_arrays
  pub begins : (a : ℕ) → a ≤ max_arrays → get_or starts a 0 ≡ sum (take a counts)
