-- The eight places at the end of a run: what is kept of each, and zeros for the rest.
use Rattle.std.specs.Prelude.{ℕ, zero, suc, ◌+◌, ◌*◌, ◌-◌, ◌≤◌, ◌<◌, cond, List, length, get_or, replicate, ltb}
use Rattle.std.proofs.lemmas.List.Edits.{sets}
use Rattle.bytes_le.specs.Numbers.{words}
use Rattle.machine.specs.Runs.{max_saves}

-- the words of place k that are kept: those before its entries and its entries where it is open, else none
unfoldable pub kept_words : (heights : List ℕ) → (count before k : ℕ) → ℕ
kept_words heights count before k = cond (ltb k count) (before + get_or heights k 0) 0

-- the slice with what is not kept of its first so many places set to 0; a place has before + nodes words
unfoldable pub left_places : (heights : List ℕ) → (count before nodes places : ℕ) → (saves : List ℕ) → List ℕ
left_places heights count before nodes zero saves = saves
left_places heights count before nodes (suc k) saves =
    sets (left_places heights count before nodes k saves) (4 * ((before + nodes) * k + kept_words heights count before k))
    (words (replicate (before + nodes - kept_words heights count before k) 0))

-- eight places stand in the slice, and the open ones have no more entries than nodes
pub record LeaveFits (saves heights : List ℕ) (count before nodes : ℕ) : Type 0 where
  pub within : 4 * max_saves * (before + nodes) ≤ length saves
  pub few : (k : ℕ) → k < count → get_or heights k 0 ≤ nodes
