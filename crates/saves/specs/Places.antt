-- The eight places of lent memory in which states are saved, and the states that stand there.
use Rattle.std.specs.Prelude.{ℕ, zero, suc, ◌+◌, ◌*◌, ◌≤◌, ◌<◌, ◌≡◌, List, [], ◌∷◌, length, get_or, take, drop, ltb}
use Rattle.std.proofs.lemmas.List.Edits.{sets}
use Rattle.bytes_le.specs.Numbers.{le_at, from_words}
use Rattle.awhile.specs.Lists.{sum}
use Rattle.reader.specs.Index.{table_of, nodes_in}
use Rattle.machine.specs.Steps.{State}
use Rattle.stepping.specs.Actions.{CommandAt}
use Rattle.stepping.specs.Stepping.{Memory, pending_of}

-- the words of a place: a word for each variable and each cell, and N entries
unfoldable pub place_words : (table : List ℕ) → ℕ
place_words table = (table_of table).variables + (sum (table_of table).counts + nodes_in table)

-- the byte where place k begins
unfoldable pub place_at : (table : List ℕ) → (k : ℕ) → ℕ
place_at table k = 4 * (place_words table * k)

-- the byte where the pending entries of place k begin
unfoldable pub entries_at : (table : List ℕ) → (k : ℕ) → ℕ
entries_at table k = place_at table k + 4 * ((table_of table).variables + sum (table_of table).counts)

-- the state in place k, with so many entries pending; its flag is set where there is a save below it
unfoldable pub saved_at : (table saves : List ℕ) → (k height : ℕ) → State ℕ
saved_at table saves k h =
    record {
      pending = pending_of table (drop (entries_at table k) saves) h;
      variables = from_words (table_of table).variables (drop (place_at table k) saves);
      cells = from_words (sum (table_of table).counts) (drop (place_at table k + 4 * (table_of table).variables) saves);
      flag = ltb 0 k;
    }

-- the open saves, the newest first
unfoldable pub saves_of : (table saves heights : List ℕ) → (count : ℕ) → List (State ℕ)
saves_of table saves heights zero = []
saves_of table saves heights (suc k) = saved_at table saves k (get_or heights k 0) ∷ saves_of table saves heights k

-- what holds of the open places: their lists have at most N entries, each a command of the table
pub record PlacesHold (table saves heights : List ℕ) (count : ℕ) : Type 0 where
  pub few : (k : ℕ) → k < count → get_or heights k 0 ≤ nodes_in table
  pub entries : (k : ℕ) → k < count → (j : ℕ) → j < get_or heights k 0 → CommandAt table (le_at 4 saves (entries_at table k + 4 * j))

-- the variables, the cells and so many pending entries fit so many bytes from an offset on
abbrev pub StateFits : Memory → (height long at : ℕ) → Type 0
StateFits m h long at = (4 * h ≤ length m.pending) × (at + length m.variables + length m.cells + 4 * h ≤ long)

-- the slices of a machine after a state was copied back into them
pub record Restored (saves : List ℕ) (at height : ℕ) (variables cells pending variables' cells' pending' : List ℕ) : Type 0 where
  pub is_variables : variables' ≡ take (length variables) (drop at saves)
  pub is_cells : cells' ≡ take (length cells) (drop (at + length variables) saves)
  pub is_pending : pending' ≡ sets pending 0 (take (4 * height) (drop (at + length variables + length cells) saves))

abbrev pub RestoredTo : (saves : List ℕ) (at height : ℕ) → Memory → Memory → Type 0
RestoredTo saves at height m m' = Restored saves at height m.variables m.cells m.pending m'.variables m'.cells m'.pending
