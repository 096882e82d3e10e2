-- A state saved in a place: it is the newest save, and the saves below it are as they were.
use Prim.Native.Nat.{ℕ, suc, ◌+◌, ◌*◌, ◌≤◌, ◌<◌}
use native.Mathlib.Nat.{eq-or-lt_of_le}
use native.Mathlib.Omega.{arith}
use mathlib.Core.Path.{◌≡◌, sym, ap, ◌∙◌}
use mathlib.Core.Logic.{◌⊎◌, inl, inr}
use mathlib.Core.List.{List, ◌∷◌, ◌++◌}
use lib.ListN.{length, get_or, set, take, drop, length-append}
use lib.Seq.{sets, length-sets, length-take-le, get_or-set_same, get_or-set_other}
use lib.Dec.{ltb}
use Rattle.bytes_le.specs.Numbers.{le_at, from_words}
use Rattle.bytes_le.proofs.Words.{from_words-take}
use Rattle.bytes_le.proofs.Copies.{drop-sets, take-sets}
use Rattle.awhile.specs.Lists.{sum}
use Rattle.reader.specs.Index.{table_of, nodes_in}
use Rattle.machine.specs.Steps.{State}
use Rattle.stepping.specs.Actions.{CommandAt}
use Rattle.stepping.specs.Stepping.{pending_of}
use Rattle.directives.proofs.DirectiveLists.{le_at-drop}
use Rattle.saves.specs.Places.{place_words, place_at, entries_at, saved_at, saves_of, PlacesHold}
use Rattle.saves.proofs.Parts.{first_there, second_there, third_there}
use Rattle.saves.proofs.Pending.{le_at-take, pending_take}
use Rattle.saves.proofs.Places.{entries_begin, place_size, place_end, saves_same, hold_same}

-- a state that can be saved in place k: the slices are as long as the table asks
pub record Savable (table variables cells pending saves heights : List ℕ) (k height : ℕ) : Type 0 where
  pub variables_long : length variables ≡ 4 * (table_of table).variables
  pub cells_long : length cells ≡ 4 * sum (table_of table).counts
  pub pending_long : 4 * nodes_in table ≤ length pending
  pub saves_long : 32 * place_words table ≤ length saves
  pub eight : length heights ≡ 8
  pub free : k < 8
  pub few : height ≤ nodes_in table

module _ {table vs cs ps saves heights : List ℕ} {k h : ℕ} (can : Savable table vs cs ps saves heights k h) where
  -- the bytes of the state
  abbrev parts : List ℕ
  parts = vs ++ (cs ++ take (4 * h) ps)

  length_entries : length (take (4 * h) ps) ≡ 4 * h
  length_entries = length-take-le (4 * h) ps (omega (arith, can.few, can.pending_long))

  length_parts : length parts ≡ length vs + (length cs + 4 * h)
  length_parts = simp (length-append, length_entries)

  -- they end where the place ends, or before
  parts_end : place_at table k + length parts ≤ place_at table (suc k)
  parts_end = omega (arith, length_parts, can.variables_long, can.cells_long, can.few, entries_begin table k, place_size table k)

  place_inside : place_at table (suc k) ≤ 32 * place_words table
  place_inside = place_end table k can.free

  -- so they fit the slice
  pub saved_within : (4 * h ≤ length ps) × (place_at table k + length vs + length cs + 4 * h ≤ length saves)
  saved_within =
      let long = can.saves_long in
      let end = parts_end in
      let inside = place_inside in
      (omega (arith, can.few, can.pending_long), omega (arith, length_parts))

  module _ (saves' heights' : List ℕ) (is_saves : saves' ≡ sets saves (place_at table k) (vs ++ (cs ++ take (4 * h) ps))) (is_heights : heights' ≡ set heights k h) where
    -- the slice is as long, and nothing changes beyond the places
    pub saved_long : length saves' ≡ length saves
    saved_long = rw is_saves (length-sets saves (place_at table k) parts)

    pub saved_beyond : drop (32 * place_words table) saves' ≡ drop (32 * place_words table) saves
    saved_beyond = rw is_saves (drop-sets parts saves (place_at table k) (32 * place_words table) (omega (arith, parts_end, place_inside)))

    -- the places below are as they were
    below_same : take (place_at table k) saves ≡ take (place_at table k) saves'
    below_same = rw is_saves (sym (take-sets parts saves (place_at table k) (place_at table k) (omega arith)))

    heights_same : (j : ℕ) → j < k → get_or heights j 0 ≡ get_or heights' j 0
    heights_same j less = rw is_heights (sym (get_or-set_other heights k j h 0 (λ e. omega arith)))

    height_there : get_or heights' k 0 ≡ h
    height_there = rw is_heights (get_or-set_same heights k h 0 (omega (arith, can.eight, can.free)))

    -- the three parts are read from the place
    inside_slice : place_at table k + length parts ≤ length saves
    inside_slice = omega (arith, parts_end, place_inside, can.saves_long)

    variables_there : take (4 * (table_of table).variables) (drop (place_at table k) saves') ≡ vs
    variables_there =
        ap (λ n. take n (drop (place_at table k) saves')) (sym can.variables_long)
        ∙ ap (λ s. take (length vs) (drop (place_at table k) s)) is_saves
        ∙ first_there vs cs (take (4 * h) ps) saves (place_at table k) inside_slice

    cells_there : take (4 * sum (table_of table).counts) (drop (place_at table k + 4 * (table_of table).variables) saves') ≡ cs
    cells_there =
        ap (λ n. take n (drop (place_at table k + 4 * (table_of table).variables) saves')) (sym can.cells_long)
        ∙ ap (λ n. take (length cs) (drop (place_at table k + n) saves')) (sym can.variables_long)
        ∙ ap (λ s. take (length cs) (drop (place_at table k + length vs) s)) is_saves
        ∙ second_there vs cs (take (4 * h) ps) saves (place_at table k) inside_slice

    entries_there : take (4 * h) (drop (entries_at table k) saves') ≡ take (4 * h) ps
    entries_there =
        let begin : entries_at table k ≡ place_at table k + length vs + length cs = omega (arith, entries_begin table k, can.variables_long, can.cells_long) in
        ap (λ n. take n (drop (entries_at table k) saves')) (sym length_entries)
        ∙ ap (λ n. take (length (take (4 * h) ps)) (drop n saves')) begin
        ∙ ap (λ s. take (length (take (4 * h) ps)) (drop (place_at table k + length vs + length cs) s)) is_saves
        ∙ third_there vs cs (take (4 * h) ps) saves (place_at table k) inside_slice

    words_there : (count : ℕ) (bs there : List ℕ) → take (4 * count) there ≡ bs → from_words count there ≡ from_words count bs
    words_there count bs there is = sym (from_words-take count there) ∙ ap (from_words count) is

    pending_there : pending_of table (drop (entries_at table k) saves') h ≡ pending_of table ps h
    pending_there =
        sym (pending_take table (drop (entries_at table k) saves') (4 * h) h (omega arith))
        ∙ ap (λ l. pending_of table l h) entries_there
        ∙ pending_take table ps (4 * h) h (omega arith)

    entry_there : (j : ℕ) → j < h → le_at 4 saves' (entries_at table k + 4 * j) ≡ le_at 4 ps (4 * j)
    entry_there j less =
        sym (le_at-drop 4 saves' (entries_at table k) (4 * j))
        ∙ sym (le_at-take 4 (4 * h) (drop (entries_at table k) saves') (4 * j) (omega arith))
        ∙ ap (λ l. le_at 4 l (4 * j)) entries_there
        ∙ le_at-take 4 (4 * h) ps (4 * j) (omega arith)

    -- the state is the newest save
    abbrev newest : State ℕ
    newest = record { pending = pending_of table ps h; variables = from_words (table_of table).variables vs; cells = from_words (sum (table_of table).counts) cs; flag = ltb 0 k }

    state_there : saved_at table saves' k h ≡ newest
    unfolding saved_at
    state_there =
        let variables = words_there (table_of table).variables vs (drop (place_at table k) saves') variables_there in
        let cells = words_there (sum (table_of table).counts) cs (drop (place_at table k + 4 * (table_of table).variables) saves') cells_there in
        λ i. record { pending = pending_there i; variables = variables i; cells = cells i; flag = ltb 0 k }

    pub saved_state : PlacesHold table saves heights k
        → saves_of table saves' heights' (suc k)
        ≡ record { pending = pending_of table ps h; variables = from_words (table_of table).variables vs; cells = from_words (sum (table_of table).counts) cs; flag = ltb 0 k }
        ∷ saves_of table saves heights k
    unfolding saves_of
    saved_state holds =
        let first : saved_at table saves' k (get_or heights' k 0) ≡ newest = ap (saved_at table saves' k) height_there ∙ state_there in
        let rest : saves_of table saves heights k ≡ saves_of table saves' heights' k =
        saves_same table saves saves' (place_at table k) below_same heights heights' k heights_same (omega arith) holds in
        ap (λ s. s ∷ saves_of table saves' heights' k) first ∙ ap (λ ss. newest ∷ ss) (sym rest)

    -- and what holds of the places below holds of it too
    pub saved_hold : PlacesHold table saves heights k → ((j : ℕ) → j < h → CommandAt table (le_at 4 ps (4 * j))) → PlacesHold table saves' heights' (suc k)
    saved_hold holds commands =
        record { few = λ j less. few_at j (eq-or-lt_of_le (before j less)); entries = λ j less. entries_at_lem j (eq-or-lt_of_le (before j less)) }
      where
        below : PlacesHold table saves' heights' k
        below = hold_same table saves saves' (place_at table k) below_same heights heights' k heights_same (omega arith) holds

        before : (j : ℕ) → j < suc k → j ≤ k
        before j less = omega arith

        few_at : (j : ℕ) → (j ≡ k) ⊎ (j < k) → get_or heights' j 0 ≤ nodes_in table
        few_at j (inl e) = rw (e, height_there) can.few
        few_at j (inr less) = below.few j less

        entries_at_lem : (j : ℕ) → (j ≡ k) ⊎ (j < k) → (i : ℕ) → i < get_or heights' j 0 → CommandAt table (le_at 4 saves' (entries_at table j + 4 * i))
        entries_at_lem j (inl e) i less =
            let under : i < h = rw (e, height_there) at less in
            rw (e, entry_there i under) (commands i under)
        entries_at_lem j (inr fewer) i less = below.entries j fewer i less
