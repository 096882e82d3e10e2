-- The places in the slice: where each begins and ends, and which bytes its state is read from.
use Prim.Native.Nat.{ℕ, zero, suc, ◌+◌, ◌*◌, ◌≤◌, ◌<◌}
use native.Mathlib.Nat.{mul-suc, mul-le-mul_left}
use native.Mathlib.Omega.{arith}
use mathlib.Core.Path.{◌≡◌, refl, sym, ap, ◌∙◌}
use mathlib.Core.List.{List}
use lib.ListN.{length, get_or, take, drop}
use lib.Dec.{ltb}
use Rattle.bytes_le.specs.Numbers.{le_at, from_words}
use Rattle.bytes_le.proofs.Words.{from_words-take}
use Rattle.bytes_le.proofs.Copies.{part_within}
use Rattle.awhile.specs.Lists.{sum}
use Rattle.reader.specs.Index.{table_of, nodes_in}
use Rattle.stepping.specs.Actions.{CommandAt}
use Rattle.stepping.specs.Stepping.{pending_of}
use Rattle.saves.specs.Places.{place_words, place_at, entries_at, saved_at, saves_of, PlacesHold}
use Rattle.saves.proofs.Pending.{le_at-take, pending_take}

module _ (table : List ℕ) where
  -- as many saves as places are open
  pub length_saves : (saves heights : List ℕ) (count : ℕ) → length (saves_of table saves heights count) ≡ count
  unfolding saves_of
  length_saves saves heights zero = refl
  length_saves saves heights (suc k) = ap suc (length_saves saves heights k)

  -- the next place begins where a place ends
  pub place_next : (k : ℕ) → place_at table (suc k) ≡ place_at table k + 4 * place_words table
  unfolding place_at
  place_next k = omega (arith, mul-suc (place_words table) k)

  -- the entries of a place stand behind its variables and cells
  pub entries_begin : (k : ℕ) → entries_at table k ≡ place_at table k + 4 * (table_of table).variables + 4 * sum (table_of table).counts
  unfolding entries_at
  entries_begin k = omega arith

  -- its entries end where it ends
  pub place_size : (k : ℕ) → entries_at table k + 4 * nodes_in table ≡ place_at table (suc k)
  unfolding entries_at place_words
  place_size k = omega (arith, place_next k)

  -- places stand in order
  pub place_order : (j k : ℕ) → j ≤ k → place_at table j ≤ place_at table k
  unfolding place_at
  place_order j k h = omega (arith, mul-le-mul_left (place_words table) h)

  -- there are eight of them
  pub place_end : (k : ℕ) → k < 8 → place_at table (suc k) ≤ 32 * place_words table
  unfolding place_at
  place_end k less =
      let last : place_words table * suc k ≤ place_words table * 8 = mul-le-mul_left (place_words table) (omega arith) in
      omega arith

  -- what holds of the open places holds of all but the last
  pub fewer_hold : (saves heights : List ℕ) (k : ℕ) → PlacesHold table saves heights (suc k) → PlacesHold table saves heights k
  fewer_hold saves heights k holds =
      record { few = λ j less. holds.few j (omega arith); entries = λ j less. holds.entries j (omega arith) }

  -- what is read of a place is the same in slices that are the same up to its end
  module _ (s t : List ℕ) (end : ℕ) (same : take end s ≡ take end t) where
    part_same : (at n : ℕ) → at + n ≤ end → take n (drop at s) ≡ take n (drop at t)
    part_same at n h = sym (part_within at n end s h) ∙ ap (λ l. take n (drop at l)) same ∙ part_within at n end t h

    words_same : (at count : ℕ) → at + 4 * count ≤ end → from_words count (drop at s) ≡ from_words count (drop at t)
    words_same at count h = sym (from_words-take count (drop at s)) ∙ ap (from_words count) (part_same at (4 * count) h) ∙ from_words-take count (drop at t)

    entry_same : (at : ℕ) → at + 4 ≤ end → le_at 4 s at ≡ le_at 4 t at
    entry_same at h = sym (le_at-take 4 end s at h) ∙ ap (λ l. le_at 4 l at) same ∙ le_at-take 4 end t at h

    list_same : (at count : ℕ) → at + 4 * count ≤ end → pending_of table (drop at s) count ≡ pending_of table (drop at t) count
    list_same at count h =
        sym (pending_take table (drop at s) (4 * count) count (omega arith))
        ∙ ap (λ l. pending_of table l count) (part_same at (4 * count) h)
        ∙ pending_take table (drop at t) (4 * count) count (omega arith)

    pub saved_same : (k h : ℕ) → place_at table (suc k) ≤ end → h ≤ nodes_in table → saved_at table s k h ≡ saved_at table t k h
    unfolding saved_at
    saved_same k h inside few =
        let size = place_size k in
        let begins = entries_begin k in
        λ i. record {
          pending = list_same (entries_at table k) h (omega arith) i;
          variables = words_same (place_at table k) (table_of table).variables (omega arith) i;
          cells = words_same (place_at table k + 4 * (table_of table).variables) (sum (table_of table).counts) (omega arith) i;
          flag = ltb 0 k;
        }

    -- so are the saves of places that have the same heights
    module _ (heights heights' : List ℕ) where
      pub saves_same : (count : ℕ) → ((j : ℕ) → j < count → get_or heights j 0 ≡ get_or heights' j 0) → place_at table count ≤ end
          → PlacesHold table s heights count → saves_of table s heights count ≡ saves_of table t heights' count
      unfolding saves_of
      saves_same zero high inside holds = refl
      saves_same (suc k) high inside holds =
          let first : saved_at table s k (get_or heights k 0) ≡ saved_at table t k (get_or heights' k 0) =
          saved_same k (get_or heights k 0) inside (holds.few k (omega arith)) ∙ ap (saved_at table t k) (high k (omega arith)) in
          let rest : saves_of table s heights k ≡ saves_of table t heights' k =
          saves_same k (λ j less. high j (omega arith)) (omega (arith, place_next k)) (fewer_hold s heights k holds) in
          rw (first, rest)

      -- and what holds of them
      pub hold_same : (count : ℕ) → ((j : ℕ) → j < count → get_or heights j 0 ≡ get_or heights' j 0) → place_at table count ≤ end
          → PlacesHold table s heights count → PlacesHold table t heights' count
      hold_same count high inside holds =
          record {
            few = λ k less. rw (← high k less) (holds.few k less);
            entries = λ k less j below. entry k less j (rw (← high k less) at below);
          }
        where
          entry : (k : ℕ) → k < count → (j : ℕ) → j < get_or heights k 0 → CommandAt table (le_at 4 t (entries_at table k + 4 * j))
          entry k less j below =
              let few = holds.few k less in
              let size = place_size k in
              let order = place_order (suc k) count less in
              let same_word : le_at 4 s (entries_at table k + 4 * j) ≡ le_at 4 t (entries_at table k + 4 * j) = entry_same (entries_at table k + 4 * j) (omega arith) in
              rw (← same_word) (holds.entries k less j below)
