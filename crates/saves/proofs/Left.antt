-- What is left in the places at the end: the words of the open saves, zeros in the other places, and what stood beyond.
use Prim.Native.Nat.{ℕ, zero, suc, ◌+◌, ◌*◌, ◌-◌, ◌≤◌, ◌<◌}
use native.Mathlib.Nat.{add-zero, sub-zero, mul-zero, zero-mul, suc-mul, mul-add, mul_comm}
use native.Mathlib.Omega.{arith}
use mathlib.Core.Path.{◌≡◌, refl, sym, ap, ◌∙◌}
use mathlib.Core.List.{List, [], ◌∷◌, ◌++◌, reverse, reverse-cons, flat_map, append-nil, append_assoc}
use lib.ListN.{length, get_or, take, drop, replicate, length-append, length-drop, replicate-append-replicate}
use lib.Seq.{sets, sets-eq, drop-drop}
use Rattle.bytes_le.specs.Numbers.{words}
use Rattle.bytes_le.proofs.Numbers.{Below}
use Rattle.bytes_le.proofs.Words.{words_append}
use Rattle.bytes_le.proofs.Zeros.{length_zeros}
use Rattle.bytes_le.proofs.Copies.{sets_second}
use Rattle.awhile.specs.Language.{note_of}
use Rattle.awhile.specs.Lists.{sum}
use Rattle.reader.specs.Index.{table_of, nodes_in, command_in}
use Rattle.machine.specs.Steps.{State}
use Rattle.machine.specs.Memory.{save_words, saves_after}
use Rattle.stepping.specs.Actions.{CommandAt}
use Rattle.saves.specs.Places.{place_words, place_at, saved_at, saves_of, PlacesHold}
use Rattle.saves.specs.Leaving.{kept_words, left_places, LeaveFits}
use Rattle.saves.proofs.Places.{length_saves, place_next, place_end}
use Rattle.saves.proofs.PlaceWords.{words_before, size_parts, place_words_lem, place_long}
use Rattle.saves.proofs.Leaving.{kept_open, kept_shut, left_none}

-- ---- one place of a list
-- behind what stands before a place, the place with its last words cleared
one_place : (front l : List ℕ) (at size keep : ℕ) → length front ≡ at → keep ≤ size → at + 4 * size ≤ length l
    → sets (front ++ drop at l) (at + 4 * keep) (words (replicate (size - keep) 0))
    ≡ front ++ (take (4 * keep) (drop at l) ++ words (replicate (size - keep) 0)) ++ drop (at + 4 * size) l
one_place front l at size keep is few inside =
    let zs : List ℕ = words (replicate (size - keep) 0) in
    let zeros : length zs ≡ 4 * (size - keep) = length_zeros (size - keep) in
    let d : List ℕ = drop at l in
    let fits : 4 * keep + length zs ≤ length d = simp length-drop (omega arith) in
    let end : 4 * keep + length zs ≡ 4 * size = omega arith in
    ap (λ n. sets (front ++ d) (n + 4 * keep) zs) (sym is)
    ∙ sets_second front d zs (4 * keep)
    ∙ ap (λ rest. front ++ rest) (sets-eq zs d (4 * keep) fits ∙ ap (λ n. take (4 * keep) d ++ zs ++ drop n d) end ∙ ap (λ rest. take (4 * keep) d ++ zs ++ rest) (drop-drop (4 * size) at l))
    ∙ sym (append_assoc front (take (4 * keep) d ++ zs) (drop (at + 4 * size) l))

-- the words of one state more
flat_map_last : (f : State ℕ → List ℕ) (ss : List (State ℕ)) (s : State ℕ) → flat_map f (ss ++ (s ∷ [])) ≡ flat_map f ss ++ f s
unfolding flat_map
flat_map_last f [] s = append-nil (f s)
flat_map_last f (x ∷ ss) s = rw (flat_map_last f ss s) (sym (append_assoc (f x) (flat_map f ss) (f s)))

module _ {table saves heights : List ℕ} {count : ℕ} (bytes : Below 256 saves) (long : 32 * place_words table ≤ length saves)
    (holds : PlacesHold table saves heights count) (eight : count ≤ 8)
    (noted : (n : ℕ) → CommandAt table n → note_of (command_in table n) ≡ n) where
  -- the slice with the first so many places left
  abbrev left : ℕ → List ℕ
  left k = left_places heights count (words_before table) (nodes_in table) k saves

  -- the byte of a word of a place
  place_word : (k keep : ℕ) → 4 * ((words_before table + nodes_in table) * k + keep) ≡ place_at table k + 4 * keep
  unfolding place_at
  place_word k keep = omega (arith, ap (λ n. n * k) (size_parts table))

  -- one place more
  left_step : (k keep : ℕ) (f : List ℕ) → length f ≡ place_at table k → keep ≤ place_words table → k < 8 → kept_words heights count (words_before table) k ≡ keep
      → left k ≡ f ++ drop (place_at table k) saves
      → left (suc k) ≡ f ++ (take (4 * keep) (drop (place_at table k) saves) ++ words (replicate (place_words table - keep) 0)) ++ drop (place_at table (suc k)) saves
  unfolding left_places
  left_step k keep f is few less is_kept is_left =
      let d : List ℕ = drop (place_at table k) saves in
      ap (λ l. sets l (4 * ((words_before table + nodes_in table) * k + kept_words heights count (words_before table) k)) (words (replicate (words_before table + nodes_in table - kept_words heights count (words_before table) k) 0))) is_left
      ∙ ap (λ n. sets (f ++ d) (4 * ((words_before table + nodes_in table) * k + n)) (words (replicate (words_before table + nodes_in table - n) 0))) is_kept
      ∙ ap (λ n. sets (f ++ d) n (words (replicate (words_before table + nodes_in table - keep) 0))) (place_word k keep)
      ∙ ap (λ n. sets (f ++ d) (place_at table k + 4 * keep) (words (replicate (n - keep) 0))) (size_parts table)
      ∙ one_place f saves (place_at table k) (place_words table) keep is few (omega (arith, place_next table k, place_end table k less, long))
      ∙ ap (λ n. f ++ (take (4 * keep) d ++ words (replicate (place_words table - keep) 0)) ++ drop n saves) (sym (place_next table k))

  -- ---- the open places
  abbrev front : ℕ → List ℕ
  front k = words (flat_map (save_words (nodes_in table)) (reverse (saves_of table saves heights k)))

  front_more : (k : ℕ) → front (suc k) ≡ front k ++ words (save_words (nodes_in table) (saved_at table saves k (get_or heights k 0)))
  unfolding saves_of
  front_more k =
      let s : State ℕ = saved_at table saves k (get_or heights k 0) in
      let ss : List (State ℕ) = saves_of table saves heights k in
      ap (λ l. words (flat_map (save_words (nodes_in table)) l)) (reverse-cons s ss)
      ∙ ap words (flat_map_last (save_words (nodes_in table)) (reverse ss) s)
      ∙ words_append (flat_map (save_words (nodes_in table)) (reverse ss)) (save_words (nodes_in table) s)

  place_first : place_at table 0 ≡ 0
  unfolding place_at
  place_first = omega (arith, mul-zero (place_words table))

  front_none : front 0 ≡ []
  unfolding saves_of flat_map words
  front_none = refl

  front_long : (k : ℕ) → k ≤ count → length (front k) ≡ place_at table k
  front_long zero h = ap length front_none ∙ sym place_first
  front_long (suc k) h =
      let one = place_long bytes long holds eight noted k (omega arith) in
      let others = front_long k (omega arith) in
      ap length (front_more k)
      ∙ length-append (front k) (words (save_words (nodes_in table) (saved_at table saves k (get_or heights k 0))))
      ∙ omega (arith, place_next table k)

  left_open : (k : ℕ) → k ≤ count → left k ≡ front k ++ drop (place_at table k) saves
  left_open zero h = sym (ap (λ l. l ++ drop (place_at table 0) saves) front_none ∙ ap (λ n. drop n saves) place_first ∙ left_none heights count (words_before table) (nodes_in table) saves)
  left_open (suc k) h =
      let few : get_or heights k 0 ≤ nodes_in table = holds.few k (omega arith) in
      left_step k (words_before table + get_or heights k 0) (front k) (front_long k (omega arith)) (omega (arith, size_parts table)) (omega arith) (kept_open heights count (words_before table) 0 k (omega arith)) (left_open k (omega arith))
      ∙ ap (λ l. l ++ drop (place_at table (suc k)) saves) (ap (λ l. front k ++ l) (place_words_lem bytes long holds eight noted k (omega arith)) ∙ sym (front_more k))

  -- ---- the places that are not open
  abbrev zeros : ℕ → List ℕ
  zeros j = words (replicate (j * place_words table) 0)

  zeros_none : zeros 0 ≡ []
  unfolding words
  zeros_none = ap (λ n. words (replicate n 0)) (zero-mul (place_words table))

  zeros_next : (j : ℕ) → zeros j ++ words (replicate (place_words table) 0) ≡ zeros (suc j)
  zeros_next j =
      sym (words_append (replicate (j * place_words table) 0) (replicate (place_words table) 0))
      ∙ ap words (replicate-append-replicate (j * place_words table) (place_words table) 0 ∙ ap (λ n. replicate n 0) (sym (suc-mul j (place_words table))))

  place_add : (j : ℕ) → place_at table (count + j) ≡ place_at table count + 4 * (j * place_words table)
  unfolding place_at
  place_add j = omega (arith, mul-add (place_words table) count j, mul_comm (place_words table) j)

  left_shut : (j : ℕ) → count + j ≤ 8 → left (count + j) ≡ front count ++ zeros j ++ drop (place_at table (count + j)) saves
  left_shut zero h =
      let same : count + 0 ≡ count = add-zero count in
      ap left same
      ∙ left_open count (omega arith)
      ∙ ap (λ l. l ++ drop (place_at table count) saves) (sym (ap (λ l. front count ++ l) zeros_none ∙ append-nil (front count)))
      ∙ ap (λ n. front count ++ zeros 0 ++ drop (place_at table n) saves) (sym same)
  left_shut (suc j) h =
      let next : count + suc j ≡ suc (count + j) = omega arith in
      let size = length-append (front count) (zeros j) in
      let fronts = front_long count (omega arith) in
      let cleared = length_zeros (j * place_words table) in
      ap left next
      ∙ left_step (count + j) 0 (front count ++ zeros j) (omega (arith, place_add j)) (omega arith) (omega arith) (kept_shut heights count (words_before table) 0 (count + j) (omega arith)) (left_shut j (omega arith))
      ∙ ap (λ n. front count ++ zeros j ++ words (replicate n 0) ++ drop (place_at table (suc (count + j))) saves) (sub-zero (place_words table))
      ∙ ap (λ l. l ++ drop (place_at table (suc (count + j))) saves) (append_assoc (front count) (zeros j) (words (replicate (place_words table) 0)) ∙ ap (λ l. front count ++ l) (zeros_next j))
      ∙ ap (λ n. front count ++ zeros (suc j) ++ drop (place_at table n) saves) (sym next)

  -- ---- the end
  -- what `leave` asks
  pub leave_fits : LeaveFits saves heights count ((table_of table).variables + sum (table_of table).counts) (nodes_in table)
  leave_fits = record { within = omega (arith, size_parts table, long); few = holds.few }

  place_last : place_at table 8 ≡ 32 * place_words table
  unfolding place_at
  place_last = omega arith

  pub saves_left_lem : (saves₀ saves' : List ℕ) → drop (32 * place_words table) saves ≡ drop (32 * place_words table) saves₀
      → saves' ≡ left_places heights count ((table_of table).variables + sum (table_of table).counts) (nodes_in table) 8 saves
      → saves' ≡ saves_after (nodes_in table) (place_words table) (saves_of table saves heights count) saves₀
  unfolding saves_after
  saves_left_lem saves₀ saves' beyond is =
      let j : ℕ = 8 - count in
      let all : count + j ≡ 8 = omega arith in
      let ws : List ℕ = flat_map (save_words (nodes_in table)) (reverse (saves_of table saves heights count)) in
      is
      ∙ ap left (sym all)
      ∙ left_shut j (omega arith)
      ∙ ap (λ n. front count ++ zeros j ++ drop (place_at table n) saves) all
      ∙ ap (λ n. front count ++ zeros j ++ drop n saves) place_last
      ∙ ap (λ rest. front count ++ zeros j ++ rest) beyond
      ∙ ap (λ l. l ++ drop (32 * place_words table) saves₀)
      (sym (words_append ws (replicate (j * place_words table) 0)) ∙ ap (λ n. words (ws ++ replicate ((8 - n) * place_words table) 0)) (sym (length_saves table saves heights count)))
