-- An open place holds the words of its state, once what stands behind its entries is cleared.
use Prim.Native.Nat.{ℕ, ◌+◌, ◌*◌, ◌-◌, ◌≤◌, ◌<◌}
use native.Mathlib.Omega.{arith}
use mathlib.Core.Path.{◌≡◌, sym, ap, ◌∙◌}
use mathlib.Core.List.{List, ◌++◌, map, reverse, append_assoc}
use lib.ListN.{length, get_or, take, drop, replicate, length-append, length-drop}
use lib.Seq.{take-add, drop-drop, length-take-le}
use Rattle.bytes_le.specs.Numbers.{le_at, words, from_words}
use Rattle.bytes_le.proofs.Numbers.{Below, below_drop}
use Rattle.bytes_le.proofs.Words.{words_append, words_first}
use Rattle.bytes_le.proofs.Zeros.{length_zeros}
use Rattle.awhile.specs.Language.{Com, note_of}
use Rattle.awhile.specs.Lists.{sum}
use Rattle.reader.specs.Index.{table_of, nodes_in, command_in}
use Rattle.machine.specs.Memory.{pending_words, save_words}
use Rattle.stepping.specs.Actions.{CommandAt}
use Rattle.stepping.specs.Stepping.{pending_of}
use Rattle.directives.proofs.DirectiveLists.{le_at-drop}
use Rattle.saves.specs.Places.{place_words, place_at, entries_at, saved_at, PlacesHold}
use Rattle.saves.proofs.Pending.{length_pending, Noted, pending_words_lem}
use Rattle.saves.proofs.Places.{entries_begin, place_next, place_size, place_end}

-- words of four lists, one behind the other
four_words : (a b c d : List ℕ) → words a ++ (words b ++ words c) ++ words d ≡ words (a ++ (b ++ (c ++ d)))
four_words a b c d = simp (words_append, append_assoc)

-- the words of a place that stand before its entries
abbrev pub words_before : (table : List ℕ) → ℕ
words_before table = (table_of table).variables + sum (table_of table).counts

-- with the entries, they are all
pub size_parts : (table : List ℕ) → words_before table + nodes_in table ≡ place_words table
unfolding place_words
size_parts table = omega arith

module _ {table saves heights : List ℕ} {count : ℕ} (bytes : Below 256 saves) (long : 32 * place_words table ≤ length saves)
    (holds : PlacesHold table saves heights count) (eight : count ≤ 8)
    (noted : (n : ℕ) → CommandAt table n → note_of (command_in table n) ≡ n) where
  -- what is kept of a place are three parts, one behind the other
  place_parts : (k h : ℕ) → take (4 * (words_before table + h)) (drop (place_at table k) saves)
      ≡ take (4 * (table_of table).variables) (drop (place_at table k) saves)
      ++ (take (4 * sum (table_of table).counts) (drop (place_at table k + 4 * (table_of table).variables) saves) ++ take (4 * h) (drop (entries_at table k) saves))
  place_parts k h =
      let v : ℕ = 4 * (table_of table).variables in
      let c : ℕ = 4 * sum (table_of table).counts in
      let d : List ℕ = drop (place_at table k) saves in
      let whole : 4 * (words_before table + h) ≡ v + (c + 4 * h) = omega arith in
      let third : drop c (drop (place_at table k + v) saves) ≡ drop (entries_at table k) saves = drop-drop c (place_at table k + v) saves ∙ ap (λ n. drop n saves) (sym (entries_begin table k)) in
      ap (λ n. take n d) whole
      ∙ take-add v (c + 4 * h) d
      ∙ ap (λ rest. take v d ++ take (c + 4 * h) rest) (drop-drop v (place_at table k) saves)
      ∙ ap (λ rest. take v d ++ rest) (take-add c (4 * h) (drop (place_at table k + v) saves))
      ∙ ap (λ rest. take v d ++ (take c (drop (place_at table k + v) saves) ++ take (4 * h) rest)) third

  -- the notes of its commands are its entries
  place_noted : (k : ℕ) → k < count → Noted table (drop (entries_at table k) saves) (get_or heights k 0)
  place_noted k less j below =
      let word = le_at-drop 4 saves (entries_at table k) (4 * j) in
      noted (le_at 4 (drop (entries_at table k) saves) (4 * j)) (rw word (holds.entries k less j below))

  -- with zeros behind them, they are the words of its state
  pub place_words_lem : (k : ℕ) → k < count
      → take (4 * (words_before table + get_or heights k 0)) (drop (place_at table k) saves) ++ words (replicate (place_words table - (words_before table + get_or heights k 0)) 0)
      ≡ words (save_words (nodes_in table) (saved_at table saves k (get_or heights k 0)))
  unfolding saved_at save_words pending_words
  place_words_lem k less =
      let h : ℕ = get_or heights k 0 in
      let few : h ≤ nodes_in table = holds.few k less in
      let end = place_end table k (omega arith) in
      let size = place_size table k in
      let begin = entries_begin table k in
      let vs : List ℕ = drop (place_at table k) saves in
      let cs : List ℕ = drop (place_at table k + 4 * (table_of table).variables) saves in
      let ps : List ℕ = drop (entries_at table k) saves in
      let pending : List (Com ℕ) = pending_of table ps h in
      let zeros : place_words table - (words_before table + h) ≡ nodes_in table - length pending = omega (arith, size_parts table, length_pending table ps h) in
      let first : take (4 * (table_of table).variables) vs ≡ words (from_words (table_of table).variables vs) =
      sym (words_first (table_of table).variables vs (simp length-drop (omega arith)) (below_drop 256 (place_at table k) saves bytes)) in
      let second : take (4 * sum (table_of table).counts) cs ≡ words (from_words (sum (table_of table).counts) cs) =
      sym (words_first (sum (table_of table).counts) cs (simp length-drop (omega arith)) (below_drop 256 (place_at table k + 4 * (table_of table).variables) saves bytes)) in
      let third : take (4 * h) ps ≡ words (map note_of (reverse pending)) =
      pending_words_lem table ps h (below_drop 256 (entries_at table k) saves bytes) (simp length-drop (omega arith)) (place_noted k less) in
      ap (λ l. l ++ words (replicate (place_words table - (words_before table + h)) 0)) (place_parts k h)
      ∙ ap (λ n. take (4 * (table_of table).variables) vs ++ (take (4 * sum (table_of table).counts) cs ++ take (4 * h) ps) ++ words (replicate n 0)) zeros
      ∙ rw (first, second, third) (four_words (from_words (table_of table).variables vs) (from_words (sum (table_of table).counts) cs) (map note_of (reverse pending)) (replicate (nodes_in table - length pending) 0))

  -- which fill the place
  pub place_long : (k : ℕ) → k < count → length (words (save_words (nodes_in table) (saved_at table saves k (get_or heights k 0)))) ≡ 4 * place_words table
  place_long k less =
      let few : get_or heights k 0 ≤ nodes_in table = holds.few k less in
      let end = place_end table k (omega arith) in
      let next = place_next table k in
      let kept : length (take (4 * (words_before table + get_or heights k 0)) (drop (place_at table k) saves)) ≡ 4 * (words_before table + get_or heights k 0) =
      length-take-le (4 * (words_before table + get_or heights k 0)) (drop (place_at table k) saves) (simp length-drop (omega (arith, size_parts table))) in
      ap length (sym (place_words_lem k less))
      ∙ simp (length-append, length_zeros) (omega (arith, size_parts table))
