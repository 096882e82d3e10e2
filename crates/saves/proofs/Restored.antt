-- A state copied back from a place: the slices of the machine stand for the save.
use Prim.Native.Nat.{ℕ, suc, ◌+◌, ◌*◌, ◌≤◌, ◌<◌}
use native.Mathlib.Omega.{arith}
use mathlib.Core.Path.{◌≡◌, sym, ap, ◌∙◌}
use mathlib.Core.List.{List}
use lib.ListN.{length, get_or, take, drop, length-drop}
use lib.Seq.{length-sets, length-take-le, take_at}
use lib.Dec.{ltb}
use Rattle.bytes_le.specs.Numbers.{le_at, from_words}
use Rattle.bytes_le.proofs.Words.{from_words-take}
use Rattle.bytes_le.proofs.Copies.{drop-sets, sets_there}
use Rattle.awhile.specs.Lists.{sum}
use Rattle.reader.specs.Index.{table_of, nodes_in}
use Rattle.stepping.specs.Actions.{CommandAt}
use Rattle.stepping.specs.Stepping.{pending_of}
use Rattle.directives.proofs.DirectiveLists.{le_at-drop}
use Rattle.saves.specs.Places.{place_at, entries_at, saved_at, PlacesHold, Restored}
use Rattle.saves.proofs.Pending.{le_at-take, pending_take}
use Rattle.saves.proofs.Places.{entries_begin}
use Rattle.saves.proofs.Saved.{Savable, saved_within}

-- what fits a place when it is saved fits when it is copied back
module _ {table vs cs ps saves heights : List ℕ} {k h : ℕ} (can : Savable table vs cs ps saves heights k h)
    {vs' cs' ps' : List ℕ} (back : Restored saves (place_at table k) h vs cs ps vs' cs' ps') where
  inside : place_at table k + length vs + length cs + 4 * h ≤ length saves
  inside = (saved_within can).1

  -- the slices are as long as they were
  pub restored_variables_long : length vs' ≡ length vs
  restored_variables_long =
      let fits = inside in
      ap length back.is_variables ∙ length-take-le (length vs) (drop (place_at table k) saves) (simp length-drop (omega arith))

  pub restored_cells_long : length cs' ≡ length cs
  restored_cells_long =
      let fits = inside in
      ap length back.is_cells ∙ length-take-le (length cs) (drop (place_at table k + length vs) saves) (simp length-drop (omega arith))

  abbrev saved_entries : List ℕ
  saved_entries = take (4 * h) (drop (place_at table k + length vs + length cs) saves)

  pub restored_pending_long : length ps' ≡ length ps
  restored_pending_long = ap length back.is_pending ∙ length-sets ps 0 saved_entries

  length_saved : length saved_entries ≡ 4 * h
  length_saved =
      let fits = inside in
      length-take-le (4 * h) (drop (place_at table k + length vs + length cs) saves) (simp length-drop (omega arith))

  -- nothing changes beyond the nodes' entries
  pub restored_beyond : drop (4 * nodes_in table) ps' ≡ drop (4 * nodes_in table) ps
  restored_beyond =
      ap (drop (4 * nodes_in table)) back.is_pending
      ∙ drop-sets saved_entries ps 0 (4 * nodes_in table) (omega (arith, length_saved, can.few))

  -- what the slices stand for
  pub restored_variables : from_words (table_of table).variables vs' ≡ (saved_at table saves k h).variables
  unfolding saved_at
  restored_variables =
      ap (from_words (table_of table).variables) (back.is_variables ∙ ap (λ n. take n (drop (place_at table k) saves)) can.variables_long)
      ∙ from_words-take (table_of table).variables (drop (place_at table k) saves)

  pub restored_cells : from_words (sum (table_of table).counts) cs' ≡ (saved_at table saves k h).cells
  unfolding saved_at
  restored_cells =
      ap (from_words (sum (table_of table).counts))
      (back.is_cells
      ∙ ap (λ n. take n (drop (place_at table k + length vs) saves)) can.cells_long
      ∙ ap (λ n. take (4 * sum (table_of table).counts) (drop (place_at table k + n) saves)) can.variables_long)
      ∙ from_words-take (sum (table_of table).counts) (drop (place_at table k + 4 * (table_of table).variables) saves)

  entries_back : take (4 * h) ps' ≡ take (4 * h) (drop (entries_at table k) saves)
  entries_back =
      let begin : place_at table k + length vs + length cs ≡ entries_at table k = omega (arith, entries_begin table k, can.variables_long, can.cells_long) in
      let fits : 0 + length saved_entries ≤ length ps = omega (arith, length_saved, can.few, can.pending_long) in
      ap (take (4 * h)) (back.is_pending ∙ sets_there saved_entries ps 0 fits)
      ∙ take_at saved_entries (drop (0 + length saved_entries) ps) (4 * h) length_saved
      ∙ ap (λ n. take (4 * h) (drop n saves)) begin

  pub restored_pending : pending_of table ps' h ≡ (saved_at table saves k h).pending
  unfolding saved_at
  restored_pending =
      sym (pending_take table ps' (4 * h) h (omega arith))
      ∙ ap (λ l. pending_of table l h) entries_back
      ∙ pending_take table (drop (entries_at table k) saves) (4 * h) h (omega arith)

  -- the machine's state is the save
  pub restored_state : record { pending = pending_of table ps' h; variables = from_words (table_of table).variables vs'; cells = from_words (sum (table_of table).counts) cs'; flag = ltb 0 k }
      ≡ saved_at table saves k h
  unfolding saved_at
  restored_state = λ i. record { pending = restored_pending i; variables = restored_variables i; cells = restored_cells i; flag = ltb 0 k }

  -- its entries are commands
  pub restored_entries : PlacesHold table saves heights (suc k) → get_or heights k 0 ≡ h → (j : ℕ) → j < h → CommandAt table (le_at 4 ps' (4 * j))
  restored_entries holds is j less =
      let same : le_at 4 ps' (4 * j) ≡ le_at 4 saves (entries_at table k + 4 * j) =
      sym (le_at-take 4 (4 * h) ps' (4 * j) (omega arith))
      ∙ ap (λ l. le_at 4 l (4 * j)) entries_back
      ∙ le_at-take 4 (4 * h) (drop (entries_at table k) saves) (4 * j) (omega arith)
      ∙ le_at-drop 4 saves (entries_at table k) (4 * j) in
      rw same (holds.entries k (omega arith) j (omega arith))
