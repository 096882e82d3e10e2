-- The sheet as its first record and the records of the nodes, and how long they are.
use Prim.Native.Nat.{ℕ, zero, suc, ◌+◌, ◌*◌, ◌≤◌, ◌<◌}
use native.Mathlib.Decide.{ℕ_discrete}
use native.Mathlib.Nat.{mul-suc, mul-le-mul}
use native.Mathlib.Numerals.{add-one}
use native.Mathlib.Omega.{arith}
use mathlib.Core.Path.{◌≡◌, refl, sym, ap, ap₂, ◌∙◌}
use mathlib.Core.List.{List, [], ◌∷◌, ◌++◌, flat_map}
use lib.ListN.{length, length-append}
use lib.Seq.{sets}
use Rattle.bytes_le.proofs.Numbers.{length_le}
use Rattle.awhile.specs.Tables.{max_nodes, mask_bytes}
use Rattle.awhile.proofs.Versions.{mask_most}
use Rattle.awhile.specs.Language.{Com, skip, assign, sequence, if, while, read, write, map_notes}
use Rattle.awhile.specs.declared.Labelling.{Labelling}
use Rattle.awhile.proofs.Lists.{flat_map_append}
use Rattle.reader.specs.Admitted.{Admitted}
use Rattle.reader.specs.Index.{version_in, nodes_in, command_in}
use Rattle.reader.proofs.Admitted.{offsets_in, bytes, indexed}
use Rattle.reader.proofs.Index.{indexed_few}
use Rattle.labels.specs.Annotation.{Entry}
use Rattle.labels.specs.Sheet.{number, masks, field_bytes, fields_bytes, record_bytes, command_records, records_at, records_below, head_record, sheet_records, sheet_of}
use Rattle.analysis.specs.declared.noting.Note.{Note}
use Rattle.analysis.specs.Notes.{note_in, noted_program}
use Rattle.sheets.specs.Rows.{first_size, RowPut, records_in, row_in, rows_in, sheet_in}
use Rattle.sheets.proofs.FieldLengths.{number_length, masks_length, record_length}
use Rattle.sheets.proofs.Stored.{stored_then}
use Rattle.sheets.proofs.SheetNodes.{records_at_lem}

-- ---- the first record
head_length : (v n : ℕ) (final : Labelling) → length (record_bytes v (head_record v n final)) ≡ 10 + mask_bytes v
unfolding head_record fields_bytes flat_map
head_length v n final =
    let fields : length (fields_bytes v (number v ∷ number n ∷ masks final ∷ [])) ≡ 6 + mask_bytes v = simp length-append (omega (arith, number_length v v, number_length v n, masks_length v final)) in
    record_length v 128 (number v ∷ number n ∷ masks final ∷ []) ∙ ap (λ k. 4 + k) fields ∙ omega arith

-- it is stored where it fits
pub head_put : (final : Labelling) {v w n k : ℕ} {out out' : List ℕ} {end : ℕ} → v ≡ w → n ≡ k → first_size w ≤ length out
    → RowPut out 0 (record_bytes v (head_record v n final)) out' end → out' ≡ sets out 0 (record_bytes w (head_record w k final))
head_put final {v} {w} {n} {k} {out} e f fits put =
    let long = head_length v n final in
    put.stored (omega (arith, long, ap mask_bytes e, fits)) ∙ ap₂ (λ u m. sets out 0 (record_bytes u (head_record u m final))) e f

-- ---- the records below a node
abbrev pub bytes_below : (version : ℕ) → Com Entry → ℕ → List ℕ
bytes_below v a n = flat_map (record_bytes v) (records_below a n)

-- with those of the next node
below_next : (v : ℕ) (a : Com Entry) (n : ℕ) → bytes_below v a (n + 1) ≡ bytes_below v a n ++ flat_map (record_bytes v) (records_at a n)
unfolding records_below
below_next v a n = rw (add-one, flat_map_append)

module _ (v : ℕ) (a : Com Entry) (n : ℕ) {row : List ℕ} (is : row ≡ flat_map (record_bytes v) (records_at a n)) where
  pub bytes_next : bytes_below v a (n + 1) ≡ bytes_below v a n ++ row
  bytes_next = below_next v a n ∙ ap (λ bs. bytes_below v a n ++ bs) (sym is)

  pub length_next : length (bytes_below v a (n + 1)) ≡ length (bytes_below v a n) + length row
  length_next = ap length bytes_next ∙ length-append (bytes_below v a n) row

-- more records are more bytes
pub bytes_grow : (v : ℕ) (a : Com Entry) (n m : ℕ) → n ≤ m → length (bytes_below v a n) ≤ length (bytes_below v a m)
bytes_grow v a n zero h = let e : n ≡ 0 = omega arith in rw e (omega arith)
bytes_grow v a n (suc m) h = go (ℕ_discrete n (suc m)) (bytes_grow v a n m)
  where
    longer : length (bytes_below v a m) ≤ length (bytes_below v a (suc m))
    longer = omega (arith, rw add-one at (ap length (below_next v a m) ∙ length-append (bytes_below v a m) (flat_map (record_bytes v) (records_at a m))))

    go : Dec (n ≡ suc m) → (n ≤ m → length (bytes_below v a n) ≤ length (bytes_below v a m)) → length (bytes_below v a n) ≤ length (bytes_below v a (suc m))
    go (yes e) r = rw e (omega arith)
    go (no e) r = omega (arith, r (omega arith), longer)

-- where all fit, a row stands behind those before
pub rows_next : (v : ℕ) (a : Com Entry) (n m at end : ℕ) {row : List ℕ} → row ≡ flat_map (record_bytes v) (records_at a n) → n < m → (l out out' : List ℕ)
    → length out ≡ length l → at ≡ first_size v + length (bytes_below v a n) → RowPut out at row out' end
    → (first_size v + length (bytes_below v a m) ≤ length l → out ≡ sets l (first_size v) (bytes_below v a n))
    → (first_size v + length (bytes_below v a m) ≤ length l → out' ≡ sets l (first_size v) (bytes_below v a (n + 1)))
rows_next v a n m at end {row} own lower l out out' kept here put before fits =
    let later = bytes_grow v a (n + 1) m (omega arith) in
    stored_then (bytes_below v a n) row l (first_size v) at (sym here) (before fits)
    (put.stored (omega (arith, fits, later, length_next v a n own, here, kept)))
    ∙ ap (sets l (first_size v)) (sym (bytes_next v a n own))

-- ---- the whole sheet
module _ (table : List ℕ) (ns : List Note) (final : Labelling) where
  -- its first record, and those of the nodes
  abbrev first_bytes : List ℕ
  first_bytes = record_bytes (version_in table) (head_record (version_in table) (nodes_in table) final)

  abbrev rest_bytes : List ℕ
  rest_bytes = bytes_below (version_in table) (noted_program table ns) (nodes_in table)

  first_long : length first_bytes ≡ first_size (version_in table)
  first_long = head_length (version_in table) (nodes_in table) final

  sheet_split : first_bytes ++ rest_bytes ≡ sheet_in table ns final
  unfolding sheet_in sheet_of sheet_records flat_map
  sheet_split = refl

  pub sheet_length : length (sheet_in table ns final) ≡ first_size (version_in table) + length (rows_in table ns)
  unfolding rows_in
  sheet_length = ap length (sym sheet_split) ∙ length-append first_bytes rest_bytes ∙ ap (λ k. k + length rest_bytes) first_long

  -- the first record stored, and the others behind it
  pub sheet_stored : (l : List ℕ) {m n : List ℕ} → m ≡ sets l 0 first_bytes → n ≡ sets m (first_size (version_in table)) (rows_in table ns)
      → n ≡ sets l 0 (sheet_in table ns final)
  unfolding rows_in
  sheet_stored l p q = stored_then first_bytes rest_bytes l 0 (first_size (version_in table)) (omega (arith, first_long)) p q ∙ ap (sets l 0) sheet_split

-- a sheet is its first record and its rows
pub ruleset sheet_rules = (sheet_length, sheet_stored)

-- ---- the longest sheet
-- no command's record has more bytes than the first record
command_short : (v : ℕ) (c : Com Entry) → length (flat_map (record_bytes v) (command_records c)) ≤ first_size v
unfolding command_records record_bytes fields_bytes field_bytes flat_map
command_short w (skip e) = omega arith
command_short w (assign e v a) = omega arith
command_short w (sequence e c d) = simp (length-append, length_le) (omega arith)
command_short w (if e b c d) = simp (length-append, length_le) (omega arith)
command_short w (while e b c) = simp (length-append, length_le) (omega arith)
command_short w (read e v a i) = simp (length-append, length_le) (omega arith)
command_short w (write e a i v) = simp (length-append, length_le) (omega arith)

module _ {table : List ℕ} (admitted : Admitted table) (ns : List Note) where
  abbrev version : ℕ
  version = version_in table

  abbrev program : Com Entry
  program = noted_program table ns

  pub below_short : (n : ℕ) → n ≤ nodes_in table → length (bytes_below version program n) ≤ first_size version * n
  unfolding records_below flat_map records_in
  below_short zero h = omega arith
  below_short (suc n) h =
      let last = flat_map (record_bytes version) (records_at program n) in
      let own : length last ≤ first_size version = rw (records_at_lem admitted ns n (omega arith)) (command_short version (map_notes (note_in ns) (command_in table n))) in
      let long = ap length (below_next version program n) ∙ length-append (bytes_below version program n) last in
      let more : first_size version * suc n ≡ first_size version * n + first_size version = mul-suc (first_size version) n in
      omega (arith, below_short n (omega arith), rw add-one at long, more)

  -- so no row begins far behind
  pub row_early : (n at : ℕ) → n < nodes_in table → at ≡ first_size version + length (bytes_below version program n) → at ≤ 18 + 18 * max_nodes
  row_early n at inside here =
      let few : n ≤ max_nodes = omega (arith, indexed_few table (offsets_in table) (bytes admitted) (indexed admitted)) in
      let short : first_size version ≤ 18 = omega (arith, mask_most version) in
      let most : first_size version * n ≤ 18 * max_nodes = mul-le-mul short few in
      omega (arith, here, below_short n (omega arith), most, mask_most version)

  -- a row is what the program has at its node
  pub own_row : (n : ℕ) → n < nodes_in table → row_in table ns n ≡ flat_map (record_bytes version) (records_at program n)
  unfolding row_in
  own_row n inside = ap (flat_map (record_bytes version)) (sym (records_at_lem admitted ns n inside))

  pub sheet_short : (final : Labelling) → length (sheet_in table ns final) ≤ first_size version + first_size version * nodes_in table
  unfolding rows_in
  sheet_short final =
      let all : nodes_in table ≤ nodes_in table = omega arith in
      omega (arith, sheet_length table ns final, below_short (nodes_in table) all)
