-- The hardened table written record by record: array counts one behind the other, then the whole.
use Prim.Native.Nat.{ℕ, suc, ◌+◌, ◌-◌, ◌*◌, ◌≤◌, ◌<◌}
use native.Mathlib.Numerals.{add-one}
use native.Mathlib.Omega.{arith}
use mathlib.Core.List.{List, [], ◌∷◌, ◌++◌, flat_map, append-nil}
use mathlib.Core.Path.{◌≡◌, refl, sym, ap, subst, ◌∙◌}
use lib.ListN.{length, get_or, set, take, length-append, length-take, length-drop}
use lib.Seq.{sets, set_comm, length-sets, take-suc, length-take-le}
use Rattle.bytes_le.specs.Numbers.{le, le_at}
use Rattle.bytes_le.proofs.Numbers.{Below, length_le}
use Rattle.bytes_le.proofs.Stores.{sets-append}
use Rattle.awhile.specs.Language.{Com}
use Rattle.awhile.specs.Encoding.{nodes_of, count_bytes, header_bytes, labels_bytes, table_bytes, write_c}
use Rattle.awhile.specs.Nodes.{sort_of, node_bytes}
use Rattle.awhile.specs.declared.Sort.TheVariants.{Command}
use Rattle.awhile.specs.Tables.{Table, header_of, declarations_of, max_variables, max_arrays, max_nodes, mask_bytes, labels_size, header_size, counts_start, count_start, nodes_start}
use Rattle.awhile.specs.declared.Declarations.{Declarations}
use Rattle.awhile.specs.declared.Header.{Header}
use Rattle.awhile.specs.declared.Labelling.{Labelling}
use Rattle.reader.specs.Admitted.{Admitted}
use Rattle.reader.specs.Index.{HasHeader, HasSort, Ready, table_of, version_in, nodes_in, node_in, command_in}
use Rattle.reader.proofs.Admitted.{offsets_in, bytes, indexed}
use Rattle.reader.proofs.Index.{indexed_root, indexed_root_sort, indexed_some, indexed_well_formed}
use Rattle.reader.proofs.Ready.{header_version, header_arrays, header_few_arrays, header_count, ready_header, ready_variables, ready_nodes, ready_labels}
use Rattle.awhile.proofs.Lists.{flat_map_append}
use Rattle.awhile.proofs.Versions.{declared_variables, mask_most}
use Rattle.awhile.proofs.Reading.{length-header_bytes, length-labels_bytes, length-count_bytes, length_counts_bytes}
use Rattle.masks.specs.Decisions.{Decision}
use Rattle.masks.specs.Growth.{MasksLargeConditions}
use Rattle.masks.specs.Hardening.{Origin, version_for, hardened_program, table_of_hardened, hardened_table}
use Rattle.deciding.specs.declared.decisions.Decision.{Decision as Choices}
use Rattle.deciding.specs.Deciding.{decision_in, decided_in}
use Rattle.masking.specs.InMemory.{hardened_at}
use Rattle.masking.proofs.DecidedProgram.{program_hardened, program_large}
use Rattle.hardener.specs.Output.{hardened_header, Measurable, Writable, WroteTable}
use Rattle.hardener.specs.Sizes.{Sizable, AllSized}
use Rattle.copier.specs.Sizes.{bytes_of}
use Rattle.copier.specs.Totals.{bytes_told}
use Rattle.copier.specs.Written.{SpaceFor, Wrote}
use Rattle.copier.specs.declared.Size.{Size}
use Rattle.copier.specs.Records.{record_bytes}
use Rattle.copier.proofs.Lengths.{counted_c, bytes_c_lem}
use Rattle.copier.proofs.Parts.{sets_rest}
use Rattle.copier.proofs.Writers.{rest_of, with_rest, wrote_sized}
use Rattle.awhile.proofs.Size.{root_size}
use Rattle.masks.proofs.Growth.{hardened_size, nodes_of_mapped}
use Rattle.hardener.proofs.CommandSizes.{any_flag}

-- ---- array counts
-- one more count
counts_next : (cs : List ℕ) (a : ℕ) → a < length cs → flat_map count_bytes (take a cs) ++ count_bytes (get_or cs a 0) ≡ flat_map count_bytes (take (a + 1) cs)
unfolding flat_map
counts_next cs a less =
    ap (λ b. flat_map count_bytes (take a cs) ++ b) (sym (append-nil (count_bytes (get_or cs a 0))))
    ∙ sym (flat_map_append count_bytes (take a cs) (get_or cs a 0 ∷ []))
    ∙ ap (flat_map count_bytes) (sym (take-suc cs a 0 less))
    ∙ ap (λ n. flat_map count_bytes (take n cs)) (sym (add-one a))

count_record : (n : ℕ) → record_bytes 2 (n ∷ []) ≡ count_bytes n
unfolding record_bytes count_bytes le flat_map
count_record n = refl

-- the record of array a, read at one place and written into the rest from another on
pub counts_step : {s : List ℕ} {header : Header} (to : Header) → Below 256 s → HasHeader s header → to.arrays ≡ header.arrays → (a from at r : ℕ) → a < header.arrays
    → from ≡ count_start header a → at ≡ count_start to a → r ≡ le_at 2 s (from + 4)
    → (l m rest : List ℕ) → nodes_start to ≤ length l → m ≡ sets l (counts_start to) (flat_map count_bytes (take a (table_of s).counts))
    → rest ≡ sets (rest_of at m) 0 (record_bytes 2 (r ∷ []))
    → with_rest at m rest ≡ sets l (counts_start to) (flat_map count_bytes (take (a + 1) (table_of s).counts))
counts_step {s} {header} to bytes has as_many a from at r less there-read here is l m rest room done stored =
    let cs : List ℕ = (table_of s).counts in
    let start : ℕ = counts_start to in
    let many : header.arrays ≡ length cs = header_arrays has in
    let count : r ≡ get_or cs a 0 = is ∙ ap (λ i. le_at 2 s (i + 4)) there-read ∙ sym (header_count has bytes a less) in
    let written : record_bytes 2 (r ∷ []) ≡ count_bytes (get_or cs a 0) = count_record r ∙ ap count_bytes count in
    let same : length m ≡ length l = ap length done ∙ length-sets l start (flat_map count_bytes (take a cs)) in
    let there : at + length (count_bytes (get_or cs a 0)) ≤ length m = omega (arith, length-count_bytes (get_or cs a 0)) in
    let so_far : at ≡ start + length (flat_map count_bytes (take a cs)) = omega (arith, length_counts_bytes (take a cs), length-take-le a cs (omega arith)) in
    ap (with_rest at m) (stored ∙ ap (sets (rest_of at m) 0) written)
    ∙ sets_rest m at (count_bytes (get_or cs a 0)) there
    ∙ ap (λ h. sets h at (count_bytes (get_or cs a 0))) done
    ∙ ap (λ i. sets (sets l start (flat_map count_bytes (take a cs))) i (count_bytes (get_or cs a 0))) so_far
    ∙ sym (sets-append (flat_map count_bytes (take a cs)) (count_bytes (get_or cs a 0)) l start)
    ∙ ap (sets l start) (counts_next cs a (omega arith))

-- ---- runs of bytes
-- three, one behind the other
three_runs : (l b c n : List ℕ) (i j k : ℕ) → j ≡ i + length b → k ≡ j + length c → sets (sets (sets l i b) j c) k n ≡ sets l i (b ++ (c ++ n))
three_runs l b c n i j k p q =
    ap (λ x. sets (sets (sets l i b) j c) x n) q
    ∙ sym (sets-append c n (sets l i b) j)
    ∙ ap (λ x. sets (sets l i b) x (c ++ n)) p
    ∙ sym (sets-append b (c ++ n) l i)

-- the fields of a labels record, one behind the other
pub labels_stored : (labels : Labelling) (v size wide at : ℕ) (l : List ℕ) → size ≡ labels_size v → wide ≡ mask_bytes v → {m n o p : List ℕ}
    → m ≡ sets l at (le 2 size) → n ≡ sets m (at + 2) (le 2 3) → o ≡ sets n (at + 4) (le (mask_bytes v) labels.variables)
    → p ≡ sets o (at + 4 + wide) (le 2 labels.arrays) → p ≡ sets l at (labels_bytes v labels)
unfolding labels_bytes
labels_stored labels v size wide at l long is {m} {n} {o} {p} head kind variables arrays =
    let w = mask_bytes v in
    let x = le w labels.variables in
    let y = le 2 labels.arrays in
    let first = le 2 (labels_size v) in
    let there : at + 2 ≡ at + length first = simp length_le (omega arith) in
    arrays
    ∙ ap (λ k. sets o (at + 4 + k) y) is
    ∙ ap (λ k. sets k (at + 4 + w) y) (variables ∙ ap (λ k. sets k (at + 4) x) kind)
    ∙ three_runs m (le 2 3) x y (at + 2) (at + 4) (at + 4 + w) (simp length_le (omega arith)) (simp length_le (omega arith))
    ∙ ap (λ k. sets k (at + 2) (le 2 3 ++ (x ++ y))) (head ∙ ap (λ k. sets l at (le 2 k)) long)
    ∙ ap (λ k. sets (sets l at first) k (le 2 3 ++ (x ++ y))) there
    ∙ sym (sets-append first (le 2 3 ++ (x ++ y)) l at)

-- a store in front of a run of bytes may come before it as well
set_sooner : (ys l : List ℕ) (i j x : ℕ) → i < j → set (sets l j ys) i x ≡ sets (set l i x) j ys
set_sooner [] l i j x less = refl
set_sooner (y ∷ ys) l i j x less =
    set_sooner ys (set l j y) i (suc j) x (omega arith) ∙ ap (λ k. sets k (suc j) ys) (set_comm l j i y x (λ e. absurd (omega arith)))

sets_sooner : (xs ys l : List ℕ) (i j : ℕ) → i + length xs ≤ j → sets (sets l j ys) i xs ≡ sets (sets l i xs) j ys
sets_sooner [] ys l i j front = refl
sets_sooner (x ∷ xs) ys l i j front =
    ap (λ k. sets k (suc i) xs) (set_sooner ys l i j x (omega arith)) ∙ sets_sooner xs ys (set l i x) (suc i) j (omega arith)

-- three, and then the run in front of them
four_runs : (l h b c n : List ℕ) (i j k : ℕ) → i ≡ length h → j ≡ i + length b → k ≡ j + length c
    → sets (sets (sets (sets l i b) j c) k n) 0 h ≡ sets l 0 (h ++ (b ++ (c ++ n)))
four_runs l h b c n i j k p q r =
    let front : i ≡ 0 + length h = omega arith in
    ap (λ x. sets x 0 h) (three_runs l b c n i j k q r)
    ∙ sets_sooner h (b ++ (c ++ n)) l 0 i (omega arith)
    ∙ ap (λ x. sets (sets l 0 h) x (b ++ (c ++ n))) front
    ∙ sym (sets-append h (b ++ (c ++ n)) l 0)

-- ---- the whole table
-- the length of a hardened table
table_length : (t : Table) → length (table_bytes (hardened_table t)) ≡ nodes_start (hardened_header (header_of t) 0) + bytes_of (hardened_program t)
unfolding table_bytes hardened_table table_of_hardened
table_length t =
    let p = hardened_program t in
    let h = hardened_header (header_of t) (length (write_c 0 p)) in
    let v = version_for t.version (t.variables + 1) in
    let b = labels_bytes v t.labels in
    let c = flat_map count_bytes t.counts in
    rw (length-append (header_bytes h) (b ++ (c ++ flat_map node_bytes (write_c 0 p))), length-append b (c ++ flat_map node_bytes (write_c 0 p)), length-append c (flat_map node_bytes (write_c 0 p)))
    (omega (arith, length-header_bytes h, length-labels_bytes v t.labels, length_counts_bytes t.counts, (counted_c 0 p).bytes_are))

-- ---- the root, by the decisions of its program
-- its number
abbrev pub root_at : Declarations → ℕ
root_at d = d.header.nodes - 1

module _ {table : List ℕ} {declared : Declarations} (admitted : Admitted table) (told : declared ≡ declarations_of (table_of table)) where
  ready : Ready table (offsets_in table) declared
  ready = record { indexed = indexed admitted; declares = sym told }

  pub declared_header : HasHeader table declared.header
  declared_header = ready_header ready

  -- there are nodes
  pub measured_some : 0 < declared.header.nodes
  measured_some = omega (arith, ready_nodes ready, indexed_some table (offsets_in table) (bytes admitted) (indexed admitted))

  -- no more arrays than a table may have
  pub measured_arrays : declared.header.arrays ≤ max_arrays
  measured_arrays = header_few_arrays (ready_header ready) (bytes admitted)

  -- variables are within the limits
  pub measured_variables : declared.header.variables ≤ max_variables
  measured_variables = omega (arith, ready_variables ready, declared_variables (indexed_well_formed table (offsets_in table) (bytes admitted) (indexed admitted)).declared)

  is_last : nodes_in table - 1 ≡ root_at declared
  is_last = omega (arith, ready_nodes ready)

  -- the nodes of the hardened table stand where its header says
  same_start : nodes_start (hardened_header (header_of (table_of table)) 0) ≡ nodes_start (hardened_header declared.header 0)
  same_start = ap (λ h. nodes_start (hardened_header h 0)) (ready_header ready).is_header

  -- and that is not far
  pub start_small : nodes_start (hardened_header declared.header 0) ≤ 65536
  start_small = omega (arith, measured_arrays, mask_most (hardened_header declared.header 0).version)

  -- the root is a command
  pub root_command : HasSort table Command (root_at declared)
  root_command =
      record {
        inside = omega (arith, ready_nodes ready, measured_some);
        is_sort = ap (λ n. sort_of (node_in table n)) (sym is_last) ∙ indexed_root_sort table (offsets_in table) (bytes admitted) (indexed admitted);
      }

  module _ {ds : List Choices} (m : Measurable table ds) where
    -- no more than are hardened
    pub measured_nodes : declared.header.nodes ≤ 512
    measured_nodes = omega (arith, ready_nodes ready, m.few)

    pub measured_sizable : Sizable table ds
    measured_sizable = record { few = m.few; room = m.decided.room }

    -- what comes out for the root is the hardened program
    root_hardened : hardened_at table ds (table_of table).variables (root_at declared) ≡ hardened_program (table_of table)
    root_hardened = ap (hardened_at table ds (table_of table).variables) (sym is_last) ∙ program_hardened m.decided

    -- at most 8 nodes come out per node put in
    root_grown : nodes_of (hardened_at table ds 0 (root_at declared)) ≤ 8 * nodes_in table
    unfolding hardened_at decided_in nodes_in
    root_grown =
        let d : Com Decision = decided_in table ds (root_at declared) in
        omega (
          arith,
          hardened_size 0 d (subst (λ n. MasksLargeConditions (decided_in table ds n)) is_last (program_large m.decided)),
          nodes_of_mapped (decision_in ds) (command_in table (root_at declared)),
          ap nodes_of (indexed_root table (offsets_in table) (bytes admitted) (indexed admitted) ∙ ap (command_in table) is_last),
          root_size (table_of table) (indexed_well_formed table (offsets_in table) (bytes admitted) (indexed admitted)),
        )

    pub root_few : nodes_of (hardened_at table ds 0 (root_at declared)) ≤ max_nodes
    root_few = omega (arith, root_grown, m.few)

    -- how long the hardened table is, by its root
    pub measured_length : length (table_bytes (hardened_table (table_of table))) ≡ nodes_start (hardened_header declared.header 0) + bytes_of (hardened_at table ds 0 (root_at declared))
    unfolding hardened_at
    measured_length =
        let same = any_flag 0 (table_of table).variables (decided_in table ds (root_at declared)) in
        omega (arith, same.bytes_same, ap bytes_of root_hardened, table_length (table_of table), same_start)

    -- and by the total that is kept for it
    pub measured_total : {totals : List ℕ} → AllSized table ds totals
        → nodes_start (hardened_header declared.header 0) + bytes_told (get_or totals (root_at declared) 0) ≡ length (table_bytes (hardened_table (table_of table)))
    measured_total t =
        let root = root_command in
        omega (
          arith,
          t.commands (root_at declared) root.inside root.is_sort,
          measured_length,
          root_few,
          (bytes_c_lem (hardened_at table ds 0 (root_at declared))).short,
        )

    -- at most 80 bytes come out per node put in
    pub measured_short : length (table_bytes (hardened_table (table_of table))) ≤ nodes_start (hardened_header declared.header 0) + 80 * declared.header.nodes
    measured_short = omega (arith, measured_length, (bytes_c_lem (hardened_at table ds 0 (root_at declared))).short, root_grown, ready_nodes ready)

-- ---- writing the hardened table
module _ {table : List ℕ} {ds : List Choices} {declared : Declarations} {out : List ℕ} (admitted : Admitted table)
    (told : declared ≡ declarations_of (table_of table)) (w : Writable table ds out) where
  -- what comes out
  abbrev program : Com Origin
  program = hardened_at table ds declared.header.variables (root_at declared)

  -- its header, but for the number of nodes
  abbrev to : Header
  to = hardened_header declared.header 0

  has_header : HasHeader table declared.header
  has_header = ready_header (ready admitted told)

  written_program : program ≡ hardened_program (table_of table)
  written_program = ap (λ f. hardened_at table ds f (root_at declared)) (ready_variables (ready admitted told)) ∙ root_hardened admitted told w.measurable

  -- the bytes of the hardened table
  whole_bytes : table_bytes (hardened_table (table_of table))
      ≡ header_bytes (hardened_header declared.header (nodes_of program))
      ++ (labels_bytes to.version declared.labels ++ (flat_map count_bytes (table_of table).counts ++ flat_map node_bytes (write_c 0 program)))
  unfolding table_bytes hardened_table table_of_hardened version_in
  whole_bytes =
      let p = hardened_program (table_of table) in
      let n : nodes_of p ≡ length (write_c 0 p) = sym (counted_c 0 p).nodes_are in
      let version : declared.header.version ≡ (table_of table).version = header_version has_header in
      rw (written_program, ready_variables (ready admitted told), header_arrays has_header, ready_labels (ready admitted told), version, n)

  -- and how many
  whole_length : length (table_bytes (hardened_table (table_of table))) ≡ nodes_start (hardened_header declared.header 0) + bytes_of program
  whole_length = omega (arith, table_length (table_of table), same_start admitted told, ap bytes_of written_program)

  pub whole_fits : nodes_start (hardened_header declared.header 0) + bytes_of program ≤ length out
  whole_fits = omega (arith, whole_length, w.fits)

  -- so many nodes come out that a table may have them
  written_few : nodes_of program ≤ max_nodes
  unfolding hardened_at
  written_few = omega (arith, root_few admitted told w.measurable, (any_flag 0 declared.header.variables (decided_in table ds (root_at declared))).nodes_same)

  -- ---- behind the declarations
  module _ (at : ℕ) (here : at ≡ nodes_start (hardened_header declared.header 0)) where
    -- room for the nodes
    pub nodes_room : (m : List ℕ) → length m ≡ length out → SpaceFor 0 (nodes_of program) (bytes_of program) (rest_of at m)
    nodes_room m same =
        record {
          numbers = omega (arith, written_few);
          fits = simp (length-take, length-drop) (omega (arith, whole_fits));
        }

    -- the nodes behind the declarations, as one store
    nodes_stored : (m : List ℕ) {rest : List ℕ} {s : Size} → length m ≡ length out → Wrote (write_c 0 program) (rest_of at m) rest s
        → with_rest at m rest ≡ sets m at (flat_map node_bytes (write_c 0 program))
    nodes_stored m same n =
        let ns = flat_map node_bytes (write_c 0 program) in
        let there : at + length ns ≤ length m = omega (arith, whole_fits, (counted_c 0 program).bytes_are) in
        ap (with_rest at m) n.stored ∙ sets_rest m at ns there

    -- they leave room for the header in front of them
    pub header_room : (m : List ℕ) {rest : List ℕ} {s : Size} → length m ≡ length out → Wrote (write_c 0 program) (rest_of at m) rest s
        → header_size ≤ length (with_rest at m rest)
    header_room m same n =
        omega (arith, whole_fits, ap length (nodes_stored m same n) ∙ length-sets m at (flat_map node_bytes (write_c 0 program)))

    -- labels, arrays and nodes, and the header in front of them, make the table
    pub whole_written : {l m rest k : List ℕ} {s : Size} → l ≡ sets out header_size (labels_bytes to.version declared.labels)
        → m ≡ sets l (counts_start to) (flat_map count_bytes (table_of table).counts)
        → Wrote (write_c 0 program) (rest_of at m) rest s
        → k ≡ sets (with_rest at m rest) 0 (header_bytes (hardened_header declared.header s.nodes))
        → WroteTable table out k (at + s.bytes)
    whole_written {l} {m} {rest} {k} {s} p q n r =
        let header = declared.header in
        let h = header_bytes (hardened_header header (nodes_of program)) in
        let b = labels_bytes to.version declared.labels in
        let c = flat_map count_bytes (table_of table).counts in
        let ns = flat_map node_bytes (write_c 0 program) in
        let counted = counted_c 0 program in
        let came : s.nodes ≡ nodes_of program = (wrote_sized n counted).nodes_counted in
        let same : length m ≡ length out = ap length q ∙ length-sets l (counts_start to) c ∙ ap length p ∙ length-sets out header_size b in
        record {
          stored =
              r
              ∙ ap (λ i. sets (with_rest at m rest) 0 (header_bytes (hardened_header header i))) came
              ∙ ap (λ x. sets x 0 h) (nodes_stored m same n ∙ ap (λ x. sets x at ns) (q ∙ ap (λ x. sets x (counts_start to) c) p))
              ∙ four_runs out h b c ns header_size (counts_start to) at
              (omega (arith, length-header_bytes (hardened_header header (nodes_of program)))) (omega (arith, length-labels_bytes to.version declared.labels))
              (omega (arith, length_counts_bytes (table_of table).counts, header_arrays has_header))
              ∙ ap (sets out 0) (sym whole_bytes);
          counted = omega (arith, whole_length, n.bytes_counted, counted.bytes_are);
        }
