-- A well-formed table reads back from its bytes.
use Prim.Native.Nat.{ℕ, suc, ◌+◌, ◌*◌, ◌^◌, ◌≤◌, ◌<◌}
use native.Mathlib.Omega.{arith}
use mathlib.Core.Bool.{true}
use mathlib.Core.Path.{◌≡◌, refl, ap, ◌∙◌}
use mathlib.Core.List.{List, [], ◌∷◌, ◌++◌, append-nil, flat_map}
use lib.ListN.{length, get_or, length-append}
use lib.Seq.{take-length, append_snoc}
use borrow.Author.Tests.{lt-ltb, le-leb, eq-eqb}
use Rattle.bytes_le.specs.Numbers.{le, le_at}
use Rattle.bytes_le.proofs.Numbers.{length_le}
use Rattle.bytes_le.proofs.Pieces.{Stands, stands_first, stands_second, stands_whole, stands_le, stands_number}
use Rattle.awhile.specs.Lists.{sum}
use Rattle.awhile.specs.Refusals.{Answer, got, check, and_then}
use Rattle.awhile.specs.Nodes.{form, size_of, node_bytes, in_range}
use Rattle.awhile.specs.Tables.{Table, header_of, known_version, mask_bytes, most_variables, max_variables, max_arrays, max_nodes, max_cells, header_size, labels_size, array_size, labels_start, counts_start, nodes_start, offset_of}
use Rattle.awhile.specs.Tables.{framed, length_of_kind, read_header, read_labels, read_count, read_counts, read_node, read_nodes, read_records}
use Rattle.awhile.specs.Tables.{check_whole, read_table}
use Rattle.awhile.specs.Encoding.{header_bytes, labels_bytes, count_bytes, table_bytes}
use Rattle.awhile.specs.WellFormed.{WellFormed, NodeFits}
use Rattle.awhile.proofs.Lists.{sum-append, length_flat_map}
use Rattle.awhile.proofs.Versions.{mask_most, variables_most, known_small, mask_in_bytes}
use Rattle.awhile.proofs.Records.{fields_fit_lem, HeadAt, head_stands, node_stands, length-node_bytes, size_least}
use Rattle.awhile.proofs.Cases.{counts_next, node_known, nodes_next, table_read}
use Rattle.awhile.proofs.Fitting.{FitAfter, fit_in_turn}
use Rattle.awhile.specs.declared.Header.{Header}
use Rattle.awhile.specs.declared.Labelling.{Labelling}
use Rattle.awhile.specs.declared.Node.{Node}

-- ---- lengths
-- an array record has 6 bytes
pub length-count_bytes : (n : ℕ) → length (count_bytes n) ≡ array_size
unfolding count_bytes
length-count_bytes n = simp (length-append, length_le)

-- so has each of them
pub length_counts_bytes : (ns : List ℕ) → length (flat_map count_bytes ns) ≡ array_size * length ns
unfolding flat_map
length_counts_bytes [] = refl
length_counts_bytes (n ∷ ns) = simp (length-append, length-count_bytes) (omega (arith, length_counts_bytes ns))

-- the header has 10 bytes
pub length-header_bytes : (h : Header) → length (header_bytes h) ≡ header_size
unfolding header_bytes
length-header_bytes h = simp (length-append, length_le)

-- the labels record has 6 bytes and those of the variable mask
pub length-labels_bytes : (v : ℕ) (l : Labelling) → length (labels_bytes v l) ≡ labels_size v
unfolding labels_bytes
length-labels_bytes v l = simp (length-append, length_le) (omega arith)

-- ---- one record
-- a record of the wanted length that is inside passes to its fields
pub framed_passes : {A : Type 0} (s : List ℕ) (at wanted : ℕ) (rest : Answer A)
    → 4 ≤ wanted → le_at 2 s at ≡ wanted → at + wanted ≤ length s → framed s at wanted rest ≡ rest
unfolding framed check
framed_passes s at wanted rest least e inside =
    rw
    (le-leb (at + 4) (length s) (omega arith), lt-ltb 0 wanted (omega arith), eq-eqb (le_at 2 s at) wanted e, le-leb (at + wanted) (length s) inside)

-- so does a record of the one kind that must stand there
pub framed_kind : {A : Type 0} (s : List ℕ) (at kind size : ℕ) (body : List ℕ) (rest : Answer A)
    → 4 ≤ size → HeadAt s at size kind body → framed s at (length_of_kind kind size s at) rest ≡ rest
unfolding length_of_kind
framed_kind s at kind size body rest least head =
    rw (eq-eqb (le_at 2 s (at + 2)) kind head.is_kind) (framed_passes s at size rest least head.is_length head.inside)

module _ (s : List ℕ) where
  -- the header reads back
  pub header_reads : (h : Header) → known_version h.version ≡ true → h.variables ≤ most_variables h.version → h.arrays ≤ max_arrays → 0 < h.nodes → h.nodes ≤ max_nodes
      → Stands (header_bytes h) 0 s → read_header s ≡ got h
  unfolding header_bytes read_header check
  header_reads h known v a some n st =
      let vs = h.variables in
      let arrs = h.arrays in
      let nodes = h.nodes in
      let number = h.version in
      let body : List ℕ = le 2 number ++ (le 1 vs ++ (le 1 arrs ++ le 2 nodes)) in
      let head : HeadAt s 0 header_size 1 body = head_stands s 0 header_size 1 body (simp (length-append, length_le) refl) (omega arith) (omega arith) st in
      let version = stands_number s 2 number (le 1 vs ++ (le 1 arrs ++ le 2 nodes)) 4 6 (omega (arith, known_small number known)) refl head.body_stands in
      let variables = stands_number s 1 vs (le 1 arrs ++ le 2 nodes) 6 7 (omega (arith, variables_most number vs v)) refl version.rest in
      let arrays = stands_number s 1 arrs (le 2 nodes) 7 8 (omega arith) refl variables.rest in
      framed_kind s 0 1 header_size body _ (omega arith) head
      ∙ rw (
        version.is_number,
        variables.is_number,
        arrays.is_number,
        stands_le s 2 nodes 8 (omega arith) arrays.rest,
        known,
        le-leb vs (most_variables number) v,
        le-leb arrs 16 a,
        lt-ltb 0 nodes some,
        le-leb nodes 4096 n,
      )

  -- the labels record reads back
  pub labels_read : (l : Labelling) (h : Header) (at : ℕ) → h.variables ≤ most_variables h.version → h.arrays ≤ max_arrays
      → l.variables < 2 ^ h.variables → l.arrays < 2 ^ h.arrays
      → Stands (labels_bytes h.version l) at s → read_labels s h at ≡ got l
  unfolding labels_bytes read_labels check
  labels_read l h at v a vm am st =
      let w = mask_bytes h.version in
      let size = labels_size h.version in
      let body : List ℕ = le w l.variables ++ le 2 l.arrays in
      let most = mask_most h.version in
      let head : HeadAt s at size 3 body = head_stands s at size 3 body (simp (length-append, length_le) (omega arith)) (omega arith) (omega (arith, most)) st in
      let variables = stands_number s w l.variables (le 2 l.arrays) (at + 4) (at + 4 + w) (mask_in_bytes w h.variables l.variables v vm) (omega arith) head.body_stands in
      framed_kind s at 3 size body _ (omega arith) head
      ∙ rw (
        variables.is_number,
        stands_le s 2 l.arrays (at + 4 + w) (mask_in_bytes 2 h.arrays l.arrays a am) variables.rest,
        lt-ltb l.variables (2 ^ h.variables) vm,
        lt-ltb l.arrays (2 ^ h.arrays) am,
      )

  -- an array record reads back
  pub count_reads : (n at before : ℕ) → 0 < n → before + n ≤ max_cells → Stands (count_bytes n) at s → read_count s at before ≡ got n
  unfolding count_bytes read_count check
  count_reads n at before some fits st =
      let head = head_stands s at array_size 2 (le 2 n) (simp length_le refl) (omega arith) (omega arith) st in
      framed_kind s at 2 array_size (le 2 n) _ (omega arith) head
      ∙ rw
      (stands_le s 2 n (at + 4) (omega arith) head.body_stands, lt-ltb 0 n some, le-leb (before + n) 16384 fits)

  -- the array records read back, after those already read
  pub counts_read : (rest before : List ℕ) (at : ℕ) → ((i : ℕ) → i < length rest → 0 < get_or rest i 0) → sum before + sum rest ≤ max_cells
      → Stands (flat_map count_bytes rest) at s → read_counts (length rest) s at before ≡ got (before ++ rest)
  unfolding read_counts flat_map sum
  counts_read [] before at positive fits st = rw append-nil
  counts_read (n ∷ rest) before at positive fits st =
      let first = count_reads n at (sum before) (positive 0 (omega arith)) (omega arith) (stands_first s (count_bytes n) (flat_map count_bytes rest) at st) in
      let more = stands_second s (count_bytes n) (flat_map count_bytes rest) at (at + array_size) (ap (λ k. at + k) (length-count_bytes n)) st in
      let total : sum (before ++ (n ∷ [])) + sum rest ≤ max_cells = rw sum-append (omega arith) in
      counts_next s at (length rest) before n first
      ∙ (counts_read rest (before ++ (n ∷ [])) (at + array_size) (λ i inside. positive (suc i) (omega arith)) total more ∙ ap got (append_snoc before n rest))

  module _ (h : Header) (v : h.variables ≤ max_variables) (a : h.arrays ≤ max_arrays) where
    -- a node's record reads back
    pub node_reads : (n : Node) (before : List Node) (at : ℕ) → length before ≤ max_nodes → NodeFits h.variables h.arrays before n
        → Stands (node_bytes n) at s → read_node h s at before ≡ got n
    unfolding in_range check
    node_reads n before at few fits st =
        let fields_fit = fields_fit_lem h.variables h.arrays (length before) (omega arith) (omega arith) (omega arith) (form n).fields fits.ranged fits.words_fit in
        let there = node_stands s at n fields_fit st in
        node_known s at h before n there.decoded
        ∙ framed_passes s at (size_of n) _ (size_least n) there.is_length there.inside
        ∙ rw (fits.ranged, fits.well_sorted)

    -- the node records read back, after those already read
    pub nodes_read : (rest before : List Node) (at : ℕ) → length before + length rest ≤ max_nodes → FitAfter h.variables h.arrays before rest
        → Stands (flat_map node_bytes rest) at s → read_nodes (length rest) h s at before ≡ got (before ++ rest)
    unfolding read_nodes flat_map
    nodes_read [] before at few fits st = rw append-nil
    nodes_read (n ∷ rest) before at few fits st =
        let first = node_reads n before at (omega arith) fits.0 (stands_first s (node_bytes n) (flat_map node_bytes rest) at st) in
        let more = stands_second s (node_bytes n) (flat_map node_bytes rest) at (at + size_of n) (ap (λ k. at + k) (length-node_bytes n)) st in
        let total : length (before ++ (n ∷ [])) + length rest ≤ max_nodes = rw length-append (omega arith) in
        nodes_next s at h before (length rest) n first
        ∙ (nodes_read rest (before ++ (n ∷ [])) (at + size_of n) total fits.1 more ∙ ap got (append_snoc before n rest))

-- ---- the whole table
-- the records of a well-formed table read back, whatever follows them
pub records_read : (t : Table) → WellFormed t → (s : List ℕ) → Stands (table_bytes t) 0 s → read_records s ≡ got t
unfolding read_records and_then table_bytes sum
records_read t w s st =
    let d = w.declared in
    let h : Header = header_of t in
    let header : List ℕ = header_bytes h in
    let labels : List ℕ = labels_bytes t.version t.labels in
    let counts : List ℕ = flat_map count_bytes t.counts in
    let nodes : List ℕ = flat_map node_bytes t.nodes in
    let from_labels = stands_second s header (labels ++ (counts ++ nodes)) 0 (labels_start h) (omega (arith, length-header_bytes h)) st in
    let from_counts = stands_second s labels (counts ++ nodes) (labels_start h) (counts_start h) (ap (λ k. labels_start h + k) (length-labels_bytes t.version t.labels)) from_labels in
    let from_nodes = stands_second s counts nodes (counts_start h) (nodes_start h) (ap (λ k. counts_start h + k) (length_counts_bytes t.counts)) from_counts in
    rw (
      header_reads s h d.version_known d.variables_fit d.arrays_fit w.has_nodes w.nodes_fit (stands_first s header (labels ++ (counts ++ nodes)) 0 st),
      labels_read s t.labels h (labels_start h) d.variables_fit d.arrays_fit d.variable_mask_fits d.array_mask_fits (stands_first s labels (counts ++ nodes) (labels_start h) from_labels),
      counts_read s t.counts [] (counts_start h) d.counts_positive (omega arith) (stands_first s counts nodes (counts_start h) from_counts),
      nodes_read s h (variables_most t.version t.variables d.variables_fit) d.arrays_fit t.nodes [] (nodes_start h) (omega arith) (fit_in_turn t.variables (length t.counts) t.nodes [] w.each_fits) from_nodes,
    )

-- a table's bytes end where its last record ends
pub length-table_bytes : (t : Table) → length (table_bytes t) ≡ offset_of t (length t.nodes)
unfolding table_bytes offset_of
length-table_bytes t =
    simp (length-append, take-length)
    (omega (arith, length-header_bytes (header_of t), length-labels_bytes t.version t.labels, length_counts_bytes t.counts, length_flat_map node_bytes size_of length-node_bytes t.nodes))

-- a well-formed table reads back from its bytes
pub read_back : (t : Table) → WellFormed t → read_table (table_bytes t) ≡ got t
unfolding check_whole check
read_back t w =
    table_read (table_bytes t) t (records_read t w (table_bytes t) (stands_whole (table_bytes t)))
    ∙ rw (w.one_tree, le-leb (length (table_bytes t)) (offset_of t (length t.nodes)) (omega (arith, length-table_bytes t)))
