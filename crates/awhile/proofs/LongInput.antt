-- Input of any length: two inputs that are both longer than the longest table and have its bytes in common are read alike.
use Prim.Native.Nat.{ℕ, zero, suc, ◌+◌, ◌*◌, ◌≤◌, ◌<◌}
use native.Mathlib.Omega.{arith}
use mathlib.Core.Bool.{Bool, true, false, cond}
use mathlib.Core.Path.{◌≡◌, refl, sym, ap, subst, ◌∙◌}
use mathlib.Core.List.{List, [], ◌∷◌, ◌++◌, map}
use lib.ListN.{length, take, drop, take-append-drop}
use lib.Seq.{take_all, take-length, length-take-le}
use native.Mathlib.Decide.{dec_lt}
use lib.Dec.{eqb}
use borrow.Author.Tests.{le-leb, lt-leb}
use Rattle.bytes_le.specs.Numbers.{le_at}
use Rattle.bytes_le.proofs.Numbers.{Below, le_at-append_le}
use Rattle.awhile.specs.Lists.{sum}
use Rattle.awhile.specs.Refusals.{Answer, refused, got, and_then}
use Rattle.awhile.specs.Nodes.{size_of, decode_at}
use Rattle.awhile.specs.Tables.{Table, mask_bytes, header_size, labels_size, array_size, labels_start, counts_start, nodes_start, longest_table, offset_of}
use Rattle.awhile.specs.Tables.{framed, length_of_kind, read_header, read_labels, read_count, read_counts, read_node, read_nodes, read_records}
use Rattle.awhile.specs.Tables.{check_whole, read_table}
use Rattle.awhile.proofs.Cases.{counts_next, counts_refused, node_known, node_unknown, nodes_next, nodes_refused, table_read, table_refused}
use Rattle.awhile.proofs.Versions.{mask_most}
use Rattle.awhile.proofs.Records.{head_fits, sizes_most}
use Rattle.awhile.proofs.Accepted.{HeaderFits, header_fits, RecordsRead, records_known}
use Rattle.awhile.specs.declared.Header.{Header}
use Rattle.awhile.specs.declared.Node.{Node}
use Rattle.awhile.specs.declared.Node.TheVariants.{Skip}
use Rattle.std.proofs.Common.{Option, Some, None}

-- a table that was read ends within the longest one
table_ends : {s : List ℕ} {t : Table} → RecordsRead s t → offset_of t (length t.nodes) ≤ longest_table
unfolding offset_of
table_ends {s} {t} r =
    let all : take (length t.nodes) t.nodes ≡ t.nodes = take-length t.nodes in
    omega (arith, ap (λ (ns : List Node). sum (map size_of ns)) all, sizes_most t.nodes, mask_most t.version, r.declared.arrays_fit, r.nodes_fit)

module _ (s u : List ℕ) (left : longest_table < length s) (right : longest_table < length u)
    (same : (width at : ℕ) → at + width ≤ longest_table → le_at width s at ≡ le_at width u at) where
  -- a record inside the longest table is framed alike
  framed_same : {A : Type 0} (at wanted : ℕ) (a b : Answer A) → at + 4 ≤ longest_table → at + wanted ≤ longest_table → a ≡ b
      → framed s at wanted a ≡ framed u at wanted b
  unfolding framed
  framed_same at wanted a b head body e =
      rw (le-leb (at + 4) (length s) (omega arith), le-leb (at + 4) (length u) (omega arith), le-leb (at + wanted) (length s) (omega arith), le-leb (at + wanted) (length u) (omega arith), same 2 at (omega arith), e)

  kind_most : (kind size at : ℕ) → length_of_kind kind size s at ≤ size
  unfolding length_of_kind
  kind_most kind size at = go (eqb (le_at 2 s (at + 2)) kind)
    where
      go : (b : Bool) → cond b size 0 ≤ size
      go true = omega arith
      go false = omega arith

  kind_same : (kind size at : ℕ) → at + 4 ≤ longest_table → length_of_kind kind size s at ≡ length_of_kind kind size u at
  unfolding length_of_kind
  kind_same kind size at h = ap (λ (n : ℕ). cond (eqb n kind) size 0) (same 2 (at + 2) (omega arith))

  framed_kind_same : {A : Type 0} (kind size at : ℕ) (a b : Answer A) → at + 4 ≤ longest_table → at + size ≤ longest_table → a ≡ b
      → framed s at (length_of_kind kind size s at) a ≡ framed u at (length_of_kind kind size u at) b
  framed_kind_same kind size at a b head body e =
      rw (← kind_same kind size at head) (framed_same at (length_of_kind kind size s at) a b head (omega (arith, kind_most kind size at)) e)

  header_same : read_header s ≡ read_header u
  unfolding read_header
  header_same =
      framed_kind_same 1 header_size 0 _ _ (omega arith) (omega arith)
      (rw (same 2 4 (omega arith), same 1 6 (omega arith), same 1 7 (omega arith), same 2 8 (omega arith)))

  labels_same : (h : Header) (at : ℕ) → at + labels_size h.version ≤ longest_table → read_labels s h at ≡ read_labels u h at
  unfolding read_labels
  labels_same h at room =
      let w = mask_bytes h.version in
      framed_kind_same 3 (labels_size h.version) at _ _ (omega arith) room (rw (same w (at + 4) (omega arith), same 2 (at + 4 + w) (omega arith)))

  count_same : (at before : ℕ) → at + array_size ≤ longest_table → read_count s at before ≡ read_count u at before
  unfolding read_count
  count_same at before h = framed_kind_same 2 array_size at _ _ (omega arith) h (rw (same 2 (at + 4) (omega arith)))

  counts_same : (more at : ℕ) (before : List ℕ) → at + array_size * more ≤ longest_table → read_counts more s at before ≡ read_counts more u at before
  unfolding read_counts
  counts_same zero at before h = refl
  counts_same (suc more) at before h = go (read_count s at (sum before)) refl (λ n. counts_same more (at + array_size) (before ++ (n ∷ [])) (omega arith))
    where
      other : read_count s at (sum before) ≡ read_count u at (sum before)
      other = count_same at (sum before) (omega arith)

      go : (a : Answer ℕ) → read_count s at (sum before) ≡ a
          → ((n : ℕ) → read_counts more s (at + array_size) (before ++ (n ∷ [])) ≡ read_counts more u (at + array_size) (before ++ (n ∷ [])))
          → read_counts (suc more) s at before ≡ read_counts (suc more) u at before
      go (refused r) e ih = counts_refused s at more before r e ∙ sym (counts_refused u at more before r (sym other ∙ e))
      go (got n) e ih = counts_next s at more before n e ∙ (ih n ∙ sym (counts_next u at more before n (sym other ∙ e)))

  decode_same : (at : ℕ) → at + 10 ≤ longest_table → decode_at s at ≡ decode_at u at
  unfolding decode_at
  decode_same at h =
      rw (same 2 (at + 2) (omega arith), same 2 (at + 4) (omega arith), same 2 (at + 6) (omega arith), same 2 (at + 8) (omega arith), same 4 (at + 4) (omega arith))

  node_same : (h : Header) (at : ℕ) (before : List Node) → at + 10 ≤ longest_table → read_node h s at before ≡ read_node h u at before
  node_same h at before room = go (decode_at s at) refl
    where
      go : (d : Option Node) → decode_at s at ≡ d → read_node h s at before ≡ read_node h u at before
      go None e =
          node_unknown s at h before e
          ∙ (framed_same at 0 (got Skip) (got Skip) (omega arith) (omega arith) refl ∙ sym (node_unknown u at h before (sym (decode_same at room) ∙ e)))
      go (Some n) e =
          node_known s at h before n e
          ∙ (framed_same at (size_of n) _ _ (omega arith) (omega (arith, head_fits n)) refl ∙ sym (node_known u at h before n (sym (decode_same at room) ∙ e)))

  nodes_same_lem : (h : Header) (more at : ℕ) (before : List Node) → at + 10 * more ≤ longest_table → read_nodes more h s at before ≡ read_nodes more h u at before
  unfolding read_nodes
  nodes_same_lem h zero at before room = refl
  nodes_same_lem h (suc more) at before room =
      go (read_node h s at before) refl (λ n. nodes_same_lem h more (at + size_of n) (before ++ (n ∷ [])) (omega (arith, head_fits n)))
    where
      other : read_node h s at before ≡ read_node h u at before
      other = node_same h at before (omega arith)

      go : (a : Answer Node) → read_node h s at before ≡ a
          → ((n : Node) → read_nodes more h s (at + size_of n) (before ++ (n ∷ [])) ≡ read_nodes more h u (at + size_of n) (before ++ (n ∷ [])))
          → read_nodes (suc more) h s at before ≡ read_nodes (suc more) h u at before
      go (refused r) e ih = nodes_refused s at h before more r e ∙ sym (nodes_refused u at h before more r (sym other ∙ e))
      go (got n) e ih = nodes_next s at h before more n e ∙ (ih n ∙ sym (nodes_next u at h before more n (sym other ∙ e)))

  -- the rest of the reading, behind a header that fits
  abbrev behind : List ℕ → Header → Answer Table
  behind x h =
      and_then (read_labels x h (labels_start h)) (λ l.
      and_then (read_counts h.arrays x (counts_start h) []) (λ cs.
      and_then (read_nodes h.nodes h x (nodes_start h) []) (λ ns.
      got (record { version = h.version; variables = h.variables; labels = l; counts = cs; nodes = ns }))))

  behind_same : (h : Header) → HeaderFits s h → behind s h ≡ behind u h
  behind_same h fits =
      rw (
        labels_same h (labels_start h) (omega (arith, mask_most h.version)),
        counts_same h.arrays (counts_start h) [] (omega (arith, fits.arrays_fit, mask_most h.version)),
        nodes_same_lem h h.nodes (nodes_start h) [] (omega (arith, fits.arrays_fit, fits.nodes_fit, mask_most h.version)),
      )

  records_same : read_records s ≡ read_records u
  unfolding read_records and_then
  records_same = go (read_header s) refl
    where
      go : (a : Answer Header) → read_header s ≡ a → read_records s ≡ read_records u
      go (refused r) e = rw (e, sym header_same ∙ e)
      go (got h) e = rw (e, sym header_same ∙ e) (behind_same h (header_fits s h e))

  whole_same : (t : Table) → offset_of t (length t.nodes) ≤ longest_table → check_whole s t ≡ check_whole u t
  unfolding check_whole
  whole_same t h =
      rw (lt-leb (length s) (offset_of t (length t.nodes)) (omega arith), lt-leb (length u) (offset_of t (length t.nodes)) (omega arith))

  table_same : Below 256 s → read_table s ≡ read_table u
  table_same bytes = go (read_records s) refl
    where
      go : (a : Answer Table) → read_records s ≡ a → read_table s ≡ read_table u
      go (refused r) e = table_refused s r e ∙ sym (table_refused u r (sym records_same ∙ e))
      go (got t) e =
          table_read s t e ∙ (whole_same t (table_ends (records_known s bytes t e)) ∙ sym (table_read u t (sym records_same ∙ e)))

-- An input and its first bytes, as soon as these are more than the longest table has, are read alike.
pub long_input : (s : List ℕ) → Below 256 s → (k : ℕ) → longest_table < k → read_table (take k s) ≡ read_table s
long_input s bytes k more = go (dec_lt k (length s))
  where
    go : Dec (k < length s) → read_table (take k s) ≡ read_table s
    go (no h) = ap read_table (take_all k s (omega arith))
    go (yes h) =
        let width : length (take k s) ≡ k = length-take-le k s (omega arith) in
        sym
        (table_same s (take k s) (omega arith) (omega arith)
        (λ w at room.
        subst (λ (x : List ℕ). le_at w x at ≡ le_at w (take k s) at) (take-append-drop k s) (le_at-append_le w at (take k s) (drop k s) (omega arith)))
        bytes)
