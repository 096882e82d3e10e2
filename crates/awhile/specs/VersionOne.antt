-- Document 01's reading of a table, with its own numbers: "Version 1 files still read as before and keep their limit of 32."
-- Nothing is read by it: it says what `read_table` is of every file that does not say version 2.
use Rattle.std.specs.Prelude.{ℕ, ◌+◌, ◌*◌, ◌^◌, ◌&&◌, ◌≡◌, List, [], map, length, take, eqb, ltb, leb}
use Rattle.bytes_le.specs.Numbers.{le_at}
use Rattle.awhile.specs.Lists.{sum}
use Rattle.awhile.specs.Nodes.{size_of}
use Rattle.awhile.specs.Refusals.{Answer, got, check, and_then}
use Rattle.awhile.specs.Tables.{Table, framed, length_of_kind, read_counts, read_nodes, all_in_order, first_broken, read_table}
use Rattle.awhile.specs.declared.Header.{Header}
use Rattle.awhile.specs.declared.Labelling.{Labelling}
use Rattle.awhile.specs.declared.Refusal.TheVariants.{BeyondLimit, NotATree, ExtraBytes}

-- "1 header: version (1), variables V (1 byte), arrays A (1 byte), nodes N. Length 10."; "V is 0 to 32, A 0 to 16, N 1 to 4,096"
unfoldable pub header_one : List ℕ → Answer Header
header_one s =
    framed s 0 (length_of_kind 1 10 s 0)
    (check (eqb (le_at 2 s 4) 1 && leb (le_at 1 s 6) 32 && leb (le_at 1 s 7) 16 && ltb 0 (le_at 2 s 8) && leb (le_at 2 s 8) 4096) (BeyondLimit 0)
    (got (record { version = 1; variables = le_at 1 s 6; arrays = le_at 1 s 7; nodes = le_at 2 s 8 })))

-- "3 labels: variable mask (4 bytes), array mask; bit n set means number n is secret, and bits from V or A up are 0. Length 10."
unfoldable pub labels_one : List ℕ → Header → Answer Labelling
labels_one s h =
    framed s 10 (length_of_kind 3 10 s 10)
    (check (ltb (le_at 4 s 14) (2 ^ h.variables) && ltb (le_at 2 s 18) (2 ^ h.arrays)) (BeyondLimit 10)
    (got (record { variables = le_at 4 s 14; arrays = le_at 2 s 18 })))

-- "Records stand as header, labels, arrays, nodes."
unfoldable pub records_one : List ℕ → Answer Table
records_one s =
    and_then (header_one s) (λ h.
    and_then (labels_one s h) (λ l.
    and_then (read_counts h.arrays s 20 []) (λ cs.
    and_then (read_nodes h.nodes h s (20 + 6 * h.arrays) []) (λ ns.
    got (record { version = 1; variables = h.variables; labels = l; counts = cs; nodes = ns })))))

-- the byte offset of a node's record, and of the first byte after the last one
unfoldable pub offset_one : Table → (node : ℕ) → ℕ
offset_one t n = 20 + 6 * length t.counts + sum (map size_of (take n t.nodes))

-- 6 and 7, at such offsets
unfoldable pub whole_one : List ℕ → Table → Answer Table
whole_one s t =
    let count = length t.nodes in
    check (all_in_order t.nodes count) (NotATree (offset_one t (first_broken t.nodes count 0)))
    (check (leb (length s) (offset_one t count)) (ExtraBytes (offset_one t count))
    (got t))

-- What is said of every file: it reads as before, unless it says version 2
pub record ReadsAsBefore (s : List ℕ) : Type 0 where
  pub as_before : ¬ (le_at 2 s 4 ≡ 2) → read_table s ≡ and_then (records_one s) (whole_one s)
