-- Reading a table of bytes: its declarations and nodes, or the refusal of the first record that fails.
-- "The first failing record decides. Within it: 1 (head), 2, 1 (body), 3, 4, 5. Then 6, 7, .."
use Rattle.std.specs.Prelude.{ℕ, zero, suc, ◌+◌, ◌*◌, ◌^◌, ◌<◌, Bool, true, false, cond, ◌&&◌, ◌||◌, ◌≡◌, length, get_or, take, eqb, ltb, leb}
use mathlib.Core.List.{List, [], ◌∷◌, ◌++◌, map, flat_map}
use Rattle.bytes_le.specs.Numbers.{le_at}
use Rattle.awhile.specs.Lists.{sum, occurrences}
use Rattle.awhile.specs.Refusals.{Answer, refused, got, check, and_then}
use Rattle.awhile.specs.Nodes.{size_of, sort_of, same_sort, decode_at, in_range, sorted, children_of}
use Rattle.awhile.specs.declared.Declarations.{Declarations}
use Rattle.awhile.specs.declared.Header.{Header}
use Rattle.awhile.specs.declared.Labelling.{Labelling}
use Rattle.awhile.specs.declared.Sort.TheVariants.{Command}
use Rattle.awhile.specs.declared.Node.{Node}
use Rattle.awhile.specs.declared.Node.TheVariants.{Skip}
use Rattle.std.specs.Prelude.{Some, None}
use Rattle.awhile.specs.declared.Refusal.TheVariants.{Cut, WrongRecord, BeyondLimit, OutOfRange, WrongSort, NotATree, ExtraBytes}

-- ---- versions: "Version 2 tables and sheets carry 8-byte variable masks and declare up to 64 variables .. Version 1 files still read as
-- before and keep their limit of 32."
unfoldable pub known_version : ℕ → Bool
known_version v = eqb v 1 || eqb v 2

-- the bytes of a variable mask
unfoldable pub mask_bytes : (version : ℕ) → ℕ
mask_bytes v = cond (eqb v 1) 4 8

-- a table declares no more variables than its mask of them has bits: 32 and 64
abbrev pub most_variables : (version : ℕ) → ℕ
most_variables v = 8 * mask_bytes v

-- ---- the limits: of variables, of any version; "A 0 to 16, N 1 to 4,096; a cell count is 1 or more and the counts sum to at most 16,384"
abbrev pub max_variables : ℕ
max_variables = 64

abbrev pub max_arrays : ℕ
max_arrays = 16

abbrev pub max_nodes : ℕ
max_nodes = 4096

abbrev pub max_cells : ℕ
max_cells = 16384

-- ---- what a table holds: its version, variables declared, the labels record, the arrays' cell counts, the nodes by number
pub record Table : Type 0 where
  pub version : ℕ
  pub variables : ℕ
  pub labels : Labelling
  pub counts : List ℕ
  pub nodes : List Node

-- what its header says of it
abbrev pub header_of : Table → Header
header_of t = record { version = t.version; variables = t.variables; arrays = length t.counts; nodes = length t.nodes }

-- and all that it declares
abbrev pub declarations_of : Table → Declarations
declarations_of t = record { header = header_of t; cells = sum t.counts; labels = t.labels }

-- ---- where records stand: the header at 0, then the labels, then the arrays, then the nodes
abbrev pub header_size : ℕ
header_size = 10

-- "record lengths grow by four where such a mask stands"
abbrev pub labels_size : (version : ℕ) → ℕ
labels_size v = 6 + mask_bytes v

abbrev pub array_size : ℕ
array_size = 6

abbrev pub labels_start : Header → ℕ
labels_start h = header_size

-- the first array, behind the labels
abbrev pub counts_start : Header → ℕ
counts_start h = labels_start h + labels_size h.version

-- an array by its number
abbrev pub count_start : Header → (array : ℕ) → ℕ
count_start h a = counts_start h + array_size * a

-- the first node, behind the last array
abbrev pub nodes_start : Header → ℕ
nodes_start h = count_start h h.arrays

-- no labels record has more bytes, of any version
abbrev pub longest_labels : ℕ
longest_labels = 14

-- no table has more: a node's record has at most 10
abbrev pub longest_table : ℕ
longest_table = header_size + longest_labels + array_size * max_arrays + 10 * max_nodes

-- the byte offset of a node's record, and of the first byte after the last one
unfoldable pub offset_of : Table → (node : ℕ) → ℕ
offset_of t n = nodes_start (header_of t) + sum (map size_of (take n t.nodes))

-- ---- one record
-- 1 (head), 2, 1 (body): four bytes remain, the length is the one wanted at this point (0: the kind is not), and so many remain
unfoldable pub framed : {A : Type 0} → List ℕ → (at wanted : ℕ) → Answer A → Answer A
framed s at wanted rest =
    check (leb (at + 4) (length s)) (Cut at)
    (check (ltb 0 wanted && eqb (le_at 2 s at) wanted) (WrongRecord at)
    (check (leb (at + wanted) (length s)) (Cut at)
    rest))

-- the length wanted of a record that must be of one kind
unfoldable pub length_of_kind : (kind size : ℕ) → List ℕ → (at : ℕ) → ℕ
length_of_kind kind size s at = cond (eqb (le_at 2 s (at + 2)) kind) size 0

-- kind 1: version, variables V (1 byte), arrays A (1 byte), nodes N
unfoldable pub read_header : List ℕ → Answer Header
read_header s =
    framed s 0 (length_of_kind 1 header_size s 0)
    (check (known_version (le_at 2 s 4) && leb (le_at 1 s 6) (most_variables (le_at 2 s 4)) && leb (le_at 1 s 7) max_arrays && ltb 0 (le_at 2 s 8) && leb (le_at 2 s 8) max_nodes) (BeyondLimit 0)
    (got (record { version = le_at 2 s 4; variables = le_at 1 s 6; arrays = le_at 1 s 7; nodes = le_at 2 s 8 })))

-- kind 3: variable mask (4 or 8 bytes), array mask; "bits from V or A up are 0"
unfoldable pub read_labels : List ℕ → Header → (at : ℕ) → Answer Labelling
read_labels s h at =
    let w = mask_bytes h.version in
    framed s at (length_of_kind 3 (labels_size h.version) s at)
    (check (ltb (le_at w s (at + 4)) (2 ^ h.variables) && ltb (le_at 2 s (at + 4 + w)) (2 ^ h.arrays)) (BeyondLimit at)
    (got (record { variables = le_at w s (at + 4); arrays = le_at 2 s (at + 4 + w) })))

-- kind 2: cell count, 1 or more; the counts so far, this one included, sum to at most 16,384
unfoldable pub read_count : List ℕ → (at before : ℕ) → Answer ℕ
read_count s at before =
    framed s at (length_of_kind 2 array_size s at)
    (check (ltb 0 (le_at 2 s (at + 4)) && leb (before + le_at 2 s (at + 4)) max_cells) (BeyondLimit at)
    (got (le_at 2 s (at + 4))))

-- so many array records from an offset, after the counts already read
unfoldable pub read_counts : (left : ℕ) → List ℕ → (at : ℕ) → List ℕ → Answer (List ℕ)
read_counts zero s at before = got before
read_counts (suc left) s at before =
    elim (read_count s at (sum before)) [
      | refused r ↦ refused r
      | got count ↦ read_counts left s (at + array_size) (before ++ (count ∷ []))
    ]

-- the record of the next node, after the nodes already read
unfoldable pub read_node : Header → List ℕ → (at : ℕ) → List Node → Answer Node
read_node h s at before =
    elim (decode_at s at) [
      | None ↦ framed s at 0 (got Skip)
      | Some n ↦
          framed s at (size_of n)
          (check (in_range h.variables h.arrays (length before) n) (OutOfRange at)
          (check (sorted before n) (WrongSort at)
          (got n)))
    ]

-- so many node records from an offset, after the nodes already read
unfoldable pub read_nodes : (left : ℕ) → Header → List ℕ → (at : ℕ) → List Node → Answer (List Node)
read_nodes zero h s at before = got before
read_nodes (suc left) h s at before =
    elim (read_node h s at before) [
      | refused r ↦ refused r
      | got n ↦ read_nodes left h s (at + size_of n) (before ++ (n ∷ []))
    ]

-- all records, each checked by itself: causes 1 to 5
unfoldable pub read_records : List ℕ → Answer Table
read_records s =
    and_then (read_header s) (λ h.
    and_then (read_labels s h (labels_start h)) (λ l.
    and_then (read_counts h.arrays s (counts_start h) []) (λ cs.
    and_then (read_nodes h.nodes h s (nodes_start h) []) (λ ns.
    got (record { version = h.version; variables = h.variables; labels = l; counts = cs; nodes = ns })))))

-- ---- the nodes as one tree
-- how often a node is a child
unfoldable pub uses_of : List Node → (node : ℕ) → ℕ
uses_of ns n = occurrences n (flat_map children_of ns)

-- 6: a node is in order if it is a child exactly once or, as the last, is a command
unfoldable pub in_order : List Node → (node : ℕ) → Bool
in_order ns n = cond (eqb (suc n) (length ns)) (same_sort (sort_of (get_or ns n Skip)) Command) (eqb (uses_of ns n) 1)

-- the first so many nodes are in order
unfoldable pub all_in_order : List Node → (count : ℕ) → Bool
all_in_order ns zero = true
all_in_order ns (suc n) = in_order ns n && all_in_order ns n

-- from a node up, the first of so many that is not in order; the number behind them where all are
unfoldable pub first_broken : List Node → (count from : ℕ) → ℕ
first_broken ns zero n = n
first_broken ns (suc count) n = cond (in_order ns n) (first_broken ns count (suc n)) n

-- "the lowest-numbered node that breaks the rule"
pub record LowestBroken (ns : List Node) (node : ℕ) : Type 0 where
  pub is_node : node < length ns
  pub broken : in_order ns node ≡ false
  pub lower : (i : ℕ) → i < node → in_order ns i ≡ true

-- ---- the whole table
-- 6, at the record of the first node from 0 up that is not in order; then 7: "bytes after node N-1", at the first extra byte
unfoldable pub check_whole : List ℕ → Table → Answer Table
check_whole s t =
    let count = length t.nodes in
    let end = offset_of t count in
    check (all_in_order t.nodes count) (NotATree (offset_of t (first_broken t.nodes count 0)))
    (check (leb (length s) end) (ExtraBytes end)
    (got t))

unfoldable pub read_table : List ℕ → Answer Table
read_table s = and_then (read_records s) (check_whole s)

-- What a refusal by 6 says: its place is the record of the lowest-numbered node that breaks the rule, in the table whose records these bytes are
pub record PointsAtLowest (s : List ℕ) (place : ℕ) : Type 0 where
  pub table : Table
  pub records : read_records s ≡ got table
  pub node : ℕ
  pub lowest : LowestBroken table.nodes node
  pub is_place : place ≡ offset_of table node
