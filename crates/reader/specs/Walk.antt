-- What the reader knows between two records.
use Rattle.std.specs.Prelude.{ℕ, ◌+◌, ◌-◌, ◌*◌, ◌^◌, ◌<◌, ◌≤◌, ◌≡◌, length, Result, Ok, Err}
use mathlib.Core.List.{List, [], map, flat_map}
use Rattle.awhile.specs.Lists.{sum}
use Rattle.awhile.specs.Refusals.{Answer, as_result, refused, got, and_then}
use Rattle.awhile.specs.Nodes.{size_of, children_of}
use Rattle.awhile.specs.Tables.{max_arrays, max_cells, max_nodes, header_size, labels_size, array_size, labels_start, counts_start, nodes_start, read_header, read_labels, read_counts, read_nodes, read_table}
use Rattle.record.specs.RecordRead.{Kept, CountsBelow}
use Rattle.reader.specs.Index.{Ready}
use Rattle.reader.specs.Classes.{RoomFor}
use Rattle.awhile.specs.declared.Declarations.{Declarations}
use Rattle.awhile.specs.declared.Header.{Header}
use Rattle.awhile.specs.declared.Labelling.{Labelling}
use Rattle.awhile.specs.declared.Node.{Node}
use Rattle.awhile.specs.declared.Refusal.{Refusal}
use Rattle.reader.specs.declared.records.Progress.{Progress}
use Rattle.reader.specs.declared.records.Due.TheVariants.{Header as HeaderDue, Labels as LabelsDue, Body}

abbrev no_header : Header
no_header = record { version = 0; variables = 0; arrays = 0; nodes = 0 }

abbrev no_labels : Labelling
no_labels = record { variables = 0; arrays = 0 }

-- before the first record
unfoldable pub begun : Progress
begun = record { left = 3 + max_arrays + max_nodes; size = 0; due = HeaderDue; declared = record { header = no_header; cells = 0; labels = no_labels } }

-- after one record more: header, labels, array, node, and the end
unfoldable pub header_due : Header → Progress
header_due h = record { left = 2 + h.arrays + h.nodes; size = header_size; due = LabelsDue; declared = record { header = h; cells = 0; labels = no_labels } }

unfoldable pub labels_due : Progress → Labelling → Progress
labels_due p l = record { left = p.left - 1; size = labels_size p.declared.header.version; due = Body; declared = record { header = p.declared.header; cells = 0; labels = l } }

unfoldable pub count_due : Progress → ℕ → Progress
count_due p n =
    record {
      left = p.left - 1;
      size = array_size;
      due = Body;
      declared = record { header = p.declared.header; cells = p.declared.cells + n; labels = p.declared.labels };
    }

unfoldable pub node_due : Progress → (size : ℕ) → Progress
node_due p size = record { left = p.left - 1; size = size; due = Body; declared = p.declared }

unfoldable pub end_due : Progress → Progress
end_due p = record { left = 0; size = 0; due = Body; declared = p.declared }

-- reading goes on after a record that was read; a refusal stays
unfoldable pub read_on : {A : Type 0} → Answer A → (A → Progress) → Result Progress Refusal
read_on a after = as_result (and_then a (λ x. got (after x)))

-- what is left to read from here is what is to be read of all arrays
pub record CountsLeft (s : List ℕ) (header : Header) (left at cells : ℕ) : Type 0 where
  pub before : List ℕ
  pub summed : sum before ≡ cells
  pub same : read_counts header.arrays s (counts_start header) [] ≡ read_counts left s at before
  pub place : at + array_size * left ≡ nodes_start header
  pub few : cells ≤ max_cells

-- and of all nodes, after n of them
pub record NodesLeft (s : List ℕ) (header : Header) (index uses : List ℕ) (at n : ℕ) : Type 0 where
  pub before : List Node
  pub counted : length before ≡ n
  pub same : read_nodes header.nodes header s (nodes_start header) [] ≡ read_nodes (header.nodes - n) header s at before
  pub place : at ≡ nodes_start header + sum (map size_of before)
  pub kept : Kept s index uses (nodes_start header) before
  pub children : length (flat_map children_of before) ≤ 3 * n
  pub few : n ≤ header.nodes

-- index and uses are long enough for the table's nodes, and before the first node the uses are 0
pub record Long (s index uses : List ℕ) : Type 0 where
  pub long_index : RoomFor s (length index)
  pub long_uses : RoomFor s (length uses)

pub record Fresh (s index uses : List ℕ) : Type 0 where
  pub long : Long s index uses
  pub zeros : CountsBelow 1 uses

-- header and labels were read
pub record Declared (s : List ℕ) (d : Declarations) : Type 0 where
  pub is_header : read_header s ≡ got d.header
  pub is_labels : read_labels s d.header (labels_start d.header) ≡ got d.labels

-- the arrays too
pub record Counted (s : List ℕ) (d : Declarations) : Type 0 where
  pub declared : Declared s d
  pub counts : List ℕ
  pub is_counts : read_counts d.header.arrays s (counts_start d.header) [] ≡ got counts
  pub total : sum counts ≡ d.cells

-- what is known between two records
pub data Walking (s : List ℕ) (at : ℕ) (p : Progress) (index uses : List ℕ) : Type 0 where
  at_header : at ≡ 0 → p ≡ begun → Fresh s index uses → Walking s at p index uses
  at_labels : at ≡ labels_start p.declared.header → p.due ≡ LabelsDue → p.left ≡ 2 + p.declared.header.arrays + p.declared.header.nodes → read_header s ≡ got p.declared.header
      → Fresh s index uses → Walking s at p index uses
  at_array : p.due ≡ Body → (left : ℕ) → p.left ≡ 1 + left + p.declared.header.nodes → Declared s p.declared → CountsLeft s p.declared.header left at p.declared.cells
      → Fresh s index uses → Walking s at p index uses
  at_node : p.due ≡ Body → (n : ℕ) → p.left + n ≡ 1 + p.declared.header.nodes → Counted s p.declared → NodesLeft s p.declared.header index uses at n
      → Long s index uses → Walking s at p index uses
  at_end : p.left ≡ 0 → Ready s index p.declared → Walking s at p index uses

-- a record is read and fewer are left: what is known past it, at an offset that fits a machine's number
pub record Turned (s : List ℕ) (at : ℕ) (p r : Progress) (index uses : List ℕ) : Type 0 where
  pub walking : Walking s (at + r.size) r index uses
  pub fewer : r.left < p.left
  pub fits : at + r.size < 2 ^ 64

-- or it is refused, and so is the table
abbrev pub TurnedAs : (s : List ℕ) (at : ℕ) (p : Progress) → Result Progress Refusal → (index uses : List ℕ) → Type 0
TurnedAs s at p (Err x) index uses = read_table s ≡ refused x
TurnedAs s at p (Ok r) index uses = Turned s at p r index uses

-- the record that is due after header and labels
pub record BodyDue (s : List ℕ) (at : ℕ) (p : Progress) (index uses : List ℕ) : Type 0 where
  pub walking : Walking s at p index uses
  pub is_body : p.due ≡ Body
  pub some : 0 < p.left

-- a node is due, and what its record leaves
pub record NodeReady (s : List ℕ) (at : ℕ) (p : Progress) (n : ℕ) (index uses : List ℕ) : Type 0 where
  pub some : 0 < p.left
  pub more : n < p.declared.header.nodes
  pub few : (p.declared.header.nodes ≤ max_nodes) × (p.declared.header.arrays ≤ max_arrays)
  pub left : NodesLeft s p.declared.header index uses at n
  pub long_index : p.declared.header.nodes ≤ length index
  pub long_uses : p.declared.header.nodes ≤ length uses

pub data NodeTurned (s : List ℕ) (at : ℕ) (p : Progress) (n : ℕ) (index uses : List ℕ) (r : Result Progress Refusal) : Type 0 where
  node_refused : (x : Refusal) → read_nodes p.declared.header.nodes p.declared.header s (nodes_start p.declared.header) [] ≡ refused x → r ≡ Err x → NodeTurned s at p n index uses r
  node_read : (size : ℕ) → r ≡ Ok (node_due p size) → NodesLeft s p.declared.header index uses (at + size) (n + 1) → NodeTurned s at p n index uses r
