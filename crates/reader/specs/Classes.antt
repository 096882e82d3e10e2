-- Size classes: for how many nodes a table is given memory before it is read.
use Rattle.std.specs.Prelude.{ℕ, ◌≤◌, Bool, true, List, ◌≡◌, leb}
use Rattle.bytes_le.specs.Numbers.{le_at}
use Rattle.awhile.specs.Refusals.{got}
use Rattle.awhile.specs.Tables.{max_nodes, read_header}
use Rattle.awhile.specs.declared.Header.{Header}
use Rattle.reader.specs.declared.classes.Class.{Class}
use Rattle.reader.specs.declared.classes.Class.TheVariants.{Small, Medium, Full}

-- there is room for the nodes of a table: for as many as its header declares, where that is read
pub record RoomFor (s : List ℕ) (room : ℕ) : Type 0 where
  pub holds : (h : Header) → read_header s ≡ got h → h.nodes ≤ room

-- the nodes that a class has memory for
unfoldable pub class_nodes : Class → ℕ
class_nodes Small = 64
class_nodes Medium = 512
class_nodes Full = max_nodes

-- the node count that the bytes of a header state, whatever else stands there
abbrev pub stated_nodes : List ℕ → ℕ
stated_nodes s = le_at 2 s 8

-- whether a class holds a table, by that count: the largest holds every table
unfoldable pub holds_table : Class → List ℕ → Bool
holds_table Small s = leb (stated_nodes s) (class_nodes Small)
holds_table Medium s = leb (stated_nodes s) (class_nodes Medium)
holds_table Full s = true

unfoldable pub next_class : Class → Class
next_class Small = Medium
next_class Medium = Full
next_class Full = Full

-- how many classes are larger
unfoldable pub larger_classes : Class → ℕ
larger_classes Small = 2
larger_classes Medium = 1
larger_classes Full = 0
