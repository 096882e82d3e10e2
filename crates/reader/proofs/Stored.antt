-- The record of a node of a sort, where the index leads: its kind tells which node its fields make.
use Prim.Native.Nat.{ℕ, ◌+◌, ◌-◌, ◌≤◌, ◌<◌}
use mathlib.Core.List.{List}
use mathlib.Core.Path.{◌≡◌}
use lib.ListN.{length, get_or}
use Rattle.bytes_le.specs.Numbers.{le_at}
use Rattle.bytes_le.proofs.Numbers.{Below}
use Rattle.awhile.specs.Nodes.{sort_of}
use Rattle.awhile.proofs.Records.{NodeAt}
use Rattle.awhile.specs.declared.Sort.{Sort}
use Rattle.record.proofs.RecordKinds.{Others, first_kind, last_kind, StoredAs, stored, head_there, last_kind_lem}
use Rattle.reader.specs.Index.{Indexed, nodes_in, node_in}
use Rattle.reader.proofs.Index.{indexed_node}

module _ {table index : List ℕ} {n : ℕ} {t : Sort} (bytes : Below 256 table)
    (asked : Indexed table index × (n < nodes_in table) × (sort_of (node_in table n) ≡ t)) where
  pub there : NodeAt table (get_or index n 0) (node_in table n)
  there = indexed_node table index bytes asked.0 n asked.1

  -- it has its head
  pub head : get_or index n 0 + 4 ≤ length table
  head = head_there _ _ _ there

  module _ {k : ℕ} (is_kind : k ≡ le_at 2 table (get_or index n 0 + 2)) where
    -- and all fields of its kind
    pub held : StoredAs table (get_or index n 0) (node_in table n) there k
    held = stored _ _ _ there k is_kind

    -- of the kinds of its sort, what is none of the others is the last
    pub last : Others (first_kind t) (last_kind t - first_kind t) k → k ≡ last_kind t
    last others = last_kind_lem _ _ _ there t asked.2 k is_kind others
