-- What an accepted table tells where its index is out of sight: it has one, and its nodes have their parts.
use Prim.Native.Nat.{ℕ, ◌<◌}
use native.Mathlib.Omega.{arith}
use mathlib.Core.List.{List, map}
use mathlib.Core.Path.{◌≡◌, sym, ◌∙◌}
use Rattle.std.proofs.lemmas.List.FromFn.{get_or-map-range_with_len, length-map-range_with_len}
use Rattle.std.specs.List.{range_with_len}
use Rattle.bytes_le.proofs.Numbers.{Below}
use Rattle.awhile.specs.Tables.{offset_of}
use Rattle.awhile.specs.declared.Node.{Node}
use Rattle.awhile.specs.declared.Sort.{Sort}
use Rattle.reader.specs.Admitted.{Admitted}
use Rattle.reader.specs.Index.{table_of, nodes_in, node_in, Indexed, HasSort, OfSort}
use Rattle.reader.proofs.Index.{Child, Parts, indexed_parts}

-- the offsets of its nodes' records, in order
unfoldable pub offsets_in : List ℕ → List ℕ
offsets_in table = map (offset_of (table_of table)) (range_with_len 0 (nodes_in table))

module _ {table : List ℕ} (admitted : Admitted table) where
  pub bytes : Below 256 table
  bytes = record { below = admitted.each_byte }

  -- they are an index of it
  pub indexed : Indexed table (offsets_in table)
  unfolding offsets_in
  indexed =
      record {
        reads = admitted.reads;
        long = let many = length-map-range_with_len (offset_of (table_of table)) 0 (nodes_in table) in omega (arith, many);
        offsets = λ n h. get_or-map-range_with_len (offset_of (table_of table)) 0 (nodes_in table) n n 0 h (omega arith);
      }

  -- so a node of a sort is one by the index too
  pub of_sort : {s : Sort} {n : ℕ} → HasSort table s n → OfSort table (offsets_in table) s n
  of_sort h = record { indexed = indexed; inside = h.inside; is_sort = h.is_sort }

  -- the parts of a node that was looked up
  pub parts : {n : ℕ} {r : Node} → n < nodes_in table → r ≡ node_in table n → (m : Node) → r ≡ m → Parts table n m
  parts {n} inside e m h = indexed_parts table (offsets_in table) bytes indexed n inside m (sym e ∙ h)

-- a child of a node
pub child : {table : List ℕ} {s : Sort} {n k : ℕ} → Child table s n k → HasSort table s k
child c = record { inside = c.inside; is_sort = c.is_sort }
