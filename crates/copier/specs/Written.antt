-- What a function that writes nodes leaves in the slice it is lent, and how much it says it wrote.
use Rattle.std.specs.Prelude.{ℕ, ◌+◌, ◌-◌, ◌^◌, ◌≤◌, ◌≡◌, length}
use mathlib.Core.List.{List, [], ◌∷◌, ◌++◌, flat_map}
use Rattle.std.proofs.lemmas.List.Edits.{sets}
use Rattle.awhile.specs.Nodes.{child, row, form, size_of, node_bytes}
use Rattle.awhile.specs.Encoding.{nodes_of_a, nodes_of_b, nodes_of, binary, write_a}
use Rattle.awhile.specs.Language.{AExp, BExp, Com}
use Rattle.awhile.specs.Tables.{max_nodes}
use Rattle.awhile.specs.declared.Node.{Node}
use Rattle.awhile.specs.declared.Sort.TheVariants.{Numeric}
use Rattle.copier.specs.Records.{record_bytes, record_size}
use Rattle.copier.specs.Sizes.{bytes_of_a, bytes_of_b, bytes_of}
use Rattle.copier.specs.declared.Pair.{Pair}
use Rattle.copier.specs.declared.Size.{Size}

-- room for so many nodes and bytes more behind what is written, where they can be counted
pub record RoomBehind (so_far : Size) (nodes bytes : ℕ) (out : List ℕ) : Type 0 where
  pub fits : so_far.bytes + bytes ≤ length out
  pub countable : so_far.nodes + nodes ≤ 2 ^ 32

-- one record behind so many nodes and bytes
pub record AppendedRecord (nodes bytes kind : ℕ) (fields before after : List ℕ) (answer : Size) : Type 0 where
  pub stored : after ≡ sets before bytes (record_bytes kind fields)
  pub nodes_counted : answer.nodes ≡ nodes + 1
  pub bytes_counted : answer.bytes ≡ bytes + record_size fields

-- one node behind so many nodes and bytes
pub record Appended (nodes bytes : ℕ) (node : Node) (before after : List ℕ) (answer : Size) : Type 0 where
  pub stored : after ≡ sets before bytes (node_bytes node)
  pub nodes_counted : answer.nodes ≡ nodes + 1
  pub bytes_counted : answer.bytes ≡ bytes + size_of node

-- these nodes behind so many nodes and bytes
pub record AppendedAll (so_far : Size) (nodes : List Node) (before after : List ℕ) (answer : Size) : Type 0 where
  pub stored : after ≡ sets before so_far.bytes (flat_map node_bytes nodes)
  pub nodes_counted : answer.nodes ≡ so_far.nodes + length nodes
  pub bytes_counted : answer.bytes ≡ so_far.bytes + length (flat_map node_bytes nodes)

-- these nodes at the front
pub record Wrote (nodes : List Node) (before after : List ℕ) (answer : Size) : Type 0 where
  pub stored : after ≡ sets before 0 (flat_map node_bytes nodes)
  pub nodes_counted : answer.nodes ≡ length nodes
  pub bytes_counted : answer.bytes ≡ length (flat_map node_bytes nodes)

-- room for so many nodes, numbered from a number on, in so many bytes
pub record SpaceFor (from nodes bytes : ℕ) (out : List ℕ) : Type 0 where
  pub numbers : from + nodes ≤ max_nodes
  pub fits : bytes ≤ length out

-- room for an expression or a command
abbrev pub SpaceForNumeric : (from : ℕ) → AExp → (out : List ℕ) → Type 0
SpaceForNumeric from e out = SpaceFor from (nodes_of_a e) (bytes_of_a e) out

abbrev pub SpaceForTruth : (from : ℕ) → BExp → (out : List ℕ) → Type 0
SpaceForTruth from b out = SpaceFor from (nodes_of_b b) (bytes_of_b b) out

module _ {Note : Type 0} where
  abbrev pub SpaceForCommand : (from : ℕ) → Com Note → (out : List ℕ) → Type 0
  SpaceForCommand from c out = SpaceFor from (nodes_of c) (bytes_of c) out

-- the sum of two sizes, with the last node of each, numbered from a number on
pub record Both (from : ℕ) (first second : Size) (answer : Pair) : Type 0 where
  pub nodes_add : answer.size.nodes ≡ first.nodes + second.nodes
  pub bytes_add : answer.size.bytes ≡ first.bytes + second.bytes
  pub left_last : answer.left ≡ from + first.nodes - 1
  pub right_last : answer.right ≡ from + (first.nodes + second.nodes) - 1

abbrev pub pair_of : (from : ℕ) → (first second : Size) → Pair
pair_of from s u =
    record { left = from + s.nodes - 1; right = from + (s.nodes + u.nodes) - 1; size = record { nodes = s.nodes + u.nodes; bytes = s.bytes + u.bytes } }

-- two lists of nodes, one behind the other, numbered from a number on
pub record WroteTwo (from : ℕ) (first second : List Node) (before after : List ℕ) (answer : Pair) : Type 0 where
  pub wrote : Wrote (first ++ second) before after answer.size
  pub left_is : answer.left ≡ from + length first - 1
  pub right_is : answer.right ≡ from + length first + length second - 1

-- two numeric expressions, one behind the other
pub record WrotePair (from : ℕ) (a b : AExp) (before after : List ℕ) (answer : Pair) : Type 0 where
  pub wrote : Wrote (write_a from a ++ write_a (from + nodes_of_a a) b) before after answer.size
  pub left_is : answer.left ≡ from + nodes_of_a a - 1
  pub right_is : answer.right ≡ from + nodes_of_a a + nodes_of_a b - 1

-- two numeric expressions and a node over both, whatever constructor makes the nodes of its kind
pub record WroteBinary (node : Node) (from : ℕ) (a b : AExp) (before after : List ℕ) (answer : Size) : Type 0 where
  pub wrote : (f : ℕ → ℕ → Node) → ((i j : ℕ) → form (f i j) ≡ row (form node).kind (form node).sort (child Numeric i ∷ child Numeric j ∷ []))
      → Wrote (write_a from a ++ (write_a (from + nodes_of_a a) b ++ (binary f from (nodes_of_a a) (nodes_of_a b) ∷ []))) before after answer
