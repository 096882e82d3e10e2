-- The index of record offsets: what the code keeps of a table that it has read once, and what it stands for.
use Rattle.std.specs.Prelude.{ℕ, ◌<◌, ◌≤◌, List, [], ◌≡◌, length, get_or, Result, Ok, Err}
use Rattle.awhile.specs.Tables.{Table, header_of, declarations_of, read_table, offset_of, nodes_start, read_records}
use Rattle.awhile.specs.Refusals.{Answer, refused, got}
use Rattle.record.specs.RecordRead.{Kept}
use Rattle.awhile.specs.Language.{AExp, BExp, Com}
use Rattle.awhile.specs.Trees.{Tree, tree_at, trees, as_numeric, as_truth, as_command}
use Rattle.awhile.specs.declared.Declarations.{Declarations}
use Rattle.awhile.specs.declared.Header.{Header}
use Rattle.awhile.specs.declared.Refusal.{Refusal}
use Rattle.awhile.specs.Nodes.{sort_of}
use Rattle.awhile.specs.declared.Sort.{Sort}
use Rattle.awhile.specs.declared.Node.{Node}
use Rattle.awhile.specs.declared.Node.TheVariants.{Skip, Sequence, If, While}

-- the table that bytes read as; where they are refused, of no account
unfoldable pub table_of : List ℕ → Table
table_of s =
    elim (read_table s) [
      | refused r ↦ record { version = 0; variables = 0; labels = record { variables = 0; arrays = 0 }; counts = []; nodes = [] }
      | got t ↦ t
    ]

-- its version, how many nodes, the node of a number, and its tree
unfoldable pub version_in : List ℕ → ℕ
version_in s = (table_of s).version

unfoldable pub nodes_in : List ℕ → ℕ
nodes_in s = length (table_of s).nodes

unfoldable pub node_in : List ℕ → (node : ℕ) → Node
node_in s n = get_or (table_of s).nodes n Skip

unfoldable pub tree_in : List ℕ → (node : ℕ) → Tree
tree_in s n = tree_at (trees (table_of s).nodes) n

-- the expression or command of a node, by its sort
abbrev pub numeric_in : List ℕ → (node : ℕ) → AExp
numeric_in s n = as_numeric (tree_in s n)

abbrev pub truth_in : List ℕ → (node : ℕ) → BExp
truth_in s n = as_truth (tree_in s n)

abbrev pub command_in : List ℕ → (node : ℕ) → Com ℕ
command_in s n = as_command (tree_in s n)

-- an index of an accepted table: entry n is the byte offset of node n's record
pub record Indexed (table index : List ℕ) : Type 0 where
  pub reads : read_table table ≡ got (table_of table)
  pub long : nodes_in table ≤ length index
  pub offsets : (n : ℕ) → n < nodes_in table → get_or index n 0 ≡ offset_of (table_of table) n

-- a table that was read, with its index and all that it declares
pub record Ready (table index : List ℕ) (declared : Declarations) : Type 0 where
  pub indexed : Indexed table index
  pub declares : declarations_of (table_of table) ≡ declared

-- a table that was read, with its header
pub record HasHeader (table : List ℕ) (header : Header) : Type 0 where
  pub reads : read_table table ≡ got (table_of table)
  pub is_header : header_of (table_of table) ≡ header

-- a node of this sort, in a table that was read and indexed
pub record OfSort (table index : List ℕ) (sort : Sort) (n : ℕ) : Type 0 where
  pub indexed : Indexed table index
  pub inside : n < nodes_in table
  pub is_sort : sort_of (node_in table n) ≡ sort

-- a node of this sort, in an accepted table
pub record HasSort (table : List ℕ) (sort : Sort) (n : ℕ) : Type 0 where
  pub inside : n < nodes_in table
  pub is_sort : sort_of (node_in table n) ≡ sort

-- a node that is no command with command parts
pub record Single (node : Node) : Type 0 where
  pub no_sequence : (c d : ℕ) → node ≡ Sequence c d → ⊥
  pub no_if : (b c d : ℕ) → node ≡ If b c d → ⊥
  pub no_while : (b c : ℕ) → node ≡ While b c → ⊥

-- ---- what the reader answers
-- a refusal, or what an accepted table declares
unfoldable pub read_as : Answer Table → Result Declarations Refusal
read_as (refused r) = Err r
read_as (got t) = Ok (declarations_of t)

-- or a refusal, or the accepted table itself, which is the list of its bytes
unfoldable pub accepted_as : List ℕ → Result (List ℕ) Refusal
accepted_as s =
    elim (read_table s) [
      | refused r ↦ Err r
      | got t ↦ Ok s
    ]

-- The reader answers what the bytes read as; of an accepted table the index is left. Of the index of a refused one nothing is said.
pub record Answers (s index : List ℕ) (answer : Result Declarations Refusal) : Type 0 where
  pub answers : answer ≡ read_as (read_table s)
  pub indexes : (t : Table) → read_table s ≡ got t → Indexed s index

-- after the last record: the table is refused, or ready
abbrev pub EndedAs : (s index : List ℕ) → Declarations → Result (Unit {0}) Refusal → Type 0
EndedAs s index declared (Err r) = read_table s ≡ refused r
EndedAs s index declared (Ok w) = Ready s index declared

-- where all records were read, kept in an index and in counts of uses, this is how it ends
pub record Finishes (s index uses : List ℕ) (declared : Declarations) (end : ℕ) (answer : Result (Unit {0}) Refusal) : Type 0 where
  pub answers : (t : Table) → read_records s ≡ got t → declarations_of t ≡ declared → offset_of t (length t.nodes) ≡ end
      → Kept s index uses (nodes_start (header_of t)) t.nodes → EndedAs s index declared answer
