-- What a slice notes of a table: at the node of each expression that a command holds, the variables that can make it secret.
use Rattle.std.specs.Prelude.{ℕ, ◌<◌, ◌≤◌, ◌⊎◌, ◌≡◌, length, get_or}
use mathlib.Core.List.{List, [], ◌∷◌, flat_map, Memᴰ}
use Rattle.awhile.specs.Nodes.{Field, word, constant, variable, array, child, form, sort_of}
use Rattle.awhile.specs.declared.Node.{Node}
use Rattle.awhile.specs.declared.Sort.{Sort}
use Rattle.awhile.specs.declared.Sort.TheVariants.{Numeric, Truth, Command}
use Rattle.reader.specs.Index.{nodes_in, node_in, tree_in}
use Rattle.variables.specs.Variables.{variables_of}

-- the expressions that a node holds: its children that are no commands
unfoldable pub expression_of : Sort → (child : ℕ) → List ℕ
expression_of Numeric c = c ∷ []
expression_of Truth c = c ∷ []
expression_of Command c = []

unfoldable pub field_expressions : Field → List ℕ
field_expressions (word w) = []
field_expressions (constant v) = []
field_expressions (variable x) = []
field_expressions (array a) = []
field_expressions (child s c) = expression_of s c

unfoldable pub expressions_of : Node → List ℕ
expressions_of n = flat_map field_expressions (form n).fields

-- those of the expression at a node
abbrev pub named_at : (table : List ℕ) → (node : ℕ) → ℕ
named_at table n = variables_of (tree_in table n)

-- the expressions of the commands below a number are noted
pub record NamedBelow (table named : List ℕ) (below : ℕ) : Type 0 where
  pub at : (n e : ℕ) → n < below → sort_of (node_in table n) ≡ Command → Memᴰ e (expressions_of (node_in table n)) → get_or named e 0 ≡ named_at table e

-- those of all commands of the table are
pub record Named (table named : List ℕ) : Type 0 where
  pub room : nodes_in table ≤ length named
  pub all : NamedBelow table named (nodes_in table)

-- the expressions of one command are noted, and whatever else stands there is as it was or is right
pub record Names (table : List ℕ) (n : ℕ) (before after : List ℕ) : Type 0 where
  pub own : (e : ℕ) → Memᴰ e (expressions_of (node_in table n)) → get_or after e 0 ≡ named_at table e
  pub others : (e : ℕ) → (get_or after e 0 ≡ get_or before e 0) ⊎ (get_or after e 0 ≡ named_at table e)
