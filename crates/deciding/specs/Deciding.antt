-- The decisions on masks that stand in memory, one for each command's node, and the notes that they are made from.
use Rattle.std.specs.Prelude.{ℕ, ◌-◌, ◌≤◌, ◌<◌, false, List, ◌≡◌, length, get_or}
use Rattle.awhile.specs.Language.{Com, note_of, map_notes}
use Rattle.awhile.specs.Nodes.{sort_of}
use Rattle.awhile.specs.declared.Sort.TheVariants.{Command}
use Rattle.reader.specs.Index.{table_of, nodes_in, node_in, command_in}
use Rattle.labels.specs.Annotation.{Entry}
use Rattle.labels.specs.Sheet.{annotated}
use Rattle.analysis.specs.Notes.{note_in}
use Rattle.analysis.specs.declared.noting.Note.{Note}
use Rattle.masks.specs.Decisions.{Decision, decision, decide}
use Rattle.deciding.specs.declared.decisions.Decision.{Decision as Choices}

-- ---- decisions
-- nothing is masked
abbrev pub none : Choices
none = record { condition = false; index = false; value = false }

-- the three choices of a decision
abbrev pub choices : Decision → Choices
choices d = record { condition = d.mask_condition; index = d.mask_index; value = d.mask_value }

-- the decision that stands for a node
unfoldable pub decision_in : (decisions : List Choices) → (node : ℕ) → Decision
decision_in ds n = let d = get_or ds n none in decision n d.condition d.index d.value

-- a node's command with its decisions
unfoldable pub decided_in : (table : List ℕ) (decisions : List Choices) → (node : ℕ) → Com Decision
decided_in table ds n = map_notes (decision_in ds) (command_in table n)

-- these decisions are those of the table's annotated program
pub record Decides (table : List ℕ) (decisions : List Choices) : Type 0 where
  pub room : nodes_in table ≤ length decisions
  pub program : decided_in table decisions (nodes_in table - 1) ≡ decide (annotated (table_of table) (table_of table).labels)

-- ---- from notes
-- a node's command with its notes
unfoldable pub annotated_in : (table : List ℕ) (notes : List Note) → (node : ℕ) → Com Entry
annotated_in table ns n = map_notes (note_in ns) (command_in table n)

-- the choices that a node's notes ask for
abbrev pub choices_in : (table : List ℕ) (notes : List Note) → (node : ℕ) → Choices
choices_in table ns n = choices (note_of (decide (annotated_in table ns n)))

-- every command below a node number is decided as its notes ask
pub record DecidedBelow (table : List ℕ) (ns : List Note) (decisions : List Choices) (count : ℕ) : Type 0 where
  pub each : (n : ℕ) → n < count → sort_of (node_in table n) ≡ Command → decision_in decisions n ≡ note_of (decide (annotated_in table ns n))
