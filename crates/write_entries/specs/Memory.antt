-- What the functions that write a job's bytes ask of the table and of their memory.
use Rattle.std.specs.Prelude.{ℕ, ◌≤◌, List, length}
use Rattle.reader.specs.Index.{table_of, nodes_in}
use Rattle.analysis.specs.Conditions.{LabelReady, Labelled}
use Rattle.analysis.specs.declared.noting.Note.{Note}
use Rattle.deciding.specs.declared.decisions.Decision.{Decision}
use Rattle.masks.specs.Hardening.{max_hardened}

-- memory for labelling a table that was read, with notes that are all blank; and where it has no more nodes than are hardened, room for the decision on each
pub record LabelMemory (table named : List ℕ) (notes : List Note) (decisions : List Decision) : Type 0 where
  pub labelling : LabelReady table named notes
  pub room : nodes_in table ≤ max_hardened → nodes_in table ≤ length decisions

-- a table that is labelled from its own labels, and has no more nodes than are hardened, with room for the decision on each
pub record HardenReady (table : List ℕ) (notes : List Note) (decisions : List Decision) : Type 0 where
  pub room : nodes_in table ≤ length decisions
  pub labelled : Labelled table notes (table_of table).labels
  pub few : nodes_in table ≤ max_hardened
