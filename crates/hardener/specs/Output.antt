-- What measuring and writing a hardened table require: the decisions on the program of the table that was read, and room.
use Rattle.std.specs.Prelude.{ℕ, ◌+◌, ◌≤◌, List, ◌≡◌, length}
use Rattle.std.proofs.lemmas.List.Edits.{sets}
use Rattle.awhile.specs.Encoding.{table_bytes}
use Rattle.reader.specs.Index.{table_of, nodes_in}
use Rattle.awhile.specs.declared.Header.{Header}
use Rattle.masks.specs.Hardening.{version_for, hardened_table, max_hardened}
use Rattle.deciding.specs.Deciding.{Decides}
use Rattle.deciding.specs.declared.decisions.Decision.{Decision}

-- the header of what comes out: the flag is one variable more, and so many nodes come out
abbrev pub hardened_header : Header → (nodes : ℕ) → Header
hardened_header h n = record { version = version_for h.version (h.variables + 1); variables = h.variables + 1; arrays = h.arrays; nodes = n }

-- what measuring requires
pub record Measurable (table : List ℕ) (decisions : List Decision) : Type 0 where
  pub decided : Decides table decisions
  pub few : nodes_in table ≤ max_hardened

-- what writing requires
pub record Writable (table : List ℕ) (decisions : List Decision) (out : List ℕ) : Type 0 where
  pub measurable : Measurable table decisions
  pub fits : length (table_bytes (hardened_table (table_of table))) ≤ length out

-- the table is written at the front, and its length answered
pub record WroteTable (table before after : List ℕ) (answer : ℕ) : Type 0 where
  pub stored : after ≡ sets before 0 (table_bytes (hardened_table (table_of table)))
  pub counted : answer ≡ length (table_bytes (hardened_table (table_of table)))
