-- What decisions that are those of a table's program are worth: the hardened program comes out, and no small condition is masked.
use Prim.Native.Nat.{ℕ, ◌-◌}
use mathlib.Core.List.{List}
use mathlib.Core.Path.{◌≡◌, sym, ap, subst}
use Rattle.reader.specs.Index.{table_of, nodes_in}
use Rattle.labels.specs.Sheet.{annotated}
use Rattle.masks.specs.Growth.{MasksLargeConditions}
use Rattle.masks.specs.Hardening.{harden, hardened_program}
use Rattle.masks.proofs.Growth.{decide_large}
use Rattle.deciding.specs.Deciding.{decided_in, Decides}
use Rattle.deciding.specs.declared.decisions.Decision.{Decision as Choices}
use Rattle.masking.specs.InMemory.{hardened_at}

module _ {table : List ℕ} {ds : List Choices} (decided : Decides table ds) where
  pub program_hardened : hardened_at table ds (table_of table).variables (nodes_in table - 1) ≡ hardened_program (table_of table)
  unfolding hardened_at hardened_program
  program_hardened = ap (harden (table_of table).variables) decided.program

  pub program_large : MasksLargeConditions (decided_in table ds (nodes_in table - 1))
  program_large = subst MasksLargeConditions (sym decided.program) (decide_large (annotated (table_of table) (table_of table).labels))
