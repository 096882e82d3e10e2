-- The entry that runs a table on the machine that rolls back: flow_guess with the save slice besides.
use Rattle.std.specs.Prelude.{ℕ, ◌+◌, ◌*◌, List, length, leb}
use Rattle.std.proofs.Math.Option.{Option, none, some}
use Rattle.awhile.specs.Lists.{sum}
use Rattle.awhile.specs.Refusals.{Answer, refused, got, check, and_then}
use Rattle.awhile.specs.Tables.{Table, read_table}
use Rattle.awhile.specs.declared.Refusal.{Refusal}
use Rattle.awhile.specs.declared.Refusal.TheVariants.{BadDirectives, ShortSaves}
use Rattle.machine.specs.Directives.{read_rolling_directives}
use Rattle.machine.specs.Runs.{Guide, rolling, Outcome, max_saves}
use Rattle.machine.specs.Memory.{saves_after}
use Rattle.machine.specs.declared.Directive.{Directive}
use Rattle.entries.specs.Running.{Lent, Ran, not_run, lent_for, ran_all, run_in}

-- what stands at exit: as after a run without saves, and the save slice
pub record RanSaving : Type 0 where
  pub ran : Ran
  pub saves : List ℕ

-- the words of one save: "V, cells and N together"
unfoldable pub save_size : Table → ℕ
save_size t = t.variables + (sum t.counts + length t.nodes)

-- 24: "after 22, where the lent save words number fewer than eight times V, cells and N together"; a word has 4 bytes
unfoldable pub saving_for : Lent → (saves : List ℕ) → Table → Answer Table
saving_for lent saves t = and_then (lent_for lent t) (λ u. check (leb (4 * max_saves * save_size u) (length saves)) ShortSaves (got u))

-- "All lent memory is unchanged."
unfoldable pub not_run_saving : Refusal → Lent → (saves answer : List ℕ) → RanSaving
not_run_saving r lent saves answer = record { ran = not_run r lent answer; saves = saves }

-- what an accepted run leaves: "Afterwards the save words hold the open saves"
unfoldable pub ran_saving : Table → Lent → (saves answer : List ℕ) → Outcome ℕ → RanSaving
ran_saving t lent saves answer o =
    record { ran = ran_all t lent answer o; saves = saves_after (length t.nodes) (save_size t) o.machine.saves saves }

-- a run of the table, or the refusal
unfoldable pub saving_run : Answer Table → Lent → (saves : List ℕ) → (budget : ℕ) → (answer : List ℕ) → Guide → RanSaving
saving_run (refused r) lent saves budget answer g = not_run_saving r lent saves answer
saving_run (got t) lent saves budget answer g = ran_saving t lent saves answer (run_in t lent budget g)

-- 10, after 1 to 7 and before 20
unfoldable pub rollback_with : Answer Table → Lent → (saves : List ℕ) → (budget : ℕ) → (answer : List ℕ) → Option (List Directive) → RanSaving
rollback_with (refused r) lent saves budget answer ds = not_run_saving r lent saves answer
rollback_with (got t) lent saves budget answer none = not_run_saving BadDirectives lent saves answer
rollback_with (got t) lent saves budget answer (some ds) = saving_run (saving_for lent saves t) lent saves budget answer (rolling ds)

-- flow_rollback(table, directives, variables, cells, pending, saves, observations, budget, answer)
unfoldable pub rollback_entry : (table directives : List ℕ) → Lent → (saves : List ℕ) → (budget : ℕ) → (answer : List ℕ) → RanSaving
rollback_entry table directives lent saves budget answer =
    rollback_with (read_table table) lent saves budget answer (read_rolling_directives directives)
