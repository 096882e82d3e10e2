-- The entries that run a table: on the plain machine and on the guessing one.
use Rattle.std.specs.Prelude.{ℕ, ◌*◌, List, ◌∷◌, length, leb, eqb}
use Rattle.std.proofs.Math.Option.{Option, none, some}
use Rattle.bytes_le.specs.Numbers.{words, from_words}
use Rattle.awhile.specs.Lists.{sum}
use Rattle.awhile.specs.Refusals.{Answer, refused, got, check, and_then, refusal_number}
use Rattle.awhile.specs.Tables.{Table, read_table}
use Rattle.awhile.specs.Trees.{root_of}
use Rattle.awhile.specs.declared.Refusal.{Refusal}
use Rattle.awhile.specs.declared.Refusal.TheVariants.{BadDirectives, WrongVariables, WrongCells, ShortPending}
use Rattle.machine.specs.Observations.{shown_bytes}
use Rattle.machine.specs.Directives.{read_directives}
use Rattle.machine.specs.Runs.{Guide, plain, guessing, bytes, Outcome, run, started}
use Rattle.machine.specs.Memory.{pending_after, written_over, run_numbers}
use Rattle.machine.specs.declared.Directive.{Directive}
use Rattle.entries.specs.Answers.{answered, refusal_numbers}

-- the lent slices of a run
pub record Lent : Type 0 where
  pub variables : List ℕ
  pub cells : List ℕ
  pub pending : List ℕ
  pub observations : List ℕ

-- the result (the answer's first number), the lent slices and the answer slice at exit
pub record Ran : Type 0 where
  pub result : ℕ
  pub lent : Lent
  pub answer : List ℕ

-- "All lent memory is unchanged."
unfoldable pub not_run : Refusal → Lent → (answer : List ℕ) → Ran
not_run r lent answer = record { result = refusal_number r; lent = lent; answer = answered (refusal_numbers r) answer }

-- "20 variable words not V (not 4V bytes); 21 cell words not the sum (not 4 times it in bytes); 22 pending entries fewer than N (below 4N bytes)"
unfoldable pub lent_for : Lent → Table → Answer Table
lent_for lent t =
    check (eqb (length lent.variables) (4 * t.variables)) WrongVariables
    (check (eqb (length lent.cells) (4 * sum t.counts)) WrongCells
    (check (leb (4 * length t.nodes) (length lent.pending)) ShortPending
    (got t)))

-- what an accepted run leaves: "Variables, cells .. and pending entries are 4-byte words in lent byte slices"
unfoldable pub ran_all : Table → Lent → (answer : List ℕ) → Outcome ℕ → Ran
ran_all t lent answer o =
    record {
      result = 0;
      lent = record {
        variables = words o.machine.state.variables;
        cells = words o.machine.state.cells;
        pending = pending_after (length t.nodes) o.machine.state.pending lent.pending;
        observations = written_over (shown_bytes o.machine.shown) lent.observations;
      };
      answer = answered (0 ∷ run_numbers o) answer;
    }

-- the run that an accepted call asks for, from what its slices hold
unfoldable pub run_in : Table → Lent → (budget : ℕ) → Guide → Outcome ℕ
run_in t lent budget g =
    run t.counts (bytes (length lent.observations)) budget
    (started (root_of t) (from_words t.variables lent.variables) (from_words (sum t.counts) lent.cells) g)

-- a run of the table, or the refusal
unfoldable pub running : Answer Table → Lent → (budget : ℕ) → (answer : List ℕ) → Guide → Ran
running (refused r) lent budget answer g = not_run r lent answer
running (got t) lent budget answer g = ran_all t lent answer (run_in t lent budget g)

-- flow_run(table, variables, cells, pending, observations, budget, answer)
unfoldable pub run_entry : (table : List ℕ) → Lent → (budget : ℕ) → (answer : List ℕ) → Ran
run_entry table lent budget answer = running (and_then (read_table table) (lent_for lent)) lent budget answer plain

-- 10: "directive list cut, or a wrong kind or length in it", after 1 to 7 and before 20
unfoldable pub guess_with : Answer Table → Lent → (budget : ℕ) → (answer : List ℕ) → Option (List Directive) → Ran
guess_with (refused r) lent budget answer ds = not_run r lent answer
guess_with (got t) lent budget answer none = not_run BadDirectives lent answer
guess_with (got t) lent budget answer (some ds) = running (lent_for lent t) lent budget answer (guessing ds)

-- flow_guess(table, directives, variables, cells, pending, observations, budget, answer)
unfoldable pub guess_entry : (table directives : List ℕ) → Lent → (budget : ℕ) → (answer : List ℕ) → Ran
guess_entry table directives lent budget answer = guess_with (read_table table) lent budget answer (read_directives directives)
