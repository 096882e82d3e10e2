-- Whole runs as the code has them: what one is asked, and what it leaves in lent bytes.
use Rattle.std.specs.Prelude.{ℕ, ◌*◌, ◌-◌, ◌^◌, ◌≤◌, ◌<◌, cond, ◌≡◌, List, length, drop, eqb}
use Rattle.bytes_le.specs.Numbers.{le_at, words}
use Rattle.awhile.specs.Lists.{sum}
use Rattle.awhile.specs.Trees.{root_of}
use Rattle.reader.specs.Admitted.{Admitted}
use Rattle.reader.specs.Index.{table_of, nodes_in}
use Rattle.machine.specs.Observations.{Observation, shown_bytes}
use Rattle.machine.specs.Runs.{Outcome, bytes, run, started, max_saves}
use Rattle.machine.specs.Memory.{pending_after, saves_after, written_over, next_node}
use Rattle.stepping.specs.Evaluation.{variables_in}
use Rattle.directives.specs.Guiding.{Readable, guide_of}
use Rattle.stepping.specs.Stepping.{Memory, start_state, cells_in, machine_of, Between}
use Rattle.stepping.specs.Actions.{CommandAt}
use Rattle.saves.specs.Places.{place_words, saves_of, PlacesHold}
use Rattle.machine.specs.declared.Board.{Board}
use Rattle.machine.specs.declared.Board.TheVariants.{Rolling}
use Rattle.interpreter.specs.declared.run.Stopped.{Stopped}
use Rattle.interpreter.specs.declared.run.Report.{Report}

-- the run that is asked for: from the root of the table, with what stands in the lent bytes and so much room for observations
unfoldable pub run_of : (table list : List ℕ) → Board → (budget : ℕ) → Memory → (room : ℕ) → Outcome ℕ
run_of table list board budget m room =
    run (table_of table).counts (bytes room) budget (started (root_of (table_of table)) (variables_in table m.variables) (cells_in table m.cells) (guide_of board list 0))

-- all is ready for the first step: the root is pending
pub record Begun (table list : List ℕ) (budget room : ℕ) (m : Memory) : Type 0 where
  pub admitted : Admitted table
  pub budget_fits : budget < 2 ^ 32
  pub between : Between table list budget room start_state m
  pub is_root : le_at 4 m.pending 0 ≡ nodes_in table - 1

-- what is lent for saves: a height for each of eight places, and on the board that rolls back the places, each of so many bytes
pub record PlacesLent (table : List ℕ) (board : Board) (size : ℕ) (saves heights : List ℕ) : Type 0 where
  pub eight : length heights ≡ max_saves
  pub is_size : size ≡ 4 * place_words table
  pub long : board ≡ Rolling → 4 * max_saves * place_words table ≤ length saves

-- what a run has left in the lent bytes when it is over
pub record StoppedAs (table list : List ℕ) (board : Board) (budget : ℕ) (m : Memory) (ss os : List ℕ) (m' : Memory) (ss' hs' os' : List ℕ) (r : Stopped) : Type 0 where
  pub seen : List Observation
  pub is_outcome : run_of table list board budget m (length os)
      ≡ record { end = r.end; machine = machine_of table list board r.state m' (saves_of table ss' hs' r.state.saved) seen }
  pub is_shown : length (shown_bytes seen) ≡ r.state.shown
  pub observations : os' ≡ written_over (shown_bytes seen) os
  pub few : r.state.pending ≤ nodes_in table
  pub entries : (j : ℕ) → j < r.state.pending → CommandAt table (le_at 4 m'.pending (4 * j))
  pub beyond : drop (4 * nodes_in table) m'.pending ≡ drop (4 * nodes_in table) m.pending
  pub few_saves : r.state.saved ≤ max_saves
  pub places : PlacesHold table ss' hs' r.state.saved
  pub saves_beyond : drop (4 * max_saves * place_words table) ss' ≡ drop (4 * max_saves * place_words table) ss
  -- the slices are as long as they were
  pub variables_long : length m'.variables ≡ length m.variables
  pub cells_long : length m'.cells ≡ length m.cells
  pub pending_long : length m'.pending ≡ length m.pending
  pub saves_long : length ss' ≡ length ss

-- the word of the next node
unfoldable pub next_word : (pending : List ℕ) → (count : ℕ) → ℕ
next_word ps count = cond (eqb count 0) 0 (le_at 4 ps (4 * (count - 1)))

unfoldable pub report_with : Stopped → (next_number : ℕ) → Report
report_with s n =
    record { end = s.end; steps = s.state.steps; used = s.state.used; shown = s.state.shown; flag = s.state.flag; next = n }

-- the numbers of a run's outcome
unfoldable pub report_of : Outcome ℕ → Report
report_of o =
    record {
      end = o.end;
      steps = o.machine.steps;
      used = o.machine.used;
      shown = length (shown_bytes o.machine.shown);
      flag = o.machine.state.flag;
      next = next_node o.machine.state.pending;
    }

-- what a run of an accepted table is asked: a directive list that reads, and slices of the right lengths
pub record RunAsked (table list : List ℕ) (board : Board) (m : Memory) (ss : List ℕ) : Type 0 where
  pub readable : Readable list 0
  pub variables_long : length m.variables ≡ 4 * (table_of table).variables
  pub cells_long : length m.cells ≡ 4 * sum (table_of table).counts
  pub pending_long : 4 * nodes_in table ≤ length m.pending
  pub saves_long : board ≡ Rolling → 4 * max_saves * place_words table ≤ length ss

-- what a run leaves in the lent slices, and its report; what is left in save words is asked of the board that rolls back alone
pub record RunLeaves (o : Outcome ℕ) (table : List ℕ) (board : Board) (m : Memory) (ss os : List ℕ) (m' : Memory) (ss' os' : List ℕ) (r : Report) : Type 0 where
  pub variables : m'.variables ≡ words o.machine.state.variables
  pub cells : m'.cells ≡ words o.machine.state.cells
  pub pending : m'.pending ≡ pending_after (nodes_in table) o.machine.state.pending m.pending
  pub saves : board ≡ Rolling → ss' ≡ saves_after (nodes_in table) (place_words table) o.machine.saves ss
  pub observations : os' ≡ written_over (shown_bytes o.machine.shown) os
  pub report : r ≡ report_of o
