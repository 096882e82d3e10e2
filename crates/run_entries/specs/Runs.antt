-- What the inner functions of the running entries answer and leave.
use Rattle.std.specs.Prelude.{ℕ, cond, List, [], ◌∷◌, ◌≡◌, Result, Ok, Err, length}
use Rattle.awhile.specs.Refusals.{Answer, refused, got, check, and_then, refusal_number}
use Rattle.awhile.specs.Tables.{Table, read_table}
use Rattle.reader.specs.Index.{table_of}
use Rattle.machine.specs.declared.Board.{Board}
use Rattle.machine.specs.declared.Board.TheVariants.{Rolling}
use Rattle.awhile.specs.declared.Refusal.{Refusal}
use Rattle.awhile.specs.declared.Refusal.TheVariants.{BadDirectives}
use Rattle.directives.specs.Listed.{is_some, read_on}
use Rattle.machine.specs.Runs.{end_number}
use Rattle.machine.specs.Memory.{saves_after}
use Rattle.directives.specs.Guiding.{guide_of}
use Rattle.interpreter.specs.Running.{report_of}
use Rattle.interpreter.specs.declared.run.Report.{Report}
use Rattle.interpreter.specs.declared.lent.Lent.{Lent as LentSlices}
use Rattle.entries.specs.Answers.{answered, refusal_numbers}
use Rattle.entries.specs.Running.{Lent, run_in, ran_all}
use Rattle.entries.specs.Rolling.{save_size}
use Rattle.entries.specs.Promises.{lent_at}
use Rattle.run_entries.specs.Lengths.{fit_for}

-- the lent slices of a run, as the entries have them: what is lent for saves stands beside them
abbrev pub slices_lent : LentSlices → Lent
slices_lent l = lent_at l.variables.now l.cells.now l.pending.now l.observations.now

-- the answer's numbers of a run's report: "this end, steps, directives used, observation bytes, flag, and the next node"
unfoldable pub report_numbers : Report → List ℕ
report_numbers r = end_number r.end ∷ r.steps ∷ r.used ∷ r.shown ∷ cond r.flag 1 0 ∷ r.next ∷ []

-- the result, and the answer's numbers, of a call that runs
abbrev pub result_of : Result Report Refusal → ℕ
result_of (Err r) = refusal_number r
result_of (Ok r) = 0

abbrev pub numbers_of : Result Report Refusal → List ℕ
numbers_of (Err r) = refusal_numbers r
numbers_of (Ok r) = 0 ∷ report_numbers r

-- 10, then 20 to 24: a directive list that reads on the board, and slices of the right lengths. The plain machine has an empty list
unfoldable pub runnable : Board → (directives : List ℕ) → Lent → (saves : List ℕ) → Table → Answer Table
runnable board list lent saves t = check (is_some (read_on board list)) BadDirectives (fit_for board lent saves t)

-- what a call on an answer of the reader came to: the lent slices at exit, the save words on the board that rolls back
pub data CameTo (a : Answer Table) (list : List ℕ) (board : Board) (budget : ℕ) (lent : Lent) (ss : List ℕ) (lent' : Lent) (ss' : List ℕ) : Result Report Refusal → Type 0 where
  has_not_run : (r : Refusal) → a ≡ refused r → lent' ≡ lent → ss' ≡ ss → CameTo a list board budget lent ss lent' ss' (Err r)
  has_run : (t : Table) (r : Report) → a ≡ got t → lent' ≡ (ran_all t lent [] (run_in t lent budget (guide_of board list 0))).lent
      → (board ≡ Rolling → ss' ≡ saves_after (length t.nodes) (save_size t) (run_in t lent budget (guide_of board list 0)).machine.saves ss)
      → r ≡ report_of (run_in t lent budget (guide_of board list 0)) → CameTo a list board budget lent ss lent' ss' (Ok r)

-- for a table that was read
pub record DoneAs (table list : List ℕ) (board : Board) (budget : ℕ) (lent : Lent) (ss : List ℕ) (lent' : Lent) (ss' : List ℕ) (done : Result Report Refusal) : Type 0 where
  pub came : CameTo (runnable board list lent ss (table_of table)) list board budget lent ss lent' ss' done

-- for any table
pub record ReadDone (table list : List ℕ) (board : Board) (budget : ℕ) (lent : Lent) (ss : List ℕ) (lent' : Lent) (ss' : List ℕ) (done : Result Report Refusal) : Type 0 where
  pub came : CameTo (and_then (read_table table) (runnable board list lent ss)) list board budget lent ss lent' ss' done

-- and with it the result and the answer slice, which tell what the call came to
pub record RanAs (table list : List ℕ) (board : Board) (budget : ℕ) (lent : Lent) (ss answer : List ℕ) (result : ℕ) (lent' : Lent) (ss' answer' : List ℕ) : Type 0 where
  pub done : Result Report Refusal
  pub came : ReadDone table list board budget lent ss lent' ss' done
  pub is_result : result ≡ result_of done
  pub is_answer : answer' ≡ answered (numbers_of done) answer
