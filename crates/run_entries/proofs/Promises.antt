-- What the running entries promise, from what a call came to and answers.
use Prim.Native.Nat.{ℕ}
use mathlib.Core.Bool.{Bool, true, false}
use mathlib.Core.Option.{Option, none, some}
use mathlib.Core.List.{List, []}
use mathlib.Core.Path.{◌≡◌, refl, sym, ◌∙◌}
use lib.ListN.{length}
use Rattle.awhile.specs.Refusals.{Answer, refused, got, check, and_then}
use Rattle.awhile.specs.Tables.{Table, read_table}
use Rattle.awhile.specs.declared.Refusal.TheVariants.{ShortSaves}
use Rattle.machine.specs.Directives.{read_rolling_directives, directives_in, has_rollback, without_rollback, read_directives}
use Rattle.machine.specs.Memory.{run_numbers}
use Rattle.machine.specs.declared.Board.{Board}
use Rattle.machine.specs.declared.Board.TheVariants.{Plain, Guessing, Rolling}
use Rattle.machine.specs.declared.Directive.{Directive}
use Rattle.directives.specs.Listed.{is_some, taken_on, read_on}
use Rattle.directives.specs.Guiding.{or_none, directives_from, guide_of}
use Rattle.interpreter.specs.Running.{report_of}
use Rattle.entries.specs.Answers.{answered}
use Rattle.entries.specs.Running.{Lent, Ran, not_run, lent_for, ran_all, running, run_entry, guess_with, guess_entry}
use Rattle.entries.specs.Rolling.{save_size, saving_for, not_run_saving, ran_saving, saving_run, rollback_with, rollback_entry}
use Rattle.awhile.proofs.VersionOne.{reads_as_before}
use Rattle.entries.specs.Promises.{lent_at, ran_at, Runs, Guesses, RollsBack}
use Rattle.entries.proofs.Rolling.{entry_rolls_back}
use Rattle.run_entries.specs.Lengths.{enough_for, fit_for}
use Rattle.run_entries.specs.Runs.{report_numbers, result_of, numbers_of, runnable, CameTo, has_not_run, has_run, RanAs}
use Rattle.awhile.specs.declared.Refusal.{Refusal}
use Rattle.interpreter.specs.declared.run.Report.{Report}
use Rattle.std.specs.Prelude.{Result}

-- what a call came to, as all memory at exit
abbrev exit_of : Lent → (answer : List ℕ) → Result Report Refusal → Ran
exit_of lent answer d = ran_at (result_of d) lent (answered (numbers_of d) answer)

module _ (list : List ℕ) (board : Board) (budget : ℕ) (lent : Lent) (ss : List ℕ) (lent' : Lent) (ss' answer : List ℕ) where
  came_to : (a : Answer Table) (d : Result Report Refusal) → CameTo a list board budget lent ss lent' ss' d → running a lent budget answer (guide_of board list 0) ≡ exit_of lent' answer d
  unfolding running not_run ran_all report_of report_numbers run_numbers
  came_to a d (has_not_run r e same saves) = rw (e, running, same)
  came_to a d (has_run t r e left saves report) = rw (e, running, left, report)

  -- with the save words, on the board that rolls back
  came_saving : board ≡ Rolling → (a : Answer Table) (d : Result Report Refusal) → CameTo a list board budget lent ss lent' ss' d
      → saving_run a lent ss budget answer (guide_of board list 0) ≡ record { ran = exit_of lent' answer d; saves = ss' }
  unfolding saving_run not_run_saving ran_saving not_run ran_all report_of report_numbers run_numbers
  came_saving rolling a d (has_not_run r e same saves) = rw (e, saving_run, same, saves)
  came_saving rolling a d (has_run t r e left saves report) = rw (e, saving_run, left, saves rolling, report)

-- ---- the entries are runs
-- a board that wants no save words looks at none
fits_without : (b : Board) → ((saves words : ℕ) → enough_for b saves words ≡ true) → (lent : Lent) (ss : List ℕ) (t : Table) → fit_for b lent ss t ≡ lent_for lent t
unfolding fit_for and_then check
fits_without b wants-none lent ss t = go (lent_for lent t)
  where
    go : (a : Answer Table) → and_then a (λ u. check (enough_for b (length ss) (save_size u)) ShortSaves (got u)) ≡ a
    go (refused r) = refl
    go (got u) = rw (wants-none (length ss) (save_size u))

module _ (table : List ℕ) (budget : ℕ) (lent : Lent) (ss answer : List ℕ) where
  -- the plain entry is the run without directives
  run_entry_lem : run_entry table lent budget answer ≡ running (and_then (read_table table) (runnable Plain [] lent ss)) lent budget answer (guide_of Plain [] 0)
  unfolding run_entry guide_of and_then runnable enough_for check is_some read_on taken_on without_rollback has_rollback read_rolling_directives directives_in
  run_entry_lem = go (read_table table)
    where
      go : (a : Answer Table) → running (and_then a (lent_for lent)) lent budget answer (guide_of Plain [] 0) ≡ running (and_then a (runnable Plain [] lent ss)) lent budget answer (guide_of Plain [] 0)
      go (refused r) = refl
      go (got t) = rw (fits_without Plain (λ saves words. refl) lent ss t)

  -- the guessing entry is the run under its list
  guess_entry_lem : (list : List ℕ)
      → guess_entry table list lent budget answer ≡ running (and_then (read_table table) (runnable Guessing list lent ss)) lent budget answer (guide_of Guessing list 0)
  unfolding guess_entry read_directives guess_with and_then running runnable enough_for check is_some read_on taken_on without_rollback guide_of directives_from or_none
  guess_entry_lem list = go (read_table table) (read_rolling_directives list) refl
    where
      listed : (t : Table) (ds : List Directive) → read_rolling_directives list ≡ some ds → (b : Bool) → has_rollback ds ≡ b
          → guess_with (got t) lent budget answer (without_rollback (read_rolling_directives list))
          ≡ running (runnable Guessing list lent ss t) lent budget answer (guide_of Guessing list 0)
      listed t ds e true h = rw (e, without_rollback, h)
      listed t ds e false h = rw (e, without_rollback, h, fits_without Guessing (λ saves words. refl) lent ss t)

      go : (a : Answer Table) (ds : Option (List Directive)) → read_rolling_directives list ≡ ds
          → guess_with a lent budget answer (without_rollback (read_rolling_directives list)) ≡ running (and_then a (runnable Guessing list lent ss)) lent budget answer (guide_of Guessing list 0)
      go (refused r) ds e = refl
      go (got t) none e = rw (e, without_rollback)
      go (got t) (some ds) e = listed t ds e (has_rollback ds) refl

  -- the entry that rolls back is the run under its list, with the save words
  rollback_entry_lem : (list : List ℕ)
      → rollback_entry table list lent ss budget answer ≡ saving_run (and_then (read_table table) (runnable Rolling list lent ss)) lent ss budget answer (guide_of Rolling list 0)
  unfolding rollback_entry rollback_with and_then saving_run runnable saving_for fit_for enough_for check is_some read_on taken_on guide_of directives_from or_none
  rollback_entry_lem list = go (read_table table) (read_rolling_directives list) refl
    where
      go : (a : Answer Table) (ds : Option (List Directive)) → read_rolling_directives list ≡ ds
          → rollback_with a lent ss budget answer (read_rolling_directives list) ≡ saving_run (and_then a (runnable Rolling list lent ss)) lent ss budget answer (guide_of Rolling list 0)
      go (refused r) ds e = refl
      go (got t) none e = rw e
      go (got t) (some ds) e = rw e

-- ---- the promises
-- The slices at exit are those of the lent struct, which a call gives back.
module _ {table list : List ℕ} {board : Board} {budget : ℕ} {lent : Lent} {ss answer : List ℕ} {result : ℕ} {lent' : Lent} {ss' answer' : List ℕ}
    (ran : RanAs table list board budget lent ss answer result lent' ss' answer')
    {vs cs ps os : List ℕ} (is_vs : vs ≡ lent'.variables) (is_cs : cs ≡ lent'.cells) (is_ps : ps ≡ lent'.pending) (is_os : os ≡ lent'.observations) where
  at_exit : ran_at result (lent_at vs cs ps os) answer' ≡ exit_of lent' answer ran.done
  at_exit = λ i. ran_at (ran.is_result i) (lent_at (is_vs i) (is_cs i) (is_ps i) (is_os i)) (ran.is_answer i)

  pub run_promise : board ≡ Plain → list ≡ [] → Runs table lent budget answer result (lent_at vs cs ps os) answer'
  run_promise plain empty =
      let came = rw (plain, empty) at ran.came.came in
      record {
        older = reads_as_before table;
        runs = at_exit ∙ sym (run_entry_lem table budget lent ss answer ∙ came_to [] Plain budget lent ss lent' ss' answer _ ran.done came);
      }

  pub guess_promise : board ≡ Guessing → Guesses table list lent budget answer result (lent_at vs cs ps os) answer'
  guess_promise guessing =
      let came = rw guessing at ran.came.came in
      record {
        older = reads_as_before table;
        guesses = at_exit ∙ sym (guess_entry_lem table budget lent ss answer list ∙ came_to list Guessing budget lent ss lent' ss' answer _ ran.done came);
      }

  pub rollback_promise : {saves : List ℕ} → board ≡ Rolling → saves ≡ ss' → RollsBack table list lent ss budget answer result (lent_at vs cs ps os) saves answer'
  rollback_promise rolling is_saves =
      let came = rw rolling at ran.came.came in
      entry_rolls_back
      ((λ i. record { ran = at_exit i; saves = is_saves i })
      ∙ sym (rollback_entry_lem table budget lent ss answer list ∙ came_saving list Rolling budget lent ss lent' ss' answer refl _ ran.done came))
