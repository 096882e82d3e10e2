-- What an accepted call of an entry that takes a list of directives is: its table and its list are read, and it leaves what the run leaves.
use Prim.Native.Nat.{ℕ, ◌*◌}
use native.Mathlib.Omega.{arith}
use mathlib.Core.Option.{Option, none, some}
use mathlib.Core.List.{List}
use mathlib.Core.Path.{◌≡◌, refl, sym, ap, ◌∙◌}
use lib.ListN.{length}
use lib.Dec.{eqb, leb}
use Rattle.awhile.specs.Lists.{sum}
use Rattle.awhile.specs.Refusals.{Answer, refused, got, refusal_number}
use Rattle.awhile.specs.Tables.{Table, read_table}
use Rattle.awhile.proofs.Accepted.{check_got, got_same, then_got}
use Rattle.awhile.specs.declared.Refusal.{Refusal}
use Rattle.awhile.specs.declared.Refusal.TheVariants.{Cut, WrongRecord, BeyondLimit, OutOfRange, WrongSort, NotATree, ExtraBytes}
use Rattle.awhile.specs.declared.Refusal.TheVariants.{TooManyNodes, NoFreeVariable, BadDirectives, BadQuestions}
use Rattle.awhile.specs.declared.Refusal.TheVariants.{WrongVariables, WrongCells, ShortPending, ShortBuffer, ShortSaves}
use Rattle.machine.specs.Directives.{read_directives, read_rolling_directives}
use Rattle.machine.specs.Runs.{Guide, guessing, rolling}
use Rattle.machine.specs.declared.Directive.{Directive}
use Rattle.entries.specs.Running.{Lent, Ran, not_run, lent_for, ran_all, run_in, running, guess_with, guess_entry}
use Rattle.entries.specs.Rolling.{save_size, saving_for, not_run_saving, ran_saving, saving_run, rollback_with, rollback_entry}
use Rattle.entries.specs.Security.{ListEntry, flow_guess, flow_rollback}

-- no refusal has the number 0
pub refusal_not_zero : (r : Refusal) → refusal_number r ≡ 0 → ⊥
refusal_not_zero (Cut at) e = omega arith
refusal_not_zero (WrongRecord at) e = omega arith
refusal_not_zero (BeyondLimit at) e = omega arith
refusal_not_zero (OutOfRange at) e = omega arith
refusal_not_zero (WrongSort at) e = omega arith
refusal_not_zero (NotATree at) e = omega arith
refusal_not_zero (ExtraBytes at) e = omega arith
refusal_not_zero TooManyNodes e = omega arith
refusal_not_zero NoFreeVariable e = omega arith
refusal_not_zero BadDirectives e = omega arith
refusal_not_zero BadQuestions e = omega arith
refusal_not_zero WrongVariables e = omega arith
refusal_not_zero WrongCells e = omega arith
refusal_not_zero ShortPending e = omega arith
refusal_not_zero ShortBuffer e = omega arith
refusal_not_zero ShortSaves e = omega arith

pub record Accepted {Besides : Type 0} (e : ListEntry Besides)
    (table directives : List ℕ) (lent : Lent) (besides : Besides) (budget : ℕ) (answer : List ℕ) : Type 0 where
  pub read : Table
  pub script : List Directive
  pub reads : read_table table ≡ got read
  pub scripted : e.script_of directives ≡ some script
  pub exit : e.call table directives lent besides budget answer ≡ ran_all read lent answer (run_in read lent budget (e.board script))

-- ---- the course of such a call: the table, then the list, then the lengths of what is lent, then the run
unfoldable pub course : (board : List Directive → Guide) → (lengths : Table → Answer Table) → Lent → (budget : ℕ) → (answer : List ℕ)
    → Answer Table → Option (List Directive) → Ran
course board lengths lent budget answer (refused r) ds = not_run r lent answer
course board lengths lent budget answer (got t) none = not_run BadDirectives lent answer
course board lengths lent budget answer (got t) (some ds) = running (lengths t) lent budget answer (board ds)

-- an entry that takes this course. A look at the lengths gives the table itself, or a refusal
pub record Follows {Besides : Type 0} (e : ListEntry Besides) : Type 0 where
  pub lengths : Lent → Besides → Table → Answer Table
  pub itself : (lent : Lent) (besides : Besides) (t u : Table) → lengths lent besides t ≡ got u → t ≡ u
  pub calls : (table directives : List ℕ) (lent : Lent) (besides : Besides) (budget : ℕ) (answer : List ℕ)
      → e.call table directives lent besides budget answer ≡ course e.board (lengths lent besides) lent budget answer (read_table table) (e.script_of directives)

pub lent_for_lem : (lent : Lent) (t u : Table) → lent_for lent t ≡ got u → t ≡ u
unfolding lent_for
lent_for_lem lent t u e =
    let p = check_got (eqb (length lent.variables) (4 * t.variables)) WrongVariables _ u e in
    let q = check_got (eqb (length lent.cells) (4 * sum t.counts)) WrongCells _ u p.1 in
    let r = check_got (leb (4 * length t.nodes) (length lent.pending)) ShortPending (got t) u q.1 in
    got_same t u r.1

unfoldable pub guess_follows : Follows flow_guess
unfolding guess_entry guess_with course
guess_follows =
    record {
      lengths = λ lent nothing. lent_for lent;
      itself = λ lent nothing. lent_for_lem lent;
      calls = λ table directives lent nothing budget answer. go lent budget answer (read_table table) (read_directives directives);
    }
  where
    go : (lent : Lent) (budget : ℕ) (answer : List ℕ) (a : Answer Table) (s : Option (List Directive))
        → guess_with a lent budget answer s ≡ course guessing (lent_for lent) lent budget answer a s
    go lent budget answer (refused r) s = refl
    go lent budget answer (got t) none = refl
    go lent budget answer (got t) (some ds) = refl

pub saving_for_lem : (lent : Lent) (saves : List ℕ) (t u : Table) → saving_for lent saves t ≡ got u → t ≡ u
unfolding saving_for
saving_for_lem lent saves t u e =
    then_got _ (lent_for lent t) _ u e
    (λ x lends enough. lent_for_lem lent t u (lends ∙ (check_got (leb (32 * save_size x) (length saves)) ShortSaves (got x) u enough).1))

-- the run is flow_guess's; the save slice is written besides
pub saving_runs : (a : Answer Table) (lent : Lent) (saves : List ℕ) (budget : ℕ) (answer : List ℕ) (g : Guide)
    → (saving_run a lent saves budget answer g).ran ≡ running a lent budget answer g
unfolding saving_run running not_run_saving ran_saving
saving_runs (refused r) lent saves budget answer g = refl
saving_runs (got t) lent saves budget answer g = refl

unfoldable pub rollback_follows : Follows flow_rollback
unfolding rollback_entry rollback_with not_run_saving course
rollback_follows =
    record {
      lengths = saving_for;
      itself = saving_for_lem;
      calls = λ table directives lent saves budget answer. go lent saves budget answer (read_table table) (read_rolling_directives directives);
    }
  where
    go : (lent : Lent) (saves : List ℕ) (budget : ℕ) (answer : List ℕ) (a : Answer Table) (s : Option (List Directive))
        → (rollback_with a lent saves budget answer s).ran ≡ course rolling (saving_for lent saves) lent budget answer a s
    go lent saves budget answer (refused r) s = refl
    go lent saves budget answer (got t) none = refl
    go lent saves budget answer (got t) (some ds) = saving_runs (saving_for lent saves t) lent saves budget answer (rolling ds)

-- ---- every call that answers 0 is accepted
module _ {Besides : Type 0} {e : ListEntry Besides} (follows : Follows e)
    (table directives : List ℕ) (lent : Lent) (besides : Besides) (budget : ℕ) (answer : List ℕ) where
  abbrev called : Ran
  called = e.call table directives lent besides budget answer

  refused_not_zero : (r : Refusal) → called ≡ not_run r lent answer → called.result ≡ 0 → ⊥
  unfolding not_run
  refused_not_zero r call zero = refusal_not_zero r (sym (ap (λ (x : Ran). x.result) call) ∙ zero)

  -- the lengths are looked at
  lengths_accepted : (t : Table) (ds : List Directive) (a : Answer Table) → follows.lengths lent besides t ≡ a
      → called ≡ running a lent budget answer (e.board ds) → read_table table ≡ got t → e.script_of directives ≡ some ds → called.result ≡ 0 → Accepted e table directives lent besides budget answer
  unfolding running
  lengths_accepted t ds (refused r) looked call reads scripted zero = absurd (refused_not_zero r call zero)
  lengths_accepted t ds (got u) looked call reads scripted zero =
      record {
        read = t;
        script = ds;
        reads = reads;
        scripted = scripted;
        exit = call ∙ ap (λ (x : Table). ran_all x lent answer (run_in x lent budget (e.board ds))) (sym (follows.itself lent besides t u looked));
      }

  -- the table and the list are read
  read_accepted : (a : Answer Table) (s : Option (List Directive)) → read_table table ≡ a → e.script_of directives ≡ s
      → called ≡ course e.board (follows.lengths lent besides) lent budget answer a s → called.result ≡ 0
      → Accepted e table directives lent besides budget answer
  unfolding course
  read_accepted (refused r) s reads scripted call zero = absurd (refused_not_zero r call zero)
  read_accepted (got t) none reads scripted call zero = absurd (refused_not_zero BadDirectives call zero)
  read_accepted (got t) (some ds) reads scripted call zero = lengths_accepted t ds (follows.lengths lent besides t) refl call reads scripted zero

  pub call_accepted : called.result ≡ 0 → Accepted e table directives lent besides budget answer
  call_accepted zero = read_accepted (read_table table) (e.script_of directives) refl refl (follows.calls table directives lent besides budget answer) zero
