-- Under a list without a rollback and with at most eight forces, a call of flow_rollback answers and leaves what a call of flow_guess does,
-- and the save words besides.
use Prim.Native.Nat.{ℕ, ◌*◌, ◌≤◌}
use mathlib.Core.Bool.{Bool, true, false, cond}
use mathlib.Core.Option.{Option, none, some}
use mathlib.Core.List.{List, ◌∷◌}
use mathlib.Core.Path.{◌≡◌, refl, sym, ap, subst, ◌∙◌}
use lib.ListN.{length}
use lib.Dec.{leb}
use borrow.Author.Tests.{le-leb}
use Rattle.bytes_le.specs.Numbers.{words, from_words}
use Rattle.awhile.specs.Lists.{sum}
use Rattle.awhile.specs.Refusals.{Answer, refused, got, check, and_then}
use Rattle.awhile.specs.Tables.{Table, read_table}
use Rattle.awhile.specs.Trees.{root_of}
use Rattle.awhile.specs.declared.Refusal.TheVariants.{ShortSaves}
use Rattle.machine.specs.Directives.{has_rollback, without_rollback, forces_in, read_directives, read_rolling_directives}
use Rattle.machine.specs.Observations.{shown_bytes}
use Rattle.machine.specs.Runs.{guessing, rolling, bytes, Outcome}
use Rattle.machine.specs.Memory.{pending_after, written_over}
use Rattle.machine.specs.declared.Directive.{Directive}
use Rattle.machine.proofs.RollingForward.{SameButSaves, same_answer, rolling_forward}
use Rattle.entries.specs.Answers.{answered}
use Rattle.entries.specs.Running.{Lent, lent_for, ran_all, run_in, running, guess_entry}
use Rattle.entries.specs.Rolling.{save_size, saving_for, rollback_entry}
use Rattle.entries.proofs.Accepted.{course, guess_follows, rollback_follows, lent_for_lem}
use Rattle.entries.proofs.Security.{some_same}

-- a list that the guessing machine takes is read by both, and has no rollback
abbrev There : Option (List Directive) → Type 0
There none = ⊥
There (some ds) = Unit {0}

kept_list : (es ds : List Directive) (b : Bool) → cond b none (some es) ≡ some ds → (es ≡ ds) × (b ≡ false)
kept_list es ds true e = absurd (subst There (sym e) tt)
kept_list es ds false e = (some_same e, refl)

listed : (directives : List ℕ) (ds : List Directive) → read_directives directives ≡ some ds → (read_rolling_directives directives ≡ some ds) × (has_rollback ds ≡ false)
unfolding read_directives without_rollback
listed directives ds e = go (read_rolling_directives directives) e
  where
    go : (s : Option (List Directive)) → without_rollback s ≡ some ds → (s ≡ some ds) × (has_rollback ds ≡ false)
    go none f = absurd (subst There (sym f) tt)
    go (some es) f =
        let k = kept_list es ds (has_rollback es) f in
        (ap some k.0, subst (λ (l : List Directive). has_rollback l ≡ false) k.0 k.1)

-- outcomes that are the same but for the saves leave the same in all other slices
ran_alike : (t : Table) (lent : Lent) (answer : List ℕ) (o o' : Outcome ℕ) → SameButSaves o o' → ran_all t lent answer o ≡ ran_all t lent answer o'
unfolding ran_all
ran_alike t lent answer o o' same =
    λ i. record {
      result = 0;
      lent = record {
        variables = words (same.state i).variables;
        cells = words (same.state i).cells;
        pending = pending_after (length t.nodes) (same.state i).pending lent.pending;
        observations = written_over (shown_bytes (same.shown i)) lent.observations;
      };
      answer = answered (0 ∷ same_answer same i) answer;
    }

runs_alike : (t : Table) (lent : Lent) (budget : ℕ) (ds : List Directive) → has_rollback ds ≡ false → forces_in ds ≤ 8
    → SameButSaves (run_in t lent budget (rolling ds)) (run_in t lent budget (guessing ds))
unfolding run_in
runs_alike t lent budget ds forward few =
    rolling_forward t.counts (bytes (length lent.observations)) budget (root_of t) (from_words t.variables lent.variables)
    (from_words (sum t.counts) lent.cells) ds forward few

module _ (table directives : List ℕ) (lent : Lent) (saves : List ℕ) (budget : ℕ) (answer : List ℕ) (t : Table) (ds : List Directive)
    (reads : read_table table ≡ got t) (scripted : read_directives directives ≡ some ds) where
  rollback_run : (rollback_entry table directives lent saves budget answer).ran ≡ running (saving_for lent saves t) lent budget answer (rolling ds)
  unfolding course rollback_follows
  rollback_run = rollback_follows.calls table directives lent saves budget answer ∙ rw (reads, (listed directives ds scripted).0, course)

  guess_run : guess_entry table directives lent budget answer ≡ running (lent_for lent t) lent budget answer (guessing ds)
  unfolding course guess_follows
  guess_run = guess_follows.calls table directives lent tt budget answer ∙ rw (reads, scripted, course)

  -- the result, every slice but the save words, and the answer slice
  pub rollback_as_guess : forces_in ds ≤ 8 → 32 * save_size t ≤ length saves
      → (rollback_entry table directives lent saves budget answer).ran ≡ guess_entry table directives lent budget answer
  unfolding saving_for and_then check running
  rollback_as_guess few long = rollback_run ∙ go (lent_for lent t) refl ∙ sym guess_run
    where
      go : (a : Answer Table) → lent_for lent t ≡ a
          → running (and_then a (λ u. check (leb (32 * save_size u) (length saves)) ShortSaves (got u))) lent budget answer (rolling ds)
          ≡ running a lent budget answer (guessing ds)
      go (refused r) e = refl
      go (got u) e =
          rw (← lent_for_lem lent t u e, le-leb (32 * save_size t) (length saves) long)
          (ran_alike t lent answer _ _ (runs_alike t lent budget ds (listed directives ds scripted).1 few))
