-- Without guessing, a hardened program runs as the original does.
use Prim.Native.Nat.{ℕ}
use mathlib.Core.Path.{◌≡◌, refl, sym, ap, subst, ◌∙◌}
use mathlib.Core.Logic.{◌↔◌}
use mathlib.Core.Option.{some}
use mathlib.Core.List.{List, [], ◌∷◌, ◌++◌}
use lib.ListN.{length, get_or}
use lib.Seq.{get_or_at}
use Rattle.awhile.specs.Language.{Com, map_notes}
use Rattle.machine.specs.Runs.{Outcome, endless, plain, end_number, run, started}
use Rattle.machine.specs.declared.End.{End}
use Rattle.machine.specs.declared.End.TheVariants.{Finished, Spent, Stuck}
use Rattle.machine.proofs.Prefixes.{begins_equal}
use Rattle.machine.proofs.Runs.{ends_once, ends_differ}
use Rattle.awhile.proofs.Notes.{note_mapped}
use Rattle.machine.proofs.Notes.{map_pending, map_state, map_machine, map_outcome, run_mapped, started_mapped}
use Rattle.masks.specs.Decisions.{Decision}
use Rattle.masks.specs.Hardening.{Origin, harden}
use Rattle.masks.specs.SameRun.{AssignsBelow, plain_run, next_note, AtSome, SameResult, NextIsCopy, SameRun}
use Rattle.masks.proofs.SameRunSteps.{with_flag, now, done, whole}
use Rattle.masks.proofs.SameRunBudgets.{numbered, itself, SameEnd, Follows, Leads, Meets, meets_copies, follow, lead}

-- runs that follow and lead one another are the same run, where the original's end in one way
module _
    (f : ℕ)
    (o : ℕ → Outcome ℕ)
    (h : ℕ → Outcome Origin)
    (once : (m n : ℕ) → ((o m).end ≡ Spent → ⊥) → ((o n).end ≡ Spent → ⊥) → o m ≡ o n)
    (followed : (n : ℕ) → AtSome (λ x. Follows f x (h n)) o)
    (led : (m : ℕ) → AtSome (Leads f (o m)) h)
  where
    module _ (e : End) (uncut : e ≡ Spent → ⊥) where
      not_cut : {Note : Type 0} (x : Outcome Note) → x.end ≡ e → x.end ≡ Spent → ⊥
      not_cut x is cut = uncut (sym is ∙ cut)

      ends_both : AtSome (λ x. x.end ≡ e) o ↔ AtSome (λ x. x.end ≡ e) h
      ends_both = (
        (λ a. let l = led a.budget in record { budget = l.budget; holds = l.holds.ended.end ∙ a.holds }),
        (λ a.
            let l = followed a.budget in
            record { budget = l.budget; holds = sym (l.holds.ended (not_cut (h a.budget) a.holds)).end ∙ a.holds }),
      )

      ends_alike : (m n : ℕ) → (o m).end ≡ e → (h n).end ≡ e → Leads f (o m) (h n)
      ends_alike m n is is' =
          let l = followed n in
          let same : SameEnd (o l.budget) (h n) = l.holds.ended (not_cut (h n) is') in
          subst
          (λ x. Leads f x (h n))
          (once l.budget m (not_cut (o l.budget) (sym same.end ∙ is')) (not_cut (o m) is))
          (record { paired = l.holds.paired; ended = same })

    same_runs : SameRun f itself o h
    unfolding end_number
    same_runs =
        record {
          finishes = ends_both Finished (ends_differ Finished Spent refl);
          finished = λ m n is is'. (ends_alike Finished (ends_differ Finished Spent refl) m n is is').paired.result;
          sticks = ends_both Stuck (ends_differ Stuck Spent refl);
          stuck = λ m n is is'. (ends_alike Stuck (ends_differ Stuck Spent refl) m n is is').paired.result;
          stuck_at = λ m n is is'. (ends_alike Stuck (ends_differ Stuck Spent refl) m n is is').ended.stuck is';
          begins = λ n. record { budget = (followed n).budget; holds = begins_equal (followed n).holds.paired.result.shown };
          begun = λ m. record { budget = (led m).budget; holds = begins_equal (sym (led m).holds.paired.result.shown) };
          variable_flag =
              λ n.
              ap (λ vs. get_or vs f 0) (followed n).holds.paired.result.variables
              ∙ get_or_at (o (followed n).budget).machine.state.variables 0 [] 0 f (followed n).holds.paired.width;
          machine_flag = λ n. (followed n).holds.paired.unset;
        }

-- the runs of a program with other notes
plain_run_mapped :
    {A B : Type 0} (g : A → B) (counts : List ℕ) (c : Com A) (vs cells : List ℕ) (n : ℕ)
    → plain_run counts (map_notes g c) vs cells n ≡ map_outcome g (plain_run counts c vs cells n)
unfolding plain_run
plain_run_mapped g counts c vs cells n =
    ap (run counts endless n) (sym (started_mapped g c vs cells plain)) ∙ run_mapped g counts endless n (started c vs cells plain)

module _ (f : ℕ) (counts : List ℕ) (d : Com Decision) (vs cells : List ℕ) where
  starts_meet : AssignsBelow f d → length vs ≡ f → Meets f (started d vs cells plain) (started (harden f d) (with_flag vs) cells plain)
  unfolding started
  starts_meet below width = meets_copies width (now (whole below done))

  -- the original's run is that of the command with the decisions, but for the notes
  original_run : (n : ℕ) → numbered (run counts endless n (started d vs cells plain)) ≡ plain_run counts (map_notes (λ n. n.node) d) vs cells n
  unfolding numbered plain_run
  original_run n = sym (plain_run_mapped (λ n. n.node) counts d vs cells n)

  -- the same with the notes that hardening gives
  pub same_run_itself :
      AssignsBelow f d → length vs ≡ f
      → SameRun f itself (plain_run counts (map_notes (λ n. n.node) d) vs cells) (plain_run counts (harden f d) (with_flag vs) cells)
  unfolding plain_run
  same_run_itself below width =
      let hardened : ℕ → Outcome Origin = plain_run counts (harden f d) (with_flag vs) cells in
      same_runs
      f
      (plain_run counts (map_notes (λ n. n.node) d) vs cells)
      hardened
      (λ m n. ends_once counts endless m n (started (map_notes (λ n. n.node) d) vs cells plain))
      (λ n.
      let l = follow f counts n (starts_meet below width) in
      record { budget = l.budget; holds = subst (λ x. Follows f x (hardened n)) (original_run l.budget) l.holds })
      (λ m. subst (λ x. AtSome (Leads f x) hardened) (original_run m) (lead f counts m (starts_meet below width)))

-- a same run does not depend on the notes of the hardened program
module _ {Note : Type 0} (f : ℕ) (origin : Note → Origin) (o : ℕ → Outcome ℕ) (h : ℕ → Outcome Note) where
  next_renoted : (cs : List (Com ℕ)) (hs : List (Com Note)) → NextIsCopy itself cs (map_pending origin hs) → NextIsCopy origin cs hs
  unfolding map_pending next_note
  next_renoted cs [] n = record { node = n.node; next = n.next; copy = n.copy }
  next_renoted cs (h ∷ hs) n = record { node = n.node; next = n.next; copy = sym (ap some (note_mapped origin h)) ∙ n.copy }

  result_renoted : (m n : ℕ) → SameResult (o m) (map_outcome origin (h n)) → SameResult (o m) (h n)
  unfolding map_outcome map_machine map_state
  result_renoted m n r = record { shown = r.shown; variables = r.variables; cells = r.cells }

  ends_renoted :
      (e : End) → AtSome (λ x. x.end ≡ e) o ↔ AtSome (λ x. x.end ≡ e) (λ n. map_outcome origin (h n))
      → AtSome (λ x. x.end ≡ e) o ↔ AtSome (λ x. x.end ≡ e) h
  unfolding map_outcome
  ends_renoted e both =
      ((λ a. record { budget = (both.0 a).budget; holds = (both.0 a).holds }), (λ a. both.1 (record { budget = a.budget; holds = a.holds })))

  renoted : SameRun f itself o (λ n. map_outcome origin (h n)) → SameRun f origin o h
  unfolding map_outcome map_machine map_state
  renoted s =
      record {
        finishes = ends_renoted Finished s.finishes;
        finished = λ m n is is'. result_renoted m n (s.finished m n is is');
        sticks = ends_renoted Stuck s.sticks;
        stuck = λ m n is is'. result_renoted m n (s.stuck m n is is');
        stuck_at = λ m n is is'. next_renoted _ _ (s.stuck_at m n is is');
        begins = s.begins;
        begun = λ m. record { budget = (s.begun m).budget; holds = (s.begun m).holds };
        variable_flag = s.variable_flag;
        machine_flag = s.machine_flag;
      }

module _ {Note : Type 0} (origin : Note → Origin) (h : Com Note) (vs cells : List ℕ) where
  -- Without guessing, from flag 0, a hardened program runs as the original does, whatever is masked.
  pub same_run_lem :
      (f : ℕ) (counts : List ℕ) (d : Com Decision) → map_notes origin h ≡ harden f d → AssignsBelow f d → length vs ≡ f
      → SameRun f origin (plain_run counts (map_notes (λ n. n.node) d) vs cells) (plain_run counts h (vs ++ (0 ∷ [])) cells)
  same_run_lem f counts d hardened below width =
      renoted
      f
      origin
      (plain_run counts (map_notes (λ n. n.node) d) vs cells)
      (plain_run counts h (with_flag vs) cells)
      (subst
      (SameRun f itself (plain_run counts (map_notes (λ n. n.node) d) vs cells))
      (λ i n. (ap (λ c. plain_run counts c (with_flag vs) cells n) (sym hardened) ∙ plain_run_mapped origin counts h (with_flag vs) cells n) i)
      (same_run_itself f counts d vs cells below width))
