-- Demand 3 for the hardened program of any decisions that cover the labels, on any board that takes a list of directives.
use Prim.Native.Nat.{ℕ, ◌+◌}
use native.Mathlib.Omega.{arith}
use mathlib.Core.Bool.{false}
use mathlib.Core.List.{List, [], ◌∷◌}
use mathlib.Core.Path.{◌≡◌, refl, sym, ap, subst, subst₂, ◌∙◌}
use lib.ListN.{length, length-append}
use Rattle.awhile.specs.Language.{Com, map_notes}
use Rattle.awhile.specs.Tables.{Table}
use Rattle.awhile.specs.Trees.{root_of}
use Rattle.awhile.specs.declared.Labelling.{Labelling}
use Rattle.labels.proofs.Order.{⊑_refl}
use Rattle.machine.specs.Steps.{State}
use Rattle.machine.specs.Runs.{Guide, run, started}
use Rattle.machine.specs.Prefixes.{OneBegins}
use Rattle.machine.specs.declared.Directive.{Directive}
use Rattle.machine.proofs.Notes.{map_pending, map_state}
use Rattle.machine.proofs.Prefixes.{beginnings_related}
use Rattle.machine.proofs.Traces.{run_shows}
use Rattle.machine.proofs.PlainRuns.{state_of, PlainRelated}
use Rattle.machine.proofs.Pulled.{Pulled, pulled_closed}
use Rattle.machine.proofs.Closed.{neither}
use Rattle.machine.proofs.Lockstep.{Abreast, abreast, runs_begin}
use Rattle.masks.specs.Decisions.{Decision}
use Rattle.masks.specs.Covering.{Covers}
use Rattle.masks.specs.Hardening.{Origin, harden}
use Rattle.masks.specs.SameRun.{AssignsBelow, SameRun, plain_run}
use Rattle.masks.specs.Security.{plainly_shown, shown_on, AgreeingStates, ShowsTheSame}
use Rattle.masks.proofs.Decisions.{program_for}
use Rattle.masks.proofs.SameRunSteps.{with_flag, get_with_flag, flag_zero}
use Rattle.masks.proofs.SameRunBudgets.{itself}
use Rattle.masks.proofs.SameRun.{same_run_itself}
use Rattle.masks.proofs.Locked.{nothing, item, Flagged, straight, Locked, steady}
use Rattle.masks.proofs.OneStep.{locked_closed}

-- the start of a hardened program, from states that agree
start_flagged : (t : Table) (l : Labelling) (vs cs ws ds : List ℕ) → AgreeingStates t l vs cs ws ds → Flagged t.variables 0 l (with_flag vs) (with_flag ws)
start_flagged t l vs cs ws ds a =
    record {
      agree = record { at = λ x e. get_with_flag vs x ∙ (a.on_variables.at x e ∙ sym (get_with_flag ws x)) };
      left = flag_zero t.variables vs a.left_variables;
      right = flag_zero t.variables ws a.right_variables;
      lengths = length-append vs (0 ∷ []) ∙ (ap (λ (n : ℕ). n + 1) (a.left_variables ∙ sym a.right_variables) ∙ sym (length-append ws (0 ∷ [])));
      declared = omega (arith, length-append vs (0 ∷ []), a.left_variables);
    }

module _ (t : Table) (d : Com Decision) (program : program_for d ≡ root_of t) (below : AssignsBelow t.variables d) where
  -- the original's and the hardened program's runs without guessing
  pub same_from : (vs cs : List ℕ) → length vs ≡ t.variables
      → SameRun t.variables itself (plain_run t.counts (root_of t) vs cs) (plain_run t.counts (harden t.variables d) (with_flag vs) cs)
  same_from vs cs width =
      subst (λ (c : Com ℕ). SameRun t.variables itself (plain_run t.counts c vs cs) (plain_run t.counts (harden t.variables d) (with_flag vs) cs)) program
      (same_run_itself t.variables t.counts d vs cs below width)

  module _ (l : Labelling) (vs cs ws ds : List ℕ) (a : AgreeingStates t l vs cs ws ds)
      (plainly : (n m : ℕ) → OneBegins (plainly_shown t vs cs n) (plainly_shown t ws ds m)) where
    abbrev start_of : List ℕ → List ℕ → State Origin
    start_of xs ys = state_of (harden t.variables d ∷ []) (with_flag xs) ys false

    -- the hardened program's plain runs are related because the original's are
    start_related : PlainRelated t.counts (start_of vs cs) (start_of ws ds)
    unfolding plainly_shown shown_on plain_run started
    start_related =
        record {
          at = λ n m.
              subst₂ OneBegins (run_shows t.counts n (start_of vs cs) [] 0 0 [])
              (run_shows t.counts m (start_of ws ds) [] 0 0 [])
              (beginnings_related ((same_from vs cs a.left_variables).begins n).holds ((same_from ws ds a.right_variables).begins m).holds (plainly _ _));
        }

    start_locked : Covers d false l → Locked t.counts t.variables (start_of vs cs) (start_of ws ds)
    start_locked covers =
        steady false l (harden t.variables d ∷ []) (with_flag vs) (with_flag ws) cs ds
        (item d false l (⊑_refl l) covers below nothing)
        (start_flagged t l vs cs ws ds a)
        (straight a.on_arrays (a.left_cells ∙ sym a.right_cells) start_related)

    -- so are the machines that start on a table whose program is the hardened one but for its notes: abreast, with one pending list, on any board
    start_abreast : Covers d false l → (c : Com ℕ) (g : ℕ → Origin) → map_notes g c ≡ harden t.variables d → (guide : Guide)
        → Abreast (Pulled g t.counts (Locked t.counts t.variables)) (started c (with_flag vs) cs guide) (started c (with_flag ws) ds guide)
    unfolding started map_state map_pending
    start_abreast covers c g same guide =
        abreast (state_of (c ∷ []) (with_flag vs) cs false) (state_of (c ∷ []) (with_flag ws) ds false) [] [] guide 0 0 []
        (record {
          same = refl;
          related =
              subst (λ (p : Com Origin). Locked t.counts t.variables (state_of (p ∷ []) (with_flag vs) cs false) (state_of (p ∷ []) (with_flag ws) ds false))
              (sym same)
              (start_locked covers);
        })
        neither

  -- DEMAND 3 for any table whose program is the hardened one but for its notes, for all decisions that cover the labels
  pub secure_by : (board : List Directive → Guide) (l : Labelling) (hardened : Table) (g : ℕ → Origin)
      → hardened.counts ≡ t.counts → map_notes g (root_of hardened) ≡ harden t.variables d → Covers d false l → ShowsTheSame board l t hardened
  unfolding shown_on
  secure_by board l hardened g counts same covers =
      record {
        related = λ vs cs ws ds a plainly directives n m room other.
            let left = started (root_of hardened) (with_flag vs) cs (board directives) in
            let right = started (root_of hardened) (with_flag ws) ds (board directives) in
            subst (λ (k : List ℕ). OneBegins (run k room n left).machine.shown (run k other m right).machine.shown) (sym counts)
            (runs_begin t.counts (Pulled g t.counts (Locked t.counts t.variables))
            (pulled_closed g t.counts (Locked t.counts t.variables) (locked_closed t.counts t.variables)) n m room other left right
            (start_abreast l vs cs ws ds a plainly covers (root_of hardened) g same (board directives)));
      }
