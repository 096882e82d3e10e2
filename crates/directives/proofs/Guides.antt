-- What guides a shown step, from an offset in the bytes of a directive list.
use Prim.Native.Nat.{ℕ, ◌+◌, ◌≤◌, ◌<◌}
use native.Mathlib.Nat.{add-zero}
use native.Mathlib.Omega.{arith}
use mathlib.Core.Bool.{Bool, true, false, true≢false}
use mathlib.Core.Path.{◌≡◌, refl, sym, ap, subst, ◌∙◌}
use mathlib.Core.Option.{Option, none, some}
use mathlib.Core.List.{List, [], ◌∷◌}
use lib.ListN.{length, drop, length-drop}
use lib.Dec.{eqb, ltb}
use borrow.Author.Tests.{ltb-true, ltb-false}
use Rattle.bytes_le.specs.Numbers.{le_at}
use Rattle.bytes_le.proofs.Loads.{le_at_past}
use Rattle.machine.specs.Directives.{directive_size, first_directive, before, read_rolling_directives, is_rollback}
use Rattle.std.specs.Prelude.{Some, None}
use Rattle.std.specs.Prelude.{Option as Found}
use Rattle.std.proofs.Common.{⊎_elim}
use lib.Seq.{drop-drop}
use Rattle.directives.specs.Listed.{found, is_some}
use Rattle.machine.specs.Steps.{only_if}
use Rattle.machine.specs.Runs.{rollback_next, shown_step}
use Rattle.directives.specs.Guiding.{Readable, or_none, directives_from, guide_of, GoesBy, RunsOut, GuidedAs, RollbackAs}
use Rattle.directives.proofs.DirectiveLists.{le_at-drop, size_some, rollback_size, first_kind, size_within, reads_next, reads_over, reads_bad, reads_none_left, is_some_before}
use Rattle.machine.specs.declared.Board.{Board}
use Rattle.machine.specs.declared.Board.TheVariants.{Plain, Guessing, Rolling}
use Rattle.machine.specs.declared.Directive.{Directive}
use Rattle.machine.specs.declared.Directive.TheVariants.{Step}
use Rattle.directives.specs.declared.guide.Guided.{Guided}

module _ (list : List ℕ) (at : ℕ) (readable : Readable list at) where
  -- the plain machine asks for no directive
  pub goes_plainly : (board : Board) → board ≡ Plain → GoesBy board list at Step 0 0
  unfolding guide_of shown_step
  goes_plainly board is = rw is (record { step = λ room m o after. refl; readable = rw add-zero readable; few = omega arith })

  -- at the end of the list there is none left
  nothing_left : length list ≤ at → read_rolling_directives (drop at list) ≡ some []
  nothing_left ended = reads_none_left (drop at list) (simp length-drop (omega arith))

  -- a list that reads ends where no directive stands
  module _ (none_there : None ≡ found (first_directive (drop at list))) where
    none_left : read_rolling_directives (drop at list) ≡ some []
    unfolding is_some
    none_left =
        ⊎_elim
        (λ ended. reads_none_left (drop at list) (omega arith))
        (λ refused. absurd (true≢false (sym readable.reads ∙ ap is_some refused)))
        (reads_over (drop at list) none_there)

    pub runs_out : RunsOut Guessing list at × RunsOut Rolling list at
    unfolding guide_of directives_from or_none shown_step
    runs_out =
        (record { step = λ room m o after. rw none_left }, record { step = λ room m o after. rw none_left })

  -- the directive that stands there, and the rest of the list behind it
  module _ (d : Directive) (here : Some d ≡ found (first_directive (drop at list))) where
    or_none_before : (r : Option (List Directive)) → is_some (before d r) ≡ true → or_none (before d r) ≡ d ∷ or_none r
    unfolding or_none before is_some
    or_none_before none e = cc
    or_none_before (some ds) e = refl

    next : read_rolling_directives (drop at list) ≡ before d (read_rolling_directives (drop (at + directive_size d) list))
    next = rw (← drop-drop (directive_size d) at list) (reads_next (drop at list) d here)

    directives_split : directives_from list at ≡ d ∷ directives_from list (at + directive_size d)
    unfolding directives_from
    directives_split =
        ap or_none next ∙ or_none_before (read_rolling_directives (drop (at + directive_size d) list)) (rw next at readable.reads)

    readable_next : Readable list (at + directive_size d)
    readable_next =
        let some = rw next at readable.reads in
        record {
          within = let size = size_within (drop at list) d here in omega (arith, length-drop at list, size_some d);
          reads = sym (is_some_before d (read_rolling_directives (drop (at + directive_size d) list))) ∙ some;
        }

    pub goes_by : (size : ℕ) → size ≡ directive_size d → GoesBy Guessing list at d size 1 × GoesBy Rolling list at d size 1
    unfolding guide_of shown_step
    goes_by size is_size =
        rw is_size (
          record { step = λ room m o after. rw directives_split; readable = readable_next; few = omega arith },
          record { step = λ room m o after. rw directives_split; readable = readable_next; few = omega arith },
        )

    -- a rollback is next exactly if it stands there
    rolls_there : RollbackAs Rolling list at (is_rollback d)
    unfolding guide_of rollback_next only_if
    rolls_there = go (is_rollback d) refl
      where
        go : (b : Bool) → is_rollback d ≡ b → RollbackAs Rolling list at b
        go true e =
            let four = rollback_size d e in
            record { is_rolling = refl; after = rw (directives_split, rollback_next, e, four); readable = rw four at readable_next }
        go false e = rw (directives_split, rollback_next, e)

  -- the rolling board's list, by the kind that stands at the offset
  rolls_inside : at < length list → RollbackAs Rolling list at (eqb (le_at 2 list (at + 2)) 76)
  unfolding found is_some
  rolls_inside inside = go (first_directive (drop at list)) refl
    where
      go : (o : Option Directive) → first_directive (drop at list) ≡ o → RollbackAs Rolling list at (eqb (le_at 2 list (at + 2)) 76)
      go none e =
          let some : 0 < length (drop at list) = simp length-drop (omega arith) in
          absurd (true≢false (sym readable.reads ∙ ap is_some (reads_bad (drop at list) some e)))
      go (some d) e =
          subst (RollbackAs Rolling list at) (first_kind (drop at list) d e ∙ ap (λ (k : ℕ). eqb k 76) (le_at-drop 2 list at 2))
          (rolls_there d (ap found (sym e)))

  rolls_outside : length list ≤ at → RollbackAs Rolling list at (eqb (le_at 2 list (at + 2)) 76)
  unfolding guide_of directives_from or_none rollback_next
  rolls_outside ended = rw (le_at_past list 2 (at + 2) (omega arith)) (rw (nothing_left ended))

  pub rolls_by_kind : (board : Board) → board ≡ Rolling → (k : ℕ) → k ≡ le_at 2 list (at + 2) → RollbackAs board list at (eqb k 76)
  rolls_by_kind board is k is_kind = rw (is, is_kind) (go (ltb at (length list)) refl)
    where
      go : (b : Bool) → ltb at (length list) ≡ b → RollbackAs Rolling list at (eqb (le_at 2 list (at + 2)) 76)
      go true e = rolls_inside (ltb-true at (length list) e)
      go false e = rolls_outside (ltb-false at (length list) e)

  -- no rollback is next on the other boards
  pub rolls_elsewhere : (board : Board) → (board ≡ Rolling → ⊥) → RollbackAs board list at false
  unfolding guide_of rollback_next
  rolls_elsewhere Plain other = refl
  rolls_elsewhere Guessing other = refl
  rolls_elsewhere Rolling other = absurd (other refl)

-- what guides the boards that take a list
pub guided_elsewhere : (board : Board) (list : List ℕ) (at : ℕ) (r : Found Guided) → (board ≡ Plain → ⊥) → GuidedAs Guessing list at r × GuidedAs Rolling list at r
    → GuidedAs board list at r
guided_elsewhere Plain list at r other g = absurd (other refl)
guided_elsewhere Guessing list at r other g = g.0
guided_elsewhere Rolling list at r other g = g.1
