-- Laws of a run: one step of it, and that an end reached stays reached with more budget.
use Prim.Native.Nat.{ℕ, zero, suc, ◌+◌}
use native.Mathlib.Nat.{suc-add, add_comm}
use mathlib.Core.Path.{◌≡◌, refl, sym, ap, ◌∙◌}
use mathlib.Core.Bool.{true, false, true≢false}
use mathlib.Core.Option.{Option, none, some}
use mathlib.Core.List.{List, [], ◌∷◌}
use lib.Dec.{eqb}
use borrow.Author.Tests.{eq-eqb}
use Rattle.awhile.specs.Language.{Com}
use Rattle.machine.specs.Runs.{Room, Guide, Machine, Next, over, goes}
use Rattle.machine.specs.Runs.{rollback_next, next_of, next_by, next, end_number, end_without, run}
use Rattle.machine.specs.declared.End.{End}
use Rattle.machine.specs.declared.End.TheVariants.{Finished, Spent}

-- ends of different numbers differ
pub ends_differ : (e e' : End) → eqb (end_number e) (end_number e') ≡ false → e ≡ e' → ⊥
ends_differ e e' h same =
    let equal : eqb (end_number e) (end_number e') ≡ true = eq-eqb (end_number e) (end_number e') (ap end_number same) in
    true≢false (sym equal ∙ h)

module _ {Note : Type 0} (counts : List ℕ) (room : Room) where
  -- a run whose next step is not taken is over, and the machine is as it was
  pub run_over : (n : ℕ) (m : Machine Note) {e : End} → next counts room m ≡ over e → run counts room (suc n) m ≡ record { end = e; machine = m }
  unfolding run
  run_over n m e = rw (e, run)

  -- a run whose next step is taken is the run from there with one step less of budget
  pub run_goes : (n : ℕ) (m : Machine Note) {m' : Machine Note} → next counts room m ≡ goes m' → run counts room (suc n) m ≡ run counts room n m'
  unfolding run
  run_goes n m e = rw (e, run)

  -- induction along a run: a claim about all budgets and machines, by the next step
  pub along_run :
      (P : ℕ → Machine Note → Type 0) → ((m : Machine Note) → P zero m)
      → ((n : ℕ) (m : Machine Note) (e : End) → next counts room m ≡ over e → P (suc n) m)
      → ((n : ℕ) (m m' : Machine Note) → next counts room m ≡ goes m' → P n m' → P (suc n) m) → (n : ℕ) (m : Machine Note) → P n m
  along_run P at_zero at-over at_goes zero m = at_zero m
  along_run P at_zero at-over at_goes (suc n) m = go (next counts room m) refl (along_run P at_zero at-over at_goes n)
    where
      go : (x : Next Note) → next counts room m ≡ x → ((m' : Machine Note) → P n m') → P (suc n) m
      go (over e) eq rest = at-over n m e eq
      go (goes m') eq rest = at_goes n m m' eq (rest m')

  -- where no rollback is next, the next step is that of the pending list
  pub next_onward : (m : Machine Note) → rollback_next m.guide ≡ none → next counts room m ≡ next_of counts room m m.state.pending
  unfolding next next_by
  next_onward m forward = rw (forward, next_by)

  -- with nothing pending and no rollback next, the next step is not taken, since the run is finished
  next_nothing : (m : Machine Note) → rollback_next m.guide ≡ none → m.state.pending ≡ [] → next counts room m ≡ over Finished
  unfolding next_of
  next_nothing m forward e = next_onward m forward ∙ rw (e, next_of)

  -- where nothing is pending and no rollback is next, a run is finished, with any budget
  pub run_nothing : (n : ℕ) (m : Machine Note) → rollback_next m.guide ≡ none → m.state.pending ≡ [] → run counts room n m ≡ record { end = Finished; machine = m }
  unfolding run end_without
  run_nothing zero m forward e = λ i. record { end = end_without (e i) (forward i); machine = m }
  run_nothing (suc n) m forward e = run_over n m (next_nothing m forward e)

  -- with no budget left, an end other than Spent says that nothing is pending and no rollback is next
  end_without_nothing : (cs : List (Com Note)) (r : Option Guide) → (end_without cs r ≡ Spent → ⊥) → (r ≡ none) × (cs ≡ [])
  unfolding end_without
  end_without_nothing [] none h = (refl, refl)
  end_without_nothing [] (some g) h = absurd (h refl)
  end_without_nothing (c ∷ rest) r h = absurd (h refl)

  -- a run that has ended otherwise than by its budget stays as it is with more budget
  pub run_ended : (k n : ℕ) (m : Machine Note) → ((run counts room n m).end ≡ Spent → ⊥) → run counts room (n + k) m ≡ run counts room n m
  unfolding run
  run_ended k =
      along_run
      (λ n m. ((run counts room n m).end ≡ Spent → ⊥) → run counts room (n + k) m ≡ run counts room n m)
      (λ m h.
      let nothing = end_without_nothing m.state.pending (rollback_next m.guide) h in
      run_nothing (zero + k) m nothing.0 nothing.1 ∙ sym (run_nothing zero m nothing.0 nothing.1))
      (λ n m e eq h. rw suc-add (run_over (n + k) m eq ∙ sym (run_over n m eq)))
      (λ n m m' eq rest h.
      rw suc-add (run_goes (n + k) m eq ∙ (rest (λ s. h (ap (λ o. o.end) (run_goes n m eq) ∙ s)) ∙ sym (run_goes n m eq))))

  -- a run ends in one way: two budgets that are not used up give one outcome
  pub ends_once :
      (n k : ℕ) (m : Machine Note) → ((run counts room n m).end ≡ Spent → ⊥) → ((run counts room k m).end ≡ Spent → ⊥)
      → run counts room n m ≡ run counts room k m
  ends_once n k m h h' = sym (run_ended k n m h) ∙ (ap (λ b. run counts room b m) (add_comm n k) ∙ run_ended n k m h')
