-- Loads and stores (change request P4): in bounds a load at a read and a store at a write are a step; out of bounds they do what
-- document 01 says.
use Prim.Native.Nat.{ℕ}
use mathlib.Core.Bool.{Bool, true, false, cond, ◌&&◌}
use mathlib.Core.Option.{Option, none, some, map}
use mathlib.Core.List.{List, ◌∷◌}
use mathlib.Core.Path.{◌≡◌, refl, sym, subst, ◌∙◌}
use Rattle.awhile.specs.Language.{AExp, Com, read, write, value_of}
use Rattle.machine.specs.Observations.{Observation, read_at, write_at}
use Rattle.machine.specs.Look.{look}
use Rattle.machine.specs.Steps.{State, Taken, inside, cell_place, only_if, cell_at, cell_used, loaded, stored, onward, at_get, at_put}
use Rattle.machine.specs.Runs.{Room, Guide, guessing, rolling, Machine, rollback_next, moved, if_room, stacked, stacked_if, shown_if, shown_step, step_of, next_of, next}
use Rattle.machine.specs.declared.Directive.{Directive}
use Rattle.machine.specs.declared.Directive.TheVariants.{Step, Load, Store}
use Rattle.machine.specs.Directives.{is_rollback}
use Rattle.machine.proofs.Runs.{next_onward}
use Rattle.machine.proofs.Notes.{at_cell}
use Rattle.machine.proofs.Lockstep.{at}

-- ---- the state
-- what is done with the named cell, if the flag is set and it exists
named_cell : {A : Type 0} (counts : List ℕ) (after : ℕ → A) (b j : ℕ) (f : Bool)
    → map after (cond f (cell_at counts b j) none) ≡ only_if (f && inside counts b j) (after (cell_place counts b j))
unfolding only_if
named_cell counts after b j true = sym (at_cell counts after b j)
named_cell counts after b j false = refl

module _ {Note : Type 0} (counts : List ℕ) (s : State Note) (a i b j : ℕ) where
  module _ (there : inside counts a i ≡ true) where
    load_own : (x : ℕ) (rest : List (Com Note)) → at_get counts s x a i rest (Load b j) ≡ at_get counts s x a i rest Step
    unfolding at_get cell_used only_if
    load_own x rest = rw there

    store_own : (v : ℕ) (rest : List (Com Note)) → at_put counts s a i v rest (Store b j) ≡ at_put counts s a i v rest Step
    unfolding at_put cell_used only_if
    store_own v rest = rw there

  -- "only if the flag is set and the program's own index is not below the cell count, use the named cell, which must exist"
  module _ (out : inside counts a i ≡ false) where
    pub load_out_of_bounds : (x : ℕ) (rest : List (Com Note))
        → at_get counts s x a i rest (Load b j) ≡ only_if (s.flag && inside counts b j) (onward (loaded s x (cell_place counts b j) rest))
    unfolding at_get cell_used
    load_out_of_bounds x rest = rw out (named_cell counts (λ p. onward (loaded s x p rest)) b j s.flag)

    pub store_out_of_bounds : (v : ℕ) (rest : List (Com Note))
        → at_put counts s a i v rest (Store b j) ≡ only_if (s.flag && inside counts b j) (onward (stored s (cell_place counts b j) v rest))
    unfolding at_put cell_used
    store_out_of_bounds v rest = rw out (named_cell counts (λ p. onward (stored s p v rest)) b j s.flag)

-- ---- the whole step: state, saves, observation, steps, directives used and what is left of the list
-- the two machines that take a list: the guessing and the rolling one
abbrev pub led : (rolls : Bool) → List Directive → Guide
led false ds = guessing ds
led true ds = rolling ds

module _ {Note : Type 0} (counts : List ℕ) (room : Room) (s : State Note) (ss : List (State Note)) (rolls : Bool) (ds : List Directive) (k u : ℕ) (os : List Observation) where
  -- the machine with a directive next
  abbrev before : Directive → Machine Note
  before d = at s ss (led rolls (d ∷ ds)) k u os

  -- a step that is shown is the same whatever directive was next, if it gives the same
  shown_alike : (o : Observation) (d d' : Directive) (after after' : Option (Taken Note)) → after ≡ after'
      → shown_if room (before d) o (led rolls ds) 1 after ≡ shown_if room (before d') o (led rolls ds) 1 after'
  unfolding shown_if stacked_if if_room moved
  shown_alike o d d' after none same = rw same
  shown_alike o d d' after (some t) same = rw same (go (stacked (led rolls ds) t.kept ss))
    where
      go : (saves : Option (List (State Note))) → stacked_if room (before d) o (led rolls ds) 1 t.state saves ≡ stacked_if room (before d') o (led rolls ds) 1 t.state saves
      go none = refl
      go (some xs) = refl

  -- a directive of the list goes for the next shown step
  led_step : (m : Machine Note) (o : Observation) (by : Directive → Option (Taken Note)) (d : Directive) → (b : Bool)
      → shown_step room m o by (led b (d ∷ ds)) ≡ shown_if room m o (led b ds) 1 (by d)
  unfolding shown_step
  led_step m o by d false = refl
  led_step m o by d true = refl

  -- no rollback is next
  led_onward : (d : Directive) → is_rollback d ≡ false → (b : Bool) → rollback_next (led b (d ∷ ds)) ≡ none
  unfolding rollback_next only_if
  led_onward d h false = refl
  led_onward d h true = rw h

  -- the same next step for a pending list that is given by an equation
  pending_alike : (d d' : Directive) → is_rollback d ≡ false → is_rollback d' ≡ false → (cs : List (Com Note)) → s.pending ≡ cs
      → next_of counts room (before d) cs ≡ next_of counts room (before d') cs → next counts room (before d) ≡ next counts room (before d')
  pending_alike d d' h h' cs pending same =
      next_onward counts room (before d) (led_onward d h rolls)
      ∙ (subst (λ (p : List (Com Note)). next_of counts room (before d) p ≡ next_of counts room (before d') p) (sym pending) same
      ∙ sym (next_onward counts room (before d') (led_onward d' h' rolls)))

  module _ (a : ℕ) (i : AExp) (b j : ℕ) (rest : List (Com Note)) (there : inside counts a (value_of i s.variables) ≡ true) where
    pub load_in_bounds_is_step : (note : Note) (x : ℕ) → s.pending ≡ read note x a i ∷ rest
        → next counts room (at s ss (led rolls (Load b j ∷ ds)) k u os) ≡ next counts room (at s ss (led rolls (Step ∷ ds)) k u os)
    unfolding next_of look step_of is_rollback
    load_in_bounds_is_step note x pending =
        let o : Observation = read_at a (value_of i s.variables) in
        let own = load_own counts s a (value_of i s.variables) b j there x rest in
        pending_alike (Load b j) Step refl refl (read note x a i ∷ rest) pending
        (led_step (before (Load b j)) o _ (Load b j) rolls ∙ (shown_alike o (Load b j) Step _ _ own ∙ sym (led_step (before Step) o _ Step rolls)))

    pub store_in_bounds_is_step : (note : Note) (e : AExp) → s.pending ≡ write note a i e ∷ rest
        → next counts room (at s ss (led rolls (Store b j ∷ ds)) k u os) ≡ next counts room (at s ss (led rolls (Step ∷ ds)) k u os)
    unfolding next_of look step_of is_rollback
    store_in_bounds_is_step note e pending =
        let o : Observation = write_at a (value_of i s.variables) in
        let own = store_own counts s a (value_of i s.variables) b j there (value_of e s.variables) rest in
        pending_alike (Store b j) Step refl refl (write note a i e ∷ rest) pending
        (led_step (before (Store b j)) o _ (Store b j) rolls ∙ (shown_alike o (Store b j) Step _ _ own ∙ sym (led_step (before Step) o _ Step rolls)))
