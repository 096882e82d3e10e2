-- What a plain run shows, as a list by itself: the trace of a state. The counters and the observations shown before are left out of it;
-- `run_shows` ties it to `run`.
use Prim.Native.Nat.{ℕ, zero, suc}
use mathlib.Core.Option.{Option, none, some}
use mathlib.Core.Path.{◌≡◌, refl, sym, ap, ◌∙◌}
use mathlib.Core.List.{List, [], ◌∷◌, ◌++◌, append_assoc, append-nil}
use Rattle.awhile.specs.Language.{Com}
use Rattle.machine.specs.Observations.{Observation, branch, read_at, write_at}
use Rattle.machine.specs.Look.{Look, quiet, fork, get, put, look}
use Rattle.machine.specs.Steps.{State, Taken, quietly, at_fork, at_get, at_put}
use Rattle.machine.specs.Runs.{endless, holds, plain, Machine, Next, over, goes, Outcome}
use Rattle.machine.specs.Runs.{rollback_next, moved, if_room, stacked, stacked_if, shown_if, shown_step, step_of, next_of, next_by, next, run}
use Rattle.machine.specs.declared.Directive.TheVariants.{Step}
use Rattle.machine.specs.declared.End.{End}
use Rattle.machine.specs.declared.End.TheVariants.{Finished, Stuck}
use Rattle.machine.proofs.Runs.{run_over, run_goes}

-- one step: none is taken, or what it shows and the state after it
pub data Turn (Note : Type 0) : Type 0 where
  halts : Turn Note
  turns : List Observation → State Note → Turn Note

module _ {Note : Type 0} where
  unfoldable pub turn_if : Observation → Option (Taken Note) → Turn Note
  turn_if o none = halts
  turn_if o (some t) = turns (o ∷ []) t.state

  unfoldable pub turn_of : (counts : List ℕ) → State Note → Look Note → Turn Note
  turn_of counts s (quiet rest vs) = turns [] (quietly s rest vs)
  turn_of counts s (fork v on_true on_false) = turn_if (branch v) (at_fork counts s v on_true on_false Step)
  turn_of counts s (get x a i rest) = turn_if (read_at a i) (at_get counts s x a i rest Step)
  turn_of counts s (put a i v rest) = turn_if (write_at a i) (at_put counts s a i v rest Step)

  unfoldable pub turn_from : (counts : List ℕ) → State Note → List (Com Note) → Turn Note
  turn_from counts s [] = halts
  turn_from counts s (c ∷ rest) = turn_of counts s (look c rest s.variables)

  unfoldable pub turn : (counts : List ℕ) → State Note → Turn Note
  turn counts s = turn_from counts s s.pending

  -- what is shown within a budget
  unfoldable pub trace : (counts : List ℕ) → (budget : ℕ) → State Note → List Observation
  trace counts zero s = []
  trace counts (suc n) s = elim (turn counts s) [ halts ↦ [] | turns os s' ↦ os ++ trace counts n s' ]

  trace_halts : (counts : List ℕ) (n : ℕ) (s : State Note) → turn counts s ≡ halts → trace counts (suc n) s ≡ []
  unfolding trace
  trace_halts counts n s e = rw (e, trace)

  pub trace_turns : (counts : List ℕ) (n : ℕ) (s : State Note) (os : List Observation) (s' : State Note)
      → turn counts s ≡ turns os s' → trace counts (suc n) s ≡ os ++ trace counts n s'
  unfolding trace
  trace_turns counts n s os s' e = rw (e, trace)

  -- ---- a plain machine's next step, in a buffer that is long enough, is the turn of its state
  data Matches (m : Machine Note) : Turn Note → Next Note → Type 0 where
    ends : (e : End) → Matches m halts (over e)
    steps : (os : List Observation) (s : State Note) → Matches m (turns os s) (goes (moved m s m.saves plain 0 os))

  -- a machine that does not guess
  abbrev pub plainly : State Note → List (State Note) → (steps used : ℕ) → List Observation → Machine Note
  plainly s ss k u os = record { state = s; saves = ss; guide = plain; steps = k; used = u; shown = os }

  module _ (s : State Note) (ss : List (State Note)) (k u : ℕ) (os : List Observation) where
    abbrev m : Machine Note
    m = plainly s ss k u os

    if_matches : (o : Observation) (t : Option (Taken Note)) → Matches m (turn_if o t) (shown_if endless m o plain 0 t)
    unfolding turn_if shown_if stacked stacked_if if_room holds
    if_matches o none = ends Stuck
    if_matches o (some t) = steps (o ∷ []) t.state

    look_matches : (counts : List ℕ) (l : Look Note) → Matches m (turn_of counts s l) (step_of counts endless m l)
    unfolding turn_of step_of shown_step
    look_matches counts (quiet rest vs) = steps [] (quietly s rest vs)
    look_matches counts (fork v on_true on_false) = if_matches (branch v) (at_fork counts s v on_true on_false Step)
    look_matches counts (get x a i rest) = if_matches (read_at a i) (at_get counts s x a i rest Step)
    look_matches counts (put a i v rest) = if_matches (write_at a i) (at_put counts s a i v rest Step)

    pending_matches : (counts : List ℕ) (cs : List (Com Note)) → Matches m (turn_from counts s cs) (next_of counts endless m cs)
    unfolding turn_from next_of
    pending_matches counts [] = ends Finished
    pending_matches counts (c ∷ rest) = look_matches counts (look c rest s.variables)

    next_matches : (counts : List ℕ) → Matches m (turn counts s) (next counts endless m)
    unfolding turn next rollback_next next_by
    next_matches counts = pending_matches counts s.pending

  -- a plain run shows what was shown before and then the trace, if its buffer has room for all
  Shows : List ℕ → ℕ → Machine Note → Type 0
  Shows counts n m = (run counts endless n m).machine.shown ≡ m.shown ++ trace counts n m.state

  shows_more : (counts : List ℕ) (n : ℕ) (s : State Note) (ss : List (State Note)) (k u : ℕ) (os : List Observation) (t : Turn Note) (x : Next Note)
      → turn counts s ≡ t → next counts endless (plainly s ss k u os) ≡ x → Matches (plainly s ss k u os) t x
      → ((s' : State Note) (k' u' : ℕ) (os' : List Observation) → Shows counts n (plainly s' ss k' u' os')) → Shows counts (suc n) (plainly s ss k u os)
  unfolding Shows moved
  shows_more counts n s ss k u os t x p q (ends e) ih =
      ap (λ (o : Outcome Note). o.machine.shown) (run_over counts endless n (plainly s ss k u os) q)
      ∙ (sym (append-nil os) ∙ ap (λ (l : List Observation). os ++ l) (sym (trace_halts counts n s p)))
  shows_more counts n s ss k u os t x p q (steps os' s') ih =
      ap (λ (o : Outcome Note). o.machine.shown) (run_goes counts endless n (plainly s ss k u os) q)
      ∙ (ih s' _ _ (os ++ os')
      ∙ (append_assoc os os' (trace counts n s')
      ∙ ap (λ (l : List Observation). os ++ l) (sym (trace_turns counts n s os' s' p))))

  pub run_shows : (counts : List ℕ) (n : ℕ) (s : State Note) (ss : List (State Note)) (k u : ℕ) (os : List Observation)
      → (run counts endless n (plainly s ss k u os)).machine.shown ≡ os ++ trace counts n s
  unfolding run trace Shows
  run_shows counts zero s ss k u os = sym (append-nil os)
  run_shows counts (suc n) s ss k u os =
      shows_more counts n s ss k u os _ _ refl refl (next_matches s ss k u os counts) (λ s' k' u' os'. run_shows counts n s' ss k' u' os')
