-- What holds of a machine between two steps, and is kept by every kind of step, holds along every run: on every board.
use Prim.Native.Nat.{ℕ, ◌+◌}
use mathlib.Core.Bool.{Bool, true, false, cond}
use mathlib.Core.Option.{Option, none, some}
use mathlib.Core.Path.{◌≡◌, refl, subst}
use mathlib.Core.List.{List, [], ◌∷◌}
use lib.ListN.{length}
use Rattle.awhile.specs.Language.{Com}
use Rattle.machine.specs.Observations.{Observation, branch, read_at, write_at, rolled_back, observation_bytes, shown_bytes}
use Rattle.machine.specs.Directives.{is_rollback}
use Rattle.machine.specs.Look.{Look, quiet, fork, get, put, look}
use Rattle.machine.specs.Steps.{State, Taken, only_if, quietly, loaded, stored, onward}
use Rattle.machine.specs.Runs.{Room, holds, Guide, plain, guessing, rolling, Machine, Next, over, goes}
use Rattle.machine.specs.Runs.{rollback_next, moved, if_room, stacked, stacked_if, shown_if, shown_step, step_of, next_of, back_to, next_by, next, run}
use Rattle.machine.specs.declared.Directive.{Directive}
use Rattle.machine.specs.declared.Directive.TheVariants.{Step}
use Rattle.machine.specs.declared.End.TheVariants.{Full}
use Rattle.machine.proofs.Runs.{along_run, run_over, run_goes}
use Rattle.machine.proofs.Taken.{IfTaken, rightly, wrongly, fork_taken, get_taken, put_taken}

-- what guides a machine after a shown step
pub data Led : Guide → Guide → Type 0 where
  by_itself : Led plain plain
  by-guess : {d : Directive} {ds : List Directive} → Led (guessing (d ∷ ds)) (guessing ds)
  by-rolling : {d : Directive} {ds : List Directive} → Led (rolling (d ∷ ds)) (rolling ds)

module _ {Note : Type 0} (Holds : Guide → State Note → (saves : List (State Note)) → Type 0) where
  -- it holds after the next step, if that is taken
  abbrev pub AfterStep : Next Note → Type 0
  AfterStep (over e) = Unit {0}
  AfterStep (goes m) = Holds m.guide m.state m.saves

  -- it holds with the saves after a shown step, if there is a place for each
  abbrev pub AfterStack : Guide → State Note → Option (List (State Note)) → Type 0
  AfterStack g s none = Unit {0}
  AfterStack g s (some ss) = Holds g s ss

  -- it holds after a shown step from these saves
  abbrev pub AfterTaken : Guide → (saves : List (State Note)) → Taken Note → Type 0
  AfterTaken g ss t = AfterStack g t.state (stacked g t.kept ss)

  module _ (g : Guide) (s : State Note) (ss : List (State Note)) where
    -- it holds after every step that a look can give
    abbrev pub AfterSteps : Look Note → Type 0
    AfterSteps (quiet rest vs) = Holds g (quietly s rest vs) ss
    AfterSteps (fork v on_true on_false) =
        (g' : Guide) → Led g g' → AfterTaken g' ss (rightly s v on_true on_false) × AfterTaken g' ss (wrongly s v on_true on_false)
    AfterSteps (get x a i rest) = (g' : Guide) → Led g g' → (p : ℕ) → AfterTaken g' ss (onward (loaded s x p rest))
    AfterSteps (put a i v rest) = (g' : Guide) → Led g g' → (p : ℕ) → AfterTaken g' ss (onward (stored s p v rest))

  -- every step of a program keeps it, and so does every rollback
  pub record Kept : Type 0 where
    pub by-steps : (g : Guide) (s : State Note) (ss : List (State Note)) → Holds g s ss → (c : Com Note) (rest : List (Com Note)) → s.pending ≡ c ∷ rest
        → AfterSteps g s ss (look c rest s.variables)
    pub by-rollbacks : (d : Directive) (ds : List Directive) (s newest : State Note) (older : List (State Note)) → Holds (rolling (d ∷ ds)) s (newest ∷ older)
        → Holds (rolling ds) newest older

  module _ (room : Room) (m : Machine Note) where
    if_room-after : (o : Observation) (after : Machine Note) → Holds after.guide after.state after.saves → AfterStep (if_room room m o after)
    unfolding if_room
    if_room-after o after p = go (holds room (length (shown_bytes m.shown) + length (observation_bytes o)))
      where
        go : (b : Bool) → AfterStep (cond b (goes after) (over Full))
        go true = p
        go false = tt

    stacked_if-after : (o : Observation) (g : Guide) (u : ℕ) (s : State Note) (ss : Option (List (State Note))) → AfterStack g s ss
        → AfterStep (stacked_if room m o g u s ss)
    unfolding stacked_if moved
    stacked_if-after o g u s none p = tt
    stacked_if-after o g u s (some ss) p = if_room-after o (moved m s ss g u (o ∷ [])) p

    shown_if-after : (o : Observation) (g : Guide) (u : ℕ) (t : Option (Taken Note)) → IfTaken (AfterTaken g m.saves) t → AfterStep (shown_if room m o g u t)
    unfolding shown_if
    shown_if-after o g u none p = tt
    shown_if-after o g u (some t) p = stacked_if-after o g u t.state (stacked g t.kept m.saves) p

    shown_step-after : (o : Observation) (by : Directive → Option (Taken Note)) (g : Guide)
        → ((d : Directive) (g' : Guide) → Led g g' → IfTaken (AfterTaken g' m.saves) (by d)) → AfterStep (shown_step room m o by g)
    unfolding shown_step
    shown_step-after o by plain p = shown_if-after o plain 0 (by Step) (p Step plain by_itself)
    shown_step-after o by (guessing []) p = tt
    shown_step-after o by (guessing (d ∷ ds)) p = shown_if-after o (guessing ds) 1 (by d) (p d (guessing ds) by-guess)
    shown_step-after o by (rolling []) p = tt
    shown_step-after o by (rolling (d ∷ ds)) p = shown_if-after o (rolling ds) 1 (by d) (p d (rolling ds) by-rolling)

    step_of-after : (counts : List ℕ) (l : Look Note) → AfterSteps m.guide m.state m.saves l → AfterStep (step_of counts room m l)
    unfolding step_of moved
    step_of-after counts (quiet rest vs) p = p
    step_of-after counts (fork v cs ds) p =
        shown_step-after (branch v) _ m.guide
        (λ d g' led. fork_taken (λ _. AfterTaken g' m.saves) counts m.state v cs ds (p g' led).0 (p g' led).1 d)
    step_of-after counts (get x a i rest) p =
        shown_step-after (read_at a i) _ m.guide (λ d g' led. get_taken (λ _. AfterTaken g' m.saves) counts m.state x a i rest (λ _. p g' led) d)
    step_of-after counts (put a i v rest) p =
        shown_step-after (write_at a i) _ m.guide (λ d g' led. put_taken (λ _. AfterTaken g' m.saves) counts m.state a i v rest (λ _. p g' led) d)

  module _ (counts : List ℕ) (room : Room) (kept : Kept) where
    module _ (m : Machine Note) (now : Holds m.guide m.state m.saves) where
      next_of-after : (cs : List (Com Note)) → m.state.pending ≡ cs → AfterStep (next_of counts room m cs)
      unfolding next_of
      next_of-after [] e = tt
      next_of-after (c ∷ rest) e =
          step_of-after room m counts (look c rest m.state.variables) (kept.by-steps m.guide m.state m.saves now c rest e)

      back_to-after : (d : Directive) (ds : List Directive) (ss : List (State Note)) → Holds (rolling (d ∷ ds)) m.state ss
          → AfterStep (back_to room m (rolling ds) ss)
      unfolding back_to moved
      back_to-after d ds [] p = tt
      back_to-after d ds (s ∷ ss) p =
          if_room-after room m rolled_back (moved m s ss (rolling ds) 1 (rolled_back ∷ [])) (kept.by-rollbacks d ds m.state s ss p)

      next_by-after : (g : Guide) → Holds g m.state m.saves → AfterStep (next_by counts room m (rollback_next g))
      unfolding next_by rollback_next only_if
      next_by-after plain p = next_of-after m.state.pending refl
      next_by-after (guessing ds) p = next_of-after m.state.pending refl
      next_by-after (rolling []) p = next_of-after m.state.pending refl
      next_by-after (rolling (d ∷ ds)) p = go (is_rollback d)
        where
          go : (b : Bool) → AfterStep (next_by counts room m (only_if b (rolling ds)))
          go true = back_to-after d ds m.saves p
          go false = next_of-after m.state.pending refl

      pub after_next : AfterStep (next counts room m)
      unfolding next
      after_next = next_by-after m.guide now

    pub after_run : (n : ℕ) (m : Machine Note) → Holds m.guide m.state m.saves
        → Holds (run counts room n m).machine.guide (run counts room n m).machine.state (run counts room n m).machine.saves
    unfolding run
    after_run =
        along_run
        counts
        room
        (λ n m. Holds m.guide m.state m.saves
        → Holds (run counts room n m).machine.guide (run counts room n m).machine.state (run counts room n m).machine.saves)
        (λ m p. p)
        (λ n m e eq p. rw (run_over counts room n m eq) p)
        (λ n m m' eq rest p. rw (run_goes counts room n m eq) (rest (subst AfterStep eq (after_next m p))))
