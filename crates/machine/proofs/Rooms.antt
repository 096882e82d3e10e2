-- What a run shows with any buffer begins what it shows with one that is long enough, and what was shown before begins both: on every board.
use Prim.Native.Nat.{ℕ, zero, suc, ◌+◌}
use mathlib.Core.Bool.{Bool, true, false, cond}
use mathlib.Core.Option.{Option, none, some}
use mathlib.Core.Path.{◌≡◌, refl}
use mathlib.Core.List.{List, [], ◌∷◌}
use lib.ListN.{length}
use Rattle.awhile.specs.Language.{Com}
use Rattle.machine.specs.Observations.{Observation, branch, read_at, write_at, rolled_back, observation_bytes, shown_bytes}
use Rattle.machine.specs.Look.{Look, quiet, fork, get, put, look}
use Rattle.machine.specs.Steps.{State, Taken, quietly, at_fork, at_get, at_put}
use Rattle.machine.specs.Runs.{Room, endless, holds, Guide, plain, guessing, rolling, Machine, Next, over, goes}
use Rattle.machine.specs.Runs.{rollback_next, moved, if_room, stacked, stacked_if, shown_if, shown_step, step_of, next_of, back_to, next_by, next, run}
use Rattle.machine.specs.Prefixes.{Begins}
use Rattle.machine.specs.declared.Directive.{Directive}
use Rattle.machine.specs.declared.Directive.TheVariants.{Step}
use Rattle.machine.specs.declared.End.{End}
use Rattle.machine.specs.declared.End.TheVariants.{Finished, OutOfDirectives, Stuck, Full}
use Rattle.machine.proofs.Prefixes.{begins_append, begins_refl, begins_trans}
use Rattle.machine.proofs.Runs.{run_over, run_goes}

module _ {Note : Type 0} (m : Machine Note) where
  -- the next step in some room and in an endless one: the same, or only the endless one has room for it
  data Cut : Next Note → Next Note → Type 0 where
    both_stop : (e : End) → Cut (over e) (over e)
    both_move : (s : State Note) (ss : List (State Note)) (g : Guide) (u : ℕ) (os : List Observation) → Cut (goes (moved m s ss g u os)) (goes (moved m s ss g u os))
    no_room : (e : End) (s : State Note) (ss : List (State Note)) (g : Guide) (u : ℕ) (os : List Observation) → Cut (over e) (goes (moved m s ss g u os))

  module _ (counts : List ℕ) (room : Room) where
    if_room_cut : (o : Observation) (s : State Note) (ss : List (State Note)) (g : Guide) (u : ℕ)
        → Cut (if_room room m o (moved m s ss g u (o ∷ []))) (if_room endless m o (moved m s ss g u (o ∷ [])))
    unfolding if_room holds
    if_room_cut o s ss g u = go (holds room (length (shown_bytes m.shown) + length (observation_bytes o)))
      where
        go : (b : Bool) → Cut (cond b (goes (moved m s ss g u (o ∷ []))) (over Full)) (goes (moved m s ss g u (o ∷ [])))
        go true = both_move s ss g u (o ∷ [])
        go false = no_room Full s ss g u (o ∷ [])

    shown_if_cut : (o : Observation) (g : Guide) (u : ℕ) (t : Option (Taken Note)) → Cut (shown_if room m o g u t) (shown_if endless m o g u t)
    unfolding shown_if stacked_if
    shown_if_cut o g u none = both_stop Stuck
    shown_if_cut o g u (some t) = go (stacked g t.kept m.saves)
      where
        go : (ss : Option (List (State Note))) → Cut (stacked_if room m o g u t.state ss) (stacked_if endless m o g u t.state ss)
        go none = both_stop Stuck
        go (some ss) = if_room_cut o t.state ss g u

    shown_step_cut : (o : Observation) (after : Directive → Option (Taken Note)) (g : Guide) → Cut (shown_step room m o after g) (shown_step endless m o after g)
    unfolding shown_step
    shown_step_cut o after plain = shown_if_cut o plain 0 (after Step)
    shown_step_cut o after (guessing []) = both_stop OutOfDirectives
    shown_step_cut o after (guessing (d ∷ ds)) = shown_if_cut o (guessing ds) 1 (after d)
    shown_step_cut o after (rolling []) = both_stop OutOfDirectives
    shown_step_cut o after (rolling (d ∷ ds)) = shown_if_cut o (rolling ds) 1 (after d)

    step_of_cut : (l : Look Note) → Cut (step_of counts room m l) (step_of counts endless m l)
    unfolding step_of
    step_of_cut (quiet rest vs) = both_move (quietly m.state rest vs) m.saves m.guide 0 []
    step_of_cut (fork v on_true on_false) = shown_step_cut (branch v) (at_fork counts m.state v on_true on_false) m.guide
    step_of_cut (get x a i rest) = shown_step_cut (read_at a i) (at_get counts m.state x a i rest) m.guide
    step_of_cut (put a i v rest) = shown_step_cut (write_at a i) (at_put counts m.state a i v rest) m.guide

    next_of_cut : (cs : List (Com Note)) → Cut (next_of counts room m cs) (next_of counts endless m cs)
    unfolding next_of
    next_of_cut [] = both_stop Finished
    next_of_cut (c ∷ rest) = step_of_cut (look c rest m.state.variables)

    back_to_cut : (g : Guide) (ss : List (State Note)) → Cut (back_to room m g ss) (back_to endless m g ss)
    unfolding back_to
    back_to_cut g [] = both_stop Stuck
    back_to_cut g (s ∷ ss) = if_room_cut rolled_back s ss g 1

    next_by_cut : (r : Option Guide) → Cut (next_by counts room m r) (next_by counts endless m r)
    unfolding next_by
    next_by_cut none = next_of_cut m.state.pending
    next_by_cut (some g) = back_to_cut g m.saves

    next_cut : Cut (next counts room m) (next counts endless m)
    unfolding next
    next_cut = next_by_cut (rollback_next m.guide)

module _ {Note : Type 0} (counts : List ℕ) where
  -- what was shown before begins what a run shows
  pub run_extends : (room : Room) (n : ℕ) (m : Machine Note) → Begins m.shown (run counts room n m).machine.shown
  unfolding run moved
  run_extends room zero m = begins_refl m.shown
  run_extends room (suc n) m = go (next counts room m) (next counts endless m) refl (next_cut m counts room) (run_extends room n)
    where
      go : (x y : Next Note) → next counts room m ≡ x → Cut m x y → ((m' : Machine Note) → Begins m'.shown (run counts room n m').machine.shown)
          → Begins m.shown (run counts room (suc n) m).machine.shown
      go x y eq (both_stop e) ih = rw (run_over counts room n m eq) (begins_refl m.shown)
      go x y eq (both_move s ss g u os) ih = rw (run_goes counts room n m eq) (begins_trans (begins_append m.shown os) (ih (moved m s ss g u os)))
      go x y eq (no_room e s ss g u os) ih = rw (run_over counts room n m eq) (begins_refl m.shown)

  -- what a run shows in a room begins what it shows in an endless one
  pub room_cuts : (room : Room) (n : ℕ) (m : Machine Note) → Begins (run counts room n m).machine.shown (run counts endless n m).machine.shown
  unfolding run
  room_cuts room zero m = begins_refl m.shown
  room_cuts room (suc n) m = go (next counts room m) (next counts endless m) refl refl (next_cut m counts room) (room_cuts room n)
    where
      go : (x y : Next Note) → next counts room m ≡ x → next counts endless m ≡ y → Cut m x y
          → ((m' : Machine Note) → Begins (run counts room n m').machine.shown (run counts endless n m').machine.shown)
          → Begins (run counts room (suc n) m).machine.shown (run counts endless (suc n) m).machine.shown
      go x y p q (both_stop e) ih = rw (run_over counts room n m p, run_over counts endless n m q) (begins_refl m.shown)
      go x y p q (both_move s ss g u os) ih = rw (run_goes counts room n m p, run_goes counts endless n m q) (ih (moved m s ss g u os))
      go x y p q (no_room e s ss g u os) ih = rw (run_over counts room n m p) (run_extends endless (suc n) m)
