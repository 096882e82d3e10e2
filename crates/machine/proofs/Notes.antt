-- A run does not depend on the notes that commands carry: it commutes with a change of notes.
use Prim.Native.Nat.{ℕ, suc, ◌+◌}
use mathlib.Core.Path.{◌≡◌, refl, sym, ap, ◌∙◌}
use mathlib.Core.Bool.{Bool, true, false, cond}
use mathlib.Core.Option
use mathlib.Core.Option.{Option, none, some, comp-map}
use mathlib.Core.List.{List, [], ◌∷◌, ◌++◌, map, map-append}
use lib.ListN.{length}
use lib.Dec.{leb}
use Rattle.awhile.specs.Language.{Com, skip, assign, sequence, if, while, read, write, map_notes}
use Rattle.machine.specs.Observations.{Observation, branch, read_at, write_at, rolled_back, observation_bytes, shown_bytes}
use Rattle.machine.specs.Look.{Look, quiet, fork, get, put, look}
use Rattle.machine.specs.Steps.{State, Taken, inside, cell_place, only_if, quietly, turned, loaded, stored, onward, cell_used, cell_at, at_fork, at_get, at_put}
use Rattle.machine.specs.Runs.{Room, holds, Guide, plain, guessing, rolling, Machine, Next, over, goes, Outcome}
use Rattle.machine.specs.Runs.{rollback_next, moved, if_room, stacked, stacked_if, shown_if, shown_step, step_of, next_of, back_to, next_by, next, end_without, run, started}
use Rattle.machine.specs.declared.Directive.{Directive}
use Rattle.machine.specs.declared.Directive.TheVariants.{Step, Force, Load, Store, Rollback}
use Rattle.machine.specs.declared.End.TheVariants.{Full}
use Rattle.machine.proofs.Runs.{along_run, run_over, run_goes}

-- a choice between two changed things, and a thing that may be none, are the change of the choice and of the thing
pub cond_mapped : {X Y : Type 0} (g : X → Y) (b : Bool) (x x' : X) → cond b (g x) (g x') ≡ g (cond b x x')
cond_mapped g true x x' = refl
cond_mapped g false x x' = refl

only_if_mapped : {X Y : Type 0} (g : X → Y) (b : Bool) (x : X) → only_if b (g x) ≡ Option.map g (only_if b x)
unfolding only_if
only_if_mapped g true x = refl
only_if_mapped g false x = refl

-- what is done with a cell, if there is one
pub at_cell : {A : Type 0} (counts : List ℕ) (after : ℕ → A) (a i : ℕ) → only_if (inside counts a i) (after (cell_place counts a i)) ≡ Option.map after (cell_at counts a i)
unfolding cell_at
at_cell counts after a i = only_if_mapped after (inside counts a i) (cell_place counts a i)

-- the same pending list, look, state, machine, next step and outcome with other notes
module _ {A B : Type 0} (f : A → B) where
  unfoldable pub map_pending : List (Com A) → List (Com B)
  map_pending cs = map (map_notes f) cs

  unfoldable pub map_look : Look A → Look B
  map_look (quiet rest vs) = quiet (map_pending rest) vs
  map_look (fork v on_true on_false) = fork v (map_pending on_true) (map_pending on_false)
  map_look (get x a i rest) = get x a i (map_pending rest)
  map_look (put a i v rest) = put a i v (map_pending rest)

  unfoldable pub map_state : State A → State B
  map_state s = record { pending = map_pending s.pending; variables = s.variables; cells = s.cells; flag = s.flag }

  abbrev map_states : List (State A) → List (State B)
  map_states ss = map map_state ss

  abbrev map_taken : Taken A → Taken B
  map_taken t = record { state = map_state t.state; kept = map_states t.kept }

  unfoldable pub map_machine : Machine A → Machine B
  map_machine m = record { state = map_state m.state; saves = map_states m.saves; guide = m.guide; steps = m.steps; used = m.used; shown = m.shown }

  unfoldable pub map_next : Next A → Next B
  map_next (over e) = over e
  map_next (goes m) = goes (map_machine m)

  unfoldable pub map_outcome : Outcome A → Outcome B
  map_outcome o = record { end = o.end; machine = map_machine o.machine }

  -- what a command does next does not depend on its note
  pub look_mapped : (c : Com A) (rest : List (Com A)) (vs : List ℕ) → look (map_notes f c) (map_pending rest) vs ≡ map_look (look c rest vs)
  unfolding look map_look map_pending map_notes
  look_mapped (skip n) rest vs = refl
  look_mapped (assign n x e) rest vs = refl
  look_mapped (sequence n c d) rest vs = refl
  look_mapped (if n b c d) rest vs = refl
  look_mapped (while n b c) rest vs = refl
  look_mapped (read n x a i) rest vs = refl
  look_mapped (write n a i e) rest vs = refl

  module _ (counts : List ℕ) (s : State A) where
    at_fork_mapped :
        (v : Bool) (cs ds : List (Com A)) (d : Directive)
        → at_fork counts (map_state s) v (map_pending cs) (map_pending ds) d ≡ Option.map map_taken (at_fork counts s v cs ds d)
    unfolding at_fork turned onward map_state
    at_fork_mapped v cs ds Step = rw (cond_mapped map_pending)
    at_fork_mapped v cs ds Force = rw (cond_mapped map_pending v ds cs, cond_mapped map_pending v cs ds)
    at_fork_mapped v cs ds (Load b j) = refl
    at_fork_mapped v cs ds (Store b j) = refl
    at_fork_mapped v cs ds Rollback = refl

    at_get_mapped :
        (x a i : ℕ) (rest : List (Com A)) (d : Directive)
        → at_get counts (map_state s) x a i (map_pending rest) d ≡ Option.map map_taken (at_get counts s x a i rest d)
    unfolding at_get loaded onward map_state
    at_get_mapped x a i rest Step = only_if_mapped map_taken _ _
    at_get_mapped x a i rest Force = refl
    at_get_mapped x a i rest (Load b j) = comp-map map_taken (λ p. onward (loaded s x p rest)) (cell_used counts s.flag a i (cell_at counts b j))
    at_get_mapped x a i rest (Store b j) = refl
    at_get_mapped x a i rest Rollback = refl

    at_put_mapped :
        (a i v : ℕ) (rest : List (Com A)) (d : Directive)
        → at_put counts (map_state s) a i v (map_pending rest) d ≡ Option.map map_taken (at_put counts s a i v rest d)
    unfolding at_put stored onward map_state
    at_put_mapped a i v rest Step = only_if_mapped map_taken _ _
    at_put_mapped a i v rest Force = refl
    at_put_mapped a i v rest (Load b j) = refl
    at_put_mapped a i v rest (Store b j) = comp-map map_taken (λ p. onward (stored s p v rest)) (cell_used counts s.flag a i (cell_at counts b j))
    at_put_mapped a i v rest Rollback = refl

  length_states : (ss : List (State A)) → length (map_states ss) ≡ length ss
  length_states [] = refl
  length_states (s ∷ ss) = ap suc (length_states ss)

  -- the saves after a shown step
  stacked_mapped : (g : Guide) (kept saves : List (State A)) → stacked g (map_states kept) (map_states saves) ≡ Option.map map_states (stacked g kept saves)
  unfolding stacked
  stacked_mapped plain kept saves = refl
  stacked_mapped (guessing ds) kept saves = refl
  stacked_mapped (rolling ds) kept saves =
      rw (length_states kept, length_states saves, ← map-append map_state kept saves) (only_if_mapped map_states (leb (length kept + length saves) 8) (kept ++ saves))

  module _ (counts : List ℕ) (room : Room) (m : Machine A) where
    if_room_mapped : (o : Observation) (after : Machine A) → if_room room (map_machine m) o (map_machine after) ≡ map_next (if_room room m o after)
    unfolding if_room map_machine map_next
    if_room_mapped o after = cond_mapped map_next (holds room (length (shown_bytes m.shown) + length (observation_bytes o))) (goes after) (over Full)

    stacked_if_mapped :
        (o : Observation) (g : Guide) (u : ℕ) (s : State A) (ss : Option (List (State A)))
        → stacked_if room (map_machine m) o g u (map_state s) (Option.map map_states ss) ≡ map_next (stacked_if room m o g u s ss)
    unfolding stacked_if moved map_machine map_next
    stacked_if_mapped o g u s none = refl
    stacked_if_mapped o g u s (some ss) = if_room_mapped o (moved m s ss g u (o ∷ []))

    shown_if_mapped :
        (o : Observation) (g : Guide) (u : ℕ) (t : Option (Taken A))
        → shown_if room (map_machine m) o g u (Option.map map_taken t) ≡ map_next (shown_if room m o g u t)
    unfolding shown_if map_machine map_next
    shown_if_mapped o g u none = refl
    shown_if_mapped o g u (some t) =
        ap (stacked_if room (map_machine m) o g u (map_state t.state)) (stacked_mapped g t.kept m.saves)
        ∙ stacked_if_mapped o g u t.state (stacked g t.kept m.saves)

    shown_step_mapped :
        (o : Observation) (after : Directive → Option (Taken A)) (after' : Directive → Option (Taken B)) (g : Guide)
        → ((d : Directive) → after' d ≡ Option.map map_taken (after d))
        → shown_step room (map_machine m) o after' g ≡ map_next (shown_step room m o after g)
    unfolding shown_step map_next
    shown_step_mapped o after after' plain same = rw same (shown_if_mapped o plain 0 (after Step))
    shown_step_mapped o after after' (guessing []) same = refl
    shown_step_mapped o after after' (guessing (d ∷ ds)) same = rw same (shown_if_mapped o (guessing ds) 1 (after d))
    shown_step_mapped o after after' (rolling []) same = refl
    shown_step_mapped o after after' (rolling (d ∷ ds)) same = rw same (shown_if_mapped o (rolling ds) 1 (after d))

    step_of_mapped : (l : Look A) → step_of counts room (map_machine m) (map_look l) ≡ map_next (step_of counts room m l)
    unfolding step_of map_look map_next map_machine moved quietly map_state
    step_of_mapped (quiet rest vs) = refl
    step_of_mapped (fork v cs ds) = shown_step_mapped (branch v) _ _ m.guide (at_fork_mapped counts m.state v cs ds)
    step_of_mapped (get x a i rest) = shown_step_mapped (read_at a i) _ _ m.guide (at_get_mapped counts m.state x a i rest)
    step_of_mapped (put a i v rest) = shown_step_mapped (write_at a i) _ _ m.guide (at_put_mapped counts m.state a i v rest)

    next_of_mapped : (cs : List (Com A)) → next_of counts room (map_machine m) (map_pending cs) ≡ map_next (next_of counts room m cs)
    unfolding next_of map_pending map_next map_machine map_state
    next_of_mapped [] = refl
    next_of_mapped (c ∷ rest) =
        ap (step_of counts room (map_machine m)) (look_mapped c rest m.state.variables) ∙ step_of_mapped (look c rest m.state.variables)

    back_to_mapped : (g : Guide) (ss : List (State A)) → back_to room (map_machine m) g (map_states ss) ≡ map_next (back_to room m g ss)
    unfolding back_to moved map_machine map_next
    back_to_mapped g [] = refl
    back_to_mapped g (s ∷ ss) = if_room_mapped rolled_back (moved m s ss g 1 (rolled_back ∷ []))

    next_by_mapped : (r : Option Guide) → next_by counts room (map_machine m) r ≡ map_next (next_by counts room m r)
    unfolding next_by map_machine map_state
    next_by_mapped none = next_of_mapped m.state.pending
    next_by_mapped (some g) = back_to_mapped g m.saves

    -- the next step commutes with a change of notes
    pub next_mapped : next counts room (map_machine m) ≡ map_next (next counts room m)
    unfolding next map_machine
    next_mapped = next_by_mapped (rollback_next m.guide)

  end_without_mapped : (cs : List (Com A)) (r : Option Guide) → end_without (map_pending cs) r ≡ end_without cs r
  unfolding end_without map_pending
  end_without_mapped [] none = refl
  end_without_mapped [] (some g) = refl
  end_without_mapped (c ∷ rest) r = refl

  module _ (counts : List ℕ) (room : Room) where
    -- a run commutes with a change of notes
    pub run_mapped : (budget : ℕ) (m : Machine A) → run counts room budget (map_machine m) ≡ map_outcome (run counts room budget m)
    unfolding run map_outcome map_machine map_state map_next
    run_mapped =
        along_run
        counts
        room
        (λ n m. run counts room n (map_machine m) ≡ map_outcome (run counts room n m))
        (λ m i. record { end = end_without_mapped m.state.pending (rollback_next m.guide) i; machine = map_machine m })
        (λ n m e eq.
        run_over counts room n (map_machine m) (next_mapped counts room m ∙ ap map_next eq) ∙ ap map_outcome (sym (run_over counts room n m eq)))
        (λ n m m' eq rest.
        run_goes counts room n (map_machine m) (next_mapped counts room m ∙ ap map_next eq)
        ∙ (rest ∙ ap map_outcome (sym (run_goes counts room n m eq))))

  -- a start with other notes
  pub started_mapped : (c : Com A) (vs cs : List ℕ) (g : Guide) → map_machine (started c vs cs g) ≡ started (map_notes f c) vs cs g
  unfolding started map_machine map_state map_pending
  started_mapped c vs cs g = refl
