-- "otherwise as the forward one": a list without a rollback and with at most eight forces runs on the rolling machine as on the guessing one.
use Prim.Native.Nat.{ℕ, zero, suc, ◌+◌, ◌≤◌}
use native.Mathlib.Omega.{arith}
use mathlib.Core.Bool.{Bool, true, false, cond, true≢false}
use mathlib.Core.Option.{Option, none, some}
use mathlib.Core.List.{List, [], ◌∷◌, ◌++◌}
use mathlib.Core.Path.{◌≡◌, refl, sym, subst₂}
use lib.ListN.{length, length-append}
use borrow.Author.Tests.{le-leb}
use Rattle.awhile.specs.Language.{Com}
use Rattle.machine.specs.Observations.{Observation, branch, read_at, write_at, observation_bytes, shown_bytes}
use Rattle.machine.specs.Directives.{is_rollback, has_rollback, forces_in}
use Rattle.machine.specs.Look.{Look, quiet, fork, get, put, look}
use Rattle.machine.specs.Steps.{State, Taken, only_if, quietly, onward}
use Rattle.machine.specs.Runs.{Room, holds, Guide, guessing, rolling, Machine, Next, over, goes, Outcome}
use Rattle.machine.specs.Runs.{rollback_next, moved, if_room, stacked, stacked_if, shown_if, shown_step, step_of, next_of, next, run, started}
use Rattle.machine.specs.Memory.{run_numbers}
use Rattle.machine.specs.declared.Directive.{Directive}
use Rattle.machine.specs.declared.Directive.TheVariants.{Step, Force, Load, Store, Rollback}
use Rattle.machine.specs.declared.End.{End}
use Rattle.machine.specs.declared.End.TheVariants.{Finished, OutOfDirectives, Stuck, Full}
use Rattle.machine.proofs.Runs.{run_over, run_goes, next_onward}
use Rattle.machine.proofs.Taken.{IfTaken, fork_taken, get_taken, put_taken}
use Rattle.machine.proofs.Lockstep.{at}

-- the same list is left to the rolling and to the guessing machine
pub data SameLeft : Guide → Guide → Type 0 where
  same_left : (ds : List Directive) → SameLeft (rolling ds) (guessing ds)

-- an outcome of the rolling and one of the guessing machine that are the same but for the saves
pub record SameButSaves {Note : Type 0} (o o' : Outcome Note) : Type 0 where
  pub end : o.end ≡ o'.end
  pub state : o.machine.state ≡ o'.machine.state
  pub left : SameLeft o.machine.guide o'.machine.guide
  pub steps : o.machine.steps ≡ o'.machine.steps
  pub used : o.machine.used ≡ o'.machine.used
  pub shown : o.machine.shown ≡ o'.machine.shown

-- so the answer's six numbers are the same
pub same_answer : {o o' : Outcome ℕ} → SameButSaves o o' → run_numbers o ≡ run_numbers o'
unfolding run_numbers
same_answer same = rw (same.end, same.state, same.steps, same.used, same.shown)

-- a list without a rollback has none next, nor in what is left after the next
no_rollback : (d : Directive) (ds : List Directive) → has_rollback (d ∷ ds) ≡ false → (is_rollback d ≡ false) × (has_rollback ds ≡ false)
unfolding has_rollback
no_rollback d ds h = go (is_rollback d) h
  where
    go : (b : Bool) → cond b true (has_rollback ds) ≡ false → (b ≡ false) × (has_rollback ds ≡ false)
    go true e = absurd (true≢false e)
    go false e = (refl, e)

onward_next : (ds : List Directive) → has_rollback ds ≡ false → rollback_next (rolling ds) ≡ none
unfolding rollback_next only_if
onward_next [] h = refl
onward_next (d ∷ ds) h = rw (no_rollback d ds h).0

-- a directive is counted for nothing or, a force, for one
none_counted : (d : Directive) (ds : List Directive) → 0 + forces_in ds ≤ forces_in (d ∷ ds)
unfolding forces_in
none_counted Step ds = omega arith
none_counted Force ds = omega arith
none_counted (Load a i) ds = omega arith
none_counted (Store a i) ds = omega arith
none_counted Rollback ds = omega arith

one_counted : (ds : List Directive) → 1 + forces_in ds ≤ forces_in (Force ∷ ds)
unfolding forces_in
one_counted ds = omega arith

module _ {Note : Type 0} where
  -- a step gives no more to save than its directive is counted for
  abbrev Counted : Directive → Taken Note → Type 0
  Counted d t = (ds : List Directive) → length t.kept + forces_in ds ≤ forces_in (d ∷ ds)

  -- a rolling and a guessing machine that differ in the saves alone, with room for a save for each force that is left
  data Beside : Machine Note → Machine Note → Type 0 where
    beside : (s : State Note) (ss : List (State Note)) (ds : List Directive) (k u : ℕ) (os : List Observation)
        → has_rollback ds ≡ false → forces_in ds + length ss ≤ 8 → Beside (at s ss (rolling ds) k u os) (at s [] (guessing ds) k u os)

  -- and their next steps
  data NextBeside : Next Note → Next Note → Type 0 where
    both_over : (e : End) → NextBeside (over e) (over e)
    both_go : {m h : Machine Note} → Beside m h → NextBeside (goes m) (goes h)

  module _ (counts : List ℕ) (room : Room) (s : State Note) (ss : List (State Note)) (k u : ℕ) (os : List Observation) where
    if_room_beside : (g g' : Guide) (o : Observation) {x y : Machine Note} → Beside x y
        → NextBeside (if_room room (at s ss g k u os) o x) (if_room room (at s [] g' k u os) o y)
    unfolding if_room
    if_room_beside g g' o {x} {y} b = go (holds room (length (shown_bytes os) + length (observation_bytes o)))
      where
        go : (t : Bool) → NextBeside (cond t (goes x) (over Full)) (cond t (goes y) (over Full))
        go true = both_go b
        go false = both_over Full

    shown_if_beside : (g g' : Guide) (o : Observation) (d : Directive) (ds : List Directive) (t : Option (Taken Note)) → has_rollback ds ≡ false
        → forces_in (d ∷ ds) + length ss ≤ 8 → IfTaken (Counted d) t
        → NextBeside (shown_if room (at s ss g k u os) o (rolling ds) 1 t) (shown_if room (at s [] g' k u os) o (guessing ds) 1 t)
    unfolding shown_if stacked stacked_if only_if moved
    shown_if_beside g g' o d ds none none_left few c = both_over Stuck
    shown_if_beside g g' o d ds (some t) none_left few c =
        let counted = c ds in
        let fits : length t.kept + length ss ≤ 8 = omega arith in
        rw (le-leb (length t.kept + length ss) 8 fits, only_if, stacked_if)
        (if_room_beside g g' o (beside t.state (t.kept ++ ss) ds (k + 1) (u + 1) (os ++ (o ∷ [])) none_left (simp length-append (omega arith))))

    shown_step_beside : (o : Observation) (by : Directive → Option (Taken Note)) → ((d : Directive) → IfTaken (Counted d) (by d))
        → (ds : List Directive) → has_rollback ds ≡ false → forces_in ds + length ss ≤ 8
        → NextBeside (shown_step room (at s ss (rolling ds) k u os) o by (rolling ds)) (shown_step room (at s [] (guessing ds) k u os) o by (guessing ds))
    unfolding shown_step
    shown_step_beside o by c [] none_left few = both_over OutOfDirectives
    shown_step_beside o by c (d ∷ ds) none_left few =
        shown_if_beside (rolling (d ∷ ds)) (guessing (d ∷ ds)) o d ds (by d) (no_rollback d ds none_left).1 few (c d)

    module _ (ds : List Directive) (none_left : has_rollback ds ≡ false) (few : forces_in ds + length ss ≤ 8) where
      abbrev m : Machine Note
      m = at s ss (rolling ds) k u os

      abbrev h : Machine Note
      h = at s [] (guessing ds) k u os

      step_of_beside : (l : Look Note) → NextBeside (step_of counts room m l) (step_of counts room h l)
      unfolding step_of moved onward
      step_of_beside (quiet rest vs) = both_go (beside (quietly s rest vs) ss ds (k + 1) (u + 0) (os ++ []) none_left few)
      step_of_beside (fork v on_true on_false) =
          shown_step_beside (branch v) _ (fork_taken Counted counts s v on_true on_false (none_counted Step) one_counted) ds none_left few
      step_of_beside (get x a i rest) = shown_step_beside (read_at a i) _ (get_taken Counted counts s x a i rest (λ d p. none_counted d)) ds none_left few
      step_of_beside (put a i v rest) = shown_step_beside (write_at a i) _ (put_taken Counted counts s a i v rest (λ d p. none_counted d)) ds none_left few

      next_of_beside : (cs : List (Com Note)) → NextBeside (next_of counts room m cs) (next_of counts room h cs)
      unfolding next_of
      next_of_beside [] = both_over Finished
      next_of_beside (c ∷ rest) = step_of_beside (look c rest s.variables)

      next_beside : NextBeside (next counts room m) (next counts room h)
      unfolding rollback_next
      next_beside = rw (next_onward counts room m (onward_next ds none_left), next_onward counts room h refl) (next_of_beside s.pending)

  module _ (counts : List ℕ) (room : Room) where
    abbrev Same : (n : ℕ) → Machine Note → Machine Note → Type 0
    Same n m h = SameButSaves (run counts room n m) (run counts room n h)

    run_beside : (n : ℕ) (m h : Machine Note) → Beside m h → Same n m h
    unfolding run rollback_next
    run_beside zero m h (beside s ss ds k u os none_left few) =
        record { end = rw (onward_next ds none_left); state = refl; left = same_left ds; steps = refl; used = refl; shown = refl }
    run_beside (suc n) m h (beside s ss ds k u os none_left few) =
        go (at s ss (rolling ds) k u os) (at s [] (guessing ds) k u os) _ _ refl refl (next_beside counts room s ss k u os ds none_left few) (run_beside n)
        (λ e. record { end = refl; state = refl; left = same_left ds; steps = refl; used = refl; shown = refl })
      where
        go : (m h : Machine Note) (x y : Next Note) → next counts room m ≡ x → next counts room h ≡ y → NextBeside x y
            → ((m' h' : Machine Note) → Beside m' h' → Same n m' h')
            → ((e : End) → SameButSaves (record { end = e; machine = m }) (record { end = e; machine = h })) → Same (suc n) m h
        go m h x y p q (both_over e) ih now = subst₂ SameButSaves (sym (run_over counts room n m p)) (sym (run_over counts room n h q)) (now e)
        go m h x y p q (both_go {m = m'} {h = h'} b) ih now = subst₂ SameButSaves (sym (run_goes counts room n m p)) (sym (run_goes counts room n h q)) (ih m' h' b)

    -- THE TWO RUNS, with any budget, in any room, from any variables and cells
    pub rolling_forward : (n : ℕ) (c : Com Note) (vs cs : List ℕ) (ds : List Directive) → has_rollback ds ≡ false → forces_in ds ≤ 8
        → SameButSaves (run counts room n (started c vs cs (rolling ds))) (run counts room n (started c vs cs (guessing ds)))
    unfolding started
    rolling_forward n c vs cs ds none_left few =
        run_beside n (started c vs cs (rolling ds)) (started c vs cs (guessing ds)) (beside _ [] ds 0 0 [] none_left (omega arith))
