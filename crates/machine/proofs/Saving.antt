-- "The flag is set exactly while a save is open; at most eight are": at every point of every run of the rolling machine. The other two
-- machines never open a save.
use Prim.Native.Nat.{ℕ, ◌+◌, ◌≤◌}
use native.Mathlib.Omega.{arith}
use mathlib.Core.Path.{◌≡◌, refl, subst}
use mathlib.Core.Bool.{Bool, true, false}
use mathlib.Core.List.{List, [], ◌∷◌, ◌++◌}
use lib.ListN.{length, length-append}
use lib.Dec.{leb}
use borrow.Author.Tests.{leb-true}
use Rattle.awhile.specs.Language.{Com}
use Rattle.machine.specs.Look.{Look, quiet, fork, get, put, look}
use Rattle.machine.specs.Steps.{State, Taken, only_if, quietly, turned, loaded, stored, onward}
use Rattle.machine.specs.Runs.{Room, Guide, plain, guessing, rolling, Machine, some_open, stacked, run, started}
use Rattle.machine.specs.declared.Directive.{Directive}
use Rattle.machine.proofs.Taken.{rightly, wrongly}
use Rattle.machine.proofs.Invariants.{Led, by_itself, by-guess, by-rolling, AfterStack, AfterSteps, Kept, after_run}

-- which machine it is: the one that rolls back, or another
abbrev rolls : Guide → Bool
rolls plain = false
rolls (guessing ds) = false
rolls (rolling ds) = true

module _ {Note : Type 0} where
  -- the flag says whether a save is open, and the flag of a save says whether there is an older one, as it did when it was saved
  abbrev FlagsOf : (flag : Bool) → (saves : List (State Note)) → Type 0
  FlagsOf f [] = f ≡ false
  FlagsOf f (s ∷ ss) = (f ≡ true) × FlagsOf s.flag ss

  flags_open : (f : Bool) (ss : List (State Note)) → FlagsOf f ss → f ≡ some_open ss
  unfolding some_open
  flags_open f [] p = p
  flags_open f (s ∷ ss) p = p.0

  -- what holds of state and saves between two steps, where the machine rolls back and where not
  abbrev Saved : (rolling : Bool) → State Note → (saves : List (State Note)) → Type 0
  Saved true s ss = FlagsOf s.flag ss × (length ss ≤ 8)
  Saved false s ss = ss ≡ []

  -- and its guide stays that of its board
  abbrev Saving : (rolling : Bool) → Guide → State Note → (saves : List (State Note)) → Type 0
  Saving r g s ss = (rolls g ≡ r) × Saved (rolls g) s ss

  -- a step from a state with this flag: with what it gives to save on top of the saves, the flag is right again
  abbrev Keeps : (flag : Bool) → Taken Note → Type 0
  Keeps f t = (ss : List (State Note)) → FlagsOf f ss → FlagsOf t.state.flag (t.kept ++ ss)

  module _ (r : Bool) (s : State Note) (ss : List (State Note)) where
    -- a directive of the list leaves a machine on its board
    led_saving : {g g' : Guide} → Led g g' → Saving r g s ss → Saving r g' s ss
    led_saving by_itself p = p
    led_saving by-guess p = p
    led_saving by-rolling p = p

    -- a shown step adds what it gives to save, if there is a place for it among the eight
    stacked_saving : (g : Guide) → Saving r g s ss → (t : Taken Note) → Keeps s.flag t → AfterStack (Saving r) g t.state (stacked g t.kept ss)
    unfolding stacked only_if
    stacked_saving plain p t k = p
    stacked_saving (guessing ds) p t k = p
    stacked_saving (rolling ds) p t k = go (leb (length t.kept + length ss) 8) refl
      where
        go : (b : Bool) → leb (length t.kept + length ss) 8 ≡ b → AfterStack (Saving r) (rolling ds) t.state (only_if b (t.kept ++ ss))
        go true few = let fits = leb-true (length t.kept + length ss) 8 few in (p.0, (k ss p.1.0, simp length-append (omega arith)))
        go false many = tt

    -- a silent step leaves flag and saves
    quiet_saved : (b : Bool) (rest : List (Com Note)) (vs : List ℕ) → Saved b s ss → Saved b (quietly s rest vs) ss
    unfolding quietly
    quiet_saved true rest vs p = p
    quiet_saved false rest vs p = p

    -- a force sets the flag and saves a state with the flag as it was; every other step leaves the flag and saves nothing
    look_saving : (g : Guide) → Saving r g s ss → (l : Look Note) → AfterSteps (Saving r) g s ss l
    unfolding turned loaded stored onward
    look_saving g p (quiet rest vs) = (p.0, quiet_saved (rolls g) rest vs p.1)
    look_saving g p (fork v cs ds) =
        λ g' led.
        (stacked_saving g' (led_saving led p) (rightly s v cs ds) (λ _ q. q), stacked_saving g' (led_saving led p) (wrongly s v cs ds) (λ _ q. (refl, q)))
    look_saving g p (get x a i rest) = λ g' led c. stacked_saving g' (led_saving led p) (onward (loaded s x c rest)) (λ _ q. q)
    look_saving g p (put a i v rest) = λ g' led c. stacked_saving g' (led_saving led p) (onward (stored s c v rest)) (λ _ q. q)

  -- after a rollback the flag is that of the save, which says whether an older one is open
  kept_saving : (r : Bool) → Kept (Saving r)
  kept_saving r =
      record {
        by-steps = λ g s ss p c rest e. look_saving r s ss g p (look c rest s.variables);
        by-rollbacks = λ d ds s newest older p. (p.0, (p.1.0.1, omega (arith, p.1.1)));
      }

  -- ---- whole runs
  module _ (counts : List ℕ) (room : Room) where
    saved_after : (r : Bool) (n : ℕ) (m : Machine Note) → Saving r m.guide m.state m.saves
        → Saved r (run counts room n m).machine.state (run counts room n m).machine.saves
    saved_after r n m p =
        let after = after_run (Saving r) counts room (kept_saving r) n m p in
        subst (λ (b : Bool). Saved b (run counts room n m).machine.state (run counts room n m).machine.saves) after.0 after.1

    -- THE SAVES OF A RUN. A run with a budget ends in the machine as its last step left it, so every point of a run is the end of one with a
    -- smaller budget: what is said here of the end of every run holds at every point of every run
    module _ (n : ℕ) (c : Com Note) (vs cs : List ℕ) where
      rolling_saved : (ds : List Directive)
          → Saved true (run counts room n (started c vs cs (rolling ds))).machine.state (run counts room n (started c vs cs (rolling ds))).machine.saves
      unfolding started
      rolling_saved ds = saved_after true n (started c vs cs (rolling ds)) (refl, (refl, omega arith))

      -- "The flag is set exactly while a save is open"
      pub flag_while_open : (ds : List Directive)
          → (run counts room n (started c vs cs (rolling ds))).machine.state.flag ≡ some_open (run counts room n (started c vs cs (rolling ds))).machine.saves
      flag_while_open ds = flags_open _ _ (rolling_saved ds).0

      -- "at most eight are"
      pub eight_open : (ds : List Directive) → length (run counts room n (started c vs cs (rolling ds))).machine.saves ≤ 8
      eight_open ds = (rolling_saved ds).1

      -- the plain and the guessing machine never open one
      pub none_open_plain : (run counts room n (started c vs cs plain)).machine.saves ≡ []
      unfolding started
      none_open_plain = saved_after false n (started c vs cs plain) (refl, refl)

      pub none_open_guessing : (ds : List Directive) → (run counts room n (started c vs cs (guessing ds))).machine.saves ≡ []
      unfolding started
      none_open_guessing ds = saved_after false n (started c vs cs (guessing ds)) (refl, refl)
