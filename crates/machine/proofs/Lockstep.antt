-- Machines abreast stay abreast, on every board, for every relation that is closed; so of two runs under one list one shows what begins
-- what the other shows.
use Prim.Native.Nat.{ℕ, zero, suc, ◌+◌}
use mathlib.Core.Bool.{Bool, true, false, cond}
use mathlib.Core.Option.{Option, none, some, map}
use mathlib.Core.List.{List, [], ◌∷◌, ◌++◌}
use mathlib.Core.Logic.{inl, inr}
use mathlib.Core.Path.{◌≡◌, refl, sym, ap₂, subst, subst₂}
use lib.ListN.{length}
use lib.Dec.{leb}
use Rattle.awhile.specs.Language.{Com}
use Rattle.machine.specs.Observations.{Observation, branch, read_at, write_at, rolled_back, observation_bytes, shown_bytes}
use Rattle.machine.specs.Look.{Look}
use Rattle.machine.specs.Steps.{State, Taken, inside, cell_place, only_if, cell_at, cell_used, turned, loaded, stored, onward, at_fork, at_get, at_put}
use Rattle.machine.specs.Runs.{Room, endless, holds, Guide, plain, guessing, rolling, Machine, Next, over, goes, Outcome}
use Rattle.machine.specs.Runs.{rollback_next, moved, if_room, stacked, stacked_if, shown_if, shown_step, step_of, next_of, back_to, next_by, next, run}
use Rattle.machine.specs.Prefixes.{OneBegins}
use Rattle.machine.specs.declared.Directive.{Directive}
use Rattle.machine.specs.declared.Directive.TheVariants.{Step, Force, Load, Store, Rollback}
use Rattle.machine.specs.declared.End.{End}
use Rattle.machine.specs.declared.End.TheVariants.{Finished, OutOfDirectives, Stuck, Full}
use Rattle.machine.proofs.Prefixes.{begins_refl, beginnings_related}
use Rattle.machine.proofs.Runs.{run_over, run_goes}
use Rattle.machine.proofs.Rooms.{run_extends, room_cuts}
use Rattle.machine.proofs.Closed.{Alike, quiet_alike, fork_alike, get_alike, put_alike, get_out_left, get_out_right, put_out_left, put_out_right}
use Rattle.machine.proofs.Closed.{OneStep, over_alike, next_alike, Closed, Both, neither, both, both_length, both_append}

module _ {Note : Type 0} where
  -- a machine of a state and saves, with what its counters and its list say
  abbrev pub at : State Note → List (State Note) → Guide → (steps used : ℕ) → List Observation → Machine Note
  at s ss g k u os = record { state = s; saves = ss; guide = g; steps = k; used = u; shown = os }

  -- two machines with related states and, pair by pair, related saves; all else is the same
  pub data Abreast (R : State Note → State Note → Type 0) : Machine Note → Machine Note → Type 0 where
    abreast : (s t : State Note) (ss ts : List (State Note)) (g : Guide) (k u : ℕ) (os : List Observation) → R s t → Both R ss ts
        → Abreast R (at s ss g k u os) (at t ts g k u os)

  -- the next steps of two machines: both are over alike, both go on abreast, or one is stuck
  pub data NextAbreast (R : State Note → State Note → Type 0) : Next Note → Next Note → Type 0 where
    both_over : (e : End) → NextAbreast R (over e) (over e)
    both_go : {m h : Machine Note} → Abreast R m h → NextAbreast R (goes m) (goes h)
    left_stuck : {y : Next Note} → NextAbreast R (over Stuck) y
    right_stuck : {x : Next Note} → NextAbreast R x (over Stuck)

  module _ (counts : List ℕ) (room : Room) (R : State Note → State Note → Type 0) where
    -- what a shown step gives
    data TakenAlike : Option (Taken Note) → Option (Taken Note) → Type 0 where
      none_taken : TakenAlike none none
      both_taken : {x y : Taken Note} → R x.state y.state → Both R x.kept y.kept → TakenAlike (some x) (some y)

    -- the saves after it
    data StacksAlike : Option (List (State Note)) → Option (List (State Note)) → Type 0 where
      no_stacks : StacksAlike none none
      both_stacks : {xs ys : List (State Note)} → Both R xs ys → StacksAlike (some xs) (some ys)

    stacks_if : (b : Bool) {xs ys : List (State Note)} → Both R xs ys → StacksAlike (only_if b xs) (only_if b ys)
    unfolding only_if
    stacks_if true p = both_stacks p
    stacks_if false p = no_stacks

    stacked_both : (g : Guide) (kept kept' ss ts : List (State Note)) → Both R kept kept' → Both R ss ts → StacksAlike (stacked g kept ss) (stacked g kept' ts)
    unfolding stacked
    stacked_both plain kept kept' ss ts p q = both_stacks q
    stacked_both (guessing ds) kept kept' ss ts p q = both_stacks q
    stacked_both (rolling ds) kept kept' ss ts p q =
        subst (λ (n : ℕ). StacksAlike (only_if (leb (length kept + length ss) 8) (kept ++ ss)) (only_if (leb n 8) (kept' ++ ts)))
        (ap₂ (λ (a b : ℕ). a + b) (both_length p) (both_length q))
        (stacks_if (leb (length kept + length ss) 8) (both_append p q))

    -- ---- a shown step and a rollback, by the board
    module _ (s t : State Note) (ss ts : List (State Note)) (g : Guide) (k u : ℕ) (os : List Observation) (saves : Both R ss ts) where
      abbrev m : Machine Note
      m = at s ss g k u os

      abbrev h : Machine Note
      h = at t ts g k u os

      if_room_both : (o : Observation) {x y : Machine Note} → Abreast R x y → NextAbreast R (if_room room m o x) (if_room room h o y)
      unfolding if_room
      if_room_both o {x} {y} r = go (holds room (length (shown_bytes os) + length (observation_bytes o)))
        where
          go : (b : Bool) → NextAbreast R (cond b (goes x) (over Full)) (cond b (goes y) (over Full))
          go true = both_go r
          go false = both_over Full

      stacked_if_both : (o : Observation) (g' : Guide) (u' : ℕ) (s' t' : State Note) (a b : Option (List (State Note))) → R s' t' → StacksAlike a b
          → NextAbreast R (stacked_if room m o g' u' s' a) (stacked_if room h o g' u' t' b)
      unfolding stacked_if moved
      stacked_if_both o g' u' s' t' a b r no_stacks = both_over Stuck
      stacked_if_both o g' u' s' t' a b r (both_stacks {xs} {ys} q) = if_room_both o (abreast s' t' xs ys g' (k + 1) (u + u') (os ++ (o ∷ [])) r q)

      shown_if_both : (o : Observation) (g' : Guide) (u' : ℕ) (a b : Option (Taken Note)) → TakenAlike a b → NextAbreast R (shown_if room m o g' u' a) (shown_if room h o g' u' b)
      unfolding shown_if
      shown_if_both o g' u' a b none_taken = both_over Stuck
      shown_if_both o g' u' a b (both_taken {x} {y} r kept) =
          stacked_if_both o g' u' x.state y.state _ _ r (stacked_both g' x.kept y.kept ss ts kept saves)

      shown_step_by : (o : Observation) (by by' : Directive → Option (Taken Note)) → ((d : Directive) → TakenAlike (by d) (by' d)) → (g' : Guide)
          → NextAbreast R (shown_step room m o by g') (shown_step room h o by' g')
      unfolding shown_step
      shown_step_by o by by' p plain = shown_if_both o plain 0 (by Step) (by' Step) (p Step)
      shown_step_by o by by' p (guessing []) = both_over OutOfDirectives
      shown_step_by o by by' p (guessing (d ∷ ds)) = shown_if_both o (guessing ds) 1 (by d) (by' d) (p d)
      shown_step_by o by by' p (rolling []) = both_over OutOfDirectives
      shown_step_by o by by' p (rolling (d ∷ ds)) = shown_if_both o (rolling ds) 1 (by d) (by' d) (p d)

      shown_step_both : (o : Observation) (by by' : Directive → Option (Taken Note)) → ((d : Directive) → TakenAlike (by d) (by' d))
          → NextAbreast R (shown_step room m o by g) (shown_step room h o by' g)
      shown_step_both o by by' p = shown_step_by o by by' p g

      -- with no save open on one side none is open on the other
      back_to_both : (g' : Guide) (xs ys : List (State Note)) → Both R xs ys → NextAbreast R (back_to room m g' xs) (back_to room h g' ys)
      unfolding back_to moved
      back_to_both g' xs ys neither = both_over Stuck
      back_to_both g' xs ys (both {x} {y} {xs = xs'} {ys = ys'} r rs) =
          if_room_both rolled_back (abreast x y xs' ys' g' (k + 1) (u + 1) (os ++ (rolled_back ∷ [])) r rs)

    shown_step_left : (x y : Machine Note) (g : Guide) (o o' : Observation) (by by' : Directive → Option (Taken Note))
        → ((d : Directive) → by d ≡ none) → NextAbreast R (shown_step room x o by g) (shown_step room y o' by' g)
    unfolding shown_step shown_if
    shown_step_left x y plain o o' by by' p = rw (p Step) left_stuck
    shown_step_left x y (guessing []) o o' by by' p = both_over OutOfDirectives
    shown_step_left x y (guessing (d ∷ ds)) o o' by by' p = rw (p d) left_stuck
    shown_step_left x y (rolling []) o o' by by' p = both_over OutOfDirectives
    shown_step_left x y (rolling (d ∷ ds)) o o' by by' p = rw (p d) left_stuck

    shown_step_right : (x y : Machine Note) (g : Guide) (o o' : Observation) (by by' : Directive → Option (Taken Note))
        → ((d : Directive) → by' d ≡ none) → NextAbreast R (shown_step room x o by g) (shown_step room y o' by' g)
    unfolding shown_step shown_if
    shown_step_right x y plain o o' by by' p = rw (p Step) right_stuck
    shown_step_right x y (guessing []) o o' by by' p = both_over OutOfDirectives
    shown_step_right x y (guessing (d ∷ ds)) o o' by by' p = rw (p d) right_stuck
    shown_step_right x y (rolling []) o o' by by' p = both_over OutOfDirectives
    shown_step_right x y (rolling (d ∷ ds)) o o' by by' p = rw (p d) right_stuck

    -- ---- what each directive leaves, where the looks are alike
    forks_alike : (s t : State Note) (v : Bool) (on_true on_false : List (Com Note))
        → R (turned s (cond v on_true on_false) s.flag) (turned t (cond v on_true on_false) t.flag)
        → R (turned s (cond v on_false on_true) true) (turned t (cond v on_false on_true) true)
        → (d : Directive) → TakenAlike (at_fork counts s v on_true on_false d) (at_fork counts t v on_true on_false d)
    unfolding at_fork onward
    forks_alike s t v on_true on_false right wrong Step = both_taken right neither
    forks_alike s t v on_true on_false right wrong Force = both_taken wrong (both right neither)
    forks_alike s t v on_true on_false right wrong (Load b j) = none_taken
    forks_alike s t v on_true on_false right wrong (Store b j) = none_taken
    forks_alike s t v on_true on_false right wrong Rollback = none_taken

    -- the same test on both sides
    taken_if : (b : Bool) {x y : State Note} → (b ≡ true → R x y) → TakenAlike (only_if b (onward x)) (only_if b (onward y))
    unfolding only_if onward
    taken_if true r = both_taken (r refl) neither
    taken_if false r = none_taken

    -- the cell used on both sides: the own one in bounds, else another one, and only with the flag set
    cells_alike : (f f' : Bool) (a i : ℕ) (other : Option ℕ) (x y : ℕ → State Note) → f ≡ f'
        → (inside counts a i ≡ true → R (x (cell_place counts a i)) (y (cell_place counts a i))) → ((p : ℕ) → f ≡ true → R (x p) (y p))
        → TakenAlike (map (λ p. onward (x p)) (cell_used counts f a i other)) (map (λ p. onward (y p)) (cell_used counts f' a i other))
    unfolding cell_used onward
    cells_alike f f' a i other x y flags own any =
        subst (λ (g : Bool). TakenAlike (map (λ p. onward (x p)) (cell_used counts f a i other)) (map (λ p. onward (y p)) (cell_used counts g a i other))) flags
        (go f (inside counts a i) other refl refl)
      where
        go : (g b : Bool) (c : Option ℕ) → f ≡ g → inside counts a i ≡ b
            → TakenAlike (map (λ p. onward (x p)) (cond b (some (cell_place counts a i)) (cond g c none))) (map (λ p. onward (y p)) (cond b (some (cell_place counts a i)) (cond g c none)))
        go g true c set there = both_taken (own there) neither
        go true false none set there = none_taken
        go true false (some p) set there = both_taken (any p set) neither
        go false false c set there = none_taken

    gets_alike : (s t : State Note) (x a i : ℕ) (rest : List (Com Note)) → s.flag ≡ t.flag
        → (inside counts a i ≡ true → R (loaded s x (cell_place counts a i) rest) (loaded t x (cell_place counts a i) rest))
        → ((p : ℕ) → s.flag ≡ true → R (loaded s x p rest) (loaded t x p rest))
        → (d : Directive) → TakenAlike (at_get counts s x a i rest d) (at_get counts t x a i rest d)
    unfolding at_get
    gets_alike s t x a i rest flags own any Step = taken_if (inside counts a i) own
    gets_alike s t x a i rest flags own any Force = none_taken
    gets_alike s t x a i rest flags own any (Load b j) =
        cells_alike s.flag t.flag a i (cell_at counts b j) (λ p. loaded s x p rest) (λ p. loaded t x p rest) flags own any
    gets_alike s t x a i rest flags own any (Store b j) = none_taken
    gets_alike s t x a i rest flags own any Rollback = none_taken

    puts_alike : (s t : State Note) (a i v w : ℕ) (rest : List (Com Note)) → s.flag ≡ t.flag
        → (inside counts a i ≡ true → R (stored s (cell_place counts a i) v rest) (stored t (cell_place counts a i) w rest))
        → ((p : ℕ) → s.flag ≡ true → R (stored s p v rest) (stored t p w rest))
        → (d : Directive) → TakenAlike (at_put counts s a i v rest d) (at_put counts t a i w rest d)
    unfolding at_put
    puts_alike s t a i v w rest flags own any Step = taken_if (inside counts a i) own
    puts_alike s t a i v w rest flags own any Force = none_taken
    puts_alike s t a i v w rest flags own any (Load b j) = none_taken
    puts_alike s t a i v w rest flags own any (Store b j) =
        cells_alike s.flag t.flag a i (cell_at counts b j) (λ p. stored s p v rest) (λ p. stored t p w rest) flags own any
    puts_alike s t a i v w rest flags own any Rollback = none_taken

    -- with the flag clear and the index out of bounds no directive fits
    module _ (s : State Note) (a i : ℕ) (out : inside counts a i ≡ false) (clear : s.flag ≡ false) where
      no_get : (x : ℕ) (rest : List (Com Note)) (d : Directive) → at_get counts s x a i rest d ≡ none
      unfolding at_get only_if cell_used
      no_get x rest Step = rw out
      no_get x rest Force = refl
      no_get x rest (Load b j) = rw (out, clear)
      no_get x rest (Store b j) = refl
      no_get x rest Rollback = refl

      no_put : (v : ℕ) (rest : List (Com Note)) (d : Directive) → at_put counts s a i v rest d ≡ none
      unfolding at_put only_if cell_used
      no_put v rest Step = rw out
      no_put v rest Force = refl
      no_put v rest (Load b j) = refl
      no_put v rest (Store b j) = rw (out, clear)
      no_put v rest Rollback = refl

    -- ---- the next steps, by their looks
    module _ (s t : State Note) (ss ts : List (State Note)) (g : Guide) (k u : ℕ) (os : List Observation) (saves : Both R ss ts) where
      step_abreast : s.flag ≡ t.flag → (l l' : Look Note) → Alike counts R s t l l'
          → NextAbreast R (step_of counts room (at s ss g k u os) l) (step_of counts room (at t ts g k u os) l')
      unfolding step_of moved
      step_abreast flags l l' (quiet_alike p vs ws r) = both_go (abreast _ _ ss ts g (k + 1) (u + 0) (os ++ []) r saves)
      step_abreast flags l l' (fork_alike v on_true on_false right wrong) =
          shown_step_both s t ss ts g k u os saves (branch v) _ _ (forks_alike s t v on_true on_false right wrong)
      step_abreast flags l l' (get_alike x a i p own any) = shown_step_both s t ss ts g k u os saves (read_at a i) _ _ (gets_alike s t x a i p flags own any)
      step_abreast flags l l' (put_alike a i v w p own any) = shown_step_both s t ss ts g k u os saves (write_at a i) _ _ (puts_alike s t a i v w p flags own any)
      step_abreast flags l l' (get_out_left x a i j p out clear) = shown_step_left _ _ g (read_at a i) (read_at a j) _ _ (no_get s a i out clear x p)
      step_abreast flags l l' (get_out_right x a i j p out clear) = shown_step_right _ _ g (read_at a i) (read_at a j) _ _ (no_get t a j out clear x p)
      step_abreast flags l l' (put_out_left a i j v w p out clear) = shown_step_left _ _ g (write_at a i) (write_at a j) _ _ (no_put s a i out clear v p)
      step_abreast flags l l' (put_out_right a i j v w p out clear) = shown_step_right _ _ g (write_at a i) (write_at a j) _ _ (no_put t a j out clear w p)

      onward_abreast : OneStep counts R s t
          → NextAbreast R (next_of counts room (at s ss g k u os) s.pending) (next_of counts room (at t ts g k u os) t.pending)
      unfolding next_of
      onward_abreast (over_alike flags p q) =
          subst₂ (λ (xs ys : List (Com Note)). NextAbreast R (next_of counts room (at s ss g k u os) xs) (next_of counts room (at t ts g k u os) ys))
          (sym p) (sym q) (both_over Finished)
      onward_abreast (next_alike flags c rest p q al) =
          subst₂ (λ (xs ys : List (Com Note)). NextAbreast R (next_of counts room (at s ss g k u os) xs) (next_of counts room (at t ts g k u os) ys))
          (sym p) (sym q) (step_abreast flags _ _ al)

      next_by_abreast : OneStep counts R s t → (r : Option Guide) → NextAbreast R (next_by counts room (at s ss g k u os) r) (next_by counts room (at t ts g k u os) r)
      unfolding next_by
      next_by_abreast one none = onward_abreast one
      next_by_abreast one (some g') = back_to_both s t ss ts g k u os saves g' ss ts saves

      -- THE LEMMA OF ALL BOARDS
      pub next_abreast : Closed counts R → R s t → NextAbreast R (next counts room (at s ss g k u os)) (next counts room (at t ts g k u os))
      unfolding next
      next_abreast closed r = next_by_abreast (closed.step s t r) (rollback_next g)

  -- ---- whole runs
  module _ (counts : List ℕ) (R : State Note → State Note → Type 0) (closed : Closed counts R) where
    One : Outcome Note → Outcome Note → Type 0
    One o o' = OneBegins o.machine.shown o'.machine.shown

    endless_begin : (n j : ℕ) (m h : Machine Note) → Abreast R m h → One (run counts endless n m) (run counts endless j h)
    unfolding run One
    endless_begin zero j m h (abreast s t ss ts g k u os r saves) = record { either = inl (run_extends counts endless j (at t ts g k u os)) }
    endless_begin (suc n) zero m h (abreast s t ss ts g k u os r saves) = record { either = inr (run_extends counts endless (suc n) (at s ss g k u os)) }
    endless_begin (suc n) (suc j) m h (abreast s t ss ts g k u os r saves) =
        go _ _ refl refl (next_abreast counts endless R s t ss ts g k u os saves closed r) (endless_begin n j)
      where
        go : (x y : Next Note) → next counts endless (at s ss g k u os) ≡ x → next counts endless (at t ts g k u os) ≡ y → NextAbreast R x y
            → ((m' h' : Machine Note) → Abreast R m' h' → One (run counts endless n m') (run counts endless j h'))
            → One (run counts endless (suc n) (at s ss g k u os)) (run counts endless (suc j) (at t ts g k u os))
        go x y p q (both_over e) ih =
            subst₂ One (sym (run_over counts endless n (at s ss g k u os) p)) (sym (run_over counts endless j (at t ts g k u os) q)) (record { either = inl (begins_refl os) })
        go x y p q (both_go {m = m'} {h = h'} a) ih =
            subst₂ One (sym (run_goes counts endless n (at s ss g k u os) p)) (sym (run_goes counts endless j (at t ts g k u os) q)) (ih m' h' a)
        go x y p q left_stuck ih =
            subst (λ (o : Outcome Note). One o (run counts endless (suc j) (at t ts g k u os))) (sym (run_over counts endless n (at s ss g k u os) p))
            (record { either = inl (run_extends counts endless (suc j) (at t ts g k u os)) })
        go x y p q right_stuck ih =
            subst (One (run counts endless (suc n) (at s ss g k u os))) (sym (run_over counts endless j (at t ts g k u os) q))
            (record { either = inr (run_extends counts endless (suc n) (at s ss g k u os)) })

    -- of two runs of machines abreast, with any two budgets and rooms, one shows what begins what the other shows
    pub runs_begin : (n j : ℕ) (room other : Room) (m h : Machine Note) → Abreast R m h
        → OneBegins (run counts room n m).machine.shown (run counts other j h).machine.shown
    unfolding One
    runs_begin n j room other m h a = beginnings_related (room_cuts counts room n m) (room_cuts counts other j h) (endless_begin n j m h a)
