-- The next step of the machine as the code has it: why it is not taken, or the machine after it.
use Rattle.std.proofs.Common.{◌≡◌, ℕ, zero, suc, ◌+◌, ◌-◌, ◌*◌, ◌^◌, ◌<◌, ◌≤◌, Bool, true, false, cond, eqb, ltb, leb, List, [], ◌∷◌, length, sym, refl, ap, ◌∙◌, subst, add-zero, pos_of_ne-zero, arith, length-append, ltb-false, ltb-true, eqb-true, le-leb, leb-false, leb-true}
use mathlib.Core.Option.{none, some as just}
use mathlib.Core.List.{flat_map}
use borrow.Author.Tests.{lt-leb, eqb-false}
use Rattle.bytes_le.specs.Numbers.{le, le_at}
use Rattle.awhile.specs.Language.{Com}
use Rattle.reader.specs.Admitted.{Admitted}
use Rattle.reader.specs.Index.{table_of, command_in}
use Rattle.reader.proofs.Admitted.{offsets_in, indexed, bytes as bytes_of}
use Rattle.reader.proofs.Index.{indexed_few}
use Rattle.machine.specs.Observations.{Observation, branch, rolled_back, observation_bytes, shown_bytes}
use Rattle.machine.specs.Look.{look}
use Rattle.machine.specs.Steps.{State, only_if, quietly, onward}
use Rattle.machine.specs.Runs.{Guide, plain, guessing, rolling, bytes, holds, Machine, over, goes, rollback_next, moved, if_room, stacked, stacked_if, shown_if, shown_step, step_of, next_of, back_to, next_by, next, end_without, run}
use Rattle.stepping.specs.Evaluation.{variables_in}
use Rattle.stepping.specs.Actions.{BackFits, changed, observation_of, quiet_look, look_of, QuietFits, Looked}
use Rattle.directives.specs.Fitting.{fit_of}
use Rattle.directives.specs.Guiding.{Readable, guide_of, GoesBy, RunsOut, RollbackNext}
use Rattle.stepping.specs.Stepping.{Memory, no_directive, stepped_state, show_step, wrong_step, save_step, force_step, back_step, pending_of, cells_in, machine_of, shown_size, seen_list, ChangeFits, stepped_to, saved_to, undone_to}
use Rattle.stepping.specs.Stepping.{Steppable, Between, RunEnds, Advances, SavesRight, GoesBack, NextAs}
use Rattle.machine.specs.declared.Board.{Board}
use Rattle.machine.specs.declared.Board.TheVariants.{Plain, Guessing, Rolling}
use Rattle.machine.specs.declared.Directive.{Directive}
use Rattle.machine.specs.declared.End.{End}
use Rattle.machine.specs.declared.End.TheVariants.{Finished, Spent, OutOfDirectives, Stuck, Full}
use Rattle.directives.specs.declared.change.Change.{Change}
use Rattle.directives.specs.declared.change.Change.TheVariants.{PutBack, Assign}
use Rattle.directives.specs.declared.change.Change.TheVariants.{Store as StoreInto}
use Rattle.directives.specs.declared.change.Shown.{Shown}
use Rattle.directives.specs.declared.change.Shown.TheVariants.{Fork, Get, Put}
use Rattle.stepping.specs.declared.action.Action.TheVariants.{Quiet, Show}
use Rattle.directives.specs.declared.fit.Fit.{Fit}
use Rattle.directives.specs.declared.fit.Fit.TheVariants.{Goes as Fits, Forces}
use Rattle.stepping.specs.declared.state.MachineState.{MachineState}
use Rattle.stepping.specs.declared.next.Next.{Next}
use Rattle.stepping.specs.declared.next.Next.TheVariants.{Goes, Saves, Undoes}
use Rattle.std.specs.Prelude.{Result, Ok, Err, Some, None, ok_or}
use Rattle.std.specs.Prelude.{Option as Found}
use Rattle.directives.specs.declared.fit.Forced.{Forced}
use Rattle.directives.specs.declared.guide.Consumed.{Consumed}
use Rattle.machine.proofs.Runs.{run_over, run_nothing, next_onward}
use Rattle.stepping.proofs.ShownSteps.{after_shown, fit_taken, step_shown, fit_after, fit_fits, forced_shows}

-- the length of an observation's record
observation_length : (s : Shown) → length (observation_bytes (observation_of s)) ≡ shown_size s
unfolding observation_bytes observation_of shown_size le
observation_length (Fork v y n) = refl
observation_length (Get x a i) = refl
observation_length (Put a i v) = refl

pub seen_length : (s : Shown) → length (shown_bytes (seen_list (Some s))) ≡ shown_size s
unfolding shown_bytes seen_list flat_map
seen_length s = simp length-append (omega (arith, observation_length s))

-- the saves after a step that gives nothing to save: as they were
stacked_none : (g : Guide) (ss : List (State ℕ)) → length ss ≤ 8 → stacked g [] ss ≡ just ss
unfolding stacked only_if
stacked_none plain ss few = refl
stacked_none (guessing ds) ss few = refl
stacked_none (rolling ds) ss few = ap (λ (b : Bool). only_if b ss) (le-leb (0 + length ss) 8 (omega arith))

-- the other two boards are not the one that rolls back
abbrev IsRolling : Board → Type 0
IsRolling Plain = ⊥
IsRolling Guessing = ⊥
IsRolling Rolling = Unit {0}

-- a board that does not roll back drops what a step gives to save
stacked_elsewhere : (b : Board) → (b ≡ Rolling → ⊥) → (list : List ℕ) (at : ℕ) (kept ss : List (State ℕ)) → stacked (guide_of b list at) kept ss ≡ just ss
unfolding stacked guide_of
stacked_elsewhere Plain other list at kept ss = refl
stacked_elsewhere Guessing other list at kept ss = refl
stacked_elsewhere Rolling other list at kept ss = absurd (other refl)

module _ (table list : List ℕ) (board : Board) (budget room : ℕ) (st : MachineState) (m : Memory) where
  abbrev machine : List (State ℕ) → List Observation → Machine ℕ
  machine ss os = machine_of table list board st m ss os

  -- the next step is not taken
  ends_over : st.steps < budget → (e : End)
      → ((ss : List (State ℕ)) (os : List Observation) → length ss ≡ st.saved → length (shown_bytes os) ≡ st.shown → next (table_of table).counts (bytes room) (machine ss os) ≡ over e)
      → RunEnds table list board budget room st m e
  ends_over left e never =
      let one : budget - st.steps ≡ suc (budget - st.steps - 1) = omega arith in
      record { is_run = λ ss os saved shown. rw one (run_over (table_of table).counts (bytes room) (budget - st.steps - 1) (machine ss os) (never ss os saved shown)) }

  -- whether an observation of so many bytes has room
  in_room : (os : List Observation) (o : Observation) (size : ℕ) → length (shown_bytes os) ≡ st.shown → length (observation_bytes o) ≡ size → (b : Bool)
      → leb (st.shown + size) room ≡ b → holds (bytes room) (length (shown_bytes os) + length (observation_bytes o)) ≡ b
  unfolding holds
  in_room os o size shown long b e = rw (shown, long) e

  -- ---- a rollback
  module _ (rolls : RollbackNext board list st.at) where
    next_back : (ss : List (State ℕ)) (os : List Observation)
        → next (table_of table).counts (bytes room) (machine ss os) ≡ back_to (bytes room) (machine ss os) (guide_of board list (st.at + 4)) ss
    unfolding next next_by machine_of
    next_back ss os = rw (rolls.after, next_by)

    back_spent : budget ≤ st.steps → RunEnds table list board budget room st m Spent
    unfolding run machine_of end_without
    back_spent used =
        let empty : budget - st.steps ≡ 0 = omega arith in
        record { is_run = λ ss os saved shown. rw (empty, rolls.after) (λ i. record { end = either (pending_of table m.pending st.pending) i; machine = machine ss os }) }
      where
        either : (cs : List (Com ℕ)) → end_without cs (just (guide_of board list (st.at + 4))) ≡ Spent
        either [] = refl
        either (c ∷ cs) = refl

    module _ (left : st.steps < budget) where
      back_stuck : st.saved ≡ 0 → RunEnds table list board budget room st m Stuck
      unfolding back_to
      back_stuck none_open = ends_over left Stuck (λ ss os saved shown. next_back ss os ∙ go ss os (saved ∙ none_open))
        where
          go : (ss : List (State ℕ)) (os : List Observation) → length ss ≡ 0 → back_to (bytes room) (machine ss os) (guide_of board list (st.at + 4)) ss ≡ over Stuck
          go [] os e = refl
          go (x ∷ xs) os e = absurd (omega arith)

      module _ (opened : 0 < st.saved) where
        back_full : room - st.shown < 4 → st.shown ≤ room → RunEnds table list board budget room st m Full
        unfolding back_to if_room observation_bytes le machine_of
        back_full more fits = ends_over left Full (λ ss os saved shown. next_back ss os ∙ go ss os saved shown)
          where
            go : (ss : List (State ℕ)) (os : List Observation) → length ss ≡ st.saved → length (shown_bytes os) ≡ st.shown
                → back_to (bytes room) (machine ss os) (guide_of board list (st.at + 4)) ss ≡ over Full
            go [] os e shown = absurd (omega arith)
            go (x ∷ xs) os e shown = rw (in_room os rolled_back 4 shown refl false (lt-leb (st.shown + 4) room (omega arith)))

        back_goes : 4 ≤ room - st.shown → GoesBack table list board budget room st m
        unfolding back_to if_room moved undone_to observation_bytes le machine_of
        back_goes enough =
            record {
              is_next = λ s ss os saved shown. next_back (s ∷ ss) os ∙ rw (in_room os rolled_back 4 shown refl true (le-leb (st.shown + 4) room (omega arith)));
              is_rolling = rolls.is_rolling;
              some = opened;
              steps_fit = left;
              readable = rolls.readable;
              shown_fit = omega arith;
            }

    -- what the code finds
    pub backs : st.shown ≤ room → (r : Result Next End) → r ≡ back_step room budget st → NextAs table list board budget room st m r
    unfolding back_step
    backs fits r is = rw is (go (leb budget st.steps) (eqb st.saved 0) (ltb (room - st.shown) 4) refl refl refl)
      where
        go : (a b c : Bool) → leb budget st.steps ≡ a → eqb st.saved 0 ≡ b → ltb (room - st.shown) 4 ≡ c
            → NextAs table list board budget room st m (cond a (Err Spent) (cond b (Err Stuck) (cond c (Err Full) (Ok Undoes))))
        go true b c p q t = back_spent (leb-true budget st.steps p)
        go false true c p q t = back_stuck (leb-false budget st.steps p) (eqb-true st.saved 0 q)
        go false false true p q t = back_full (leb-false budget st.steps p) (pos_of_ne-zero (eqb-false st.saved 0 q)) (ltb-true (room - st.shown) 4 t) fits
        go false false false p q t = back_goes (leb-false budget st.steps p) (pos_of_ne-zero (eqb-false st.saved 0 q)) (ltb-false (room - st.shown) 4 t)

  -- ---- a step of the program
  module _ (forward : rollback_next (guide_of board list st.at) ≡ none) where
    -- nothing is pending
    pub ends_finished : st.pending ≡ 0 → RunEnds table list board budget room st m Finished
    unfolding machine_of pending_of
    ends_finished empty =
        record { is_run = λ ss os saved shown. run_nothing (table_of table).counts (bytes room) (budget - st.steps) (machine ss os) forward (rw (empty, pending_of)) }

    module _ (some : 0 < st.pending) where
      -- the command that is next, and those below it
      abbrev below : List (Com ℕ)
      below = pending_of table m.pending (st.pending - 1)

      abbrev command : Com ℕ
      command = command_in table (le_at 4 m.pending (4 * (st.pending - 1)))

      pending_next : pending_of table m.pending st.pending ≡ command ∷ below
      unfolding pending_of
      pending_next = top st.pending some
        where
          top : (n : ℕ) → 0 < n → pending_of table m.pending n ≡ command_in table (le_at 4 m.pending (4 * (n - 1))) ∷ pending_of table m.pending (n - 1)
          top zero h = absurd (omega arith)
          top (suc n) h = let e : suc n - 1 ≡ n = omega arith in rw e

      -- the budget is used
      pub ends_spent : budget ≤ st.steps → RunEnds table list board budget room st m Spent
      unfolding machine_of run end_without
      ends_spent used =
          let empty : budget - st.steps ≡ 0 = omega arith in
          record { is_run = λ ss os saved shown. rw empty (λ i. record { end = end_without (pending_next i) (rollback_next (guide_of board list st.at)); machine = machine ss os }) }

      module _ (left : st.steps < budget) where
        -- the next step is that of the command that is next
        next_looks : (ss : List (State ℕ)) (os : List Observation)
            → next (table_of table).counts (bytes room) (machine ss os)
            ≡ step_of (table_of table).counts (bytes room) (machine ss os) (look command below (variables_in table m.variables))
        unfolding next_of machine_of
        next_looks ss os = next_onward (table_of table).counts (bytes room) (machine ss os) forward ∙ ap (next_of (table_of table).counts (bytes room) (machine ss os)) pending_next

        -- a silent step
        quiet_stepped : (c : Change) (ss : List (State ℕ)) (os : List Observation) → QuietFits table c
            → step_of (table_of table).counts (bytes room) (machine ss os) (quiet_look table c below (variables_in table m.variables))
            ≡ goes (stepped_to table list board below (machine ss os) c None (stepped_state st c st.flag st.saved no_directive 0))
        unfolding step_of quiet_look quietly moved stepped_to stepped_state machine_of changed seen_list
        quiet_stepped (PutBack b) ss os fits = rw (add-zero st.at)
        quiet_stepped (Assign x v) ss os fits = rw (add-zero st.at)
        quiet_stepped (StoreInto p v) ss os fits = absurd fits

        quiet_change : (c : Change) → QuietFits table c → ChangeFits table c
        quiet_change (PutBack b) fits = fits
        quiet_change (Assign x v) fits = fits
        quiet_change (StoreInto p v) fits = absurd fits

        module _ (used_fit : st.used ≤ st.steps) (shown_fit : st.shown ≤ room) where
          -- a command that is silent
          pub advances_quietly : Readable list st.at → (c : Change) → Looked table m.variables (le_at 4 m.pending (4 * (st.pending - 1))) (Quiet c)
              → Advances table list board budget room st m c None (stepped_state st c st.flag st.saved no_directive 0)
          unfolding look_of stepped_state seen_list shown_bytes flat_map
          advances_quietly readable c looked =
              record {
                is_next = λ ss os saved shown.
                    next_looks ss os ∙ ap (step_of (table_of table).counts (bytes room) (machine ss os)) (looked.is_look below) ∙ quiet_stepped c ss os looked.fits;
                fits = quiet_change c looked.fits;
                is_height = refl;
                is_saved = refl;
                is_flag = λ rolling. refl;
                counted =
                    record { some = some; is_steps = refl; steps_fit = left; used_fit = omega arith; readable = rw add-zero readable; is_shown = refl; shown_fit = omega arith };
              }

          module _ (s : Shown) (looked : Looked table m.variables (le_at 4 m.pending (4 * (st.pending - 1))) (Show s)) where
            next_shows : (ss : List (State ℕ)) (os : List Observation)
                → next (table_of table).counts (bytes room) (machine ss os)
                ≡ shown_step (bytes room) (machine ss os) (observation_of s) (after_shown (table_of table).counts table below (machine ss os).state s) (guide_of board list st.at)
            unfolding look_of machine_of
            next_shows ss os =
                next_looks ss os ∙ ap (step_of (table_of table).counts (bytes room) (machine ss os)) (looked.is_look below)
                ∙ step_shown (table_of table).counts table below (bytes room) (machine ss os) s

            -- a shown command without a directive
            pub ends_out : RunsOut board list st.at → RunEnds table list board budget room st m OutOfDirectives
            ends_out out =
                ends_over left OutOfDirectives
                (λ ss os saved shown.
                next_shows ss os ∙ out.step (bytes room) (machine ss os) (observation_of s) (after_shown (table_of table).counts table below (machine ss os).state s))

            module _ (d : Directive) (consumed : Consumed) (by : GoesBy board list st.at d consumed.size consumed.used) where
              -- the step under its directive, as the code finds it
              next_fits : (ss : List (State ℕ)) (os : List Observation)
                  → next (table_of table).counts (bytes room) (machine ss os)
                  ≡ shown_if (bytes room) (machine ss os) (observation_of s) (guide_of board list (st.at + consumed.size)) consumed.used
                  (fit_taken table below (machine ss os).state (fit_of (table_of table).counts m.cells st.flag s d))
              unfolding machine_of cells_in
              next_fits ss os =
                  next_shows ss os ∙ by.step (bytes room) (machine ss os) (observation_of s) (after_shown (table_of table).counts table below (machine ss os).state s)
                  ∙ ap (shown_if (bytes room) (machine ss os) (observation_of s) (guide_of board list (st.at + consumed.size)) consumed.used)
                  (fit_after (table_of table).counts table below (machine ss os).state m.cells refl s d)

              module _ (saved : st.saved ≤ 8) (fit : Found Fit) (is_fit : fit ≡ fit_of (table_of table).counts m.cells st.flag s d) where
                -- an index or a directive that does not fit
                pub ends_stuck : fit ≡ None → RunEnds table list board budget room st m Stuck
                unfolding shown_if
                ends_stuck unfit = ends_over left Stuck (λ ss os opened shown. next_fits ss os ∙ rw (← is_fit, unfit))

                -- a step after which the saves are as they were, and the flag is f
                module _ (c : Change) (f : Bool) (fits : ChangeFits table c) (flagged : board ≡ Rolling → f ≡ st.flag)
                    (stays : (ss : List (State ℕ)) (os : List Observation) → length ss ≡ st.saved
                    → next (table_of table).counts (bytes room) (machine ss os)
                    ≡ if_room (bytes room) (machine ss os) (observation_of s)
                    (moved (machine ss os) (changed table c below (machine ss os).state f) ss (guide_of board list (st.at + consumed.size)) consumed.used (observation_of s ∷ []))) where
                  -- an observation longer than what is left of its buffer
                  stays_full : room - st.shown < shown_size s → RunEnds table list board budget room st m Full
                  unfolding if_room machine_of
                  stays_full more =
                      ends_over left Full
                      (λ ss os opened shown. stays ss os opened ∙ rw (in_room os (observation_of s) (shown_size s) shown (observation_length s) false (lt-leb (st.shown + shown_size s) room (omega arith))))

                  stays_goes : shown_size s ≤ room - st.shown → Advances table list board budget room st m c (Some s) (stepped_state st c f st.saved consumed (shown_size s))
                  unfolding if_room moved stepped_to stepped_state seen_list machine_of
                  stays_goes enough =
                      record {
                        is_next = λ ss os opened shown.
                            stays ss os opened ∙ rw (in_room os (observation_of s) (shown_size s) shown (observation_length s) true (le-leb (st.shown + shown_size s) room (omega arith)));
                        fits = fits;
                        is_height = refl;
                        is_saved = refl;
                        is_flag = flagged;
                        counted =
                            record {
                              some = some;
                              is_steps = refl;
                              steps_fit = left;
                              used_fit = omega (arith, by.few);
                              readable = by.readable;
                              is_shown = ap (λ n. st.shown + n) (sym (seen_length s));
                              shown_fit = omega arith;
                            };
                      }

                  stays_shown : NextAs table list board budget room st m
                      (cond (ltb (room - st.shown) (shown_size s)) (Err Full) (Ok (Goes c (Some s) (stepped_state st c f st.saved consumed (shown_size s)))))
                  stays_shown = go (ltb (room - st.shown) (shown_size s)) refl
                    where
                      go : (b : Bool) → ltb (room - st.shown) (shown_size s) ≡ b
                          → NextAs table list board budget room st m (cond b (Err Full) (Ok (Goes c (Some s) (stepped_state st c f st.saved consumed (shown_size s)))))
                      go true e = stays_full (ltb-true (room - st.shown) (shown_size s) e)
                      go false e = stays_goes (ltb-false (room - st.shown) (shown_size s) e)

                -- a step that fits
                pub shows : (c : Change) → fit ≡ Some (Fits c) → (r : Result Next End) → r ≡ show_step room st s c consumed → NextAs table list board budget room st m r
                unfolding show_step look_of shown_if stacked_if onward machine_of
                shows c found r is =
                    rw is
                    (stays_shown c st.flag (rw (← is_fit, found) at (fit_fits table m.cells st.flag s d looked.fits)) (λ rolling. refl)
                    (λ ss os opened.
                    next_fits ss os
                    ∙ rw (← is_fit, found, stacked_none (guide_of board list (st.at + consumed.size)) ss (omega arith))))

                -- a branch that is forced
                module _ (forced : Forced) (found : fit ≡ Some (Forces forced)) where
                  sides : BackFits table forced.right × BackFits table forced.wrong
                  unfolding look_of
                  sides = rw (← is_fit, found) at (fit_fits table m.cells st.flag s d looked.fits)

                  shows_value : observation_of s ≡ branch forced.value
                  shows_value = rw (← is_fit, found) at (forced_shows (table_of table).counts m.cells st.flag s d)

                  six : shown_size s ≡ 6
                  unfolding observation_bytes le
                  six = sym (observation_length s) ∙ ap (λ o. length (observation_bytes o)) shows_value

                  -- where nothing is saved
                  forced_elsewhere : (board ≡ Rolling → ⊥) → NextAs table list board budget room st m (wrong_step room st s forced.wrong consumed)
                  unfolding wrong_step shown_if stacked_if machine_of
                  forced_elsewhere other =
                      subst (λ n. NextAs table list board budget room st m (cond (ltb (room - st.shown) n) (Err Full) (Ok (Goes (PutBack forced.wrong) (Some s) (stepped_state st (PutBack forced.wrong) true st.saved consumed n))))) six
                      (stays_shown (PutBack forced.wrong) true sides.1 (λ rolling. absurd (other rolling))
                      (λ ss os opened. next_fits ss os ∙ rw (← is_fit, found, stacked_elsewhere board other list (st.at + consumed.size) (changed table (PutBack forced.right) below (machine ss os).state (machine ss os).state.flag ∷ []) ss)))

                  -- on the board that rolls back
                  module _ (is_rolling : board ≡ Rolling) where
                    -- the wrong side is taken, and the right one is put on the saves if they have room
                    next_forced : (ss : List (State ℕ)) (os : List Observation)
                        → next (table_of table).counts (bytes room) (machine ss os)
                        ≡ stacked_if (bytes room) (machine ss os) (branch forced.value) (guide_of board list (st.at + consumed.size)) consumed.used
                        (changed table (PutBack forced.wrong) below (machine ss os).state true)
                        (only_if (leb (1 + length ss) 8) (changed table (PutBack forced.right) below (machine ss os).state st.flag ∷ ss))
                    unfolding shown_if stacked guide_of machine_of
                    next_forced ss os = next_fits ss os ∙ rw (← is_fit, found, shows_value, is_rolling)

                    save_stuck : 8 ≤ st.saved → RunEnds table list board budget room st m Stuck
                    unfolding stacked_if only_if
                    save_stuck all =
                        ends_over left Stuck (λ ss os opened shown. next_forced ss os ∙ rw (lt-leb (1 + length ss) 8 (omega arith)))

                    module _ (few : st.saved < 8) where
                      next_stacks : (ss : List (State ℕ)) (os : List Observation) → length ss ≡ st.saved
                          → next (table_of table).counts (bytes room) (machine ss os)
                          ≡ if_room (bytes room) (machine ss os) (branch forced.value)
                          (moved (machine ss os) (changed table (PutBack forced.wrong) below (machine ss os).state true)
                          (changed table (PutBack forced.right) below (machine ss os).state st.flag ∷ ss) (guide_of board list (st.at + consumed.size)) consumed.used (branch forced.value ∷ []))
                      unfolding stacked_if only_if
                      next_stacks ss os opened = next_forced ss os ∙ rw (le-leb (1 + length ss) 8 (omega arith))

                      save_full : room - st.shown < 6 → RunEnds table list board budget room st m Full
                      unfolding if_room machine_of observation_bytes le
                      save_full more =
                          ends_over left Full
                          (λ ss os opened shown. next_stacks ss os opened ∙ rw (in_room os (branch forced.value) 6 shown refl false (lt-leb (st.shown + 6) room (omega arith))))

                      save_goes : 6 ≤ room - st.shown
                          → SavesRight table list board budget room st m forced (stepped_state st (PutBack forced.wrong) true (st.saved + 1) consumed 6)
                      unfolding if_room moved saved_to stepped_state machine_of observation_bytes le
                      save_goes enough =
                          record {
                            is_next = λ ss os opened shown.
                                next_stacks ss os opened ∙ rw (in_room os (branch forced.value) 6 shown refl true (le-leb (st.shown + 6) room (omega arith)));
                            is_rolling = is_rolling;
                            right_fits = sides.0;
                            wrong_fits = sides.1;
                            is_height = refl;
                            few = few;
                            is_saved = refl;
                            is_flag = refl;
                            counted =
                                record {
                                  some = some;
                                  is_steps = refl;
                                  steps_fit = left;
                                  used_fit = omega (arith, by.few);
                                  readable = by.readable;
                                  is_shown = refl;
                                  shown_fit = omega arith;
                                };
                          }

                    forced_saves : NextAs table list board budget room st m (save_step room st forced consumed)
                    unfolding save_step
                    forced_saves = go (leb 8 st.saved) (ltb (room - st.shown) 6) refl refl
                      where
                        go : (a b : Bool) → leb 8 st.saved ≡ a → ltb (room - st.shown) 6 ≡ b
                            → NextAs table list board budget room st m
                            (cond a (Err Stuck) (cond b (Err Full) (Ok (Saves forced (stepped_state st (PutBack forced.wrong) true (st.saved + 1) consumed 6)))))
                        go true b p q = save_stuck (leb-true 8 st.saved p)
                        go false true p q = save_full (leb-false 8 st.saved p) (ltb-true (room - st.shown) 6 q)
                        go false false p q = save_goes (leb-false 8 st.saved p) (ltb-false (room - st.shown) 6 q)

                  -- what the code finds
                  pub forces : (r : Result Next End) → r ≡ force_step board room st s forced consumed → NextAs table list board budget room st m r
                  unfolding force_step
                  forces r is = rw is (go board refl)
                    where
                      go : (b : Board) → board ≡ b → NextAs table list board budget room st m (force_step b room st s forced consumed)
                      go Plain e = forced_elsewhere (λ rolling. subst IsRolling (sym (sym e ∙ rolling)) tt)
                      go Guessing e = forced_elsewhere (λ rolling. subst IsRolling (sym (sym e ∙ rolling)) tt)
                      go Rolling e = forced_saves e

-- the counts of a step that can be taken
pub steppable : {table list : List ℕ} {budget room : ℕ} {st : MachineState} {m : Memory} {consumed : Consumed} → Between table list budget room st m → Admitted table
    → 0 < st.pending → st.steps < budget → budget < 2 ^ 32 → room < 2 ^ 64 → consumed.used ≤ 1 → st.at + consumed.size < 2 ^ 64 → Steppable st consumed 0
steppable {table = table} between admitted some left budget_fits room_fits few fits =
    let nodes = indexed_few table (offsets_in table) (bytes_of admitted) (indexed admitted) in
    record {
      some = some;
      few = omega (arith, between.few);
      steps_fit = omega (arith, left);
      used_fit = omega (arith, left, between.used_fit);
      at_fit = fits;
      shown_fit = omega (arith, between.shown_fit);
    }

-- the error that stands for a value that is absent
pub error_of : {A E : Type 0} {o : Found A} {given error : E} → o ≡ None → Err error ≡ ok_or o given → error ≡ given
error_of {A} {E} {given = given} {error = error} absent is =
    let same : ◌≡◌ {A = Result A E} (Err error) (Err given) = rw absent at is in
    cc
