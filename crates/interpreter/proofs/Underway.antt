-- A run under way: what is left to run is the whole run, and what stands in lent bytes is what the steps so far have left.
use Prim.Native.Nat.{ℕ, suc, ◌+◌, ◌*◌, ◌-◌, ◌≤◌, ◌<◌}
use native.Mathlib.Nat.{sub-zero}
use native.Mathlib.Omega.{arith}
use mathlib.Core.Path.{◌≡◌, refl, sym, ap, subst, ◌∙◌}
use mathlib.Core.List.{List, [], ◌++◌, flat_map}
use lib.ListN.{length, drop, length-append}
use lib.Seq.{sets}
use lib.Dec.{ltb}
use Rattle.bytes_le.specs.Numbers.{le_at}
use Rattle.awhile.specs.Trees.{root_of}
use Rattle.awhile.specs.Encoding.{nodes_of}
use Rattle.reader.specs.Index.{table_of, nodes_in, command_in}
use Rattle.reader.specs.Admitted.{Admitted}
use Rattle.reader.proofs.Admitted.{offsets_in, indexed}
use Rattle.reader.proofs.Admitted.{bytes as admitted_bytes}
use Rattle.reader.proofs.Index.{indexed_few, indexed_root, indexed_well_formed}
use Rattle.awhile.proofs.Size.{root_size}
use Rattle.machine.specs.Observations.{Observation, shown_bytes}
use Rattle.machine.specs.Runs.{Outcome, bytes, Machine, goes, next, run, started}
use Rattle.machine.specs.Memory.{written_over}
use Rattle.stepping.specs.Evaluation.{variables_in}
use Rattle.directives.specs.Guiding.{guide_of}
use Rattle.stepping.specs.Stepping.{Memory, start_state, pending_of, cells_in, machine_of, Between, RunEnds}
use Rattle.saves.specs.Places.{place_words, saves_of, PlacesHold}
use Rattle.interpreter.specs.Running.{run_of, Begun, PlacesLent}
use Rattle.machine.specs.declared.Board.{Board}
use Rattle.machine.specs.declared.Board.TheVariants.{Rolling}
use Rattle.machine.specs.declared.End.{End}
use Rattle.stepping.specs.declared.state.MachineState.{MachineState}
use Rattle.saves.proofs.Places.{length_saves}
use Rattle.machine.proofs.Runs.{run_goes}
use Rattle.machine.proofs.PendingRoom.{Fits, Every, look_fits, AfterNext, next_after}
use Rattle.interpreter.proofs.Showing.{shown_append, written_more, length_written}

-- the open saves, each in its place of the save words
pub record OpenSaves (table : List ℕ) (board : Board) (ss₀ : List ℕ) (st : MachineState) (ss hs : List ℕ) : Type 0 where
  pub holds : PlacesHold table ss hs st.saved
  pub eight : length hs ≡ 8
  pub long : board ≡ Rolling → 32 * place_words table ≤ length ss
  -- "The flag is set exactly while a save is open"
  pub is_flag : board ≡ Rolling → st.flag ≡ ltb 0 st.saved
  pub beyond : drop (32 * place_words table) ss ≡ drop (32 * place_words table) ss₀
  pub same : length ss ≡ length ss₀

-- ---- between two steps of a run
pub record Underway (table list : List ℕ) (board : Board) (budget room : ℕ) (whole : Outcome ℕ) (ps₀ ss₀ os₀ : List ℕ) (st : MachineState) (m : Memory) (ss hs os : List ℕ) : Type 0 where
  pub is_room : room ≡ length os₀
  pub between : Between table list budget room st m
  pub fits : Fits (nodes_in table) (pending_of table m.pending st.pending)
  pub saved : OpenSaves table board ss₀ st ss hs
  pub saved_fit : Every (Fits (nodes_in table)) (saves_of table ss hs st.saved)
  pub seen : List Observation
  pub is_shown : length (shown_bytes seen) ≡ st.shown
  pub written : os ≡ written_over (shown_bytes seen) os₀
  pub beyond : drop (4 * nodes_in table) m.pending ≡ drop (4 * nodes_in table) ps₀
  pub same : length m.pending ≡ length ps₀
  pub left : run (table_of table).counts (bytes room) (budget - st.steps) (machine_of table list board st m (saves_of table ss hs st.saved) seen) ≡ whole

module _ {table list : List ℕ} {board : Board} {budget : ℕ} (admitted : Admitted table) where
  -- at the start
  pub underway_start : {m : Memory} {size room : ℕ} {ss hs os : List ℕ} → room ≡ length os → Begun table list budget room m → PlacesLent table board size ss hs
      → Underway table list board budget room (run_of table list board budget m room) m.pending ss os start_state m ss hs os
  unfolding start_state pending_of saves_of machine_of shown_bytes flat_map written_over run_of started nodes_in
  underway_start {m} {size} {room} {ss} {hs} {os} is_room begun lent =
      let root : command_in table (le_at 4 m.pending 0) ≡ root_of (table_of table) =
      ap (command_in table) begun.is_root ∙ sym (indexed_root table (offsets_in table) (admitted_bytes admitted) (indexed admitted)) in
      let size = root_size (table_of table) (indexed_well_formed table (offsets_in table) (admitted_bytes admitted) (indexed admitted)) in
      record {
        is_room = is_room;
        between = begun.between;
        fits = (omega (arith, ap nodes_of root), tt);
        saved =
            record {
              holds = record { few = λ k less. absurd (omega arith); entries = λ k less. absurd (omega arith) };
              eight = lent.eight;
              long = lent.long;
              is_flag = λ rolling. refl;
              beyond = refl;
              same = refl;
            };
        saved_fit = tt;
        seen = [];
        is_shown = refl;
        written = refl;
        beyond = refl;
        same = refl;
        left = ap (λ n. run (table_of table).counts (bytes room) n (machine_of table list board start_state m [] [])) (sub-zero budget)
            ∙ ap (λ c. run (table_of table).counts (bytes room) budget (started c (variables_in table m.variables) (cells_in table m.cells) (guide_of board list 0))) root;
      }

  module _ {room : ℕ} {whole : Outcome ℕ} {ps₀ ss₀ os₀ : List ℕ} {st : MachineState} {m : Memory} {ss hs os : List ℕ}
      (u : Underway table list board budget room whole ps₀ ss₀ os₀ st m ss hs os) where
    abbrev pub here : Machine ℕ
    here = machine_of table list board st m (saves_of table ss hs st.saved) u.seen

    -- when it is over
    pub underway_over : {e : End} → RunEnds table list board budget room st m e → whole ≡ record { end = e; machine = here }
    underway_over ends = sym u.left ∙ ends.is_run (saves_of table ss hs st.saved) u.seen (length_saves table ss hs st.saved) u.is_shown

    -- the buffer is as long as it was
    pub underway_room : length os ≡ length os₀
    underway_room = rw u.written (length_written (shown_bytes u.seen) os₀ (omega (arith, u.is_shown, u.between.shown_fit, u.is_room)))

    pub few_nodes_lem : nodes_in table ≤ 4096
    few_nodes_lem = indexed_few table (offsets_in table) (admitted_bytes admitted) (indexed admitted)

    -- a step that is taken, to the machine x
    module _ {x : Machine ℕ} (taken : next (table_of table).counts (bytes room) here ≡ goes x) where
      -- what is pending there and in its saves fits
      pub fits_after : Fits (nodes_in table) x.state.pending × Every (Fits (nodes_in table)) x.saves
      unfolding machine_of
      fits_after =
          subst (AfterNext (Fits (nodes_in table))) taken
          (next_after (Fits (nodes_in table)) (table_of table).counts (bytes room) (look_fits (nodes_in table)) here u.fits u.saved_fit)

      -- the run is under way there, where x is what the lent bytes stand for after the step
      pub underway_step : (after : MachineState) (m' : Memory) {ss' hs' os' : List ℕ} (new : List Observation)
          → machine_of table list board after m' (saves_of table ss' hs' after.saved) (u.seen ++ new) ≡ x
          → st.steps < budget → after.steps ≡ st.steps + 1 → after.shown ≡ st.shown + length (shown_bytes new) → after.shown ≤ room
          → Between table list budget room after m'
          → OpenSaves table board ss₀ after ss' hs'
          → os' ≡ sets os st.shown (shown_bytes new)
          → drop (4 * nodes_in table) m'.pending ≡ drop (4 * nodes_in table) m.pending → length m'.pending ≡ length m.pending
          → Underway table list board budget room whole ps₀ ss₀ os₀ after m' ss' hs' os'
      unfolding machine_of
      underway_step after m' new is budgeted steps shown fits between saved o beyond same =
          let one : budget - st.steps ≡ suc (budget - after.steps) = omega arith in
          record {
            is_room = u.is_room;
            between = between;
            fits = subst (λ y. Fits (nodes_in table) y.state.pending) (sym is) fits_after.0;
            saved = saved;
            saved_fit = subst (λ y. Every (Fits (nodes_in table)) y.saves) (sym is) fits_after.1;
            seen = u.seen ++ new;
            is_shown = rw (shown_append u.seen new, length-append) (omega (arith, u.is_shown));
            written =
                o ∙ rw (u.written, ← u.is_shown, shown_append u.seen new)
                (written_more (shown_bytes u.seen) (shown_bytes new) os₀ (omega (arith, u.is_shown, u.is_room)));
            beyond = beyond ∙ u.beyond;
            same = same ∙ u.same;
            left =
                ap (run (table_of table).counts (bytes room) (budget - after.steps)) is
                ∙ sym (run_goes (table_of table).counts (bytes room) (budget - after.steps) here taken)
                ∙ rw (← one) u.left;
          }
