-- A run under way stays under way through a step of the program: its command taken off, its change made.
use Prim.Native.Nat.{ℕ, ◌+◌, ◌*◌, ◌-◌, ◌≤◌}
use native.Mathlib.Omega.{arith}
use mathlib.Core.Path.{◌≡◌, refl, sym, ap, subst, ◌∙◌}
use mathlib.Core.List.{List, ◌++◌}
use lib.ListN.{length}
use lib.Seq.{sets}
use Rattle.reader.specs.Admitted.{Admitted}
use Rattle.reader.specs.Index.{table_of, nodes_in}
use Rattle.machine.specs.Runs.{Outcome, Machine, bytes, goes, next}
use Rattle.stepping.specs.Evaluation.{variables_in}
use Rattle.stepping.specs.Actions.{changed}
use Rattle.directives.specs.Changes.{height_of}
use Rattle.directives.specs.Guiding.{guide_of}
use Rattle.stepping.specs.Stepping.{Memory, pending_of, cells_in, machine_of, seen_list, stepped_to, Between, NextAs, Advances}
use Rattle.saves.specs.Places.{saves_of}
use Rattle.interpreter.specs.Effects.{PerformFits, performed, WordFits, Performed, seen_bytes}
use Rattle.machine.specs.declared.Board.{Board}
use Rattle.directives.specs.declared.change.Change.{Change}
use Rattle.directives.specs.declared.change.Shown.{Shown}
use Rattle.std.specs.Prelude.{Option, Result}
use Rattle.machine.specs.declared.End.{End}
use Rattle.stepping.specs.declared.next.Next.{Next}
use Rattle.stepping.specs.declared.state.MachineState.{MachineState}
use Rattle.machine.proofs.PendingRoom.{fits_length}
use Rattle.saves.proofs.Places.{length_saves}
use Rattle.interpreter.proofs.Showing.{seen_bytes_lem}
use Rattle.interpreter.proofs.Changing.{changed_variables, changed_cells, changed_pending, length_variables, length_cells, length_entries, pending_beyond}
use Rattle.interpreter.proofs.Changing.{changed_entries, change_fits, changed_height, changed_state}
use Rattle.interpreter.proofs.Underway.{OpenSaves, Underway, here, underway_room, few_nodes_lem, fits_after, underway_step}

-- the next step that a view tells is that of the memory in view
pub next_seen : (table list : List ℕ) (board : Board) (budget room : ℕ) (st : MachineState) (r : Result Next End) {m m' : Memory}
    → m ≡ m' → NextAs table list board budget room st m r → NextAs table list board budget room st m' r
next_seen table list board budget room st r same told = subst (λ x. NextAs table list board budget room st x r) same told

module _ {table list : List ℕ} {board : Board} {budget : ℕ} (admitted : Admitted table)
    {room : ℕ} {whole : Outcome ℕ} {ps₀ ss₀ os₀ : List ℕ} {st : MachineState} {m : Memory} {ss hs os : List ℕ}
    (u : Underway table list board budget room whole ps₀ ss₀ os₀ st m ss hs os)
    {c : Change} {seen : Option Shown} {after : MachineState} (adv : Advances table list board budget room st m c seen after) where
  abbrev machine : Machine ℕ
  machine = here admitted u

  abbrev rest : ℕ
  rest = st.pending - 1

  abbrev stepped : Machine ℕ
  stepped = stepped_to table list board (pending_of table m.pending rest) machine c seen after

  taken : next (table_of table).counts (bytes room) machine ≡ goes stepped
  taken = adv.is_next (saves_of table ss hs st.saved) u.seen (length_saves table ss hs st.saved) u.is_shown

  -- as many are pending as the nodes allow
  height_few : height_of c rest ≤ nodes_in table
  unfolding stepped_to
  height_few =
      let within =
      fits_length (nodes_in table) (changed table c (pending_of table m.pending rest) machine.state after.flag).pending
      (fits_after admitted u taken).0 in
      omega (arith, changed_height table c rest m.pending machine after.flag)

  -- the change can be made
  pub perform_fits : PerformFits c rest m
  perform_fits =
      change_fits table c rest m (few_nodes_lem admitted u) adv.fits
      u.between.variables_long u.between.cells_long (omega (arith, height_few, u.between.pending_long))

  -- what is shown fits the buffer
  pub show_fits : st.shown + length (seen_bytes seen) ≤ length os
  show_fits =
      rw (← seen_bytes_lem seen, underway_room admitted u)
      (omega (arith, adv.counted.is_shown, adv.counted.shown_fit, u.is_room))

  -- the memory after it
  abbrev mem : Memory
  mem = performed c rest m

  pending_after_lem : pending_of table mem.pending after.pending ≡ (changed table c (pending_of table m.pending rest) machine.state after.flag).pending
  pending_after_lem = rw adv.is_height (changed_pending table c rest m machine after.flag perform_fits)

  saves_after_lem : saves_of table ss hs after.saved ≡ saves_of table ss hs st.saved
  saves_after_lem = ap (saves_of table ss hs) adv.is_saved

  machine_after : WordFits c → machine_of table list board after mem (saves_of table ss hs after.saved) (u.seen ++ seen_list seen) ≡ stepped
  unfolding machine_of stepped_to
  machine_after word =
      let state =
      changed_state table c (pending_of table m.pending rest) machine after.flag (pending_of table mem.pending after.pending) (variables_in table mem.variables) (cells_in table mem.cells) pending_after_lem
      (changed_variables table c rest m machine adv.fits word u.between.variables_long (pending_of table m.pending rest) after.flag refl)
      (changed_cells table c rest m machine adv.fits word u.between.cells_long (pending_of table m.pending rest) after.flag refl) in
      λ i. record { state = state i; saves = saves_after_lem i; guide = guide_of board list after.at; steps = after.steps; used = after.used; shown = u.seen ++ seen_list seen }

  between_after : Between table list budget room after mem
  between_after =
      let h = u.between in
      record {
        variables_long = length_variables table c rest m ∙ h.variables_long;
        cells_long = length_cells table c rest m ∙ h.cells_long;
        pending_long = rw (length_entries table c rest m) h.pending_long;
        readable = adv.counted.readable;
        entries = rw adv.is_height (changed_entries table c rest m perform_fits adv.fits (λ j less. h.entries j (omega arith)));
        few = omega (arith, adv.is_height, height_few);
        steps_fit = omega (arith, adv.counted.is_steps, adv.counted.steps_fit);
        used_fit = adv.counted.used_fit;
        shown_fit = adv.counted.shown_fit;
        saved_fit = rw adv.is_saved h.saved_fit;
      }

  saved_after : OpenSaves table board ss₀ after ss hs
  saved_after =
      let o = u.saved in
      record {
        holds = rw adv.is_saved o.holds;
        eight = o.eight;
        long = o.long;
        is_flag = λ rolling. rw adv.is_saved (adv.is_flag rolling ∙ o.is_flag rolling);
        beyond = o.beyond;
        same = o.same;
      }

  pub underway_next : {m' : Memory} {os' : List ℕ} → Performed c rest m m' → os' ≡ sets os st.shown (seen_bytes seen)
      → Underway table list board budget room whole ps₀ ss₀ os₀ after m' ss hs os'
  underway_next p o =
      rw p.memory
      (underway_step admitted u taken
      after mem (seen_list seen) (machine_after p.word) adv.counted.steps_fit adv.counted.is_steps adv.counted.is_shown adv.counted.shown_fit
      between_after saved_after (o ∙ ap (sets os st.shown) (sym (seen_bytes_lem seen)))
      (pending_beyond table c rest m (4 * nodes_in table) (omega (arith, height_few))) (length_entries table c rest m))
