-- A whole run: how it begins, and what it leaves.
use Prim.Native.Nat.{ℕ, ◌+◌, ◌*◌, ◌-◌, ◌/◌, ◌^◌, ◌≤◌, ◌<◌}
use native.Mathlib.Omega.{arith}
use mathlib.Core.Path.{◌≡◌, refl, sym, ap, ◌∙◌}
use mathlib.Core.List.{List}
use lib.ListN.{length, drop, replicate}
use lib.Seq.{sets, length-sets}
use Rattle.awhile.proofs.Versions.{declared_variables}
use Rattle.bytes_le.specs.Numbers.{le, le_at, words}
use Rattle.bytes_le.proofs.Numbers.{Below, length_le}
use Rattle.bytes_le.proofs.Words.{words_from_words}
use Rattle.bytes_le.proofs.Copies.{drop-sets}
use Rattle.awhile.specs.Language.{note_of}
use Rattle.awhile.specs.Lists.{sum}
use Rattle.reader.specs.Admitted.{Admitted}
use Rattle.reader.specs.Index.{table_of, nodes_in, command_in}
use Rattle.reader.proofs.Admitted.{offsets_in, indexed}
use Rattle.reader.proofs.Admitted.{bytes as admitted_bytes}
use Rattle.reader.proofs.Index.{indexed_few, indexed_some, indexed_well_formed, indexed_root_sort, indexed_note}
use Rattle.machine.specs.Observations.{shown_bytes}
use Rattle.machine.specs.Memory.{pending_after, saves_after}
use Rattle.stepping.specs.Evaluation.{variables_in}
use Rattle.stepping.specs.Actions.{CommandAt}
use Rattle.stepping.specs.Stepping.{Memory, memory_at, start_state, pending_of, cells_in, machine_of}
use Rattle.saves.specs.Places.{place_words, saves_of}
use Rattle.saves.specs.Leaving.{left_places, LeaveFits}
use Rattle.interpreter.specs.Running.{run_of, Begun, PlacesLent, StoppedAs, next_word, report_with, report_of, RunAsked, RunLeaves}
use Rattle.machine.specs.declared.Board.{Board}
use Rattle.machine.specs.declared.Board.TheVariants.{Rolling}
use Rattle.interpreter.specs.declared.run.Stopped.{Stopped}
use Rattle.interpreter.specs.declared.run.Report.{Report}
use Rattle.stepping.proofs.Words.{le_at_stored}
use Rattle.saves.proofs.Pending.{Noted}
use Rattle.saves.proofs.Left.{leave_fits, saves_left_lem}
use Rattle.interpreter.proofs.Leavings.{pending_left, next_noted}

module _ {table list : List ℕ} (admitted : Admitted table) {nodes : ℕ} (same_nodes : nodes ≡ nodes_in table) {board : Board} {m₀ : Memory} {ss₀ : List ℕ}
    (asked : RunAsked table list board m₀ ss₀) where
  some_nodes : 0 < nodes_in table
  some_nodes = indexed_some table (offsets_in table) (admitted_bytes admitted) (indexed admitted)

  few_nodes_lem : nodes_in table ≤ 4096
  few_nodes_lem = indexed_few table (offsets_in table) (admitted_bytes admitted) (indexed admitted)

  -- the root's number, as a word
  pub root_below : (0 < nodes) × (nodes - 1 < 2 ^ 32) × (4 ≤ length m₀.pending)
  root_below =
      let positive = some_nodes in
      let few = few_nodes_lem in
      let same = same_nodes in
      let long = asked.pending_long in
      (omega arith, omega arith, omega arith)

  -- the bytes of a place: those of all variables, all cells and an entry for each node
  pub size_asked : {before : ℕ} → before ≡ length m₀.variables + length m₀.cells
      → (before + 4 * nodes ≡ 4 * place_words table) × (before + 4 * nodes < 2 ^ 32)
  unfolding place_words
  size_asked is_before =
      let declared = (indexed_well_formed table (offsets_in table) (admitted_bytes admitted) (indexed admitted)).declared in
      let few = few_nodes_lem in
      let same = same_nodes in
      let v = asked.variables_long in
      let c = asked.cells_long in
      (omega arith, omega (arith, declared_variables declared, declared.cells_fit))

  -- what is lent for saves
  pub places_asked : {before : ℕ} → before ≡ length m₀.variables + length m₀.cells → {hs : List ℕ} → length hs ≡ 8
      → PlacesLent table board (before + 4 * nodes) ss₀ hs
  places_asked is_before eight = record { eight = eight; is_size = (size_asked is_before).0; long = asked.saves_long }

  module _ {ps : List ℕ} (root : ps ≡ sets m₀.pending 0 (le 4 (nodes - 1))) where
    root_there : le_at 4 ps 0 ≡ nodes_in table - 1
    root_there = rw (root, le_at_stored 4 (nodes - 1) m₀.pending 0 root_below.1 root_below.2, same_nodes)

    root_command : CommandAt table (nodes_in table - 1)
    root_command = record { inside = omega (arith, some_nodes); is_command = indexed_root_sort table (offsets_in table) (admitted_bytes admitted) (indexed admitted) }

    pending_same : length ps ≡ length m₀.pending
    pending_same = rw root (length-sets m₀.pending 0 (le 4 (nodes - 1)))

    -- all is ready for the first step
    pub begun_at_root : {budget room : ℕ} → budget < 2 ^ 32 → Begun table list budget room (memory_at m₀.variables m₀.cells ps)
    unfolding start_state
    begun_at_root {budget} {room} budget_fits =
        record {
          admitted = admitted;
          budget_fits = budget_fits;
          between =
              record {
                variables_long = asked.variables_long;
                cells_long = asked.cells_long;
                pending_long = omega (arith, pending_same, asked.pending_long);
                readable = asked.readable;
                entries = only;
                few = some_nodes;
                steps_fit = omega arith;
                used_fit = omega arith;
                shown_fit = omega arith;
                saved_fit = omega arith;
              };
          is_root = root_there;
        }
      where
        only : (j : ℕ) → j < 1 → CommandAt table (le_at 4 ps (4 * j))
        only j less = let first : j ≡ 0 = omega arith in rw (first, root_there) root_command

    module _ {budget : ℕ} {os : List ℕ} {m : Memory} {ss hs os' : List ℕ} {s : Stopped}
        (stopped : StoppedAs table list board budget (memory_at m₀.variables m₀.cells ps) ss₀ os m ss hs os' s) where
      -- what is pending fits the slice
      pub pending_within : {ps' : List ℕ} → ps' ≡ m.pending → (s.state.pending ≤ nodes) × (4 * nodes ≤ length ps')
      pending_within is =
          let same : length m.pending ≡ length m₀.pending = stopped.pending_long ∙ pending_same in
          (omega (arith, stopped.few, same_nodes), rw is (omega (arith, asked.pending_long)))

      pub next_within : {ps' : List ℕ} → ps' ≡ m.pending → 4 * s.state.pending ≤ length ps'
      next_within is = let within = pending_within is in omega (arith, within.0, within.1)

      beyond : drop (4 * nodes_in table) m.pending ≡ drop (4 * nodes_in table) ps → drop (4 * nodes) m.pending ≡ drop (4 * nodes) m₀.pending
      beyond e =
          rw (same_nodes)
          (e ∙ rw root (drop-sets (le 4 (nodes - 1)) m₀.pending 0 (4 * nodes_in table) (rw length_le (omega (arith, some_nodes)))))

      noted : (n : ℕ) → CommandAt table n → note_of (command_in table n) ≡ n
      noted n command = indexed_note table (offsets_in table) (admitted_bytes admitted) (indexed admitted) n command.inside command.is_command

      -- the places can be left
      pub leave_asked : {ss' : List ℕ} → ss' ≡ ss → Below 256 ss' → board ≡ Rolling → {before : ℕ} → before ≡ length m₀.variables + length m₀.cells
          → LeaveFits ss' hs s.state.saved (before / 4) nodes
      leave_asked is bytes_s rolling {before} is_before =
          let words : before / 4 ≡ (table_of table).variables + sum (table_of table).counts = omega (arith, asked.variables_long, asked.cells_long) in
          rw (words, same_nodes, is) (leave_fits (rw is at bytes_s) (rw stopped.saves_long (asked.saves_long rolling)) stopped.places stopped.few_saves noted)

      -- what a run leaves
      pub run_leaves : {vs' cs' ps' : List ℕ} → vs' ≡ m.variables → cs' ≡ m.cells → ps' ≡ m.pending → Below 256 vs' → Below 256 cs' → Below 256 ps'
          → {ss' : List ℕ} → (board ≡ Rolling → ss' ≡ saves_after (nodes_in table) (place_words table) (saves_of table ss hs s.state.saved) ss₀)
          → {cleared : List ℕ} → cleared ≡ sets ps' (4 * s.state.pending) (words (replicate (nodes - s.state.pending) 0))
          → {n : ℕ} → n ≡ next_word ps' s.state.pending → {r : Report} → r ≡ report_with s n
          → RunLeaves (run_of table list board budget m₀ (length os)) table board m₀ ss₀ os (memory_at vs' cs' cleared) ss' os' r
      unfolding run_of machine_of variables_in cells_in report_with report_of
      run_leaves is_vs is_cs is_ps bytes_v bytes_c bytes_p saved is_cleared is_next is_report =
          let below_v = rw is_vs at bytes_v in
          let below_c = rw is_cs at bytes_c in
          let below_p = rw is_ps at bytes_p in
          let entries : Noted table m.pending s.state.pending = λ j less. noted (le_at 4 m.pending (4 * j)) (stopped.entries j less) in
          let counted : s.state.shown ≡ length (shown_bytes stopped.seen) = sym stopped.is_shown in
          let next = (rw is_ps at is_next) ∙ next_noted table m.pending s.state.pending entries in
          rw (stopped.is_outcome, is_vs, is_cs)
          (record {
            variables = sym (words_from_words (table_of table).variables m.variables (stopped.variables_long ∙ asked.variables_long) below_v);
            cells = sym (words_from_words (sum (table_of table).counts) m.cells (stopped.cells_long ∙ asked.cells_long) below_c);
            pending =
                (rw is_ps at is_cleared)
                ∙ pending_left table m.pending m₀.pending s.state.pending nodes below_p (pending_within refl).0 (pending_within refl).1 entries (beyond stopped.beyond)
                ∙ ap (λ k. pending_after k (pending_of table m.pending s.state.pending) m₀.pending) same_nodes;
            saves = saved;
            observations = stopped.observations;
            report =
                is_report
                ∙ (λ i. record { end = s.end; steps = s.state.steps; used = s.state.used; shown = counted i; flag = s.state.flag; next = next i });
          })

      -- the save words that it leaves on the board that rolls back
      pub saves_kept : {ss' : List ℕ} → ss' ≡ ss → Below 256 ss' → board ≡ Rolling → {before : ℕ} → before ≡ length m₀.variables + length m₀.cells
          → {left : List ℕ} → left ≡ left_places hs s.state.saved (before / 4) nodes 8 ss'
          → left ≡ saves_after (nodes_in table) (place_words table) (saves_of table ss hs s.state.saved) ss₀
      saves_kept is bytes_s rolling {before} is_before is_left =
          let words : before / 4 ≡ (table_of table).variables + sum (table_of table).counts = omega (arith, asked.variables_long, asked.cells_long) in
          saves_left_lem (rw is at bytes_s) (rw stopped.saves_long (asked.saves_long rolling)) stopped.places stopped.few_saves noted ss₀ _ stopped.saves_beyond
          ((rw is at is_left) ∙ rw (words, same_nodes))
