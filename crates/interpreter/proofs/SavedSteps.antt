-- A run under way stays under way through a force that saves, and through a rollback.
use Prim.Native.Nat.{ℕ, zero, suc, ◌+◌, ◌*◌, ◌-◌, ◌^◌, ◌≤◌, ◌<◌}
use native.Mathlib.Numerals.{add-one}
use native.Mathlib.Nat.{mul_assoc}
use native.Mathlib.Omega.{arith}
use mathlib.Core.Bool.{cond}
use mathlib.Core.Path.{◌≡◌, refl, sym, ap, subst, ◌∙◌}
use mathlib.Core.List.{List, [], ◌∷◌, ◌++◌, flat_map, append-nil}
use lib.ListN.{length, get_or, take, length-set}
use lib.Seq.{sets}
use lib.Dec.{ltb}
use borrow.Author.Tests.{lt-ltb}
use Rattle.bytes_le.specs.Numbers.{le, le_at}
use Rattle.reader.specs.Admitted.{Admitted}
use Rattle.awhile.specs.Language.{Com}
use Rattle.reader.specs.Index.{table_of, nodes_in}
use Rattle.machine.specs.Observations.{branch, rolled_back, observation_bytes, shown_bytes}
use Rattle.machine.specs.Runs.{Outcome, Machine, bytes, goes, next}
use Rattle.stepping.specs.Evaluation.{variables_in}
use Rattle.stepping.specs.Actions.{back_on, changed, CommandAt}
use Rattle.directives.specs.Changes.{height_of}
use Rattle.directives.specs.Guiding.{guide_of}
use Rattle.stepping.specs.Stepping.{Memory, memory_at, Undoable, undone_state, pending_of, cells_in, machine_of, saved_to, undone_to, Between, SavesRight, GoesBack}
use Rattle.saves.specs.Places.{place_words, place_at, saved_at, saves_of, PlacesHold, Restored}
use Rattle.interpreter.specs.Running.{PlacesLent}
use Rattle.interpreter.specs.Effects.{PushFits, pushed, SaveFits, RightSaved}
use Rattle.machine.specs.declared.Board.{Board}
use Rattle.directives.specs.declared.change.Back.{Back}
use Rattle.directives.specs.declared.fit.Forced.{Forced}
use Rattle.directives.specs.declared.change.Change.TheVariants.{PutBack}
use Rattle.stepping.specs.declared.state.MachineState.{MachineState}
use Rattle.machine.proofs.PendingRoom.{Fits, fits_length}
use Rattle.saves.proofs.Places.{length_saves, place_order, place_end, fewer_hold}
use Rattle.saves.proofs.Saved.{Savable, saved_within, saved_long, saved_beyond, saved_state, saved_hold}
use Rattle.saves.proofs.Restored.{restored_variables_long, restored_cells_long, restored_pending_long, restored_beyond, restored_state, restored_entries}
use Rattle.interpreter.proofs.Stacks.{back_pending, back_entries, pushed_below, pushed_entries}
use Rattle.interpreter.proofs.Changing.{length_pushed, pushed_beyond, push_fits, back_height}
use Rattle.interpreter.proofs.Underway.{OpenSaves, Underway, here, underway_room, few_nodes_lem, fits_after, underway_step}

-- a place begins so many places' sizes into the save words
pub place_offset : {table : List ℕ} {board : Board} {size : ℕ} {ss hs : List ℕ} → PlacesLent table board size ss hs → (k : ℕ) → size * k ≡ place_at table k
unfolding place_at
place_offset {table} lent k = ap (λ n. n * k) lent.is_size ∙ mul_assoc 4 (place_words table) k

-- and before the eight places end
pub place_within : {table : List ℕ} {board : Board} {size : ℕ} {ss hs : List ℕ} → PlacesLent table board size ss hs → (k : ℕ) → k < 8 → size * k ≤ 32 * place_words table
place_within {table} lent k less = omega (arith, place_offset lent k, place_order table k (suc k) (omega arith), place_end table k less)

module _ {table list : List ℕ} {board : Board} {budget : ℕ} (admitted : Admitted table)
    {room : ℕ} {whole : Outcome ℕ} {ps₀ ss₀ os₀ : List ℕ} {st : MachineState} {m : Memory} {ss hs os : List ℕ}
    (u : Underway table list board budget room whole ps₀ ss₀ os₀ st m ss hs os) where
  abbrev machine : Machine ℕ
  machine = here admitted u

  room_same : length os ≡ length os₀
  room_same = underway_room admitted u

  nodes_few : nodes_in table ≤ 4096
  nodes_few = few_nodes_lem admitted u

  -- ---- a force that saves
  module _ {f : Forced} {after : MachineState} (forced : SavesRight table list board budget room st m f after) where
    abbrev right : Back
    right = f.right

    abbrev wrong : Back
    wrong = f.wrong

    abbrev rest : ℕ
    rest = st.pending - 1

    abbrev below : List (Com ℕ)
    below = pending_of table m.pending rest

    abbrev high : ℕ
    high = height_of (PutBack right) rest

    abbrev forked : Machine ℕ
    forked = saved_to table list board below machine f after

    taken : next (table_of table).counts (bytes room) machine ≡ goes forked
    taken = forced.is_next (saves_of table ss hs st.saved) u.seen (length_saves table ss hs st.saved) u.is_shown

    -- both sides are no longer than the nodes allow
    side_few : (b : Back) → Fits (nodes_in table) (back_on table b below) → height_of (PutBack b) rest ≤ nodes_in table
    side_few b fits =
        let within = fits_length (nodes_in table) (back_on table b below) fits in
        omega (arith, back_height table b rest m.pending)

    wrong_few : height_of (PutBack wrong) rest ≤ nodes_in table
    unfolding saved_to changed
    wrong_few = side_few wrong (fits_after admitted u taken).0

    right_few : high ≤ nodes_in table
    unfolding saved_to changed
    right_few = side_few right (fits_after admitted u taken).1.0

    right_fits_lem : PushFits right rest (length m.pending)
    right_fits_lem = push_fits table right rest (length m.pending) nodes_few forced.right_fits (omega (arith, right_few, u.between.pending_long))

    wrong_fits_lem : PushFits wrong rest (length m.pending)
    wrong_fits_lem = push_fits table wrong rest (length m.pending) nodes_few forced.wrong_fits (omega (arith, wrong_few, u.between.pending_long))

    -- the state of the right side can be saved in the first place that is not open
    savable : Savable table m.variables m.cells (pushed right rest m.pending) ss hs st.saved high
    savable =
        record {
          variables_long = u.between.variables_long;
          cells_long = u.between.cells_long;
          pending_long = rw (length_pushed table right rest m.pending) u.between.pending_long;
          saves_long = u.saved.long forced.is_rolling;
          eight = u.saved.eight;
          free = forced.few;
          few = right_few;
        }

    pub save_fits : {at : ℕ} → at ≡ place_at table st.saved → SaveFits right wrong rest st.saved at m ss hs
    save_fits is =
        let within = saved_within savable in
        record {
          right_fits = right_fits_lem;
          wrong_fits = wrong_fits_lem;
          high = omega (arith, right_few, nodes_few);
          within = omega (arith, right_few, u.between.pending_long);
          room = rw is within.1;
          placed = omega (arith, u.saved.eight, forced.few);
        }

    -- what stands in the lent bytes after it
    module _ {ps' ss' hs' : List ℕ} {at : ℕ} (place : at ≡ place_at table st.saved) (saved : RightSaved right wrong rest st.saved at m ss hs ps' ss' hs') where
      is_saves : ss' ≡ sets ss (place_at table st.saved) (m.variables ++ (m.cells ++ take (4 * high) (pushed right rest m.pending)))
      is_saves = saved.is_saves ∙ ap (λ n. sets ss n (m.variables ++ (m.cells ++ take (4 * high) (pushed right rest m.pending)))) place

      above : PushFits wrong rest (length (pushed right rest m.pending))
      above = rw (length_pushed table right rest m.pending) wrong_fits_lem

      pending_after_lem : pending_of table ps' after.pending ≡ back_on table wrong below
      pending_after_lem =
          rw (forced.is_height, saved.is_pending)
          (back_pending table wrong rest (pushed right rest m.pending) above ∙ ap (back_on table wrong) (pushed_below table right rest m.pending))

      saves_after_lem : saves_of table ss' hs' after.saved ≡ changed table (PutBack right) below machine.state machine.state.flag ∷ saves_of table ss hs st.saved
      unfolding machine_of changed variables_in cells_in
      saves_after_lem =
          let flag : ltb 0 st.saved ≡ st.flag = sym (u.saved.is_flag forced.is_rolling) in
          let pending = back_pending table right rest m.pending right_fits_lem in
          ap (saves_of table ss' hs') (forced.is_saved ∙ add-one st.saved)
          ∙ saved_state savable ss' hs' is_saves saved.is_heights u.saved.holds
          ∙ (λ i. record { pending = pending i; variables = variables_in table m.variables; cells = cells_in table m.cells; flag = flag i } ∷ saves_of table ss hs st.saved)

      machine_after : machine_of table list board after (memory_at m.variables m.cells ps') (saves_of table ss' hs' after.saved) (u.seen ++ (branch f.value ∷ [])) ≡ forked
      unfolding machine_of saved_to changed
      machine_after =
          λ i. record {
            state = record { pending = pending_after_lem i; variables = variables_in table m.variables; cells = cells_in table m.cells; flag = after.flag };
            saves = saves_after_lem i;
            guide = guide_of board list after.at;
            steps = after.steps;
            used = after.used;
            shown = u.seen ++ (branch f.value ∷ []);
          }

      length_after : length ps' ≡ length m.pending
      length_after = rw saved.is_pending (length_pushed table wrong rest (pushed right rest m.pending) ∙ length_pushed table right rest m.pending)

      old : (j : ℕ) → j < rest → CommandAt table (le_at 4 m.pending (4 * j))
      old j less = u.between.entries j (omega arith)

      right_entries : (j : ℕ) → j < high → CommandAt table (le_at 4 (pushed right rest m.pending) (4 * j))
      right_entries = back_entries table right rest m.pending right_fits_lem forced.right_fits old

      between_after : Between table list budget room after (memory_at m.variables m.cells ps')
      between_after =
          let h = u.between in
          record {
            variables_long = h.variables_long;
            cells_long = h.cells_long;
            pending_long = rw length_after h.pending_long;
            readable = forced.counted.readable;
            entries =
                rw (forced.is_height, saved.is_pending)
                (back_entries table wrong rest (pushed right rest m.pending) above forced.wrong_fits (pushed_entries table right rest m.pending old));
            few = omega (arith, forced.is_height, wrong_few);
            steps_fit = omega (arith, forced.counted.is_steps, forced.counted.steps_fit);
            used_fit = forced.counted.used_fit;
            shown_fit = forced.counted.shown_fit;
            saved_fit = omega (arith, forced.is_saved, forced.few);
          }

      saved_after : OpenSaves table board ss₀ after ss' hs'
      saved_after =
          let o = u.saved in
          record {
            holds = rw (forced.is_saved, add-one) (saved_hold savable ss' hs' is_saves saved.is_heights o.holds right_entries);
            eight = rw saved.is_heights (length-set hs st.saved high ∙ o.eight);
            long = λ rolling. rw (saved_long savable ss' hs' is_saves saved.is_heights) (o.long rolling);
            is_flag = λ rolling. forced.is_flag ∙ rw forced.is_saved (sym (lt-ltb 0 (st.saved + 1) (omega arith)));
            beyond = saved_beyond savable ss' hs' is_saves saved.is_heights ∙ o.beyond;
            same = saved_long savable ss' hs' is_saves saved.is_heights ∙ o.same;
          }

      pub underway_saved : {os' : List ℕ} → os' ≡ sets os st.shown (le 2 6 ++ (le 2 64 ++ le 2 (cond f.value 1 0)))
          → Underway table list board budget room whole ps₀ ss₀ os₀ after (memory_at m.variables m.cells ps') ss' hs' os'
      unfolding shown_bytes flat_map observation_bytes le
      underway_saved o =
          underway_step admitted u taken
          after (memory_at m.variables m.cells ps') (branch f.value ∷ []) machine_after forced.counted.steps_fit forced.counted.is_steps
          forced.counted.is_shown forced.counted.shown_fit between_after saved_after
          (o ∙ ap (sets os st.shown) (sym (append-nil (le 2 6 ++ (le 2 64 ++ le 2 (cond f.value 1 0))))))
          (rw saved.is_pending
          (pushed_beyond table wrong rest (pushed right rest m.pending) (4 * nodes_in table) (omega (arith, wrong_few))
          ∙ pushed_beyond table right rest m.pending (4 * nodes_in table) (omega (arith, right_few))))
          length_after

  -- ---- a rollback
  module _ (undoes : GoesBack table list board budget room st m) where
    -- the newest save
    abbrev newest : ℕ
    newest = st.saved - 1

    one_open : st.saved ≡ suc newest
    one_open = omega (arith, undoes.some)

    abbrev height : ℕ
    height = get_or hs newest 0

    abbrev rolled : Machine ℕ
    rolled = undone_to list board machine (saved_at table ss newest height) (saves_of table ss hs newest) st

    saves_open : saves_of table ss hs st.saved ≡ saved_at table ss newest height ∷ saves_of table ss hs newest
    unfolding saves_of
    saves_open = ap (saves_of table ss hs) one_open

    back : next (table_of table).counts (bytes room) machine ≡ goes rolled
    unfolding undone_to machine_of
    back =
        ap (λ saves. next (table_of table).counts (bytes room) (machine_of table list board st m saves u.seen)) saves_open
        ∙ undoes.is_next (saved_at table ss newest height) (saves_of table ss hs newest) u.seen (omega (arith, length_saves table ss hs newest, one_open)) u.is_shown

    open_places : PlacesHold table ss hs (suc newest)
    open_places = rw one_open at u.saved.holds

    pub height_few : height ≤ nodes_in table
    height_few = open_places.few newest (omega arith)

    restorable : Savable table m.variables m.cells m.pending ss hs newest height
    restorable =
        record {
          variables_long = u.between.variables_long;
          cells_long = u.between.cells_long;
          pending_long = u.between.pending_long;
          saves_long = u.saved.long undoes.is_rolling;
          eight = u.saved.eight;
          free = omega (arith, one_open, u.between.saved_fit);
          few = height_few;
        }

    pub restore_fits : {at : ℕ} → at ≡ place_at table newest → (4 * height ≤ length m.pending) × (at + length m.variables + length m.cells + 4 * height ≤ length ss)
    restore_fits is = rw is (saved_within restorable)

    pub undoable : budget < 2 ^ 32 → room < 2 ^ 64 → length list < 2 ^ 64 → Undoable st
    undoable budget_fits room_fits list_fits =
        record {
          some = undoes.some;
          steps_fit = omega (arith, undoes.steps_fit);
          used_fit = omega (arith, undoes.steps_fit, u.between.used_fit);
          at_fit = omega (arith, undoes.readable.within);
          shown_fit = omega (arith, undoes.shown_fit);
        }

    module _ (m' : Memory) {at : ℕ} (place : at ≡ place_at table newest)
        (restored : Restored ss at height m.variables m.cells m.pending m'.variables m'.cells m'.pending) where
      there : Restored ss (place_at table newest) height m.variables m.cells m.pending m'.variables m'.cells m'.pending
      there = subst (λ n. Restored ss n height m.variables m.cells m.pending m'.variables m'.cells m'.pending) place restored

      below_newest : ltb 1 st.saved ≡ ltb 0 newest
      below_newest = ap (ltb 1) one_open ∙ one_less newest
        where
          -- both tests tell the same
          one_less : (n : ℕ) → ltb 1 (suc n) ≡ ltb 0 n
          one_less zero = refl
          one_less (suc n) = lt-ltb 1 (suc (suc n)) (omega arith) ∙ sym (lt-ltb 0 (suc n) (omega arith))

      state_back : record { pending = pending_of table m'.pending height; variables = variables_in table m'.variables; cells = cells_in table m'.cells; flag = ltb 1 st.saved }
          ≡ saved_at table ss newest height
      unfolding variables_in cells_in
      state_back =
          (λ i. record { pending = pending_of table m'.pending height; variables = variables_in table m'.variables; cells = cells_in table m'.cells; flag = below_newest i })
          ∙ restored_state restorable there

      machine_back : machine_of table list board (undone_state st height) m' (saves_of table ss hs newest) (u.seen ++ (rolled_back ∷ [])) ≡ rolled
      unfolding machine_of undone_to undone_state
      machine_back =
          λ i. record {
            state = state_back i;
            saves = saves_of table ss hs newest;
            guide = guide_of board list (st.at + 4);
            steps = st.steps + 1;
            used = st.used + 1;
            shown = u.seen ++ (rolled_back ∷ []);
          }

      between_back : Between table list budget room (undone_state st height) m'
      unfolding undone_state
      between_back =
          let h = u.between in
          record {
            variables_long = restored_variables_long restorable there ∙ h.variables_long;
            cells_long = restored_cells_long restorable there ∙ h.cells_long;
            pending_long = rw (restored_pending_long restorable there) h.pending_long;
            readable = undoes.readable;
            entries = restored_entries restorable there open_places refl;
            few = height_few;
            steps_fit = omega (arith, undoes.steps_fit);
            used_fit = omega (arith, h.used_fit);
            shown_fit = undoes.shown_fit;
            saved_fit = omega (arith, h.saved_fit);
          }

      saved_back : OpenSaves table board ss₀ (undone_state st height) ss hs
      unfolding undone_state
      saved_back =
          let o = u.saved in
          record {
            holds = fewer_hold table ss hs newest open_places;
            eight = o.eight;
            long = o.long;
            is_flag = λ rolling. below_newest;
            beyond = o.beyond;
            same = o.same;
          }

      pub underway_back : {os' : List ℕ} → os' ≡ sets os st.shown (le 2 4 ++ le 2 67) → {after : MachineState} → after ≡ undone_state st height
          → Underway table list board budget room whole ps₀ ss₀ os₀ after m' ss hs os'
      unfolding shown_bytes flat_map observation_bytes le undone_state
      underway_back o is =
          rw is
          (underway_step admitted u back
          (undone_state st height) m' (rolled_back ∷ []) machine_back undoes.steps_fit refl refl undoes.shown_fit between_back saved_back
          (o ∙ ap (sets os st.shown) (sym (append-nil (le 2 4 ++ le 2 67))))
          (restored_beyond restorable there) (restored_pending_long restorable there))
