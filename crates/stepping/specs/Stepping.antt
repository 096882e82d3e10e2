-- The machine as the code has it: a state by value, words in lent bytes, and what the next step is.
use Rattle.std.specs.Prelude.{◌≡◌, ℕ, zero, suc, ◌+◌, ◌-◌, ◌*◌, ◌^◌, ◌<◌, ◌≤◌, Bool, true, false, cond, List, [], ◌∷◌, ◌++◌, length, ◌==◌, nat_le, nat_lt, Option, None, Some, Result, Ok, Err}
use Rattle.bytes_le.specs.Numbers.{le_at, from_words}
use Rattle.awhile.specs.Language.{Com}
use Rattle.awhile.specs.Lists.{sum}
use Rattle.reader.specs.Index.{table_of, nodes_in, command_in}
use Rattle.machine.specs.Observations.{Observation, branch, rolled_back, shown_bytes}
use Rattle.machine.specs.Steps.{State}
use Rattle.machine.specs.Runs.{Machine, bytes, next, goes, run, max_saves}
use Rattle.stepping.specs.Evaluation.{variables_in}
use Rattle.stepping.specs.Actions.{changed, observation_of, CommandAt, BackFits}
use Rattle.directives.specs.Changes.{height_of}
use Rattle.directives.specs.Guiding.{Readable, guide_of}
use Rattle.machine.specs.declared.Board.{Board}
use Rattle.machine.specs.declared.Board.TheVariants.{Plain, Guessing, Rolling}
use Rattle.machine.specs.declared.End.{End}
use Rattle.machine.specs.declared.End.TheVariants.{Spent, Stuck, Full}
use Rattle.directives.specs.declared.change.Back.{Back}
use Rattle.directives.specs.declared.change.Change.{Change}
use Rattle.directives.specs.declared.change.Change.TheVariants.{PutBack, Assign, Store}
use Rattle.directives.specs.declared.change.Shown.{Shown}
use Rattle.directives.specs.declared.change.Shown.TheVariants.{Fork, Get, Put}
use Rattle.stepping.specs.declared.state.MachineState.{MachineState}
use Rattle.directives.specs.declared.fit.Forced.{Forced}
use Rattle.directives.specs.declared.guide.Consumed.{Consumed}
use Rattle.stepping.specs.declared.memory.Memory.{Memory as LentMemory}
use Rattle.stepping.specs.declared.memory.View.{View}
use Rattle.stepping.specs.declared.next.Next.{Next}
use Rattle.stepping.specs.declared.next.Next.TheVariants.{Goes, Saves, Undoes}
use Rattle.awhile.specs.Tables.{max_nodes}

-- ---- the state by value
unfoldable pub start_state : MachineState
start_state = record { flag = false; saved = 0; steps = 0; used = 0; at = 0; pending = 1; shown = 0 }

-- what a silent step consumes of a list
abbrev pub no_directive : Consumed
no_directive = record { used = 0; size = 0 }

-- a step can be taken: something is pending, and the counts fit
pub record Steppable (state : MachineState) (consumed : Consumed) (bytes_now : ℕ) : Type 0 where
  pub some : 0 < state.pending
  pub few : state.pending ≤ max_nodes
  pub steps_fit : state.steps + 1 < 2 ^ 32
  pub used_fit : state.used + consumed.used < 2 ^ 32
  pub at_fit : state.at + consumed.size < 2 ^ 64
  pub shown_fit : state.shown + bytes_now < 2 ^ 64

-- one step further: "the machine's flag, step count and directives used move on together"
unfoldable pub stepped_state : MachineState → Change → (flag : Bool) → (saved : ℕ) → Consumed → (bytes_now : ℕ) → MachineState
stepped_state s c f o u b =
    record { flag = f; saved = o; steps = s.steps + 1; used = s.used + u.used; at = s.at + u.size; pending = height_of c (s.pending - 1); shown = s.shown + b }

-- a rollback can be taken: a save is open, and the counts fit
pub record Undoable (state : MachineState) : Type 0 where
  pub some : 0 < state.saved
  pub steps_fit : state.steps + 1 < 2 ^ 32
  pub used_fit : state.used + 1 < 2 ^ 32
  pub at_fit : state.at + 4 < 2 ^ 64
  pub shown_fit : state.shown + 4 < 2 ^ 64

-- back at the newest save, with so many entries pending
unfoldable pub undone_state : MachineState → (pending : ℕ) → MachineState
undone_state s p =
    record { flag = nat_lt 1 s.saved; saved = s.saved - 1; steps = s.steps + 1; used = s.used + 1; at = s.at + 4; pending = p; shown = s.shown + 4 }

-- ---- shown steps and rollbacks, where something of their kind is next
unfoldable pub shown_size : Shown → ℕ
shown_size (Fork v y n) = 6
shown_size (Get x a i) = 10
shown_size (Put a i v) = 10

-- a shown step that fits
unfoldable pub show_step : (room : ℕ) → MachineState → Shown → Change → Consumed → Result Next End
show_step room s shown c u =
    cond (nat_lt (room - s.shown) (shown_size shown)) (Err Full) (Ok (Goes c (Some shown) (stepped_state s c s.flag s.saved u (shown_size shown))))

-- a branch that is forced the wrong way
unfoldable pub wrong_step : (room : ℕ) → MachineState → Shown → (wrong : Back) → Consumed → Result Next End
wrong_step room s shown wrong u =
    cond (nat_lt (room - s.shown) 6) (Err Full) (Ok (Goes (PutBack wrong) (Some shown) (stepped_state s (PutBack wrong) true s.saved u 6)))

-- the same, with its right side saved
unfoldable pub save_step : (room : ℕ) → MachineState → Forced → Consumed → Result Next End
save_step room s f u =
    cond (nat_le max_saves s.saved) (Err Stuck)
    (cond (nat_lt (room - s.shown) 6) (Err Full)
    (Ok (Saves f (stepped_state s (PutBack f.wrong) true (s.saved + 1) u 6))))

unfoldable pub force_step : Board → (room : ℕ) → MachineState → Shown → Forced → Consumed → Result Next End
force_step Plain room s shown f u = wrong_step room s shown f.wrong u
force_step Guessing room s shown f u = wrong_step room s shown f.wrong u
force_step Rolling room s shown f u = save_step room s f u

-- a rollback
unfoldable pub back_step : (room budget : ℕ) → MachineState → Result Next End
back_step room budget s =
    cond (nat_le budget s.steps) (Err Spent)
    (cond (s.saved == 0) (Err Stuck)
    (cond (nat_lt (room - s.shown) 4) (Err Full)
    (Ok Undoes)))

-- ---- the lent bytes
-- The slices that every run works in; all contracts take them as one. Save words stand beside them: what the next step is does not hang on them.
pub record Memory : Type 0 where
  pub variables : List ℕ
  pub cells : List ℕ
  pub pending : List ℕ

abbrev pub memory_at : (variables cells pending : List ℕ) → Memory
memory_at vs cs ps = record { variables = vs; cells = cs; pending = ps }

-- what stands in them
abbrev pub memory_of : LentMemory → Memory
memory_of m = memory_at m.variables.now m.cells.now m.pending.now

abbrev pub memory_seen : View → Memory
memory_seen v = memory_at v.variables.now v.cells.now v.pending.now

-- ---- what a state stands for, with the lent bytes
-- the first so many entries, the next command first
unfoldable pub pending_of : (table pending : List ℕ) → (count : ℕ) → List (Com ℕ)
pending_of table pending zero = []
pending_of table pending (suc k) = command_in table (le_at 4 pending (4 * k)) ∷ pending_of table pending k

unfoldable pub cells_in : (table cells : List ℕ) → List ℕ
cells_in table cells = from_words (sum (table_of table).counts) cells

unfoldable pub machine_of : (table list : List ℕ) → Board → MachineState → Memory → (saves : List (State ℕ)) → List Observation → Machine ℕ
machine_of table list board st m ss os =
    record {
      state = record { pending = pending_of table m.pending st.pending; variables = variables_in table m.variables; cells = cells_in table m.cells; flag = st.flag };
      saves = ss;
      guide = guide_of board list st.at;
      steps = st.steps;
      used = st.used;
      shown = os;
    }

-- ---- what a step does
unfoldable pub seen_list : Option Shown → List Observation
seen_list None = []
seen_list (Some s) = observation_of s ∷ []

-- a change that can be made to the lent bytes
abbrev pub ChangeFits : (table : List ℕ) → Change → Type 0
ChangeFits table (PutBack b) = BackFits table b
ChangeFits table (Assign x v) = x < (table_of table).variables
ChangeFits table (Store p v) = p < sum (table_of table).counts

-- the machine after a step: its command taken off, its change made
unfoldable pub stepped_to : (table list : List ℕ) → Board → List (Com ℕ) → Machine ℕ → Change → Option Shown → MachineState → Machine ℕ
stepped_to table list board rest m c seen st =
    record {
      state = changed table c rest m.state st.flag;
      saves = m.saves;
      guide = guide_of board list st.at;
      steps = st.steps;
      used = st.used;
      shown = m.shown ++ seen_list seen;
    }

-- the machine after a force that saves the right side of its branch and takes the wrong one
unfoldable pub saved_to : (table list : List ℕ) → Board → List (Com ℕ) → Machine ℕ → Forced → MachineState → Machine ℕ
saved_to table list board rest m f st =
    record {
      state = changed table (PutBack f.wrong) rest m.state st.flag;
      saves = changed table (PutBack f.right) rest m.state m.state.flag ∷ m.saves;
      guide = guide_of board list st.at;
      steps = st.steps;
      used = st.used;
      shown = m.shown ++ (branch f.value ∷ []);
    }

-- the machine after a rollback to a save
unfoldable pub undone_to : (list : List ℕ) → Board → Machine ℕ → State ℕ → (saves : List (State ℕ)) → MachineState → Machine ℕ
undone_to list board m s ss st =
    record { state = s; saves = ss; guide = guide_of board list (st.at + 4); steps = st.steps + 1; used = st.used + 1; shown = m.shown ++ (rolled_back ∷ []) }

-- ---- between two steps
pub record Between (table list : List ℕ) (budget room : ℕ) (state : MachineState) (m : Memory) : Type 0 where
  pub variables_long : length m.variables ≡ 4 * (table_of table).variables
  pub cells_long : length m.cells ≡ 4 * sum (table_of table).counts
  pub pending_long : 4 * nodes_in table ≤ length m.pending
  pub readable : Readable list state.at
  pub entries : (j : ℕ) → j < state.pending → CommandAt table (le_at 4 m.pending (4 * j))
  pub few : state.pending ≤ nodes_in table
  pub steps_fit : state.steps ≤ budget
  pub used_fit : state.used ≤ state.steps
  pub shown_fit : state.shown ≤ room
  pub saved_fit : state.saved ≤ max_saves

module _ (table list : List ℕ) (board : Board) (budget room : ℕ) (state : MachineState) (m : Memory) where
  -- the run is over, whatever is saved and was shown
  pub record RunEnds (end : End) : Type 0 where
    pub is_run : (ss : List (State ℕ)) (os : List Observation) → length ss ≡ state.saved → length (shown_bytes os) ≡ state.shown
        → run (table_of table).counts (bytes room) (budget - state.steps) (machine_of table list board state m ss os)
        ≡ record { end = end; machine = machine_of table list board state m ss os }

  -- the counts after a step that shows so many bytes
  pub record Counted (after : MachineState) (bytes_now : ℕ) : Type 0 where
    pub some : 0 < state.pending
    pub is_steps : after.steps ≡ state.steps + 1
    pub steps_fit : state.steps < budget
    pub used_fit : after.used ≤ after.steps
    pub readable : Readable list after.at
    pub is_shown : after.shown ≡ state.shown + bytes_now
    pub shown_fit : after.shown ≤ room

  -- a step of the program is taken
  pub record Advances (change : Change) (seen : Option Shown) (after : MachineState) : Type 0 where
    pub is_next : (ss : List (State ℕ)) (os : List Observation) → length ss ≡ state.saved → length (shown_bytes os) ≡ state.shown
        → next (table_of table).counts (bytes room) (machine_of table list board state m ss os)
        ≡ goes (stepped_to table list board (pending_of table m.pending (state.pending - 1)) (machine_of table list board state m ss os) change seen after)
    pub fits : ChangeFits table change
    pub is_height : after.pending ≡ height_of change (state.pending - 1)
    pub is_saved : after.saved ≡ state.saved
    -- only a force sets the flag, and on the rolling board it saves
    pub is_flag : board ≡ Rolling → after.flag ≡ state.flag
    pub counted : Counted after (length (shown_bytes (seen_list seen)))

  -- the right side of a branch is saved and the wrong one taken
  pub record SavesRight (forced : Forced) (after : MachineState) : Type 0 where
    pub is_next : (ss : List (State ℕ)) (os : List Observation) → length ss ≡ state.saved → length (shown_bytes os) ≡ state.shown
        → next (table_of table).counts (bytes room) (machine_of table list board state m ss os)
        ≡ goes (saved_to table list board (pending_of table m.pending (state.pending - 1)) (machine_of table list board state m ss os) forced after)
    pub is_rolling : board ≡ Rolling
    pub right_fits : BackFits table forced.right
    pub wrong_fits : BackFits table forced.wrong
    pub is_height : after.pending ≡ height_of (PutBack forced.wrong) (state.pending - 1)
    pub few : state.saved < max_saves
    pub is_saved : after.saved ≡ state.saved + 1
    pub is_flag : after.flag ≡ true
    pub counted : Counted after 6

  -- the machine goes back to its newest save
  pub record GoesBack : Type 0 where
    pub is_next : (s : State ℕ) (ss : List (State ℕ)) (os : List Observation) → suc (length ss) ≡ state.saved → length (shown_bytes os) ≡ state.shown
        → next (table_of table).counts (bytes room) (machine_of table list board state m (s ∷ ss) os)
        ≡ goes (undone_to list board (machine_of table list board state m (s ∷ ss) os) s ss state)
    pub is_rolling : board ≡ Rolling
    pub some : 0 < state.saved
    pub steps_fit : state.steps < budget
    pub readable : Readable list (state.at + 4)
    pub shown_fit : state.shown + 4 ≤ room

  abbrev pub NextAs : Result Next End → Type 0
  NextAs (Err e) = RunEnds e
  NextAs (Ok (Goes c seen st)) = Advances c seen st
  NextAs (Ok (Saves f st)) = SavesRight f st
  NextAs (Ok Undoes) = GoesBack
