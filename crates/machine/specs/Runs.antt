-- Runs: "Checked before each step: nothing pending, finished; budget used, spent; shown step and no directive left, out of directives;
-- index or directive does not fit, stuck; observation longer than what is left of its buffer, full."
use Rattle.std.specs.Prelude.{ℕ, zero, suc, ◌+◌, Bool, true, false, cond, List, [], ◌∷◌, ◌++◌, length, leb}
use Rattle.std.proofs.Math.Option.{Option, none, some}
use Rattle.awhile.specs.Language.{Com}
use Rattle.machine.specs.Observations.{Observation, branch, read_at, write_at, rolled_back, observation_bytes, shown_bytes}
use Rattle.machine.specs.Directives.{is_rollback}
use Rattle.machine.specs.Look.{Look, quiet, fork, get, put, look}
use Rattle.machine.specs.Steps.{State, only_if, Taken, quietly, at_fork, at_get, at_put}
use Rattle.machine.specs.declared.Directive.{Directive}
use Rattle.machine.specs.declared.Directive.TheVariants.{Step}
use Rattle.machine.specs.declared.End.{End}
use Rattle.machine.specs.declared.End.TheVariants.{Finished, Spent, OutOfDirectives, Stuck, Full}

-- "The ends are numbered 1 to 5 in this order."
unfoldable pub end_number : End → ℕ
end_number Finished = 1
end_number Spent = 2
end_number OutOfDirectives = 3
end_number Stuck = 4
end_number Full = 5

-- the observation buffer: of so many bytes, or long enough for all ("observation buffers are long enough")
pub data Room : Type 0 where
  endless : Room
  bytes : ℕ → Room

unfoldable pub holds : Room → ℕ → Bool
holds endless n = true
holds (bytes room) n = leb n room

-- which machine it is: the plain one asks for no directive; the guessing one takes one for each shown step from what is left of its list;
-- the rolling one does so too, and one more for each rollback
pub data Guide : Type 0 where
  plain : Guide
  guessing : List Directive → Guide
  rolling : List Directive → Guide

-- a machine between two steps: its state, the open saves, what is left of its list, the steps taken, the directives used and the
-- observations shown so far. The newest save is first; only the rolling machine ever has one
pub record Machine (Note : Type 0) : Type 0 where
  pub state : State Note
  pub saves : List (State Note)
  pub guide : Guide
  pub steps : ℕ
  pub used : ℕ
  pub shown : List Observation

-- the next step: why it is not taken, or the machine after it
pub data Next (Note : Type 0) : Type 0 where
  over : End → Next Note
  goes : Machine Note → Next Note

-- a run that is over: why, and the machine as its last step left it. Ends are "Checked before each step", so nothing of the next one has happened
pub record Outcome (Note : Type 0) : Type 0 where
  pub end : End
  pub machine : Machine Note

-- "With 76 next": what guides the machine after it, where a rollback is next
unfoldable pub rollback_next : Guide → Option Guide
rollback_next plain = none
rollback_next (guessing ds) = none
rollback_next (rolling []) = none
rollback_next (rolling (d ∷ ds)) = only_if (is_rollback d) (rolling ds)

-- how many saves can be open: "at most eight are"
abbrev pub max_saves : ℕ
max_saves = 8

module _ {Note : Type 0} where
  -- one step further: "the machine's flag, step count and directives used move on together"
  unfoldable pub moved : Machine Note → State Note → (saves : List (State Note)) → Guide → (used_now : ℕ) → (shown_now : List Observation) → Machine Note
  moved m s ss g u os = record { state = s; saves = ss; guide = g; steps = m.steps + 1; used = m.used + u; shown = m.shown ++ os }

  -- full, or the step that shows this
  unfoldable pub if_room : Room → Machine Note → Observation → (after : Machine Note) → Next Note
  if_room room m o after = cond (holds room (length (shown_bytes m.shown) + length (observation_bytes o))) (goes after) (over Full)

  -- whether a save is open: "The flag is set exactly while a save is open" (`flag_while_open`)
  unfoldable pub some_open : (saves : List (State Note)) → Bool
  some_open [] = false
  some_open (s ∷ ss) = true

  -- the saves after a shown step. The rolling machine adds what the step gives to save: "at most eight are, and a force beyond them is stuck"
  unfoldable pub stacked : Guide → (kept saves : List (State Note)) → Option (List (State Note))
  stacked plain kept saves = some saves
  stacked (guessing ds) kept saves = some saves
  stacked (rolling ds) kept saves = only_if (leb (length kept + length saves) max_saves) (kept ++ saves)

  unfoldable pub stacked_if : Room → Machine Note → Observation → Guide → (used_now : ℕ) → State Note → Option (List (State Note)) → Next Note
  stacked_if room m o g u s none = over Stuck
  stacked_if room m o g u s (some ss) = if_room room m o (moved m s ss g u (o ∷ []))

  -- stuck, full, or the step
  unfoldable pub shown_if : Room → Machine Note → Observation → Guide → (used_now : ℕ) → Option (Taken Note) → Next Note
  shown_if room m o g u none = over Stuck
  shown_if room m o g u (some t) = stacked_if room m o g u t.state (stacked g t.kept m.saves)

  -- a shown step, by the directive that is next
  unfoldable pub shown_step : Room → Machine Note → Observation → (Directive → Option (Taken Note)) → Guide → Next Note
  shown_step room m o after plain = shown_if room m o plain 0 (after Step)
  shown_step room m o after (guessing []) = over OutOfDirectives
  shown_step room m o after (guessing (d ∷ ds)) = shown_if room m o (guessing ds) 1 (after d)
  shown_step room m o after (rolling []) = over OutOfDirectives
  shown_step room m o after (rolling (d ∷ ds)) = shown_if room m o (rolling ds) 1 (after d)

  unfoldable pub step_of : (counts : List ℕ) → Room → Machine Note → Look Note → Next Note
  step_of counts room m (quiet rest vs) = goes (moved m (quietly m.state rest vs) m.saves m.guide 0 [])
  step_of counts room m (fork v on_true on_false) = shown_step room m (branch v) (at_fork counts m.state v on_true on_false) m.guide
  step_of counts room m (get x a i rest) = shown_step room m (read_at a i) (at_get counts m.state x a i rest) m.guide
  step_of counts room m (put a i v rest) = shown_step room m (write_at a i) (at_put counts m.state a i v rest) m.guide

  -- "A step takes it off": the last entry of the list, here the first
  unfoldable pub next_of : (counts : List ℕ) → Room → Machine Note → List (Com Note) → Next Note
  next_of counts room m [] = over Finished
  next_of counts room m (c ∷ rest) = step_of counts room m (look c rest m.state.variables)

  -- 76 "is a step that returns to the newest saved state and shows observation 67"; "with no save open it is stuck"
  unfoldable pub back_to : Room → Machine Note → Guide → (saves : List (State Note)) → Next Note
  back_to room m g [] = over Stuck
  back_to room m g (s ∷ ss) = if_room room m rolled_back (moved m s ss g 1 (rolled_back ∷ []))

  -- 76 is taken as soon as it is next, "even when nothing is pending"
  unfoldable pub next_by : (counts : List ℕ) → Room → Machine Note → (rollback : Option Guide) → Next Note
  next_by counts room m none = next_of counts room m m.state.pending
  next_by counts room m (some g) = back_to room m g m.saves

  unfoldable pub next : (counts : List ℕ) → Room → Machine Note → Next Note
  next counts room m = next_by counts room m (rollback_next m.guide)

  -- with no budget left: finished where nothing is pending, else spent; "With 76 next, the budget is checked first"
  unfoldable pub end_without : (pending : List (Com Note)) → (rollback : Option Guide) → End
  end_without [] none = Finished
  end_without [] (some g) = Spent
  end_without (c ∷ rest) r = Spent

  -- the run of a machine with a budget
  unfoldable pub run : (counts : List ℕ) → Room → (budget : ℕ) → Machine Note → Outcome Note
  run counts room zero m = record { end = end_without m.state.pending (rollback_next m.guide); machine = m }
  run counts room (suc budget) m =
      elim (next counts room m) [
        | over e ↦ record { end = e; machine = m }
        | goes m' ↦ run counts room budget m'
      ]

  -- "A pending list starts with the root"; the flag, steps and directives used are 0, no save is open, and nothing is shown
  unfoldable pub started : Com Note → (variables cells : List ℕ) → Guide → Machine Note
  started c vs cs g =
      record { state = record { pending = c ∷ []; variables = vs; cells = cs; flag = false }; saves = []; guide = g; steps = 0; used = 0; shown = [] }
