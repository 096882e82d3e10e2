-- Demand 3: "The hardened program shows the same from two states, whatever the attacker picks." It is said once for every board that takes
-- a list of directives, because P5 asks the same of the machine that rolls back.
use Rattle.std.specs.Prelude.{ℕ, List, [], ◌∷◌, ◌++◌, ◌≡◌, length}
use Rattle.awhile.specs.Lists.{sum}
use Rattle.awhile.specs.Tables.{Table}
use Rattle.awhile.specs.Trees.{root_of}
use Rattle.awhile.specs.declared.Labelling.{Labelling}
use Rattle.labels.specs.Rules.{AgreeOn}
use Rattle.machine.specs.Observations.{Observation}
use Rattle.machine.specs.Runs.{Room, endless, Guide, plain, run, started}
use Rattle.machine.specs.Prefixes.{OneBegins}
use Rattle.machine.specs.declared.Directive.{Directive}
use Rattle.masks.specs.Covering.{AgreeOnArrays}

-- what a table's program shows on a machine, from a state, within a budget and with a buffer of some room
unfoldable pub shown_on : Table → Room → Guide → (variables cells : List ℕ) → (budget : ℕ) → List Observation
shown_on t room g vs cs n = (run t.counts room n (started (root_of t) vs cs g)).machine.shown

-- what it shows without guessing; the buffer is long enough
unfoldable pub plainly_shown : Table → (variables cells : List ℕ) → (budget : ℕ) → List Observation
plainly_shown t vs cs n = shown_on t endless plain vs cs n

-- "A state is a value for each of the original's variables and cells. A variable or array is labelled public if its bit in the input's
-- labels record is 0": two states that agree on every variable and array labelled public
pub record AgreeingStates (t : Table) (l : Labelling) (vs cs ws ds : List ℕ) : Type 0 where
  pub left_variables : length vs ≡ t.variables
  pub right_variables : length ws ≡ t.variables
  pub left_cells : length cs ≡ sum t.counts
  pub right_cells : length ds ≡ sum t.counts
  pub on_variables : AgreeOn l vs ws
  pub on_arrays : AgreeOnArrays l t.counts cs ds

-- The claim about a board, an original table and a hardened one: for every two states that agree, where the plain runs of the original from
-- the two are related at every two budgets, for every list of directives and every two budgets the runs of the hardened one on this board,
-- from f = 0 and the machine's flag 0, are related. The rooms of the two observation buffers are any; `endless` is one that is long enough.
pub record ShowsTheSame (board : List Directive → Guide) (l : Labelling) (original hardened : Table) : Type 0 where
  pub related : (vs cs ws ds : List ℕ) → AgreeingStates original l vs cs ws ds
      → ((n m : ℕ) → OneBegins (plainly_shown original vs cs n) (plainly_shown original ws ds m))
      → (directives : List Directive) (n m : ℕ) (room other : Room)
      → OneBegins (shown_on hardened room (board directives) (vs ++ (0 ∷ [])) cs n) (shown_on hardened other (board directives) (ws ++ (0 ∷ [])) ds m)
