-- What the code says the next command does, and what that stands for: node numbers for commands, bytes for lists.
use Rattle.std.specs.Prelude.{◌≡◌, ℕ, ◌<◌, Bool, List, ◌∷◌, slice_set}
use Rattle.awhile.specs.Language.{Com}
use Rattle.awhile.specs.Nodes.{sort_of}
use Rattle.reader.specs.Index.{table_of, nodes_in, node_in, command_in}
use Rattle.awhile.specs.declared.Sort.TheVariants.{Command}
use Rattle.machine.specs.Observations.{Observation, branch, read_at, write_at}
use Rattle.machine.specs.Look.{Look, quiet, fork, get, put, look}
use Rattle.machine.specs.Steps.{State}
use Rattle.stepping.specs.Evaluation.{variables_in}
use Rattle.directives.specs.declared.change.Back.{Back}
use Rattle.directives.specs.declared.change.Back.TheVariants.{Nothing, One, Two}
use Rattle.directives.specs.declared.change.Change.{Change}
use Rattle.directives.specs.declared.change.Change.TheVariants.{PutBack, Assign, Store}
use Rattle.directives.specs.declared.change.Shown.{Shown}
use Rattle.directives.specs.declared.change.Shown.TheVariants.{Fork, Get, Put}
use Rattle.stepping.specs.declared.action.Action.{Action}
use Rattle.stepping.specs.declared.action.Action.TheVariants.{Quiet, Show}

-- the pending list with the commands of what is put back
unfoldable pub back_on : (table : List ℕ) → Back → List (Com ℕ) → List (Com ℕ)
back_on table Nothing rest = rest
back_on table (One n) rest = command_in table n ∷ rest
back_on table (Two m n) rest = command_in table n ∷ command_in table m ∷ rest

-- a state after a change, with the flag as given
unfoldable pub changed : (table : List ℕ) → Change → List (Com ℕ) → State ℕ → (flag : Bool) → State ℕ
changed table (PutBack b) rest s f = record { pending = back_on table b rest; variables = s.variables; cells = s.cells; flag = f }
changed table (Assign x v) rest s f = record { pending = rest; variables = slice_set s.variables x v; cells = s.cells; flag = f }
changed table (Store p v) rest s f = record { pending = rest; variables = s.variables; cells = slice_set s.cells p v; flag = f }

unfoldable pub observation_of : Shown → Observation
observation_of (Fork v y n) = branch v
observation_of (Get x a i) = read_at a i
observation_of (Put a i v) = write_at a i

unfoldable pub shown_look : (table : List ℕ) → Shown → List (Com ℕ) → Look ℕ
shown_look table (Fork v y n) rest = fork v (back_on table y rest) (back_on table n rest)
shown_look table (Get x a i) rest = get x a i rest
shown_look table (Put a i v) rest = put a i v rest

unfoldable pub quiet_look : (table : List ℕ) → Change → List (Com ℕ) → (variables : List ℕ) → Look ℕ
quiet_look table (PutBack b) rest vs = quiet (back_on table b rest) vs
quiet_look table (Assign x v) rest vs = quiet rest (slice_set vs x v)
quiet_look table (Store p v) rest vs = quiet rest vs

unfoldable pub look_of : (table : List ℕ) → Action → List (Com ℕ) → (variables : List ℕ) → Look ℕ
look_of table (Quiet c) rest vs = quiet_look table c rest vs
look_of table (Show s) rest vs = shown_look table s rest

-- a node that may be pending
pub record CommandAt (table : List ℕ) (n : ℕ) : Type 0 where
  pub inside : n < nodes_in table
  pub is_command : sort_of (node_in table n) ≡ Command

-- what is put back are commands of the table
abbrev pub BackFits : (table : List ℕ) → Back → Type 0
BackFits table Nothing = Unit {0}
BackFits table (One n) = CommandAt table n
BackFits table (Two m n) = CommandAt table m × CommandAt table n

-- a silent step stores into no cell
abbrev pub QuietFits : (table : List ℕ) → Change → Type 0
QuietFits table (PutBack b) = BackFits table b
QuietFits table (Assign x v) = x < (table_of table).variables
QuietFits table (Store p v) = ⊥

abbrev pub ShownFits : (table : List ℕ) → Shown → Type 0
ShownFits table (Fork v y n) = BackFits table y × BackFits table n
ShownFits table (Get x a i) = x < (table_of table).variables
ShownFits table (Put a i v) = Unit {0}

abbrev pub ActionFits : (table : List ℕ) → Action → Type 0
ActionFits table (Quiet c) = QuietFits table c
ActionFits table (Show s) = ShownFits table s

-- what the command of node n does
pub record Looked (table variables : List ℕ) (n : ℕ) (action : Action) : Type 0 where
  pub is_look : (rest : List (Com ℕ)) → look (command_in table n) rest (variables_in table variables) ≡ look_of table action rest (variables_in table variables)
  pub fits : ActionFits table action
