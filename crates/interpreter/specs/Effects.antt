-- What a step does to lent bytes: its change to variables, cells and the pending list, and what it shows.
use Rattle.std.specs.Prelude.{ℕ, Option, Some, None, ◌+◌, ◌*◌, ◌^◌, ◌≤◌, ◌<◌, ◌≡◌, List, [], ◌++◌, length, set, take}
use Rattle.std.proofs.lemmas.List.Edits.{sets}
use Rattle.bytes_le.specs.Numbers.{le}
use Rattle.machine.specs.Observations.{observation_bytes}
use Rattle.stepping.specs.Actions.{observation_of}
use Rattle.stepping.specs.Stepping.{Memory, memory_at}
use Rattle.directives.specs.Changes.{height_of}
use Rattle.directives.specs.declared.change.Back.{Back}
use Rattle.directives.specs.declared.change.Back.TheVariants.{One, Two}
use Rattle.directives.specs.declared.change.Back.TheVariants.{Nothing as NoBack}
use Rattle.directives.specs.declared.change.Change.{Change}
use Rattle.directives.specs.declared.change.Change.TheVariants.{PutBack, Assign, Store}
use Rattle.directives.specs.declared.change.Shown.{Shown}
use Rattle.interpreter.specs.declared.memory.Kind.{Kind}
use Rattle.interpreter.specs.declared.memory.Kind.TheVariants.{Branch, Read, Write, Rollback}
use Rattle.awhile.specs.Tables.{max_nodes}

-- there is room for what is put back, and its numbers fit words
abbrev pub PushFits : Back → (rest long : ℕ) → Type 0
PushFits NoBack rest long = Unit {0}
PushFits (One n) rest long = (n < 2 ^ 32) × (4 * rest + 4 ≤ long)
PushFits (Two m n) rest long = (m < 2 ^ 32) × (n < 2 ^ 32) × (4 * rest + 8 ≤ long)

-- the pending bytes with it
unfoldable pub pushed : Back → (rest : ℕ) → List ℕ → List ℕ
pushed NoBack rest ps = ps
pushed (One n) rest ps = sets ps (4 * rest) (le 4 n)
pushed (Two m n) rest ps = sets (sets ps (4 * rest) (le 4 m)) (4 * rest + 4) (le 4 n)

-- there is room for a change, where the command stood above so many others
abbrev pub PerformFits : Change → (rest : ℕ) → Memory → Type 0
PerformFits (PutBack b) rest m = PushFits b rest (length m.pending)
PerformFits (Assign x v) rest m = 4 * x + 4 ≤ length m.variables
PerformFits (Store p v) rest m = 4 * p + 4 ≤ length m.cells

-- the bytes after it
unfoldable pub performed : Change → (rest : ℕ) → Memory → Memory
performed (PutBack b) rest m = memory_at m.variables m.cells (pushed b rest m.pending)
performed (Assign x v) rest m = memory_at (sets m.variables (4 * x) (le 4 v)) m.cells m.pending
performed (Store p v) rest m = memory_at m.variables (sets m.cells (4 * p) (le 4 v)) m.pending

-- the value that is stored fits a word
abbrev pub WordFits : Change → Type 0
WordFits (PutBack b) = Unit {0}
WordFits (Assign x v) = v < 2 ^ 32
WordFits (Store p v) = v < 2 ^ 32

pub record Performed (change : Change) (rest : ℕ) (m m' : Memory) : Type 0 where
  pub memory : m' ≡ performed change rest m
  pub word : WordFits change

-- a force that saves the right side of its branch at an offset, where its command stood above so many others: what it asks
pub record SaveFits (right wrong : Back) (rest place at : ℕ) (m : Memory) (saves heights : List ℕ) : Type 0 where
  pub right_fits : PushFits right rest (length m.pending)
  pub wrong_fits : PushFits wrong rest (length m.pending)
  pub high : height_of (PutBack right) rest ≤ max_nodes
  pub within : 4 * height_of (PutBack right) rest ≤ length m.pending
  pub room : at + length m.variables + length m.cells + 4 * height_of (PutBack right) rest ≤ length saves
  pub placed : place < length heights

-- and what it leaves: the state with the right side put back is saved, and its height is noted; then the wrong side is put back
pub record RightSaved (right wrong : Back) (rest place at : ℕ) (m : Memory) (saves heights pending' saves' heights' : List ℕ) : Type 0 where
  pub is_pending : pending' ≡ pushed wrong rest (pushed right rest m.pending)
  pub is_saves : saves' ≡ sets saves at (m.variables ++ (m.cells ++ take (4 * height_of (PutBack right) rest) (pushed right rest m.pending)))
  pub is_heights : heights' ≡ set heights place (height_of (PutBack right) rest)

-- "Observations: 64 branch (value), 65 read, 66 write", and 67 for a rollback
abbrev pub kind_number : Kind → ℕ
kind_number Branch = 64
kind_number Read = 65
kind_number Write = 66
kind_number Rollback = 67

-- the bytes of what a step shows
unfoldable pub seen_bytes : Option Shown → List ℕ
seen_bytes None = []
seen_bytes (Some s) = observation_bytes (observation_of s)
