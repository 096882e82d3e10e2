-- What the cases claim of a table: whatever the answer slice, and in every buffer with the room.
use Rattle.std.specs.Prelude.{ℕ, ◌≤◌, ◌≡◌, refl, List, [], ◌∷◌, length}
use Rattle.std.proofs.Common.{le-leb}
use Rattle.bytes_le.specs.Numbers.{le_at}
use Rattle.awhile.specs.Refusals.{got}
use Rattle.entries.specs.Answers.{answered}
use Rattle.entries.specs.Running.{Lent, Ran, run_entry, guess_entry}
use Rattle.entries.specs.Rolling.{rollback_entry}
use Rattle.entries.specs.Writing.{Written, writing, written_all, sheet_entry, questions_entry, harden_entry, costs_entry}

-- the table is of so many nodes and so many bytes
pub record Sized (table : List ℕ) (nodes bytes : ℕ) : Type 0 where
  pub nodes_said : le_at 2 table 8 ≡ nodes
  pub bytes_held : length table ≡ bytes

-- an entry's call answers 0 and the length of these bytes, and leaves them at the front of its buffer
abbrev pub Writes : (entry : (table buffer answer : List ℕ) → Written) → (table bytes : List ℕ) → Type 0
Writes entry table bytes =
    (buffer answer : List ℕ) → length bytes ≤ length buffer → entry table buffer answer ≡ written_all bytes buffer answer

-- the table's label sheet is this one
abbrev pub HasSheet : (table sheet : List ℕ) → Type 0
HasSheet = Writes sheet_entry

-- a list of questions about the table gets these answers
abbrev pub GetsAnswers : (table questions answers : List ℕ) → Type 0
GetsAnswers table questions = Writes (λ t. questions_entry t questions) table

-- the table hardens to this one
abbrev pub HardensTo : (table hardened : List ℕ) → Type 0
HardensTo = Writes harden_entry

-- the table's marks that cost are listed by these bytes
abbrev pub ListsMarks : (table marks : List ℕ) → Type 0
ListsMarks = Writes costs_entry

-- an entry's call is refused by this number, at this place, and leaves its buffer as it was
abbrev pub Refuses : (entry : (table buffer answer : List ℕ) → Written) → (table : List ℕ) → (number at : ℕ) → Type 0
Refuses entry table number at =
    (buffer answer : List ℕ) →
    entry table buffer answer ≡ record { result = number; buffer = buffer; answer = answered (number ∷ at ∷ []) answer }

-- what the call of an entry that runs a table leaves where it is refused so: its slices as they were
abbrev pub refused_run : (number at : ℕ) → Lent → (answer : List ℕ) → Ran
refused_run number at lent answer = record { result = number; lent = lent; answer = answered (number ∷ at ∷ []) answer }

-- every entry's call is refused so; all lent memory is unchanged
abbrev pub AllRefuse : (table : List ℕ) → (number at : ℕ) → Type 0
AllRefuse table number at =
    Refuses sheet_entry table number at × ((questions : List ℕ) → Refuses (λ t. questions_entry t questions) table number at) × Refuses harden_entry table number at
    × ((lent : Lent) (budget : ℕ) (answer : List ℕ) → run_entry table lent budget answer ≡ refused_run number at lent answer)
    × ((directives : List ℕ) (lent : Lent) (budget : ℕ) (answer : List ℕ) → guess_entry table directives lent budget answer ≡ refused_run number at lent answer)
    × ((directives : List ℕ) (lent : Lent) (saves : List ℕ) (budget : ℕ) (answer : List ℕ) →
    rollback_entry table directives lent saves budget answer ≡ record { ran = refused_run number at lent answer; saves = saves })

-- a table's sizes, read off it
pub sized : (table : List ℕ) → Sized table (le_at 2 table 8) (length table)
sized table = record { nodes_said = refl; bytes_held = refl }

-- bytes for which there is room are written
pub written :
    (bytes : List ℕ) (buffer answer : List ℕ) → length bytes ≤ length buffer → writing (got bytes) buffer answer ≡ written_all bytes buffer answer
unfolding writing
written bytes buffer answer room = rw (le-leb (length bytes) (length buffer) room)
