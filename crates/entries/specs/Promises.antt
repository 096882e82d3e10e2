-- WHAT THE SIX ENTRIES PROMISE, on any bytes: the result, each lent slice and the answer slice at exit, by an equation with the entry's
-- definition; of a label sheet and of answers to questions, that the labels are the least; of a table that was hardened, the demands; and of a run
-- that rolls back, which saves are open. Each says besides that a file which does not say version 2 reads as document 01 has it (`older`).
-- Nothing is left free, the place of a refusal by 6 no more than any other (awhile/proofs/Lowest says whose record it is).
use Rattle.std.specs.Prelude.{ℕ, ◌*◌, ◌<◌, ◌≤◌, false, cond, List, [], ◌∷◌, ◌↔◌, ◌≡◌, length, get_or, take}
use Rattle.std.proofs.Math.Option.{some}
use Rattle.awhile.specs.Language.{Com}
use Rattle.awhile.specs.Refusals.{got}
use Rattle.awhile.specs.Tables.{Table, read_table}
use Rattle.awhile.specs.VersionOne.{ReadsAsBefore}
use Rattle.awhile.specs.Trees.{root_of}
use Rattle.awhile.specs.declared.Labelling.{Labelling}
use Rattle.labels.specs.Annotation.{Entry}
use Rattle.labels.specs.Labellings.{Mark}
use Rattle.labels.specs.Rules.{LeastAnnotation}
use Rattle.labels.specs.Sheet.{sheet_of}
use Rattle.labels.specs.Questions.{max_questions, pair_at, question_at, TellsLabel}
use Rattle.machine.specs.Steps.{State}
use Rattle.machine.specs.Directives.{read_rolling_directives}
use Rattle.machine.specs.Runs.{max_saves, rolling, some_open}
use Rattle.machine.specs.Memory.{saves_after}
use Rattle.machine.specs.declared.Directive.{Directive}
use Rattle.masks.specs.Hardening.{hardened_program}
use Rattle.masks.specs.Demands.{Demands}
use Rattle.masks.specs.Costs.{marks_bytes, TellsCosts}
use Rattle.entries.specs.Answers.{answered}
use Rattle.entries.specs.Writing.{Written, written_all, sheet_entry, questions_entry, harden_entry, costs_entry}
use Rattle.entries.specs.Running.{Lent, Ran, run_in, run_entry, guess_entry}
use Rattle.entries.specs.Rolling.{RanSaving, save_size, rollback_entry}
use Rattle.entries.specs.Security.{CallsShowTheSame, flow_guess, flow_rollback}

-- ---- what stands at exit
-- of an entry that writes into a buffer: the result, the buffer and the answer slice
abbrev pub written_at : (result : ℕ) → (buffer answer : List ℕ) → Written
written_at result buffer answer = record { result = result; buffer = buffer; answer = answer }

-- of an entry that runs a table: the result, the lent slices and the answer slice
abbrev pub lent_at : (variables cells pending observations : List ℕ) → Lent
lent_at vs cs ps os = record { variables = vs; cells = cs; pending = ps; observations = os }

abbrev pub ran_at : (result : ℕ) → Lent → (answer : List ℕ) → Ran
ran_at result lent answer = record { result = result; lent = lent; answer = answer }

-- of the entry that rolls back: the save slice besides
abbrev pub ran_saving_at : (result : ℕ) → Lent → (saves answer : List ℕ) → RanSaving
ran_saving_at result lent saves answer = record { ran = ran_at result lent answer; saves = saves }

-- ---- the label sheet
-- What a caller of the sheet entry has where it answers 0, from the table's bytes and the answer slice at entry and what stands at exit
pub record SheetInto (table answer : List ℕ) (exit : Written) : Type 0 where
  -- the table that was accepted
  pub original : Table
  pub reads : read_table table ≡ got original
  -- an annotation of its program, and the labelling after it, from the labels record's labelling and in a public context: they satisfy the rules,
  -- they are the least that do, and every loop in it settles
  pub annotation : Com Entry
  pub final : Labelling
  pub labels : LeastAnnotation (root_of original) false original.labels annotation final
  -- how many bytes were written, as the answer says, and so many bytes of the buffer at exit are the sheet of this annotation
  pub size : ℕ
  pub answers : exit.answer ≡ answered (0 ∷ size ∷ []) answer
  pub sheet : take size exit.buffer ≡ sheet_of original.version (length original.nodes) annotation final

-- THE PROMISE of the sheet entry: all that stands at exit, by an equation; and where it answers 0, the least labels
pub record Sheets (table sheet answer : List ℕ) (result : ℕ) (sheet' answer' : List ℕ) : Type 0 where
  pub older : ReadsAsBefore table
  pub writes : written_at result sheet' answer' ≡ sheet_entry table sheet answer
  pub labels : result ≡ 0 → SheetInto table answer (written_at result sheet' answer')

-- ---- label questions
-- What a caller of the questions entry has where it answers 0, from the table's bytes, the list and the answer slice at entry and what stands at exit
pub record AnswersInto (table questions answer : List ℕ) (exit : Written) : Type 0 where
  -- the table that was accepted
  pub original : Table
  pub reads : read_table table ≡ got original
  -- the least annotation of its program, from the labels record's labelling and in a public context
  pub annotation : Com Entry
  pub final : Labelling
  pub labels : LeastAnnotation (root_of original) false original.labels annotation final
  -- how many pairs the list has, as the answer says: no more than 256, and the list ends with the last
  pub pairs : ℕ
  pub few : pairs ≤ max_questions
  pub whole : length questions ≡ 4 * pairs
  pub answers : exit.answer ≡ answered (0 ∷ pairs ∷ []) answer
  -- byte i of the buffer tells the label that pair i asks for, by this annotation
  pub tells : (i : ℕ) → i < pairs → TellsLabel annotation (question_at questions i) (get_or exit.buffer i 0)
  -- "A pair asked alone gets the byte it gets in a list": in any buffer of at least one byte
  pub alone : (i : ℕ) → i < pairs → (buffer slice : List ℕ) → 1 ≤ length buffer
      → questions_entry table (pair_at questions i) buffer slice ≡ written_all (get_or exit.buffer i 0 ∷ []) buffer slice

-- THE PROMISE of the questions entry: all that stands at exit, by an equation; and where it answers 0, the least labels, each pair as if it were asked alone
pub record AnswersQuestions (table questions labels answer : List ℕ) (result : ℕ) (labels' answer' : List ℕ) : Type 0 where
  pub older : ReadsAsBefore table
  pub writes : written_at result labels' answer' ≡ questions_entry table questions labels answer
  pub tells : result ≡ 0 → AnswersInto table questions answer (written_at result labels' answer')

-- ---- the hardened table
-- What a caller of the hardening entry has where it answers 0, from the table's bytes and the answer slice at entry and what stands at exit
pub record HardenedInto (table answer : List ℕ) (exit : Written) : Type 0 where
  -- the table that was accepted
  pub original : Table
  pub reads : read_table table ≡ got original
  -- how many bytes were written, as the answer says
  pub size : ℕ
  pub answers : exit.answer ≡ answered (0 ∷ size ∷ []) answer
  -- so many bytes of the buffer at exit are a table of the hardened program, which runs as the original does and meets demand 3
  pub demands : Demands original (hardened_program original) (take size exit.buffer)
  -- and demand 3 holds of calls of the guessing entry on them
  pub calls : CallsShowTheSame flow_guess original.labels original (take size exit.buffer)
  -- P5: "A user of this machine gets from a hardened program what demand 3 gives on the forward one": of calls of the rollback machine's entry
  pub calls_rolling : CallsShowTheSame flow_rollback original.labels original (take size exit.buffer)

-- What a caller of the hardening entry has where it answers 9, from the table's bytes: "Refusal 9 now means 64 variables", so no version 1 table gets it
pub record NoneFree (table : List ℕ) : Type 0 where
  pub original : Table
  pub reads : read_table table ≡ got original
  pub variables : original.variables ≡ 64
  pub version : original.version ≡ 2

-- THE PROMISE of the hardening entry: all that stands at exit, by an equation; where it answers 0, the demands; and where it answers 9, 64 variables
pub record Hardens (table out answer : List ℕ) (result : ℕ) (out' answer' : List ℕ) : Type 0 where
  pub older : ReadsAsBefore table
  pub writes : written_at result out' answer' ≡ harden_entry table out answer
  pub demands : result ≡ 0 → HardenedInto table answer (written_at result out' answer')
  pub none_free : result ≡ 9 → NoneFree table

-- ---- the marks that cost
-- What a caller of the costs entry has where it answers 0, from the table's bytes and the answer slice at entry and what stands at exit
pub record CostsInto (table answer : List ℕ) (exit : Written) : Type 0 where
  -- the table that was accepted
  pub original : Table
  pub reads : read_table table ≡ got original
  -- its marks of which each, if lifted, changes the hardened nodes, and no others
  pub marks : List Mark
  pub tells : TellsCosts original marks
  -- "2 bytes each": so many bytes were written, as the answer says, and so many bytes of the buffer at exit are the numbers of these marks
  pub answers : exit.answer ≡ answered (0 ∷ 2 * length marks ∷ []) answer
  pub numbers : take (2 * length marks) exit.buffer ≡ marks_bytes marks

-- What the costs entry is to promise (no code does yet): all that stands at exit, by an equation; where it answers 0, the marks that cost; and it
-- refuses a table as hardening does
pub record ListsCosts (table list answer : List ℕ) (result : ℕ) (list' answer' : List ℕ) : Type 0 where
  pub older : ReadsAsBefore table
  pub writes : written_at result list' answer' ≡ costs_entry table list answer
  pub costs : result ≡ 0 → CostsInto table answer (written_at result list' answer')
  -- "Refusals 8 and 9 are given as in hardening", and those of a table that is not read: exactly where the hardening entry gives them, into any buffer
  pub as_hardening : (n : ℕ) → 0 < n → n < 10 → (out slice : List ℕ) → (result ≡ n) ↔ ((harden_entry table out slice).result ≡ n)

-- ---- the entries that run a table
-- THE PROMISE of the plain machine's entry: all that stands at exit, by an equation
pub record Runs (table : List ℕ) (lent : Lent) (budget : ℕ) (answer : List ℕ) (result : ℕ) (lent' : Lent) (answer' : List ℕ) : Type 0 where
  pub older : ReadsAsBefore table
  pub runs : ran_at result lent' answer' ≡ run_entry table lent budget answer

-- THE PROMISE of the guessing machine's entry: the same
pub record Guesses (table directives : List ℕ) (lent : Lent) (budget : ℕ) (answer : List ℕ) (result : ℕ) (lent' : Lent) (answer' : List ℕ) : Type 0 where
  pub older : ReadsAsBefore table
  pub guesses : ran_at result lent' answer' ≡ guess_entry table directives lent budget answer

-- What a caller of the rollback machine's entry has where it answers 0, from the table's bytes, the list, the lent slices, the budget and the
-- answer slice at entry and what stands at exit. Every point of a run is the end of the call with a smaller budget, so this holds at every point of every run.
pub record OpenSaves (table directives : List ℕ) (lent : Lent) (saves : List ℕ) (budget : ℕ) (answer : List ℕ) (exit : RanSaving) : Type 0 where
  -- the table and the list that were accepted
  pub original : Table
  pub reads : read_table table ≡ got original
  pub script : List Directive
  pub scripted : read_rolling_directives directives ≡ some script
  -- the saves that the run leaves open, the newest first: "at most eight are"
  pub saved : List (State ℕ)
  pub left : saved ≡ (run_in original lent budget (rolling script)).machine.saves
  pub eight : length saved ≤ max_saves
  -- so many places of the save words hold them, and the rest of the eight is zeros
  pub places : exit.saves ≡ saves_after (length original.nodes) (save_size original) saved saves
  -- "The flag is set exactly while a save is open": so the answer says, between the bytes shown and the next node
  pub end : ℕ
  pub steps : ℕ
  pub used : ℕ
  pub shown : ℕ
  pub next : ℕ
  pub answers : exit.ran.answer ≡ answered (0 ∷ end ∷ steps ∷ used ∷ shown ∷ cond (some_open saved) 1 0 ∷ next ∷ []) answer

-- THE PROMISE of the rollback machine's entry: the same, and the save slice; and where it answers 0, that its flag tells whether a save is open
pub record RollsBack (table directives : List ℕ) (lent : Lent) (saves : List ℕ) (budget : ℕ) (answer : List ℕ)
    (result : ℕ) (lent' : Lent) (saves' answer' : List ℕ) : Type 0 where
  pub older : ReadsAsBefore table
  pub rolls : ran_saving_at result lent' saves' answer' ≡ rollback_entry table directives lent saves budget answer
  pub flags : result ≡ 0 → OpenSaves table directives lent saves budget answer (ran_saving_at result lent' saves' answer')
