-- Demand 3 over the entries: what a caller of flow_guess or of flow_rollback sees of a hardened table.
use Rattle.std.specs.Prelude.{ℕ, ◌+◌, List, [], ◌∷◌, ◌++◌, ◌≡◌, length}
use Rattle.std.proofs.Math.Option.{Option, none, some}
use Rattle.bytes_le.specs.Numbers.{from_words}
use Rattle.awhile.specs.Lists.{sum}
use Rattle.awhile.specs.declared.Labelling.{Labelling}
use Rattle.awhile.specs.Refusals.{Answer, refused, got}
use Rattle.awhile.specs.Tables.{Table, read_table}
use Rattle.machine.specs.Observations.{shown_bytes}
use Rattle.machine.specs.Directives.{read_directives, read_rolling_directives}
use Rattle.machine.specs.Memory.{written_over}
use Rattle.machine.specs.Runs.{Guide, guessing, rolling}
use Rattle.machine.specs.declared.Directive.{Directive}
use Rattle.machine.specs.Prefixes.{OneBegins}
use Rattle.masks.specs.Security.{AgreeingStates, plainly_shown}
use Rattle.entries.specs.Answers.{answered}
use Rattle.entries.specs.Running.{Lent, Ran, run_in, guess_entry}
use Rattle.entries.specs.Rolling.{rollback_entry}

-- an entry that takes a list of directives: the board that it plays the list on, how it reads the list, and what stands at exit of a call,
-- which may be lent something besides the slices of a run
pub record ListEntry (Besides : Type 0) : Type 0 where
  pub board : List Directive → Guide
  pub script_of : List ℕ → Option (List Directive)
  pub call : (table directives : List ℕ) → Lent → Besides → (budget : ℕ) → (answer : List ℕ) → Ran

-- nothing besides is lent to flow_guess
abbrev pub flow_guess : ListEntry (Unit {0})
flow_guess =
    record { board = guessing; script_of = read_directives; call = λ table directives lent nothing budget answer. guess_entry table directives lent budget answer }

-- the save slice is lent to flow_rollback; what stands there at exit is not shown, so that the claim leaves it out
abbrev pub flow_rollback : ListEntry (List ℕ)
flow_rollback =
    record {
      board = rolling;
      script_of = read_rolling_directives;
      call = λ table directives lent saves budget answer. (rollback_entry table directives lent saves budget answer).ran;
    }

-- the observation bytes of the run that a call asks for, where its table and its list are read
unfoldable pub reported_by : (board : List Directive → Guide) → Answer Table → Option (List Directive) → Lent → (budget : ℕ) → List ℕ
reported_by board (got t) (some ds) lent budget = shown_bytes (run_in t lent budget (board ds)).machine.shown
reported_by board (got t) none lent budget = []
reported_by board (refused r) ds lent budget = []

unfoldable pub reported : {Besides : Type 0} → ListEntry Besides → (table directives : List ℕ) → Lent → (budget : ℕ) → List ℕ
reported e table directives lent budget = reported_by e.board (read_table table) (e.script_of directives) lent budget

-- a call reports these bytes: it answers how many they are, and they stand at the front of the observation slice
pub record Reports (ran : Ran) (lent : Lent) (answer shown : List ℕ) : Type 0 where
  pub end : ℕ
  pub steps : ℕ
  pub used : ℕ
  pub flag : ℕ
  pub next : ℕ
  pub answers : ran.answer ≡ answered (0 ∷ end ∷ steps ∷ used ∷ length shown ∷ flag ∷ next ∷ []) answer
  pub holds : ran.lent.observations ≡ written_over shown lent.observations

-- the slices hold a state of the original, and f = 0 after its variables
pub record Holds (t : Table) (lent : Lent) (vs cs : List ℕ) : Type 0 where
  pub variables : from_words (t.variables + 1) lent.variables ≡ vs ++ (0 ∷ [])
  pub cells : from_words (sum t.counts) lent.cells ≡ cs

-- The claim about an entry, an original table and the bytes of a hardened one: two accepted calls of the entry on these bytes, with one
-- directive list and any budgets and slices, from states that agree and whose plain runs are related, report the bytes of their runs, and one
-- list begins the other.
pub record CallsShowTheSame {Besides : Type 0} (e : ListEntry Besides) (l : Labelling) (t : Table) (hardened : List ℕ) : Type 0 where
  pub reports : (directives : List ℕ) (lent : Lent) (besides : Besides) (budget : ℕ) (answer : List ℕ)
      → (e.call hardened directives lent besides budget answer).result ≡ 0
      → Reports (e.call hardened directives lent besides budget answer) lent answer (reported e hardened directives lent budget)
  pub related : (vs cs ws ds : List ℕ) → AgreeingStates t l vs cs ws ds
      → ((n m : ℕ) → OneBegins (plainly_shown t vs cs n) (plainly_shown t ws ds m))
      → (directives : List ℕ) (lent₁ lent₂ : Lent) (besides₁ besides₂ : Besides) (budget₁ budget₂ : ℕ) (answer₁ answer₂ : List ℕ)
      → Holds t lent₁ vs cs → Holds t lent₂ ws ds
      → (e.call hardened directives lent₁ besides₁ budget₁ answer₁).result ≡ 0
      → (e.call hardened directives lent₂ besides₂ budget₂ answer₂).result ≡ 0
      → OneBegins (reported e hardened directives lent₁ budget₁) (reported e hardened directives lent₂ budget₂)
