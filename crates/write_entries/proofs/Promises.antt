-- What the entries promise, of an entry that does its job.
use Prim.Native.Nat.{ℕ}
use mathlib.Core.List.{List}
use mathlib.Core.Path.{◌≡◌}
use Rattle.bytes_le.proofs.Numbers.{Below}
use Rattle.awhile.specs.Refusals.{and_then}
use Rattle.awhile.specs.Tables.{read_table}
use Rattle.entries.specs.Promises.{written_at, Sheets, AnswersQuestions, Hardens}
use Rattle.entries.specs.Writing.{writing, sheet_entry, questions_entry, harden_entry}
use Rattle.entries.proofs.Sheet.{entry_sheets}
use Rattle.entries.proofs.Questions.{entry_answers}
use Rattle.entries.proofs.Hardened.{entry_hardens}
use Rattle.write_entries.specs.Jobs.{wanted}
use Rattle.write_entries.specs.declared.Job.{Job}
use Rattle.write_entries.specs.declared.Job.TheVariants.{Sheet, Answers, Hardened}

-- all that stands at exit is as the job's definition has it
abbrev Does : Job → (table list buffer answer : List ℕ) → (k : ℕ) → (buffer' answer' : List ℕ) → Type 0
Does job table list buffer answer k buffer' answer' = written_at k buffer' answer' ≡ writing (and_then (read_table table) (wanted job list)) buffer answer

module _ (table list buffer answer : List ℕ) {buffer' answer' : List ℕ} {k : ℕ} where
  pub sheet_promised : Does Sheet table list buffer answer k buffer' answer' → Sheets table buffer answer k buffer' answer'
  unfolding wanted sheet_entry
  sheet_promised h = entry_sheets h

  pub answers_promised : Below 256 table → Does Answers table list buffer answer k buffer' answer' → AnswersQuestions table list buffer answer k buffer' answer'
  unfolding wanted questions_entry
  answers_promised bytes h = entry_answers bytes h

  pub hardened_promised : Below 256 table → Does Hardened table list buffer answer k buffer' answer' → Hardens table buffer answer k buffer' answer'
  unfolding wanted harden_entry
  hardened_promised bytes h = entry_hardens bytes h
