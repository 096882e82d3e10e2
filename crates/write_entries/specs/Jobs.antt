-- What a job wants of a table, and what a call that does it comes to.
use Rattle.std.specs.Prelude.{ℕ, List, [], ◌∷◌, ◌≡◌, Result, Ok, Err}
use Rattle.awhile.specs.Refusals.{Answer, refused, got, and_then, refusal_number}
use Rattle.awhile.specs.Tables.{Table, declarations_of, read_table}
use Rattle.awhile.specs.declared.Declarations.{Declarations}
use Rattle.awhile.specs.declared.Refusal.{Refusal}
use Rattle.reader.specs.Index.{table_of, Indexed}
use Rattle.labels.specs.Sheet.{sheet_bytes}
use Rattle.entries.specs.Answers.{answered, refusal_numbers}
use Rattle.entries.specs.Promises.{written_at}
use Rattle.entries.specs.Writing.{writing, asked_in, hardened_in}
use Rattle.write_entries.specs.declared.Job.{Job}
use Rattle.write_entries.specs.declared.Job.TheVariants.{Sheet, Answers, Hardened}

-- the bytes that a job wants of a table that was read, or its own refusal: as the entries' definitions have it. The list is that of a job which has one
unfoldable pub wanted : Job → (list : List ℕ) → Table → Answer (List ℕ)
wanted Sheet list = λ t. got (sheet_bytes t t.labels)
wanted Answers list = asked_in list
wanted Hardened list = hardened_in

-- a job is granted where its bytes are wanted
pub record Granted (job : Job) (list : List ℕ) (t : Table) : Type 0 where
  pub bytes : List ℕ
  pub is_wanted : wanted job list t ≡ got bytes

-- a refusal as it is, and this where bytes are wanted
unfoldable pub granted_by : {A : Type 0} → A → Answer (List ℕ) → Result A Refusal
granted_by x (refused r) = Err r
granted_by x (got bytes) = Ok x

-- what reading for a job answers: the reader's refusal, then the job's own, and else what the table declares; where the table reads, the index is left
pub record ReadsFor (job : Job) (table list index : List ℕ) (answer : Result Declarations Refusal) : Type 0 where
  pub answers : answer ≡ granted_by (declarations_of (table_of table)) (and_then (read_table table) (wanted job list))
  pub indexes : (t : Table) → read_table table ≡ got t → Indexed table index

-- ---- what a call came to
-- its result, and the answer's numbers
abbrev pub result_of : Result ℕ Refusal → ℕ
result_of (Err r) = refusal_number r
result_of (Ok n) = 0

abbrev pub numbers_of : Result ℕ Refusal → List ℕ
numbers_of (Err r) = refusal_numbers r
numbers_of (Ok n) = 0 ∷ n ∷ []

-- with the buffer at exit it is what the entry's definition says, for any answer slice
pub record DoneAs (a : Answer (List ℕ)) (buffer buffer' : List ℕ) (done : Result ℕ Refusal) : Type 0 where
  pub writes : (answer : List ℕ) → written_at (result_of done) buffer' (answered (numbers_of done) answer) ≡ writing a buffer answer
