-- The entries that write bytes into a lent buffer: the label sheet, the answers to label questions and the hardened table.
use Rattle.std.specs.Prelude.{ℕ, cond, List, [], ◌∷◌, length, leb, ltb}
use Rattle.awhile.specs.Refusals.{Answer, refused, got, check, and_then, refusal_number}
use Rattle.awhile.specs.Tables.{Table, read_table, max_variables}
use Rattle.awhile.specs.Encoding.{table_bytes}
use Rattle.awhile.specs.declared.Refusal.{Refusal}
use Rattle.awhile.specs.declared.Refusal.TheVariants.{TooManyNodes, NoFreeVariable, BadQuestions, ShortBuffer}
use Rattle.labels.specs.Sheet.{sheet_bytes}
use Rattle.labels.specs.Questions.{answerable, answer_bytes}
use Rattle.machine.specs.Memory.{written_over}
use Rattle.masks.specs.Hardening.{hardened_table, max_hardened}
use Rattle.masks.specs.Costs.{cost_bytes}
use Rattle.entries.specs.Answers.{answered, refusal_numbers}

-- the result (the answer's first number), the buffer and the answer slice at exit
pub record Written : Type 0 where
  pub result : ℕ
  pub buffer : List ℕ
  pub answer : List ℕ

-- "All lent memory is unchanged."
unfoldable pub not_written : Refusal → (buffer answer : List ℕ) → Written
not_written r buffer answer = record { result = refusal_number r; buffer = buffer; answer = answered (refusal_numbers r) answer }

-- "An accepted call answers 0, then the byte length of the sheet, table or list it wrote"
unfoldable pub written_all : List ℕ → (buffer answer : List ℕ) → Written
written_all out buffer answer =
    record { result = 0; buffer = written_over out buffer; answer = answered (0 ∷ length out ∷ []) answer }

-- 23: "sheet or hardened table longer than its buffer. Exact length suffices"; "An answer buffer too short is 23"
unfoldable pub writing : Answer (List ℕ) → (buffer answer : List ℕ) → Written
writing (refused r) buffer answer = not_written r buffer answer
writing (got out) buffer answer =
    cond (leb (length out) (length buffer)) (written_all out buffer answer) (not_written ShortBuffer buffer answer)

-- flow_sheet(table, sheet, answer)
unfoldable pub sheet_entry : (table sheet answer : List ℕ) → Written
sheet_entry table sheet answer = writing (and_then (read_table table) (λ t. got (sheet_bytes t t.labels))) sheet answer

-- 11: "where there are more than 256 pairs, the list ends inside a pair, the node is not a command or the variable is not declared,
-- after 7 and before the second list"
unfoldable pub asked_in : (questions : List ℕ) → Table → Answer (List ℕ)
asked_in s t = check (answerable t s) BadQuestions (got (answer_bytes t t.labels s))

-- flow_questions(table, questions, labels, answer)
unfoldable pub questions_entry : (table questions labels answer : List ℕ) → Written
questions_entry table questions labels answer = writing (and_then (read_table table) (asked_in questions)) labels answer

-- 8: hardening with N above 512; 9: hardening with V = 64 ("Refusal 9 now means 64 variables")
unfoldable pub hardened_in : Table → Answer (List ℕ)
hardened_in t =
    check (leb (length t.nodes) max_hardened) TooManyNodes
    (check (ltb t.variables max_variables) NoFreeVariable
    (got (table_bytes (hardened_table t))))

-- flow_harden(table, out, answer)
unfoldable pub harden_entry : (table out answer : List ℕ) → Written
harden_entry table out answer = writing (and_then (read_table table) hardened_in) out answer

-- "Refusals 8 and 9 are given as in hardening"; otherwise these bytes
abbrev pub if_hardens : Table → List ℕ → Answer (List ℕ)
if_hardens t bytes =
    check (leb (length t.nodes) max_hardened) TooManyNodes
    (check (ltb t.variables max_variables) NoFreeVariable
    (got bytes))

unfoldable pub costs_in : Table → Answer (List ℕ)
costs_in t = if_hardens t (cost_bytes t)

-- flow_costs(table, list, answer), which no code answers yet
unfoldable pub costs_entry : (table list answer : List ℕ) → Written
costs_entry table list answer = writing (and_then (read_table table) costs_in) list answer
