-- The answers to a list of questions by the notes of an analysis.
use Rattle.std.specs.Prelude.{ℕ, zero, suc, ◌<◌, cond, List, [], ◌∷◌, ◌++◌, length}
use Rattle.labels.specs.Labellings.{variable_mark, label_of}
use Rattle.labels.specs.Questions.{question_at}
use Rattle.labels.specs.declared.Question.{Question}
use Rattle.analysis.specs.Notes.{note_in}
use Rattle.analysis.specs.declared.noting.Note.{Note}

-- the answer by what is noted for the question's node
unfoldable pub noted_answer : (notes : List Note) → Question → ℕ
noted_answer ns q = cond (label_of (note_in ns q.node).labelling (variable_mark q.variable)) 1 0

-- the answers to the first so many pairs
unfoldable pub noted_answers : (notes : List Note) (questions : List ℕ) → (count : ℕ) → List ℕ
noted_answers ns s zero = []
noted_answers ns s (suc n) = noted_answers ns s n ++ (noted_answer ns (question_at s n) ∷ [])

-- there is a note for the node of each of the first so many pairs
pub record NotesReach (notes : List Note) (questions : List ℕ) (count : ℕ) : Type 0 where
  pub each : (i : ℕ) → i < count → (question_at questions i).node < length notes
