-- Label questions (document 02, P2): "is variable v secret just before command c?"
use Rattle.std.specs.Prelude.{ℕ, zero, suc, ◌+◌, ◌*◌, ◌/◌, ◌%◌, Bool, true, cond, ◌&&◌, ◌≡◌, length, get_or, take, drop, eqb, ltb, leb}
use mathlib.Core.List.{List, [], ◌∷◌, ◌++◌, Memᴰ}
use Rattle.bytes_le.specs.Numbers.{le_at}
use Rattle.awhile.specs.Language.{Com, note_of}
use Rattle.awhile.specs.Nodes.{sort_of, same_sort}
use Rattle.awhile.specs.Tables.{Table}
use Rattle.awhile.specs.declared.Labelling.{Labelling}
use Rattle.awhile.specs.declared.Node.TheVariants.{Skip}
use Rattle.awhile.specs.declared.Sort.TheVariants.{Command}
use Rattle.labels.specs.Labellings.{variable_mark, label_of}
use Rattle.labels.specs.Annotation.{Entry, parts}
use Rattle.labels.specs.Sheet.{entry_of, annotated}
use Rattle.labels.specs.declared.Question.{Question}

-- ---- a list of questions: "up to 256 pairs (node, variable; 2 bytes each)"
abbrev pub max_questions : ℕ
max_questions = 256

-- how many pairs stand in these bytes
abbrev pub pairs_in : List ℕ → ℕ
pairs_in s = length s / 4

-- the bytes of pair i, and what it asks
abbrev pub pair_at : List ℕ → (i : ℕ) → List ℕ
pair_at s i = take 4 (drop (4 * i) s)

unfoldable pub question_at : List ℕ → (i : ℕ) → Question
question_at s i = record { node = le_at 2 s (4 * i); variable = le_at 2 s (4 * i + 2) }

-- ---- which lists are answered
-- the node of a number is a command
unfoldable pub is_command : Table → (node : ℕ) → Bool
is_command t n = ltb n (length t.nodes) && same_sort (sort_of (get_or t.nodes n Skip)) Command

-- a question can be asked: its node is a command, and its variable is declared
unfoldable pub askable : Table → Question → Bool
askable t q = is_command t q.node && ltb q.variable t.variables

-- the first so many can
unfoldable pub all_askable : Table → List ℕ → (count : ℕ) → Bool
all_askable t s zero = true
all_askable t s (suc n) = askable t (question_at s n) && all_askable t s n

-- none of the causes for a refusal by 11: at most 256 pairs, the list does not end inside one, and all can be asked
unfoldable pub answerable : Table → List ℕ → Bool
answerable t s = leb (length s) (4 * max_questions) && (eqb (length s % 4) 0 && all_askable t s (pairs_in s))

-- ---- the answers
-- "just before command c": of commands with the labellings that enter them, the one that enters the command of a number. What enters a loop is
-- the labelling before it settles; what enters a command inside a loop is that of the settled pass (`annotate`).
unfoldable pub entering : (node : ℕ) → List (Com Entry) → Labelling
entering n [] = record { variables = 0; arrays = 0 }  -- of no account: a command that can be asked stands in its program
entering n (p ∷ ps) = cond (eqb n (note_of p).node) (entry_of p) (entering n ps)

-- "one byte per pair, 1 for secret"
unfoldable pub answer_to : Com Entry → Question → ℕ
answer_to a q = cond (label_of (entering q.node (parts a)) (variable_mark q.variable)) 1 0

-- to the first so many pairs of a list
unfoldable pub answers_to : Com Entry → List ℕ → (count : ℕ) → List ℕ
answers_to a s zero = []
answers_to a s (suc n) = answers_to a s n ++ (answer_to a (question_at s n) ∷ [])

-- to a list about a table whose analysis starts from a labelling: "all from one analysis"
unfoldable pub answer_bytes : Table → Labelling → (questions : List ℕ) → List ℕ
answer_bytes t l s = answers_to (annotated t l) s (pairs_in s)

-- ---- what an answer says
-- the command of a number among these: it is one of them, and no other of that number is
pub record TheCommand (ps : List (Com Entry)) (node : ℕ) (p : Com Entry) : Type 0 where
  pub stands : Memᴰ p ps
  pub is_node : (note_of p).node ≡ node
  pub only : (c : Com Entry) → Memᴰ c ps → (note_of c).node ≡ node → c ≡ p

-- a byte tells a label of an annotated program: 1 if the labelling that enters the question's command has the variable secret, else 0
pub record TellsLabel (a : Com Entry) (q : Question) (byte : ℕ) : Type 0 where
  pub command : Com Entry
  pub asked : TheCommand (parts a) q.node command
  pub label : byte ≡ cond (label_of (entry_of command) (variable_mark q.variable)) 1 0
