-- What the next command does, seen from the pending list and the variables alone: all machines are small functions of this.
use Rattle.std.specs.Prelude.{ℕ, Bool, List, ◌∷◌, set}
use Rattle.awhile.specs.Language.{Com, skip, assign, sequence, if, while, read, write, value_of, truth_of}

-- A pending list is written with the next command first ("the last entry is next": in memory it stands last).
pub data Look (Note : Type 0) : Type 0 where
  -- a silent step: what is pending then, and the variables
  quiet : List (Com Note) → List ℕ → Look Note
  -- a branch: the condition's value, and what is pending where it is taken as true and as false
  fork : (value : Bool) → (on_true on_false : List (Com Note)) → Look Note
  -- a read into a variable, and a write of a value, at an array and an index
  get : (variable array index : ℕ) → List (Com Note) → Look Note
  put : (array index value : ℕ) → List (Com Note) → Look Note

-- "Skip and assign are silent; sequence puts back its second, then its first part. If and while show the condition's value; a true while
-- puts back itself, then its body."
module _ {Note : Type 0} where
  unfoldable pub look : Com Note → (rest : List (Com Note)) → (variables : List ℕ) → Look Note
  look (skip n) rest vs = quiet rest vs
  look (assign n x e) rest vs = quiet rest (set vs x (value_of e vs))
  look (sequence n c d) rest vs = quiet (c ∷ d ∷ rest) vs
  look (if n b c d) rest vs = fork (truth_of b vs) (c ∷ rest) (d ∷ rest)
  look (while n b c) rest vs = fork (truth_of b vs) (c ∷ while n b c ∷ rest) rest
  look (read n x a i) rest vs = get x a (value_of i vs) rest
  look (write n a i e) rest vs = put a (value_of i vs) (value_of e vs) rest
