-- The analysis (figure 11 of source 004, as document 01 writes it): the labelling after a command, from the one before it and a context.
use Rattle.std.specs.Prelude.{ℕ, zero, suc, Bool, true, false, ◌||◌, List, [], ◌∷◌, ◌++◌, length}
use Rattle.awhile.specs.Language.{AExp, Com, skip, assign, sequence, if, while, read, write}
use Rattle.awhile.specs.declared.Labelling.{Labelling}
use Rattle.labels.specs.Labellings.{Mark, variable_mark, array_mark, label_of, set_label, join, same, label_of_a, label_of_b}

-- "passes repeat until one adds no secret, and that labelling is the answer": the settled labelling.
-- A pass is given; its result is joined in. `passes` bounds how many may add a secret.
unfoldable pub settle : (passes : ℕ) → (Labelling → Labelling) → Labelling → Labelling
settle zero pass l = l
settle (suc passes) pass l =
    let m : Labelling = join l (pass l) in
    elim (same m l) [ true ↦ l | false ↦ settle passes pass m ]

-- the labels that the read of an array gives to its variable: "the join of index, array and context"
unfoldable pub read_label : Labelling → (context : Bool) → (array : ℕ) → (index : AExp) → Bool
read_label l x a i = label_of_a l i || (label_of l (array_mark a) || x)

-- the label of an array after a write: "joins into the array's label index, value and context"
unfoldable pub write_label : Labelling → (context : Bool) → (array : ℕ) → (index value : AExp) → Bool
write_label l x a i e = label_of l (array_mark a) || (label_of_a l i || (label_of_a l e || x))

module _ {Note : Type 0} where
  -- the marks that a command sets, one for each assign, read and write in it.
  -- A pass adds secrets at these only, so no more passes add one than there are.
  unfoldable pub targets : Com Note → List Mark
  targets (skip n) = []
  targets (assign n v e) = variable_mark v ∷ []
  targets (sequence n c d) = targets c ++ targets d
  targets (if n b c d) = targets c ++ targets d
  targets (while n b c) = targets c
  targets (read n v a i) = variable_mark v ∷ []
  targets (write n a i e) = array_mark a ∷ []

  unfoldable pub analyse : Com Note → (context : Bool) → Labelling → Labelling
  analyse (skip n) x l = l
  -- "Assign gives its variable the join of expression and context."
  analyse (assign n v e) x l = set_label l (variable_mark v) (label_of_a l e || x)
  analyse (sequence n c d) x l = analyse d x (analyse c x l)
  -- "If analyses both sides with the condition joined to the context, then joins the labellings."
  analyse (if n b c d) x l = join (analyse c (label_of_b l b || x) l) (analyse d (label_of_b l b || x) l)
  -- "While starts from the entering labelling; each pass analyses the body with condition and context joined, and joins the result in"
  analyse (while n b c) x l = settle (length (targets c)) (λ m. analyse c (label_of_b m b || x) m) l
  analyse (read n v a i) x l = set_label l (variable_mark v) (read_label l x a i)
  analyse (write n a i e) x l = set_label l (array_mark a) (write_label l x a i e)
