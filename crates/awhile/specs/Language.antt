-- AWHILE (figure 1 of source 004): numeric and truth expressions, commands, and what an expression's value is.
use Rattle.std.specs.Prelude.{ℕ, ◌+◌, ◌-◌, ◌*◌, ◌%◌, ◌^◌, Bool, cond, ◌&&◌, not as negated, List, get_or, eqb, ltb}

-- Numbers and truths nest in each other through choice and comparison.
mutual
  pub data AExp : Type 0 where
    number : ℕ → AExp
    variable : ℕ → AExp
    add subtract multiply : AExp → AExp → AExp
    choice : BExp → AExp → AExp → AExp

  pub data BExp : Type 0 where
    constant : Bool → BExp
    equal less : AExp → AExp → BExp
    not : BExp → BExp
    and : BExp → BExp → BExp

-- A command; each carries a note of the type that is wanted (its node number, its labels, nothing).
pub data Com (Note : Type 0) : Type 0 where
  skip : Note → Com Note
  assign : Note → (variable : ℕ) → AExp → Com Note
  sequence : Note → Com Note → Com Note → Com Note
  if : Note → BExp → Com Note → Com Note → Com Note
  while : Note → BExp → Com Note → Com Note
  read : Note → (variable array : ℕ) → (index : AExp) → Com Note
  write : Note → (array : ℕ) → (index value : AExp) → Com Note

module _ {Note : Type 0} where
  unfoldable pub note_of : Com Note → Note
  note_of (skip n) = n
  note_of (assign n x e) = n
  note_of (sequence n c d) = n
  note_of (if n b c d) = n
  note_of (while n b c) = n
  note_of (read n x a i) = n
  note_of (write n a i e) = n

-- the same command with other notes
module _ {Note Other : Type 0} (f : Note → Other) where
  unfoldable pub map_notes : Com Note → Com Other
  map_notes (skip n) = skip (f n)
  map_notes (assign n x e) = assign (f n) x e
  map_notes (sequence n c d) = sequence (f n) (map_notes c) (map_notes d)
  map_notes (if n b c d) = if (f n) b (map_notes c) (map_notes d)
  map_notes (while n b c) = while (f n) b (map_notes c)
  map_notes (read n x a i) = read (f n) x a i
  map_notes (write n a i e) = write (f n) a i e

-- The value of an expression where the variables have these values.
-- "Values are 32-bit, arithmetic is modulo 2^32, less is unsigned." A choice evaluates to one of its two numbers.
unfoldable mutual
  pub value_of : AExp → List ℕ → ℕ
  value_of (number n) vs = n
  value_of (variable x) vs = get_or vs x 0
  value_of (add a b) vs = (value_of a vs + value_of b vs) % 2 ^ 32
  value_of (subtract a b) vs = (value_of a vs + 2 ^ 32 - value_of b vs) % 2 ^ 32
  value_of (multiply a b) vs = (value_of a vs * value_of b vs) % 2 ^ 32
  value_of (choice c a b) vs = cond (truth_of c vs) (value_of a vs) (value_of b vs)

  pub truth_of : BExp → List ℕ → Bool
  truth_of (constant b) vs = b
  truth_of (equal a b) vs = eqb (value_of a vs) (value_of b vs)
  truth_of (less a b) vs = ltb (value_of a vs) (value_of b vs)
  truth_of (not b) vs = negated (truth_of b vs)
  truth_of (and b c) vs = truth_of b vs && truth_of c vs
