-- A labelling says which variables and arrays are secret. A label is a Bool: true is secret.
use Rattle.std.specs.Prelude.{ℕ, Bool, true, false, cond, ◌&&◌, ◌||◌, ◌≡◌, eqb}
use Rattle.std.specs.Int.Bits.{bit_or}
use Rattle.awhile.specs.Language.{AExp, number, variable, add, subtract, multiply, choice}
use Rattle.awhile.specs.Language.{BExp, constant, equal, less, not, and}
use Rattle.awhile.specs.declared.Labelling.{Labelling}
use Rattle.labels.specs.Masks.{bit, put_bit}

-- what bears a label
pub data Mark : Type 0 where
  variable_mark : ℕ → Mark
  array_mark : ℕ → Mark

unfoldable pub label_of : Labelling → Mark → Bool
label_of l (variable_mark x) = bit l.variables x
label_of l (array_mark a) = bit l.arrays a

unfoldable pub set_label : Labelling → Mark → Bool → Labelling
set_label l (variable_mark x) b = record { variables = put_bit l.variables x b; arrays = l.arrays }
set_label l (array_mark a) b = record { variables = l.variables; arrays = put_bit l.arrays a b }

-- "then joins the labellings": what is secret in either
unfoldable pub join : Labelling → Labelling → Labelling
join l m = record { variables = bit_or l.variables m.variables; arrays = bit_or l.arrays m.arrays }

unfoldable pub same : Labelling → Labelling → Bool
same l m = eqb l.variables m.variables && eqb l.arrays m.arrays

infix 4 ◌⊑◌
-- every mark that is secret in the first is secret in the second
pub record ◌⊑◌ (l m : Labelling) : Type 0 where
  pub at : (k : Mark) → label_of l k ≡ true → label_of m k ≡ true

-- a number node of value 0: the node itself, not an expression whose value is 0
unfoldable pub is_nought : AExp → Bool
is_nought (number n) = eqb n 0
is_nought (variable x) = false
is_nought (add a b) = false
is_nought (subtract a b) = false
is_nought (multiply a b) = false
is_nought (choice c a b) = false

-- "a product with a number node of value 0 as either operand"
unfoldable pub times_nought : (left right : AExp) → Bool
times_nought a b = is_nought a || is_nought b

-- "An expression is secret if any variable in it is", but for the variables inside a product with such a number, which is public.
unfoldable mutual
  pub label_of_a : Labelling → AExp → Bool
  label_of_a l (number n) = false
  label_of_a l (variable x) = label_of l (variable_mark x)
  label_of_a l (add a b) = label_of_a l a || label_of_a l b
  label_of_a l (subtract a b) = label_of_a l a || label_of_a l b
  label_of_a l (multiply a b) = cond (times_nought a b) false (label_of_a l a || label_of_a l b)
  label_of_a l (choice c a b) = label_of_b l c || (label_of_a l a || label_of_a l b)

  pub label_of_b : Labelling → BExp → Bool
  label_of_b l (constant b) = false
  label_of_b l (equal a b) = label_of_a l a || label_of_a l b
  label_of_b l (less a b) = label_of_a l a || label_of_a l b
  label_of_b l (not b) = label_of_b l b
  label_of_b l (and b c) = label_of_b l b || label_of_b l c
