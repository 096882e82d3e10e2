-- The variables that can make an expression secret, as a mask: those in it that have a place outside every product with a number node of value 0.
-- The expression is secret under a labelling if the two masks meet (the law is `label_meets_a`). The mask does not depend on the labelling.
use Rattle.std.specs.Prelude.{ℕ, ◌^◌, Bool, cond, not as negated, eqb}
use Rattle.std.specs.Int.Bits.{bit_and, bit_or}
use Rattle.awhile.specs.Language.{AExp, number, variable, add, subtract, multiply, choice}
use Rattle.awhile.specs.Language.{BExp, constant, equal, less, not, and}
use Rattle.awhile.specs.Trees.{Tree, numeric, truth, command}
use Rattle.labels.specs.Labellings.{times_nought}

unfoldable mutual
  pub variables_of_a : AExp → ℕ
  variables_of_a (number n) = 0
  variables_of_a (variable x) = 2 ^ x
  variables_of_a (add a b) = bit_or (variables_of_a a) (variables_of_a b)
  variables_of_a (subtract a b) = bit_or (variables_of_a a) (variables_of_a b)
  variables_of_a (multiply a b) = cond (times_nought a b) 0 (bit_or (variables_of_a a) (variables_of_a b))
  variables_of_a (choice c a b) = bit_or (variables_of_b c) (bit_or (variables_of_a a) (variables_of_a b))

  pub variables_of_b : BExp → ℕ
  variables_of_b (constant b) = 0
  variables_of_b (equal a b) = bit_or (variables_of_a a) (variables_of_a b)
  variables_of_b (less a b) = bit_or (variables_of_a a) (variables_of_a b)
  variables_of_b (not b) = variables_of_b b
  variables_of_b (and b c) = bit_or (variables_of_b b) (variables_of_b c)

-- whether two masks have a digit in common
unfoldable pub meet : ℕ → ℕ → Bool
meet m n = negated (eqb (bit_and m n) 0)

-- those of a node's tree; a command is no expression
unfoldable pub variables_of : Tree → ℕ
variables_of (numeric a) = variables_of_a a
variables_of (truth b) = variables_of_b b
variables_of (command c) = 0
