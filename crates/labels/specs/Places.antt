-- What makes an expression secret: a secret variable with a place in it that counts.
use Rattle.std.specs.Prelude.{ℕ, true, false, ◌⊎◌, ◌↔◌, ◌≡◌}
use Rattle.awhile.specs.Language.{AExp, number, variable, add, subtract, multiply, choice}
use Rattle.awhile.specs.Language.{BExp, constant, equal, less, not, and}
use Rattle.awhile.specs.declared.Labelling.{Labelling}
use Rattle.labels.specs.Labellings.{variable_mark, label_of, times_nought, label_of_a, label_of_b}

-- a variable has a place in an expression, outside every product with a number node of value 0
unfoldable mutual
  pub CountsInA : (variable : ℕ) → AExp → Type 0
  CountsInA x (number n) = ⊥
  CountsInA x (variable y) = y ≡ x
  CountsInA x (add a b) = CountsInA x a ⊎ CountsInA x b
  CountsInA x (subtract a b) = CountsInA x a ⊎ CountsInA x b
  CountsInA x (multiply a b) = (times_nought a b ≡ false) × (CountsInA x a ⊎ CountsInA x b)
  CountsInA x (choice c a b) = CountsInB x c ⊎ (CountsInA x a ⊎ CountsInA x b)

  pub CountsInB : (variable : ℕ) → BExp → Type 0
  CountsInB x (constant b) = ⊥
  CountsInB x (equal a b) = CountsInA x a ⊎ CountsInA x b
  CountsInB x (less a b) = CountsInA x a ⊎ CountsInA x b
  CountsInB x (not b) = CountsInB x b
  CountsInB x (and b c) = CountsInB x b ⊎ CountsInB x c

-- some variable that is secret in the labelling counts
pub record SecretCounts (l : Labelling) (Counts : ℕ → Type 0) : Type 0 where
  pub variable : ℕ
  pub counts : Counts variable
  pub secret : label_of l (variable_mark variable) ≡ true

-- "An expression is secret if any variable in it is", and "a variable's place inside [such a product] makes no larger expression secret".
pub record SecretByPlaces (l : Labelling) : Type 0 where
  pub numeric : (a : AExp) → (label_of_a l a ≡ true) ↔ SecretCounts l (λ x. CountsInA x a)
  pub truth : (b : BExp) → (label_of_b l b ≡ true) ↔ SecretCounts l (λ x. CountsInB x b)
