-- An expression is secret exactly if a secret variable has a place in it that counts.
use Prim.Native.Nat.{ℕ}
use mathlib.Core.Bool.{Bool, true, false, ◌||◌, true≢false}
use mathlib.Core.Logic.{◌⊎◌, inl, inr, ⊎_elim}
use mathlib.Core.Path.{◌≡◌, refl, sym, ap, ◌∙◌}
use Rattle.awhile.specs.Language.{AExp, number, variable, add, subtract, multiply, choice}
use Rattle.awhile.specs.Language.{BExp, constant, equal, less, not, and}
use Rattle.awhile.specs.declared.Labelling.{Labelling}
use Rattle.labels.specs.Labellings.{variable_mark, label_of, times_nought, label_of_a, label_of_b}
use Rattle.labels.specs.Places.{CountsInA, CountsInB, SecretCounts, SecretByPlaces}
use Rattle.labels.proofs.Booleans.{or_left, or_right, unless_true}

-- what counts in one of two parts, where one of the two is secret
module _ {l : Labelling} {P Q : ℕ → Type 0} where
  counts_in_either : (p q : Bool) → (p ≡ true → SecretCounts l P) → (q ≡ true → SecretCounts l Q) → (p || q) ≡ true → SecretCounts l (λ x. P x ⊎ Q x)
  counts_in_either true q h k e = let c : SecretCounts l P = h refl in record { variable = c.variable; counts = inl c.counts; secret = c.secret }
  counts_in_either false q h k e = let c : SecretCounts l Q = k e in record { variable = c.variable; counts = inr c.counts; secret = c.secret }

-- a part in which it counts makes the whole secret
either_secret : {P Q : Type 0} (p q : Bool) → (P → p ≡ true) → (Q → q ≡ true) → P ⊎ Q → (p || q) ≡ true
either_secret p q h k = ⊎_elim (λ c. or_left p q (h c)) (λ c. or_right p q (k c))

module _ (l : Labelling) where
  mutual
    unfolding label_of_a CountsInA

    counts_a : (a : AExp) → label_of_a l a ≡ true → SecretCounts l (λ x. CountsInA x a)
    counts_a (number n) = λ e. absurd (true≢false (sym e))
    counts_a (variable x) = λ e. record { variable = x; counts = refl; secret = e }
    counts_a (add a b) = counts_in_either (label_of_a l a) (label_of_a l b) (counts_a a) (counts_a b)
    counts_a (subtract a b) = counts_in_either (label_of_a l a) (label_of_a l b) (counts_a a) (counts_a b)
    counts_a (multiply a b) = λ e.
        let t : (times_nought a b ≡ false) × ((label_of_a l a || label_of_a l b) ≡ true) = unless_true (times_nought a b) e in
        let c : SecretCounts l (λ x. CountsInA x a ⊎ CountsInA x b) = counts_in_either (label_of_a l a) (label_of_a l b) (counts_a a) (counts_a b) t.1 in
        record { variable = c.variable; counts = (t.0, c.counts); secret = c.secret }
    counts_a (choice c a b) =
        counts_in_either (label_of_b l c) (label_of_a l a || label_of_a l b) (counts_b c) (counts_in_either (label_of_a l a) (label_of_a l b) (counts_a a) (counts_a b))

    counts_b : (b : BExp) → label_of_b l b ≡ true → SecretCounts l (λ x. CountsInB x b)
    counts_b (constant b) = λ e. absurd (true≢false (sym e))
    counts_b (equal a b) = counts_in_either (label_of_a l a) (label_of_a l b) (counts_a a) (counts_a b)
    counts_b (less a b) = counts_in_either (label_of_a l a) (label_of_a l b) (counts_a a) (counts_a b)
    counts_b (not b) = counts_b b
    counts_b (and b c) = counts_in_either (label_of_b l b) (label_of_b l c) (counts_b b) (counts_b c)

  module _ (x : ℕ) (secret : label_of l (variable_mark x) ≡ true) where
    mutual
      unfolding label_of_a CountsInA

      secret_a : (a : AExp) → CountsInA x a → label_of_a l a ≡ true
      secret_a (number n) = λ c. absurd c
      secret_a (variable y) = λ c. ap (λ z. label_of l (variable_mark z)) c ∙ secret
      secret_a (add a b) = either_secret (label_of_a l a) (label_of_a l b) (secret_a a) (secret_a b)
      secret_a (subtract a b) = either_secret (label_of_a l a) (label_of_a l b) (secret_a a) (secret_a b)
      secret_a (multiply a b) = λ c. rw c.0 (either_secret (label_of_a l a) (label_of_a l b) (secret_a a) (secret_a b) c.1)
      secret_a (choice c a b) =
          either_secret (label_of_b l c) (label_of_a l a || label_of_a l b) (secret_b c) (either_secret (label_of_a l a) (label_of_a l b) (secret_a a) (secret_a b))

      secret_b : (b : BExp) → CountsInB x b → label_of_b l b ≡ true
      secret_b (constant b) = λ c. absurd c
      secret_b (equal a b) = either_secret (label_of_a l a) (label_of_a l b) (secret_a a) (secret_a b)
      secret_b (less a b) = either_secret (label_of_a l a) (label_of_a l b) (secret_a a) (secret_a b)
      secret_b (not b) = secret_b b
      secret_b (and b c) = either_secret (label_of_b l b) (label_of_b l c) (secret_b b) (secret_b c)

  -- THE LAW: an expression is secret exactly if a secret variable has a place in it outside every product with a number node of value 0
  pub secret_by_places : SecretByPlaces l
  secret_by_places =
      record {
        numeric = λ a. (counts_a a, λ c. secret_a c.variable c.secret a c.counts);
        truth = λ b. (counts_b b, λ c. secret_b c.variable c.secret b c.counts);
      }
