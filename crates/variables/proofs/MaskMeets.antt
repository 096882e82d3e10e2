-- An expression's label under a labelling is whether the variables that can make it secret and the labelling's secret ones meet.
use Prim.Native.Nat.{ℕ, zero, suc, ◌+◌, ◌*◌, ◌/◌, ◌%◌, ◌^◌, ◌<◌, min}
use native.Mathlib.Omega.{arith}
use mathlib.Core.Bool.{Bool, true, false, cond, ◌||◌, ◌&&◌}
use mathlib.Core.Bool.{not as negated}
use mathlib.Core.Path.{◌≡◌, refl, sym, ap, ap₂, ◌∙◌}
use lib.Bits.{bit_and, bit_or, and_step, and_zero_r, and_mask, or_add_and, and_le_l, and_le_r}
use native.Mathlib.Decide.{ℕ_discrete}
use lib.Dec.{eqb}
use borrow.Author.Tests.{eq-eqb, ne_eqb}
use Rattle.awhile.specs.Language.{AExp, number, variable, add, subtract, multiply, choice}
use Rattle.awhile.specs.Language.{BExp, constant, equal, less, not, and}
use Rattle.awhile.specs.declared.Labelling.{Labelling}
use Rattle.labels.specs.Masks.{bit}
use Rattle.labels.specs.Labellings.{label_of, times_nought, label_of_a, label_of_b}
use Rattle.labels.proofs.Masks.{bit-bit_or, bit_ext}
use Rattle.variables.specs.Variables.{variables_of_a, variables_of_b, meet}

-- ---- digits of a common mask
half : (a r : ℕ) → r < 2 → (a * 2 + r) / 2 ≡ a
half a r h = omega arith

last : (a r : ℕ) → r < 2 → (a * 2 + r) % 2 ≡ r
last a r h = omega arith

digit_and : (r s : ℕ) → r < 2 → s < 2 → eqb (min r s) 1 ≡ (eqb r 1 && eqb s 1)
digit_and zero zero h k = refl
digit_and zero (suc zero) h k = refl
digit_and zero (suc (suc s)) h k = absurd (omega arith)
digit_and (suc zero) zero h k = refl
digit_and (suc zero) (suc zero) h k = refl
digit_and (suc zero) (suc (suc s)) h k = absurd (omega arith)
digit_and (suc (suc r)) s h k = absurd (omega arith)

-- a digit is common to two masks where it is set in both
bit-bit_and : (a b n : ℕ) → bit (bit_and a b) n ≡ (bit a n && bit b n)
unfolding bit
bit-bit_and a b zero =
    ap (λ (m : ℕ). eqb (m % 2) 1) (and_step a b)
    ∙ ap (λ (d : ℕ). eqb d 1) (last (bit_and (a / 2) (b / 2)) (min (a % 2) (b % 2)) (omega arith))
    ∙ digit_and (a % 2) (b % 2) (omega arith) (omega arith)
bit-bit_and a b (suc n) =
    ap (λ (m : ℕ). bit (m / 2) n) (and_step a b)
    ∙ ap (λ (m : ℕ). bit m n) (half (bit_and (a / 2) (b / 2)) (min (a % 2) (b % 2)) (omega arith))
    ∙ bit-bit_and (a / 2) (b / 2) n

both_or : (a b c : Bool) → (a && (b || c)) ≡ ((a && b) || (a && c))
both_or true b c = refl
both_or false b c = refl

-- what a mask has in common with a join is the join of what it has in common with each
and_or : (m a b : ℕ) → bit_and m (bit_or a b) ≡ bit_or (bit_and m a) (bit_and m b)
and_or m a b =
    bit_ext (bit_and m (bit_or a b)) (bit_or (bit_and m a) (bit_and m b))
    (λ n.
    bit-bit_and m (bit_or a b) n
    ∙ ap (λ c. bit m n && c) (bit-bit_or a b n)
    ∙ both_or (bit m n) (bit a n) (bit b n)
    ∙ sym (bit-bit_or (bit_and m a) (bit_and m b) n ∙ ap₂ ◌||◌ (bit-bit_and m a n) (bit-bit_and m b n)))

-- ---- masks that meet
meet_nothing : (m : ℕ) → meet m 0 ≡ false
unfolding meet
meet_nothing m = rw (and_zero_r m)

-- nor does it meet a mask that is taken for nothing
meet_unless : (m : ℕ) (nothing : Bool) (a : ℕ) → meet m (cond nothing 0 a) ≡ cond nothing false (meet m a)
meet_unless m true a = meet_nothing m
meet_unless m false a = refl

-- a join is something where either mask is
some_or : (x y : ℕ) → negated (eqb (bit_or x y) 0) ≡ (negated (eqb x 0) || negated (eqb y 0))
some_or x y = go (ℕ_discrete x 0) (ℕ_discrete y 0)
  where
    sum : bit_or x y + bit_and x y ≡ x + y
    sum = or_add_and x y

    go : Dec (x ≡ 0) → Dec (y ≡ 0) → negated (eqb (bit_or x y) 0) ≡ (negated (eqb x 0) || negated (eqb y 0))
    go (yes e) (yes f) = let z : bit_or x y ≡ 0 = omega (arith, sum) in rw (eq-eqb (bit_or x y) 0 z, eq-eqb x 0 e, eq-eqb y 0 f)
    go (yes e) (no f) = rw (ne_eqb (bit_or x y) 0 (λ z. f (omega (arith, sum, and_le_l x y))), eq-eqb x 0 e, ne_eqb y 0 f)
    go (no e) d = rw (ne_eqb (bit_or x y) 0 (λ z. e (omega (arith, sum, and_le_r x y))), ne_eqb x 0 e)

-- a mask meets a join where it meets either
meet_or : (m a b : ℕ) → meet m (bit_or a b) ≡ (meet m a || meet m b)
unfolding meet
meet_or m a b = ap (λ k. negated (eqb k 0)) (and_or m a b) ∙ some_or (bit_and m a) (bit_and m b)

-- a power of two above the first, and a number twice over
halves : (x : ℕ) → 2 ^ suc x / 2 ≡ 2 ^ x
halves x = omega arith

even : (x : ℕ) → 2 ^ suc x % 2 ≡ 0
even x = omega arith

twice : (a r : ℕ) → a * 2 + min r 0 ≡ a * 2
twice a r = omega arith

some_twice : (a : ℕ) → negated (eqb (a * 2) 0) ≡ negated (eqb a 0)
some_twice a = go (ℕ_discrete a 0)
  where
    go : Dec (a ≡ 0) → negated (eqb (a * 2) 0) ≡ negated (eqb a 0)
    go (yes e) = rw e
    go (no e) = rw (ne_eqb a 0 e, ne_eqb (a * 2) 0 (λ z. e (omega arith)))

-- a mask meets one variable where its digit is set
meet_one : (m x : ℕ) → meet m (2 ^ x) ≡ bit m x
unfolding meet bit
meet_one m zero = ap (λ k. negated (eqb k 0)) (and_mask m 1) ∙ digit (m % 2) (omega arith)
  where
    digit : (r : ℕ) → r < 2 → negated (eqb r 0) ≡ eqb r 1
    digit zero h = refl
    digit (suc zero) h = refl
    digit (suc (suc r)) h = absurd (omega arith)
meet_one m (suc x) =
    ap (λ k. negated (eqb k 0)) (and_step m (2 ^ suc x) ∙ ap₂ (λ h r. bit_and (m / 2) h * 2 + min (m % 2) r) (halves x) (even x) ∙ twice (bit_and (m / 2) (2 ^ x)) (m % 2))
    ∙ some_twice (bit_and (m / 2) (2 ^ x))
    ∙ meet_one (m / 2) x

-- ---- THE LAW: "An expression is secret if any variable in it is", of those that a product with a number node of value 0 does not hide
mutual
  unfolding label_of_a label_of variables_of_a

  pub label_meets_a : (l : Labelling) (a : AExp) → label_of_a l a ≡ meet l.variables (variables_of_a a)
  label_meets_a l (number n) = sym (meet_nothing l.variables)
  label_meets_a l (variable x) = sym (meet_one l.variables x)
  label_meets_a l (add a b) = ap₂ ◌||◌ (label_meets_a l a) (label_meets_a l b) ∙ sym (meet_or l.variables (variables_of_a a) (variables_of_a b))
  label_meets_a l (subtract a b) = ap₂ ◌||◌ (label_meets_a l a) (label_meets_a l b) ∙ sym (meet_or l.variables (variables_of_a a) (variables_of_a b))
  label_meets_a l (multiply a b) =
      ap (cond (times_nought a b) false) (ap₂ ◌||◌ (label_meets_a l a) (label_meets_a l b) ∙ sym (meet_or l.variables (variables_of_a a) (variables_of_a b)))
      ∙ sym (meet_unless l.variables (times_nought a b) (bit_or (variables_of_a a) (variables_of_a b)))
  label_meets_a l (choice c a b) =
      ap₂ ◌||◌ (label_meets_b l c) (ap₂ ◌||◌ (label_meets_a l a) (label_meets_a l b) ∙ sym (meet_or l.variables (variables_of_a a) (variables_of_a b)))
      ∙ sym (meet_or l.variables (variables_of_b c) (bit_or (variables_of_a a) (variables_of_a b)))

  pub label_meets_b : (l : Labelling) (b : BExp) → label_of_b l b ≡ meet l.variables (variables_of_b b)
  label_meets_b l (constant b) = sym (meet_nothing l.variables)
  label_meets_b l (equal a b) = ap₂ ◌||◌ (label_meets_a l a) (label_meets_a l b) ∙ sym (meet_or l.variables (variables_of_a a) (variables_of_a b))
  label_meets_b l (less a b) = ap₂ ◌||◌ (label_meets_a l a) (label_meets_a l b) ∙ sym (meet_or l.variables (variables_of_a a) (variables_of_a b))
  label_meets_b l (not b) = label_meets_b l b
  label_meets_b l (and b c) = ap₂ ◌||◌ (label_meets_b l b) (label_meets_b l c) ∙ sym (meet_or l.variables (variables_of_b b) (variables_of_b c))
