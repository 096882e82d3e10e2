-- Sums over the numbers below a bound, and sums over a list by how often each number stands in it.
use Prim.Native.Nat.{ℕ, zero, suc, ◌+◌, ◌*◌, ◌≤◌, ◌<◌}
use native.Mathlib.Nat.{add-mul, zero-mul, one-mul}
use native.Mathlib.Omega.{arith}
use mathlib.Core.Bool.{Bool, true, false, cond}
use mathlib.Core.Path.{◌≡◌, refl, sym, ap, ◌∙◌}
use mathlib.Core.List.{List, [], ◌∷◌, map}
use lib.Dec.{eqb, ltb}
use borrow.Author.Tests.{ltb-true, ltb-false, eqb-true, eqb-false, lt-ltb, le-ltb, ne_eqb}
use Rattle.awhile.specs.Lists.{sum, occurrences, all}
use Rattle.awhile.proofs.Lists.{all_head, all_tail}

-- the sum of the values at the numbers below a bound
unfoldable pub sum_below : (bound : ℕ) → (ℕ → ℕ) → ℕ
sum_below zero f = 0
sum_below (suc n) f = sum_below n f + f n

-- the same values have the same sum
pub sum_below_same : (bound : ℕ) (f g : ℕ → ℕ) → ((n : ℕ) → n < bound → f n ≡ g n) → sum_below bound f ≡ sum_below bound g
unfolding sum_below
sum_below_same zero f g same = refl
sum_below_same (suc n) f g same = omega (arith, sum_below_same n f g (λ m below. same m (omega arith)), same n (omega arith))

-- smaller values have no larger sum
pub sum_below_most : (bound : ℕ) (f g : ℕ → ℕ) → ((n : ℕ) → n < bound → f n ≤ g n) → sum_below bound f ≤ sum_below bound g
unfolding sum_below
sum_below_most zero f g most = omega arith
sum_below_most (suc n) f g most = omega (arith, sum_below_most n f g (λ m below. most m (omega arith)), most n (omega arith))

-- zeros sum to zero
pub sum_below_zero : (bound : ℕ) → sum_below bound (λ n. 0) ≡ 0
unfolding sum_below
sum_below_zero zero = refl
sum_below_zero (suc n) = omega (arith, sum_below_zero n)

-- a sum of two values is the sum of two sums
pub sum_below_add : (bound : ℕ) (f g : ℕ → ℕ) → sum_below bound (λ n. f n + g n) ≡ sum_below bound f + sum_below bound g
unfolding sum_below
sum_below_add zero f g = refl
sum_below_add (suc n) f g = omega (arith, sum_below_add n f g)

-- 1 for each number
pub sum_below_ones : (bound : ℕ) → sum_below bound (λ n. 1) ≡ bound
unfolding sum_below
sum_below_ones zero = refl
sum_below_ones (suc n) = omega (arith, sum_below_ones n)

-- one number's value, and 0 for the others
unfoldable pub only : (m : ℕ) → (ℕ → ℕ) → ℕ → ℕ
only m f n = cond (eqb n m) (f n) 0

-- its sum is that value, if the number is below the bound
pub sum_below_only : (bound m : ℕ) (f : ℕ → ℕ) → sum_below bound (only m f) ≡ cond (ltb m bound) (f m) 0
unfolding sum_below only
sum_below_only zero m f = rw (le-ltb m 0 (omega arith))
sum_below_only (suc n) m f = rw (sum_below_only n m f) (go (ltb m n) (eqb n m) refl refl)
  where
    go : (less same : Bool) → ltb m n ≡ less → eqb n m ≡ same → cond (ltb m n) (f m) 0 + cond (eqb n m) (f n) 0 ≡ cond (ltb m (suc n)) (f m) 0
    go true same p q =
        let apart : eqb n m ≡ false = ne_eqb n m (λ e. omega (arith, ltb-true m n p)) in
        rw (p, apart, lt-ltb m (suc n) (omega (arith, ltb-true m n p))) (omega arith)
    go false true p q = rw (p, q, lt-ltb m (suc n) (omega (arith, eqb-true n m q))) (omega (arith, ap f (eqb-true n m q)))
    go false false p q =
        let other : ¬ (n ≡ m) = eqb-false n m q in
        rw (p, q, le-ltb m (suc n) (omega (arith, ltb-false m n p)))

occurrences_weighed : (m : ℕ) (ns : List ℕ) (f : ℕ → ℕ) (n : ℕ) → occurrences n (m ∷ ns) * f n ≡ only m f n + occurrences n ns * f n
unfolding occurrences only
occurrences_weighed m ns f n = add-mul (cond (eqb n m) 1 0) (occurrences n ns) (f n) ∙ ap (λ k. k + occurrences n ns * f n) (go (eqb n m))
  where
    go : (b : Bool) → cond b 1 0 * f n ≡ cond b (f n) 0
    go true = one-mul (f n)
    go false = zero-mul (f n)

-- a sum over a list of numbers below a bound counts each number as often as it stands in the list
pub sum_by_number : (f : ℕ → ℕ) (bound : ℕ) (ns : List ℕ) → all (λ n. ltb n bound) ns ≡ true
    → sum (map f ns) ≡ sum_below bound (λ n. occurrences n ns * f n)
unfolding sum occurrences
sum_by_number f bound [] h =
    sym (sum_below_same bound (λ n. occurrences n [] * f n) (λ n. 0) (λ n below. zero-mul (f n)) ∙ sum_below_zero bound)
sum_by_number f bound (m ∷ ns) h =
    let split = sum_below_same bound (λ n. occurrences n (m ∷ ns) * f n) (λ n. only m f n + occurrences n ns * f n) (λ n below. occurrences_weighed m ns f n) in
    let first : sum_below bound (only m f) ≡ f m = sum_below_only bound m f ∙ rw (all_head (λ n. ltb n bound) m ns h) in
    omega (arith, split, sum_below_add bound (only m f) (λ n. occurrences n ns * f n), first, sum_by_number f bound ns (all_tail (λ n. ltb n bound) m ns h))
