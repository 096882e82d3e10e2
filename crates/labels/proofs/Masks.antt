-- Laws of masks of any width: a digit after it is put, the others, the digits of a join, and equal digits make equal masks.
use Prim.Native.Nat.{ℕ, zero, suc, ◌+◌, ◌-◌, ◌*◌, ◌/◌, ◌%◌, ◌^◌, ◌≤◌, ◌<◌, max}
use mathlib.Core.Bool.{Bool, true, false, cond, ◌||◌}
use mathlib.Core.Path.{◌≡◌, refl, sym, ap, ap₂, ◌∙◌}
use native.Mathlib.Nat.{div-one, div-div-eq-div-mul, one-mul, mod-eq_of_lt, one-le-pow, pow-le-pow_right}
use native.Mathlib.Omega.{arith}
use lib.Bits.{bit_or, or_step, or_zero_r}
use lib.Dec.{eqb}
use Rattle.labels.specs.Masks.{bit, put_bit}

-- a number above its last digit
half : (a r : ℕ) → r < 2 → (a * 2 + r) / 2 ≡ a
half a r h = omega arith

last : (a r : ℕ) → r < 2 → (a * 2 + r) % 2 ≡ r
last a r h = omega arith

-- a digit as a truth, and back
pub digit_small : (b : Bool) → cond b 1 0 < 2
digit_small true = omega arith
digit_small false = omega arith

digit_back : (b : Bool) → eqb (cond b 1 0) 1 ≡ b
digit_back true = refl
digit_back false = refl

digit_of : (r : ℕ) → r < 2 → r ≡ cond (eqb r 1) 1 0
digit_of zero h = refl
digit_of (suc zero) h = refl
digit_of (suc (suc r)) h = absurd (omega arith)

digit_or : (a b : Bool) → eqb (max (cond a 1 0) (cond b 1 0)) 1 ≡ (a || b)
digit_or true true = refl
digit_or true false = refl
digit_or false true = refl
digit_or false false = refl

module _ (b : Bool) where
  -- the digit that is put is the one read there
  pub bit_put : (m n : ℕ) → bit (put_bit m n b) n ≡ b
  unfolding bit put_bit
  bit_put m zero = rw (last (m / 2) (cond b 1 0) (digit_small b)) (digit_back b)
  bit_put m (suc n) = rw (half (put_bit (m / 2) n b) (m % 2) (omega arith)) (bit_put (m / 2) n)

  -- every other digit stays
  pub bit_put_other : (m n k : ℕ) → (n ≡ k → ⊥) → bit (put_bit m n b) k ≡ bit m k
  unfolding bit put_bit
  bit_put_other m zero zero h = absurd (h refl)
  bit_put_other m zero (suc k) h = rw (half (m / 2) (cond b 1 0) (digit_small b))
  bit_put_other m (suc n) zero h = rw (last (put_bit (m / 2) n b) (m % 2) (omega arith))
  bit_put_other m (suc n) (suc k) h =
      rw (half (put_bit (m / 2) n b) (m % 2) (omega arith)) (bit_put_other (m / 2) n k (λ e. h (ap suc e)))

  -- a digit put below the width leaves the mask within it
  pub put_lt : (w m n : ℕ) → n < w → m < 2 ^ w → put_bit m n b < 2 ^ w
  unfolding put_bit
  put_lt zero m n h k = absurd (omega arith)
  put_lt (suc w) m zero h k = let s = digit_small b in omega arith
  put_lt (suc w) m (suc n) h k =
      let s : put_bit (m / 2) n b < 2 ^ w = put_lt w (m / 2) n (omega arith) (omega arith) in
      omega arith

-- a digit of a join is set where it is set in either mask
pub bit-bit_or : (a b n : ℕ) → bit (bit_or a b) n ≡ (bit a n || bit b n)
unfolding bit
bit-bit_or a b zero =
    ap (λ (m : ℕ). eqb (m % 2) 1) (or_step a b)
    ∙ ap (λ (d : ℕ). eqb d 1) (last (bit_or (a / 2) (b / 2)) (max (a % 2) (b % 2)) (omega arith))
    ∙ ap₂ (λ (r s : ℕ). eqb (max r s) 1) (digit_of (a % 2) (omega arith)) (digit_of (b % 2) (omega arith))
    ∙ digit_or (eqb (a % 2) 1) (eqb (b % 2) 1)
bit-bit_or a b (suc n) =
    ap (λ (m : ℕ). bit (m / 2) n) (or_step a b)
    ∙ ap (λ (m : ℕ). bit m n) (half (bit_or (a / 2) (b / 2)) (max (a % 2) (b % 2)) (omega arith))
    ∙ bit-bit_or (a / 2) (b / 2) n

-- masks with equal digits are equal
pub bit_ext : (a b : ℕ) → ((n : ℕ) → bit a n ≡ bit b n) → a ≡ b
unfolding bit
bit_ext a b h = go (a + b) a b (omega arith) h
  where
    go : (bound a b : ℕ) → a + b ≤ bound → ((n : ℕ) → bit a n ≡ bit b n) → a ≡ b
    go zero a b k h = omega arith
    go (suc bound) a b k h =
        let upper : a / 2 ≡ b / 2 = go bound (a / 2) (b / 2) (omega arith) (λ n. h (suc n)) in
        let lower : a % 2 ≡ b % 2 = digit_of (a % 2) (omega arith) ∙ ap (λ (d : Bool). cond d 1 0) (h zero) ∙ sym (digit_of (b % 2) (omega arith)) in
        omega arith

-- no digit of zero is set
bit_zero : (n : ℕ) → bit 0 n ≡ false
unfolding bit
bit_zero zero = refl
bit_zero (suc n) = bit_zero n

-- a mask within a width has no digit set from the width up
pub bit_above : (w m n : ℕ) → m < 2 ^ w → w ≤ n → bit m n ≡ false
unfolding bit
bit_above zero m n h k = let e : m ≡ 0 = omega arith in rw e (bit_zero n)
bit_above (suc w) m zero h k = absurd (omega arith)
bit_above (suc w) m (suc n) h k = bit_above w (m / 2) n (omega arith) (omega arith)

-- a digit by shifting: the form that code has
pub bit_shift : (m n : ℕ) → bit m n ≡ eqb (m / 2 ^ n % 2) 1
unfolding bit
bit_shift m zero = rw div-one
bit_shift m (suc n) = bit_shift (m / 2) n ∙ ap (λ (k : ℕ). eqb (k % 2) 1) (div-div-eq-div-mul m 2 (2 ^ n) ∙ ap (λ (k : ℕ). m / k) (omega arith))

-- setting a digit by a join: the form that code has
pub put_true : (m n : ℕ) → put_bit m n true ≡ bit_or m (2 ^ n)
unfolding put_bit
put_true m zero =
    let e : bit_or m 1 ≡ bit_or (m / 2) 0 * 2 + max (m % 2) 1 = or_step m 1 in
    let z : bit_or (m / 2) 0 ≡ m / 2 = or_zero_r (m / 2) in
    omega arith
put_true m (suc n) =
    let half-power : 2 ^ n ≡ 2 ^ suc n / 2 = omega arith in
    let upper : put_bit (m / 2) n true ≡ bit_or (m / 2) (2 ^ suc n / 2) = put_true (m / 2) n ∙ ap (λ (k : ℕ). bit_or (m / 2) k) half-power in
    let e = or_step m (2 ^ suc n) in
    omega arith

-- a digit set is its power of two more than the digit cleared
pub put_difference : (m n : ℕ) → put_bit m n true ≡ put_bit m n false + 2 ^ n
unfolding put_bit
put_difference m zero = omega arith
put_difference m (suc n) = let e = put_difference (m / 2) n in omega arith

-- clearing a digit: the form that code has
pub put_false : (m n : ℕ) → put_bit m n false ≡ bit_or m (2 ^ n) - 2 ^ n
put_false m n = let e = put_difference m n in let s = put_true m n in omega arith

-- a power of two is below the next ones
pub power_lt : (n w : ℕ) → n < w → 2 ^ n < 2 ^ w
power_lt n zero h = absurd (omega arith)
power_lt n (suc w) h = let p = pow-le-pow_right {n = 2} (omega arith) {i = n} {j = w} (omega arith) in let q = one-le-pow n 2 (omega arith) in omega arith

-- one shifted by less than the width: the form that code has
pub shifted_one : (n w : ℕ) → n < w → 1 * 2 ^ n % 2 ^ w ≡ 2 ^ n
shifted_one n w h = rw one-mul (mod-eq_of_lt (power_lt n w h))
