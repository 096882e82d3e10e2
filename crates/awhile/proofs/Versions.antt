-- What versions there are, how many bytes and bits their variable masks have, and what fits a mask of any width.
use Prim.Native.Nat.{ℕ, zero, suc, ◌+◌, ◌*◌, ◌^◌, ◌≤◌, ◌<◌}
use native.Mathlib.Nat.{pow-le-pow_right, pow-suc}
use lib.Pow.{pow-add}
use native.Mathlib.Omega.{arith}
use mathlib.Core.Bool.{Bool, true, false, cond, ◌||◌}
use mathlib.Core.List.{List}
use mathlib.Core.Path.{◌≡◌, refl, sym, ap, ◌∙◌}
use lib.Dec.{eqb}
use borrow.Author.Tests.{eqb-true, eq-eqb, ne_eqb}
use Rattle.awhile.specs.Tables.{known_version, mask_bytes, most_variables, max_variables}
use Rattle.awhile.specs.WellFormed.{Declared}
use Rattle.awhile.specs.declared.Labelling.{Labelling}

-- the limits, computed: 32 and 64, and no version allows more
pub limit_of_one : most_variables 1 ≡ 32
unfolding mask_bytes
limit_of_one = refl

pub limit_of_two : most_variables 2 ≡ max_variables
unfolding mask_bytes
limit_of_two = refl

-- a mask has at most 8 bytes
pub mask_most : (v : ℕ) → mask_bytes v ≤ 8
unfolding mask_bytes
mask_most v = go (eqb v 1)
  where
    go : (b : Bool) → cond b 4 8 ≤ 8
    go true = omega arith
    go false = omega arith

-- what a version allows is within the limit of all
pub variables_most : (v n : ℕ) → n ≤ most_variables v → n ≤ max_variables
variables_most v n fits = omega (arith, mask_most v)

-- a version that is known fits its 2 bytes
pub known_small : (v : ℕ) → known_version v ≡ true → v ≤ 2
unfolding known_version
known_small v e = go (eqb v 1) (eqb v 2) refl refl e
  where
    go : (a b : Bool) → eqb v 1 ≡ a → eqb v 2 ≡ b → a || b ≡ true → v ≤ 2
    go true b p q h = omega (arith, eqb-true v 1 p)
    go false true p q h = omega (arith, eqb-true v 2 q)
    go false false p q h = let z : ◌≡◌ {A = ℕ} 0 1 = cc in absurd (omega arith)

-- a table of as many variables as any version allows is of version 2
pub known_wide : (v : ℕ) → known_version v ≡ true → max_variables ≤ most_variables v → v ≡ 2
unfolding known_version mask_bytes
known_wide v e wide = go (eqb v 1) (eqb v 2) refl refl e wide
  where
    go : (a b : Bool) → eqb v 1 ≡ a → eqb v 2 ≡ b → a || b ≡ true → max_variables ≤ 8 * cond a 4 8 → v ≡ 2
    go true b p q h m = absurd (omega arith)
    go false true p q h m = eqb-true v 2 q
    go false false p q h m = let z : ◌≡◌ {A = ℕ} 0 1 = cc in absurd (omega arith)

-- for any width: as many bytes have 8 times as many digits
pub byte_digits : (width : ℕ) → 2 ^ (8 * width) ≡ 256 ^ width
byte_digits zero = refl
byte_digits (suc w) =
    let more : 8 * suc w ≡ 8 * w + 8 = omega arith in
    ap (λ n. 2 ^ n) more ∙ (pow-add 2 (8 * w) 8 ∙ (ap (λ n. n * 256) (byte_digits w) ∙ sym (pow-suc 256 w)))

-- for any width: a mask with no digit from n up fits so many bytes as have n digits
pub mask_in_bytes : (width n mask : ℕ) → n ≤ 8 * width → mask < 2 ^ n → mask < 256 ^ width
mask_in_bytes width n mask few below =
    let most : 2 ^ n ≤ 2 ^ (8 * width) = pow-le-pow_right (omega arith) few in
    omega (arith, byte_digits width, most)

-- ---- what a test of the version tells
pub mask_one : (v : ℕ) → v ≡ 1 → mask_bytes v ≡ 4
unfolding mask_bytes
mask_one v e = rw (eq-eqb v 1 e)

pub mask_other : (v : ℕ) → ¬ (v ≡ 1) → mask_bytes v ≡ 8
unfolding mask_bytes
mask_other v e = rw (ne_eqb v 1 e)

pub known_one : (v : ℕ) → v ≡ 1 → known_version v ≡ true
unfolding known_version
known_one v e = rw (eq-eqb v 1 e)

pub known_other : (v : ℕ) → ¬ (v ≡ 1) → known_version v ≡ eqb v 2
unfolding known_version
known_other v e = rw (ne_eqb v 1 e)

-- no declarations have more variables than the limit of all versions
pub declared_variables : {version v : ℕ} {l : Labelling} {counts : List ℕ} → Declared version v l counts → v ≤ max_variables
declared_variables {version} {v} d = variables_most version v d.variables_fit
