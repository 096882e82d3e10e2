-- A number stored in two parts: what code that writes it computes.
use Prim.Native.Nat.{ℕ, zero, suc, ◌+◌, ◌*◌, ◌/◌, ◌%◌, ◌^◌, ◌<◌}
use native.Mathlib.Nat.{pow-suc, one-le-pow, add-zero, zero-add, suc-add, mul_comm, mul_assoc, mod-lt, mod-add-div}
use native.Mathlib.Omega.{arith}
use mathlib.Core.Path.{◌≡◌, refl, sym, ap, ◌∙◌}
use mathlib.Core.List.{List, [], ◌∷◌, ◌++◌}
use lib.ListN.{length, set}
use lib.Seq.{sets}
use Rattle.bytes_le.specs.Numbers.{le}
use Rattle.bytes_le.proofs.Numbers.{length_le}

-- stores of two runs of bytes, one behind the other
pub sets-append : (xs ys l : List ℕ) (at : ℕ) → sets l at (xs ++ ys) ≡ sets (sets l at xs) (at + length xs) ys
sets-append [] ys l at = rw add-zero
sets-append (x ∷ xs) ys l at =
    let e : suc at + length xs ≡ at + suc (length xs) = omega arith in
    sets-append xs ys (set l at x) (suc at) ∙ ap (λ k. sets (sets (set l at x) (suc at) xs) k ys) e

-- a number's bytes are those of its lower part, then those of its upper part
le_parts : (low high a b : ℕ) → a < 256 ^ low → le (low + high) (a + 256 ^ low * b) ≡ le low a ++ le high b
unfolding le
le_parts zero high a b fits =
    let none : a + 1 * b ≡ b = omega arith in
    rw (zero-add, none)
le_parts (suc low) high a b fits =
    let upper : ℕ = 256 ^ low * b in
    let whole : a + 256 ^ suc low * b ≡ a + 256 * upper = rw (pow-suc, mul_comm (256 ^ low) 256, mul_assoc) in
    let first : (a + 256 * upper) % 256 ≡ a % 256 = omega arith in
    let rest : (a + 256 * upper) / 256 ≡ a / 256 + upper = omega arith in
    let below : a / 256 < 256 ^ low = omega (arith, pow-suc 256 low) in
    rw (whole, suc-add, first, rest, le_parts low high (a / 256) b below)

-- a number's lower part stored at a place, then its upper part behind it: the number stored there
pub store_parts : (low high n : ℕ) (l : List ℕ) (at : ℕ)
    → sets (sets l at (le low (n % 256 ^ low))) (at + low) (le high (n / 256 ^ low)) ≡ sets l at (le (low + high) n)
store_parts low high n l at =
    sym
    (ap (λ k. sets l at (le (low + high) k)) (sym (mod-add-div n (256 ^ low)))
    ∙ ap (sets l at) (le_parts low high (n % 256 ^ low) (n / 256 ^ low) (mod-lt n (one-le-pow low 256 (omega arith))))
    ∙ sets-append (le low (n % 256 ^ low)) (le high (n / 256 ^ low)) l at
    ∙ ap (λ k. sets (sets l at (le low (n % 256 ^ low))) (at + k) (le high (n / 256 ^ low))) (length_le low (n % 256 ^ low)))

-- bytes do not see what lies above them
le_above : (width a b : ℕ) → le width (a + 256 ^ width * b) ≡ le width a
unfolding le
le_above zero a b = refl
le_above (suc width) a b =
    let upper : ℕ = 256 ^ width * b in
    let whole : a + 256 ^ suc width * b ≡ a + 256 * upper = rw (pow-suc, mul_comm (256 ^ width) 256, mul_assoc) in
    let first : (a + 256 * upper) % 256 ≡ a % 256 = omega arith in
    let rest : (a + 256 * upper) / 256 ≡ a / 256 + upper = omega arith in
    rw (whole, first, rest, le_above width (a / 256) b)

-- the lowest bytes of a number are those of its remainder
pub le_low : (width n : ℕ) → le width (n % 256 ^ width) ≡ le width n
le_low width n = sym (le_above width (n % 256 ^ width) (n / 256 ^ width)) ∙ ap (le width) (mod-add-div n (256 ^ width))

pub le_four : (n : ℕ) → le 4 (n % 4294967296) ≡ le 4 n
le_four = le_low 4
