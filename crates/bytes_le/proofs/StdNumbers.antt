-- The numbers in bytes of std's `to_le_bytes` and `from_le_bytes` are those of this crate.
use Prim.Native.Nat.{ℕ, zero, suc, ◌/◌, ◌^◌}
use native.Mathlib.Nat.{pow-suc, div-div-eq-div-mul}
use native.Mathlib.Omega.{arith}
use mathlib.Core.Path.{◌≡◌, refl, ap, ◌∙◌}
use mathlib.Core.List.{List}
use lib.ListN.{take, drop}
use lib.Seq.{take-take}
use Rattle.std.specs.Int.{w16, w32, w64, bytes_low_first, from_le_bytes}
use Rattle.bytes_le.specs.Numbers.{le, from_le, le_at}
use Rattle.bytes_le.proofs.Loads.{le_at_two, le_at_four, le_at_parts}

-- the bytes of a number from a place on are those of what is left of it there
low_first : (i k n : ℕ) → bytes_low_first i k n ≡ le k (n / 256 ^ i)
unfolding le
low_first i zero n = refl
low_first zero (suc k) n =
    let one : n / 1 ≡ n = omega arith in
    rw (one, low_first 1 k n)
low_first (suc i) (suc k) n =
    rw (div-div-eq-div-mul n (256 ^ suc i) 256, ← pow-suc 256 (suc i), low_first (suc (suc i)) k n)

-- all bytes of a number
pub low_bytes : (k n : ℕ) → bytes_low_first 0 k n ≡ le k n
low_bytes k n =
    let one : n / 1 ≡ n = omega arith in
    low_first 0 k n ∙ ap (le k) one

module _ (s : List ℕ) (at : ℕ) where
  -- a number is that of its own bytes
  le_at_taken : (width : ℕ) → le_at width (take width (drop at s)) 0 ≡ le_at width s at
  unfolding le_at
  le_at_taken width = ap from_le (take-take width width (drop at s) (omega arith))

  -- two, four and eight bytes
  pub number_two : from_le_bytes w16 (take 2 (drop at s)) ≡ le_at 2 s at
  number_two = omega (arith, le_at_taken 2, le_at_two (take 2 (drop at s)) 0)

  pub number_four : from_le_bytes w32 (take 4 (drop at s)) ≡ le_at 4 s at
  number_four = omega (arith, le_at_taken 4, le_at_four (take 4 (drop at s)) 0)

  pub number_eight : from_le_bytes w64 (take 8 (drop at s)) ≡ le_at 8 s at
  number_eight =
      let bs : List ℕ = take 8 (drop at s) in
      omega (arith, le_at_taken 8, le_at_parts bs 4 4 0, le_at_four bs 0, le_at_four bs 4)
