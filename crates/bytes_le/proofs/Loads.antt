-- A number in a list of bytes, byte by byte and in two parts: what code that reads it computes.
use Prim.Native.Nat.{ℕ, zero, suc, ◌+◌, ◌*◌, ◌^◌, ◌≤◌}
use native.Mathlib.Numerals.{add-one}
use native.Mathlib.Nat.{add_assoc, add-zero, zero-add, suc-add, pow-suc, mul_comm, mul_assoc}
use native.Mathlib.Omega.{arith}
use mathlib.Core.Bool.{Bool, true, false}
use mathlib.Core.Path.{◌≡◌, refl, ap, ◌∙◌}
use mathlib.Core.List.{List}
use lib.Dec.{ltb}
use borrow.Author.Tests.{ltb-true, ltb-false}
use lib.ListN.{length, get_or, drop_of_length-le, get_or-eq_default}
use lib.Seq.{drop-cons, take-nil}
use Rattle.bytes_le.specs.Numbers.{from_le, le_at}

module _ (s : List ℕ) where
  -- past the end every number is 0
  pub le_at_past : (width at : ℕ) → length s ≤ at → le_at width s at ≡ 0
  unfolding le_at from_le
  le_at_past width at past = rw (drop_of_length-le s past, take-nil width)

  -- the lowest byte, and the number of the others
  pub le_at_next : (width at : ℕ) → le_at (suc width) s at ≡ get_or s at 0 + 256 * le_at width s (at + 1)
  unfolding le_at from_le
  le_at_next width at = go (ltb at (length s)) refl
    where
      go : (b : Bool) → ltb at (length s) ≡ b → le_at (suc width) s at ≡ get_or s at 0 + 256 * le_at width s (at + 1)
      go true e = rw (drop-cons s at 0 (ltb-true at (length s) e), add-one at)
      go false e =
          let past = ltb-false at (length s) e in
          omega (arith, le_at_past (suc width) at past, le_at_past width (at + 1) (omega arith), get_or-eq_default s 0 past)

  -- one byte
  pub le_at_one : (at : ℕ) → le_at 1 s at ≡ get_or s at 0
  unfolding le_at from_le
  le_at_one at = omega (arith, le_at_next 0 at)

  -- two bytes
  pub le_at_two : (at : ℕ) → le_at 2 s at ≡ get_or s at 0 + 256 * get_or s (at + 1) 0
  le_at_two at = omega (arith, le_at_next 1 at, le_at_one (at + 1))

  -- four bytes
  pub le_at_four : (at : ℕ) → le_at 4 s at ≡ get_or s at 0 + 256 * get_or s (at + 1) 0 + 65536 * get_or s (at + 2) 0 + 16777216 * get_or s (at + 3) 0
  le_at_four at =
      let second : le_at 3 s (at + 1) ≡ get_or s (at + 1) 0 + 256 * le_at 2 s (at + 2) = rw (add_assoc at 1 1) at (le_at_next 2 (at + 1)) in
      let third : le_at 2 s (at + 2) ≡ get_or s (at + 2) 0 + 256 * get_or s (at + 3) 0 = rw (add_assoc at 2 1) at (le_at_two (at + 2)) in
      omega (arith, le_at_next 3 at)

  -- in two parts of any widths
  pub le_at_parts : (low high at : ℕ) → le_at (low + high) s at ≡ le_at low s at + 256 ^ low * le_at high s (at + low)
  unfolding le_at from_le
  le_at_parts zero high at = rw (zero-add high, add-zero at) (omega arith)
  le_at_parts (suc low) high at =
      let rest = le_at_parts low high (at + 1) in
      let place : at + 1 + low ≡ at + suc low = omega arith in
      let whole : le_at (suc low + high) s at ≡ get_or s at 0 + 256 * le_at (low + high) s (at + 1) = rw (suc-add low high) (le_at_next (low + high) at) in
      let scaled : 256 ^ suc low * le_at high s (at + suc low) ≡ 256 * (256 ^ low * le_at high s (at + suc low)) =
      ap (λ k. k * le_at high s (at + suc low)) (pow-suc 256 low ∙ mul_comm (256 ^ low) 256) ∙ mul_assoc 256 (256 ^ low) (le_at high s (at + suc low)) in
      omega (arith, whole, le_at_next low at, rw place at rest, scaled)
