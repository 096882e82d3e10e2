-- The places cleared one by one: what is kept of each, and that the slice stays as long as it was.
use Prim.Native.Nat.{ℕ, zero, suc, ◌+◌, ◌*◌, ◌-◌, ◌≤◌, ◌<◌}
use native.Mathlib.Numerals.{add-one}
use native.Mathlib.Nat.{mul-suc, mul-le-mul_left}
use native.Mathlib.Omega.{arith}
use mathlib.Core.Bool.{Bool, true, false}
use mathlib.Core.Path.{◌≡◌, refl, ◌∙◌}
use mathlib.Core.List.{List}
use lib.ListN.{length, get_or, replicate}
use lib.Seq.{sets, length-sets}
use lib.Dec.{ltb}
use borrow.Author.Tests.{lt-ltb, le-ltb, ltb-true, ltb-false}
use Rattle.bytes_le.specs.Numbers.{words}
use Rattle.saves.specs.Leaving.{kept_words, left_places}

-- eight places stand in a slice
pub eight_places : (size k long : ℕ) → k < 8 → 32 * size ≤ long → 4 * (size * k + size) ≤ long
eight_places size k long less within =
    let next : size * suc k ≤ size * 8 = mul-le-mul_left size (omega arith) in
    omega (arith, mul-suc size k)

module _ (heights : List ℕ) (count before nodes : ℕ) where
  -- what is kept of a place that is open, and of one that is not
  pub kept_open : (k : ℕ) → k < count → kept_words heights count before k ≡ before + get_or heights k 0
  unfolding kept_words
  kept_open k less = rw (lt-ltb k count less)

  pub kept_shut : (k : ℕ) → count ≤ k → kept_words heights count before k ≡ 0
  unfolding kept_words
  kept_shut k more = rw (le-ltb k count more)

  -- no more than the place has
  pub kept_few : ((k : ℕ) → k < count → get_or heights k 0 ≤ nodes) → (k : ℕ) → kept_words heights count before k ≤ before + nodes
  kept_few few k = go (ltb k count) refl
    where
      go : (b : Bool) → ltb k count ≡ b → kept_words heights count before k ≤ before + nodes
      go true e = let less = ltb-true k count e in omega (arith, kept_open k less, few k less)
      go false e = omega (arith, kept_shut k (ltb-false k count e))

  -- the slice is as long as it was
  pub length_left : (k : ℕ) (s : List ℕ) → length (left_places heights count before nodes k s) ≡ length s
  unfolding left_places
  length_left zero s = refl
  length_left (suc k) s =
      length-sets (left_places heights count before nodes k s) (4 * ((before + nodes) * k + kept_words heights count before k)) (words (replicate (before + nodes - kept_words heights count before k) 0))
      ∙ length_left k s

  -- no place is cleared yet, and one place more
  pub left_none : (s : List ℕ) → s ≡ left_places heights count before nodes 0 s
  unfolding left_places
  left_none s = refl

  pub left_more : (k : ℕ) (s l l' : List ℕ) (keep : ℕ) → keep ≡ kept_words heights count before k → l ≡ left_places heights count before nodes k s
      → l' ≡ sets l (4 * ((before + nodes) * k + keep)) (words (replicate ((before + nodes) * k + (before + nodes) - ((before + nodes) * k + keep)) 0))
      → l' ≡ left_places heights count before nodes (k + 1) s
  unfolding left_places
  left_more k s l l' keep is_kept is_left is =
      let rest : (before + nodes) * k + (before + nodes) - ((before + nodes) * k + keep) ≡ before + nodes - keep = omega arith in
      is ∙ rw (add-one k, rest, is_kept, is_left)
