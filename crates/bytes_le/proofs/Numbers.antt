-- A number that fits comes back from its bytes, and bytes from the number they stand for.
use Prim.Native.Nat.{ℕ, zero, suc, ◌+◌, ◌*◌, ◌/◌, ◌%◌, ◌^◌, ◌≤◌, ◌<◌}
use native.Mathlib.Nat.{div-lt_iff_lt-mul, pow-suc, pow-le-pow_right, le_trans}
use native.Mathlib.Omega.{arith}
use mathlib.Core.Path.{◌≡◌, refl, ap}
use mathlib.Core.List.{List, [], ◌∷◌, ◌++◌}
use lib.ListN.{length, get_or, take, drop, length-take, length-drop}
use lib.Seq.{take_at, drop-append_seam, drop-append-le, take-append-le, get_or-drop}
use mir.Syntax.{w8}
use mir.Val.{Fits}
use Rattle.bytes_le.specs.Numbers.{le, from_le, le_at}

-- every element of a list is below a bound (past the end stands 0)
pub record Below (bound : ℕ) (ns : List ℕ) : Type 0 where
  pub below : (i : ℕ) → get_or ns i 0 < bound

-- the elements of a slice of bytes are bytes
pub slice_bytes : (s : List ℕ) → ((i : ℕ) → Fits w8 (get_or s i 0)) → Below 256 s
slice_bytes s known = record { below = λ i. (known i).fits }

module _ (bound : ℕ) where
  -- the first element is below
  pub below_head : (n : ℕ) (ns : List ℕ) → Below bound (n ∷ ns) → n < bound
  below_head n ns h = h.below 0

  -- the other elements are below
  pub below_tail : (n : ℕ) (ns : List ℕ) → Below bound (n ∷ ns) → Below bound ns
  below_tail n ns h = record { below = λ i. h.below (suc i) }

  -- a first element and the others are below
  pub below_cons : (n : ℕ) (ns : List ℕ) → n < bound → Below bound ns → Below bound (n ∷ ns)
  below_cons n ns first rest = record { below = go }
    where
      go : (i : ℕ) → get_or (n ∷ ns) i 0 < bound
      go zero = first
      go (suc i) = rest.below i

  -- the first elements are below
  pub below_take : (count : ℕ) (ns : List ℕ) → Below bound ns → Below bound (take count ns)
  below_take zero ns h = record { below = λ i. omega (arith, h.below 0) }
  below_take (suc count) [] h = h
  below_take (suc count) (n ∷ ns) h = below_cons n (take count ns) (below_head n ns h) (below_take count ns (below_tail n ns h))

  -- the last elements are below
  pub below_drop : (count : ℕ) (ns : List ℕ) → Below bound ns → Below bound (drop count ns)
  below_drop count ns h = record { below = λ i. rw get_or-drop (h.below (count + i)) }

-- as many bytes as asked for
pub length_le : (width n : ℕ) → length (le width n) ≡ width
unfolding le
length_le zero n = refl
length_le (suc width) n = ap suc (length_le width (n / 256))

-- each of them a byte
pub bytes_le : (width n : ℕ) → Below 256 (le width n)
unfolding le
bytes_le zero n = record { below = λ i. omega arith }
bytes_le (suc width) n = below_cons 256 (n % 256) (le width (n / 256)) (omega arith) (bytes_le width (n / 256))

-- the bytes of a number that fits stand for it
pub from_le_le : (width n : ℕ) → n < 256 ^ width → from_le (le width n) ≡ n
unfolding le from_le
from_le_le zero n fits = omega arith
from_le_le (suc width) n fits =
    let rest = from_le_le width (n / 256) ((div-lt_iff_lt-mul (omega arith)).1 (rw pow-suc at fits)) in
    omega arith

-- bytes are those of the number they stand for
pub le_from_le : (bs : List ℕ) → Below 256 bs → le (length bs) (from_le bs) ≡ bs
unfolding le from_le
le_from_le [] h = refl
le_from_le (b ∷ bs) h =
    let first = below_head 256 b bs h in
    let low : (b + 256 * from_le bs) % 256 ≡ b = omega arith in
    let high : (b + 256 * from_le bs) / 256 ≡ from_le bs = omega arith in
    let rest = le_from_le bs (below_tail 256 b bs h) in
    rw (low, high, rest)

-- bytes stand for a number that fits
pub from_le_lt : (bs : List ℕ) → Below 256 bs → from_le bs < 256 ^ length bs
unfolding from_le
from_le_lt [] h = omega arith
from_le_lt (b ∷ bs) h =
    let first = below_head 256 b bs h in
    let rest = from_le_lt bs (below_tail 256 b bs h) in
    rw pow-suc (omega arith)

-- the number at an offset fits
pub le_at_lt : (width : ℕ) (s : List ℕ) (at : ℕ) → Below 256 s → le_at width s at < 256 ^ width
unfolding le_at
le_at_lt width s at h =
    let fits = from_le_lt (take width (drop at s)) (below_take 256 width (drop at s) (below_drop 256 at s h)) in
    le_trans fits (pow-le-pow_right (omega arith) (simp length-take (omega arith)))

-- what stands in the first of two lists is read from it
pub le_at-append_le : (width at : ℕ) (xs ys : List ℕ) → at + width ≤ length xs → le_at width (xs ++ ys) at ≡ le_at width xs at
unfolding le_at
le_at-append_le width at xs ys h =
    let d : at ≤ length xs = omega arith in
    let t : width ≤ length (drop at xs) = simp length-drop (omega arith) in
    rw (drop-append-le, take-append-le)

-- a number that fits is read where it was written
pub le_at_seam : (width n : ℕ) (xs ys : List ℕ) → n < 256 ^ width → le_at width (xs ++ (le width n ++ ys)) (length xs) ≡ n
unfolding le_at
le_at_seam width n xs ys fits = rw (drop-append_seam, take_at (le width n) ys width (length_le width n)) (from_le_le width n fits)
