-- A number that the end of a list cuts off: its other bytes are 0.
use Prim.Native.Nat.{ℕ, zero, suc, ◌+◌, ◌<◌}
use native.Mathlib.Nat.{add-zero, zero-add}
use native.Mathlib.Omega.{arith}
use mathlib.Core.Path.{◌≡◌, refl, ap, ◌∙◌}
use mathlib.Core.List.{List}
use lib.ListN.{get_or}
use Rattle.bytes_le.specs.Numbers.{from_le, le_at}
use Rattle.bytes_le.proofs.Loads.{le_at_next}

-- where the same bytes stand, or none in one list and 0 in the other, there is the same number
le_at_same : (width : ℕ) (bs s : List ℕ) (i at : ℕ) → ((k : ℕ) → k < width → get_or bs (i + k) 0 ≡ get_or s (at + k) 0) → le_at width bs i ≡ le_at width s at
unfolding le_at from_le
le_at_same zero bs s i at same = refl
le_at_same (suc width) bs s i at same =
    let first : get_or bs i 0 ≡ get_or s at 0 = rw (add-zero i, add-zero at) at (same 0 (omega arith)) in
    let next : (j k : ℕ) → j + 1 + k ≡ j + suc k = λ j k. omega arith in
    let rest = le_at_same width bs s (i + 1) (at + 1)
    (λ k h. ap (λ n. get_or bs n 0) (next i k) ∙ same (suc k) (omega arith) ∙ ap (λ n. get_or s n 0) (omega arith)) in
    omega (arith, le_at_next bs width i, le_at_next s width at, first, rest)

pub le_at_front : (width : ℕ) (bs s : List ℕ) (at : ℕ) → ((k : ℕ) → k < width → get_or bs k 0 ≡ get_or s (at + k) 0) → le_at width bs 0 ≡ le_at width s at
le_at_front width bs s at same = le_at_same width bs s 0 at (λ k h. ap (λ n. get_or bs n 0) (zero-add k) ∙ same k h)
