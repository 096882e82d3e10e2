-- The answer slice written number by number.
use Prim.Native.Nat.{ℕ, zero, suc, ◌+◌, ◌*◌, ◌/◌, ◌≤◌, ◌<◌}
use native.Mathlib.Nat.{suc-add}
use native.Mathlib.Omega.{arith}
use mathlib.Core.Bool.{Bool, true, false}
use mathlib.Core.List.{List, [], ◌∷◌, ◌++◌}
use mathlib.Core.Path.{◌≡◌, refl, sym, ap, ◌∙◌}
use lib.ListN.{length, get_or, take, drop, length-drop}
use lib.Seq.{sets, sets-eq, take-take}
use lib.Dec.{leb}
use borrow.Author.Tests.{leb-true, leb-false, le-leb, lt-leb}
use Rattle.bytes_le.specs.Numbers.{le}
use Rattle.bytes_le.proofs.Numbers.{length_le}
use Rattle.bytes_le.proofs.Copies.{sets_second}
use Rattle.entries.specs.Answers.{answered}

answered_fits : (n : ℕ) (ns slice : List ℕ) → 8 ≤ length slice → answered (n ∷ ns) slice ≡ le 8 n ++ answered ns (drop 8 slice)
unfolding answered
answered_fits n ns slice h = rw (le-leb 8 (length slice) h)

answered_short : (ns slice : List ℕ) → length slice < 8 → answered ns slice ≡ slice
unfolding answered
answered_short [] slice h = refl
answered_short (n ∷ ns) slice h = rw (lt-leb 8 (length slice) h)

-- no number yet, and one more behind those that are there
pub answered_none : (ns slice : List ℕ) → slice ≡ answered (take 0 ns) slice
unfolding answered
answered_none ns slice = refl

pub answered_more : (ns slice : List ℕ) (i : ℕ) → i < length ns → 8 * i + 8 ≤ length slice
    → sets (answered (take i ns) slice) (8 * i) (le 8 (get_or ns i 0)) ≡ answered (take (i + 1) ns) slice
answered_more [] slice i within fits = absurd (omega arith)
answered_more (n ∷ ns) slice zero within fits =
    let room : 8 ≤ length slice = fits in
    let bytes : 0 + length (le 8 n) ≡ 8 = omega (arith, length_le 8 n) in
    rw (← answered_none (n ∷ ns) slice, answered_fits n [] slice room, ← answered_none ns (drop 8 slice))
    (sets-eq (le 8 n) slice 0 (omega arith) ∙ ap (λ k. le 8 n ++ drop k slice) bytes)
answered_more (n ∷ ns) slice (suc i) within fits =
    let room : 8 ≤ length slice = omega arith in
    let more : take (suc i + 1) (n ∷ ns) ≡ n ∷ take (i + 1) ns = rw suc-add in
    let place : 8 * suc i ≡ length (le 8 n) + 8 * i = omega (arith, length_le 8 n) in
    rw (more, answered_fits n (take i ns) slice room, answered_fits n (take (i + 1) ns) slice room, place)
    (sets_second (le 8 n) (answered (take i ns) (drop 8 slice)) (le 8 (get_or ns i 0)) (8 * i)
    ∙ ap (λ rest. le 8 n ++ rest) (answered_more ns (drop 8 slice) i (omega arith) (simp length-drop (omega arith))))

-- a number behind those that fit is dropped
answered_whole : (k : ℕ) (ns slice : List ℕ) → length slice < 8 * k + 8 → answered (take k ns) slice ≡ answered ns slice
answered_whole zero ns slice few = sym (answered_none ns slice) ∙ sym (answered_short ns slice few)
answered_whole (suc k) [] slice few = refl
answered_whole (suc k) (n ∷ ns) slice few = go (leb 8 (length slice)) refl (answered_whole k ns (drop 8 slice) (simp length-drop (omega arith)))
  where
    go : (b : Bool) → leb 8 (length slice) ≡ b → answered (take k ns) (drop 8 slice) ≡ answered ns (drop 8 slice)
        → answered (n ∷ take k ns) slice ≡ answered (n ∷ ns) slice
    go true e rest =
        let room : 8 ≤ length slice = leb-true 8 (length slice) e in
        rw (answered_fits n (take k ns) slice room, answered_fits n ns slice room, rest)
    go false e rest =
        let short = leb-false 8 (length slice) e in
        answered_short (n ∷ take k ns) slice short ∙ sym (answered_short (n ∷ ns) slice short)

-- so it leaves what stands there as it is
pub answered_dropped : (ns slice : List ℕ) (i : ℕ) → length slice < 8 * i + 8 → answered (take i ns) slice ≡ answered (take (i + 1) ns) slice
answered_dropped ns slice i few =
    rw (← take-take i (i + 1) ns (omega arith)) (answered_whole i (take (i + 1) ns) slice few)
