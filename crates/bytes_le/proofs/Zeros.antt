-- Words that are 0, and what code that clears them computes.
use Prim.Native.Nat.{ℕ, zero, suc, ◌*◌, ◌-◌, ◌≤◌}
use native.Mathlib.Omega.{arith}
use mathlib.Core.Path.{◌≡◌, refl, ap, ◌∙◌}
use mathlib.Core.List.{List}
use borrow.Rule.Slice.PartMut.{put_mid}
use lib.ListN.{length, replicate, take, drop, length-replicate, length-drop}
use lib.Seq.{sets, length-take-le}
use Rattle.bytes_le.specs.Numbers.{le, words}
use Rattle.bytes_le.proofs.Words.{length_words}
use Rattle.bytes_le.proofs.Copies.{part_stored}

-- bytes that are 0 are words that are 0, a fourth as many
zero_bytes : (k n : ℕ) → n ≡ 4 * k → replicate n 0 ≡ words (replicate k 0)
unfolding words le
zero_bytes zero n e = rw e
zero_bytes (suc k) n e =
    let four : n ≡ suc (suc (suc (suc (4 * k)))) = omega arith in
    rw (four, zero_bytes k (4 * k) refl)

-- four bytes for each
pub length_zeros : (k : ℕ) → length (words (replicate k 0)) ≡ 4 * k
length_zeros k = length_words (replicate k 0) ∙ ap (λ n. 4 * n) (length-replicate k 0)

-- a part of a list that is filled with bytes that are 0: as many words are stored there
pub part_cleared : (l filled : List ℕ) (from to : ℕ) → 4 * to ≤ length l
    → filled ≡ replicate (length (take (4 * to - 4 * from) (drop (4 * from) l))) 0 → from ≤ to
    → put_mid (4 * from) (4 * to - 4 * from) l filled ≡ sets l (4 * from) (words (replicate (to - from) 0))
part_cleared l filled from to inside zeros ordered =
    let size : ℕ = 4 * to - 4 * from in
    let part : List ℕ = take size (drop (4 * from) l) in
    let long : length part ≡ size = length-take-le size (drop (4 * from) l) (simp length-drop (omega arith)) in
    part_stored l filled (4 * from) size (ap length zeros ∙ length-replicate (length part) 0) (omega arith)
    ∙ ap (sets l (4 * from)) (zeros ∙ zero_bytes (to - from) (length part) (omega arith))
