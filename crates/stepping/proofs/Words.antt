-- 4-byte words in a slice: what one reads as, and what the others read as after one was stored.
use Rattle.std.proofs.Common.{◌≡◌, ℕ, zero, suc, ◌+◌, ◌*◌, ◌^◌, ◌<◌, ◌≤◌, Bool, true, false, eqb, ltb, ◌⊎◌, List, [], ◌∷◌, ◌++◌, length, get_or, take, drop, set, sym, refl, ap, ◌∙◌, inl, inr, ⊎_elim, append_assoc, add-zero, add_assoc, eq-or-lt_of_le, arith, length-set, length-take-le, get_or-set_other, get_or-set_same, drop-drop, ext_get_or, ltb-false, ltb-true, eqb-true}
use borrow.Author.Tests.{eqb-false}
use lib.Seq.{sets, sets-eq}
use Rattle.bytes_le.specs.Numbers.{le, le_at, from_le, from_words}
use Rattle.bytes_le.proofs.Numbers.{length_le, le_at_seam}
use Rattle.bytes_le.proofs.Loads.{le_at_next}

-- numbers whose bytes are equal are equal
pub le_at_same : (width : ℕ) (l m : List ℕ) (at : ℕ) → ((i : ℕ) → i < width → get_or l (at + i) 0 ≡ get_or m (at + i) 0) → le_at width l at ≡ le_at width m at
unfolding le_at from_le
le_at_same zero l m at h = refl
le_at_same (suc width) l m at h =
    let first : get_or l at 0 ≡ get_or m at 0 = rw add-zero at (h 0 (omega arith)) in
    let rest = le_at_same width l m (at + 1) (λ i less. rw (add_assoc at 1 i) (h (1 + i) (omega arith))) in
    rw (le_at_next l width at, le_at_next m width at, first, rest)

-- a byte outside of what was stored
pub get_or-sets : (bs l : List ℕ) (at k : ℕ) → (k < at) ⊎ (at + length bs ≤ k) → get_or (sets l at bs) k 0 ≡ get_or l k 0
get_or-sets [] l at k outside = refl
get_or-sets (b ∷ bs) l at k outside =
    get_or-sets bs (set l at b) (suc at) k (⊎_elim (λ less. inl (omega arith)) (λ more. inr (omega arith)) outside)
    ∙ get_or-set_other l at k b 0 (λ e. ⊎_elim (λ less. omega arith) (λ more. omega arith) outside)

-- a number outside of what was stored
pub le_at_outside : (width : ℕ) (bs l : List ℕ) (at k : ℕ) → (k + width ≤ at) ⊎ (at + length bs ≤ k) → le_at width (sets l at bs) k ≡ le_at width l k
le_at_outside width bs l at k outside =
    le_at_same width (sets l at bs) l k (λ i less. get_or-sets bs l at (k + i) (⊎_elim (λ before. inl (omega arith)) (λ after. inr (omega arith)) outside))

-- the number that was stored
pub le_at_stored : (width n : ℕ) (l : List ℕ) (at : ℕ) → n < 256 ^ width → at + width ≤ length l → le_at width (sets l at (le width n)) at ≡ n
le_at_stored width n l at fits inside =
    let shape : sets l at (le width n) ≡ take at l ++ (le width n ++ drop (at + length (le width n)) l) =
    sets-eq (le width n) l at (rw length_le inside) ∙ append_assoc (take at l) (le width n) (drop (at + length (le width n)) l) in
    let front : length (take at l) ≡ at = length-take-le at l (omega arith) in
    rw shape (ap (le_at width (take at l ++ (le width n ++ drop (at + length (le width n)) l))) (sym front) ∙ le_at_seam width n (take at l) (drop (at + length (le width n)) l) fits)

-- word n of the words in bytes
pub word_at : (count : ℕ) (bs : List ℕ) (n : ℕ) → n < count → get_or (from_words count bs) n 0 ≡ le_at 4 bs (4 * n)
unfolding from_words le_at
word_at zero bs n h = elim h [ ]
word_at (suc count) bs zero h = refl
word_at (suc count) bs (suc n) h =
    let next : 4 + 4 * n ≡ 4 * suc n = omega arith in
    word_at count (drop 4 bs) n (omega arith) ∙ ap (λ rest. from_le (take 4 rest)) (drop-drop (4 * n) 4 bs ∙ ap (λ k. drop k bs) next)

-- as many words as asked for
pub length-from_words : (count : ℕ) (bs : List ℕ) → length (from_words count bs) ≡ count
unfolding from_words
length-from_words zero bs = refl
length-from_words (suc count) bs = ap suc (length-from_words count (drop 4 bs))

-- two words are apart
pub words_apart : (i n : ℕ) → (i ≡ n → ⊥) → (4 * i + 4 ≤ 4 * n) ⊎ (4 * n + 4 ≤ 4 * i)
words_apart i n differ = go (ltb i n) refl
  where
    go : (b : Bool) → ltb i n ≡ b → (4 * i + 4 ≤ 4 * n) ⊎ (4 * n + 4 ≤ 4 * i)
    go true e = inl (omega (arith, ltb-true i n e))
    go false e = inr (⊎_elim (λ same. absurd (differ (sym same))) (λ more. omega arith) (eq-or-lt_of_le (ltb-false i n e)))

-- a stored word is set among the words
pub words_stored : (count : ℕ) (bs : List ℕ) (n v : ℕ) → v < 2 ^ 32 → n < count → 4 * count ≤ length bs
    → from_words count (sets bs (4 * n) (le 4 v)) ≡ set (from_words count bs) n v
words_stored count bs n v fits inside long =
    ext_get_or 0 (from_words count (sets bs (4 * n) (le 4 v))) (set (from_words count bs) n v)
    (length-from_words count (sets bs (4 * n) (le 4 v)) ∙ sym (length-set (from_words count bs) n v ∙ length-from_words count bs))
    (λ i less. word i (rw length-from_words at less))
  where
    word : (i : ℕ) → i < count → get_or (from_words count (sets bs (4 * n) (le 4 v))) i 0 ≡ get_or (set (from_words count bs) n v) i 0
    word i less = go (eqb i n) refl
      where
        go : (b : Bool) → eqb i n ≡ b → get_or (from_words count (sets bs (4 * n) (le 4 v))) i 0 ≡ get_or (set (from_words count bs) n v) i 0
        go true e =
            let same = eqb-true i n e in
            rw (same, word_at count (sets bs (4 * n) (le 4 v)) n inside, le_at_stored 4 v bs (4 * n) fits (omega arith)) (sym (get_or-set_same (from_words count bs) n v 0 (rw length-from_words inside)))
        go false e =
            let outside : (4 * i + 4 ≤ 4 * n) ⊎ (4 * n + length (le 4 v) ≤ 4 * i) = rw length_le (words_apart i n (eqb-false i n e)) in
            word_at count (sets bs (4 * n) (le 4 v)) i less ∙ le_at_outside 4 (le 4 v) bs (4 * n) (4 * i) outside
            ∙ sym (get_or-set_other (from_words count bs) n i v 0 (eqb-false i n e) ∙ word_at count bs i less)
