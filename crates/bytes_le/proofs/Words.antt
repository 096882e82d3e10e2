-- Words come back from their bytes, and bytes from their words.
use Prim.Native.Nat.{ℕ, zero, suc, ◌+◌, ◌*◌, ◌≤◌}
use native.Mathlib.Omega.{arith}
use mathlib.Core.Path.{◌≡◌, refl, sym, ap, ◌∙◌}
use mathlib.Core.List.{List, [], ◌∷◌, ◌++◌, append_assoc}
use lib.ListN.{length, take, drop, length-append, length-drop, take-append-drop}
use lib.Seq.{length-take-le, take-take}
use Rattle.bytes_le.specs.Numbers.{le, from_le, le_at, words, from_words}
use Rattle.bytes_le.proofs.Numbers.{Below, below_take, below_drop, length_le, le_from_le}
use Rattle.bytes_le.proofs.Copies.{drop-take}

-- four bytes for each word
pub length_words : (ws : List ℕ) → length (words ws) ≡ 4 * length ws
unfolding words
length_words [] = refl
length_words (w ∷ ws) = simp (length-append, length_le) (omega (arith, length_words ws))

-- words of two lists, one behind the other
pub words_append : (vs ws : List ℕ) → words (vs ++ ws) ≡ words vs ++ words ws
unfolding words
words_append [] ws = refl
words_append (v ∷ vs) ws = rw (words_append vs ws) (sym (append_assoc (le 4 v) (words vs) (words ws)))

-- bytes come back from their words
pub words_from_words : (count : ℕ) (bs : List ℕ) → length bs ≡ 4 * count → Below 256 bs → words (from_words count bs) ≡ bs
unfolding words from_words
words_from_words zero [] e h = refl
words_from_words zero (b ∷ bs) e h = absurd (omega arith)
words_from_words (suc count) bs e h =
    let four : length (take 4 bs) ≡ 4 = length-take-le 4 bs (omega arith) in
    let first : le 4 (from_le (take 4 bs)) ≡ take 4 bs = rw four at (le_from_le (take 4 bs) (below_take 256 4 bs h)) in
    let rest = words_from_words count (drop 4 bs) (simp length-drop (omega arith)) (below_drop 256 4 bs h) in
    rw (first, rest) (take-append-drop 4 bs)

-- words are read from the bytes that they stand in, whatever follows
pub from_words-take : (count : ℕ) (bs : List ℕ) → from_words count (take (4 * count) bs) ≡ from_words count bs
unfolding from_words
from_words-take zero bs = refl
from_words-take (suc count) bs =
    let next : 4 * suc count ≡ 4 + 4 * count = omega arith in
    let first : take 4 (take (4 * suc count) bs) ≡ take 4 bs = take-take 4 (4 * suc count) bs (omega arith) in
    let rest : drop 4 (take (4 * suc count) bs) ≡ take (4 * count) (drop 4 bs) = ap (λ n. drop 4 (take n bs)) next ∙ drop-take 4 (4 * count) bs in
    rw (first, rest, from_words-take count (drop 4 bs))

-- the first bytes of many come back from their words
pub words_first : (count : ℕ) (bs : List ℕ) → 4 * count ≤ length bs → Below 256 bs → words (from_words count bs) ≡ take (4 * count) bs
words_first count bs long h =
    ap words (sym (from_words-take count bs))
    ∙ words_from_words count (take (4 * count) bs) (length-take-le (4 * count) bs long) (below_take 256 (4 * count) bs h)

-- a word is the bytes at its place
pub word_bytes : (bs : List ℕ) (at : ℕ) → Below 256 bs → at + 4 ≤ length bs → le 4 (le_at 4 bs at) ≡ take 4 (drop at bs)
unfolding le_at
word_bytes bs at bytes inside =
    let four : length (take 4 (drop at bs)) ≡ 4 = length-take-le 4 (drop at bs) (simp length-drop (omega arith)) in
    rw four at (le_from_le (take 4 (drop at bs)) (below_take 256 4 (drop at bs) (below_drop 256 at bs bytes)))
