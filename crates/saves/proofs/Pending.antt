-- The pending list in bytes: which bytes it is read from, and the bytes of its notes.
use Prim.Native.Nat.{ℕ, zero, suc, ◌+◌, ◌*◌, ◌≤◌, ◌<◌}
use native.Mathlib.Omega.{arith}
use mathlib.Core.Path.{◌≡◌, refl, sym, ap, ◌∙◌}
use mathlib.Core.List.{List, [], ◌∷◌, ◌++◌, map, reverse, reverse-cons, map-append, append-nil}
use lib.ListN.{length, take, drop}
use lib.Seq.{take-add}
use Rattle.bytes_le.specs.Numbers.{le, from_le, le_at, words}
use Rattle.bytes_le.proofs.Numbers.{Below}
use Rattle.bytes_le.proofs.Words.{words_append, word_bytes}
use Rattle.bytes_le.proofs.Copies.{part_within}
use Rattle.awhile.specs.Language.{Com, note_of}
use Rattle.reader.specs.Index.{command_in}
use Rattle.stepping.specs.Stepping.{pending_of}

-- a number is read from the bytes where it stands
pub le_at-take : (width n : ℕ) (bs : List ℕ) (at : ℕ) → at + width ≤ n → le_at width (take n bs) at ≡ le_at width bs at
unfolding le_at from_le
le_at-take width n bs at inside = ap from_le (part_within at width n bs inside)

module _ (table : List ℕ) where
  -- as many commands as entries
  pub length_pending : (ps : List ℕ) (count : ℕ) → length (pending_of table ps count) ≡ count
  unfolding pending_of
  length_pending ps zero = refl
  length_pending ps (suc k) = ap suc (length_pending ps k)

  -- a list is read from the bytes of its entries
  pub pending_take : (ps : List ℕ) (n count : ℕ) → 4 * count ≤ n → pending_of table (take n ps) count ≡ pending_of table ps count
  unfolding pending_of
  pending_take ps n zero h = refl
  pending_take ps n (suc k) h = rw (le_at-take 4 n ps (4 * k) (omega arith), pending_take ps n k (omega arith))

  -- the notes of pending commands are their entries
  abbrev pub Noted : List ℕ → ℕ → Type 0
  Noted ps count = (j : ℕ) → j < count → note_of (command_in table (le_at 4 ps (4 * j))) ≡ le_at 4 ps (4 * j)

  -- the first bytes are the words of the notes, the next command's last
  pub pending_words_lem : (ps : List ℕ) (count : ℕ) → Below 256 ps → 4 * count ≤ length ps → Noted ps count → take (4 * count) ps ≡ words (map note_of (reverse (pending_of table ps count)))
  unfolding pending_of words
  pending_words_lem ps zero bytes long noted = refl
  pending_words_lem ps (suc k) bytes long noted =
      let c : Com ℕ = command_in table (le_at 4 ps (4 * k)) in
      let below : List (Com ℕ) = pending_of table ps k in
      let four : 4 * suc k ≡ 4 * k + 4 = omega arith in
      ap (λ n. take n ps) four ∙ take-add (4 * k) 4 ps
      ∙ ap (λ front. front ++ take 4 (drop (4 * k) ps)) (pending_words_lem ps k bytes (omega arith) (λ j less. noted j (omega arith)))
      ∙ ap (λ last. words (map note_of (reverse below)) ++ last) (sym (word_bytes ps (4 * k) bytes (omega arith)) ∙ ap (le 4) (sym (noted k (omega arith))) ∙ sym (append-nil (le 4 (note_of c))))
      ∙ sym (words_append (map note_of (reverse below)) (note_of c ∷ []))
      ∙ ap words (sym (map-append note_of (reverse below) (c ∷ [])))
      ∙ ap (λ cs. words (map note_of cs)) (sym (reverse-cons c below))
