-- What a run leaves in lent bytes: the words of its variables and cells, and the pending list with zeros behind it.
use Prim.Native.Nat.{ℕ, zero, suc, ◌+◌, ◌*◌, ◌-◌, ◌≤◌}
use native.Mathlib.Omega.{arith}
use mathlib.Core.Path.{◌≡◌, refl, sym, ap, ◌∙◌}
use mathlib.Core.List.{List, ◌++◌, map, reverse}
use lib.ListN.{length, take, drop, replicate}
use lib.Seq.{sets, sets-eq}
use borrow.Author.Tests.{ne_eqb}
use Rattle.bytes_le.specs.Numbers.{words}
use Rattle.bytes_le.proofs.Numbers.{Below}
use Rattle.bytes_le.proofs.Words.{words_append}
use Rattle.bytes_le.proofs.Zeros.{length_zeros}
use Rattle.awhile.specs.Language.{note_of}
use Rattle.machine.specs.Memory.{pending_words, pending_after, next_node}
use Rattle.stepping.specs.Stepping.{pending_of}
use Rattle.interpreter.specs.Running.{next_word}
use Rattle.saves.proofs.Pending.{length_pending, Noted, pending_words_lem}

module _ (table : List ℕ) where
  pub next_noted : (ps : List ℕ) (count : ℕ) → Noted table ps count → next_word ps count ≡ next_node (pending_of table ps count)
  unfolding next_word next_node pending_of
  next_noted ps zero noted = refl
  next_noted ps (suc k) noted =
      let e : suc k - 1 ≡ k = omega arith in
      rw (ne_eqb (suc k) 0 (λ z. omega arith), e) (sym (noted k (omega arith)))

  -- "The first N pending entries hold the list, then zeros"
  pub pending_left : (ps ps₀ : List ℕ) (count nodes : ℕ) → Below 256 ps → count ≤ nodes → 4 * nodes ≤ length ps → Noted table ps count → drop (4 * nodes) ps ≡ drop (4 * nodes) ps₀
      → sets ps (4 * count) (words (replicate (nodes - count) 0)) ≡ pending_after nodes (pending_of table ps count) ps₀
  unfolding pending_words pending_after
  pending_left ps ps₀ count nodes bytes few long noted beyond =
      let zs : List ℕ = words (replicate (nodes - count) 0) in
      let size : length zs ≡ 4 * (nodes - count) = length_zeros (nodes - count) in
      let end : 4 * count + length zs ≡ 4 * nodes = omega arith in
      sets-eq zs ps (4 * count) (omega arith)
      ∙ ap (λ n. take (4 * count) ps ++ zs ++ drop n ps) end
      ∙ ap (λ rest. take (4 * count) ps ++ zs ++ rest) beyond
      ∙ ap (λ front. front ++ zs ++ drop (4 * nodes) ps₀) (pending_words_lem table ps count bytes (omega arith) noted)
      ∙ ap (λ front. front ++ drop (4 * nodes) ps₀)
      (sym (words_append (map note_of (reverse (pending_of table ps count))) (replicate (nodes - count) 0))
      ∙ ap (λ n. words (map note_of (reverse (pending_of table ps count)) ++ replicate (nodes - n) 0)) (sym (length_pending table ps count)))
