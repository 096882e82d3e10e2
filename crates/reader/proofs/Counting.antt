-- Walking the array records: what is left to count from here is what is to be counted of all arrays.
use Prim.Native.Nat.{ℕ, suc, ◌+◌, ◌-◌, ◌<◌}
use native.Mathlib.Omega.{arith}
use mathlib.Core.Path.{◌≡◌, refl, ap, ◌∙◌}
use mathlib.Core.List.{List, [], ◌∷◌, ◌++◌}
use Rattle.awhile.specs.Lists.{sum}
use Rattle.awhile.specs.Refusals.{Answer, refused, got}
use Rattle.awhile.specs.Tables.{array_size, counts_start, read_count, read_counts}
use Rattle.reader.specs.Walk.{CountsLeft}
use Rattle.awhile.proofs.Lists.{sum-append}
use Rattle.awhile.proofs.Cases.{counts_next, counts_refused}
use Rattle.awhile.proofs.Accepted.{count_fits}
use Rattle.awhile.specs.declared.Header.{Header}
use Rattle.awhile.specs.declared.Refusal.{Refusal}

module _ (s : List ℕ) where
  -- before the first array nothing is read
  pub counts_start_lem : (header : Header) → CountsLeft s header header.arrays (counts_start header) 0
  unfolding sum
  counts_start_lem header = record { before = []; summed = refl; same = refl; place = refl; few = omega arith }

  module _ (header : Header) (left at cells : ℕ) (h : CountsLeft s header left at cells) where
    counted : (a : Answer ℕ) → read_count s at cells ≡ a → read_count s at (sum h.before) ≡ a
    counted a e = rw h.summed e

    -- a count that was read is added
    pub counts_more : 0 < left → (n : ℕ) → read_count s at cells ≡ got n → CountsLeft s header (left - 1) (at + array_size) (cells + n)
    unfolding sum
    counts_more some n read =
        let next : left ≡ suc (left - 1) = omega arith in
        record {
          before = h.before ++ (n ∷ []);
          summed = sum-append h.before (n ∷ []) ∙ omega (arith, h.summed);
          same = h.same ∙ ap (λ k. read_counts k s at h.before) next ∙ counts_next _ _ _ _ _ (counted (got n) read);
          place = omega (arith, h.place);
          few = (count_fits _ _ _ _ read).total;
        }

    -- a refused count refuses them all
    pub counts_stop : 0 < left → (r : Refusal) → read_count s at cells ≡ refused r → read_counts header.arrays s (counts_start header) [] ≡ refused r
    counts_stop some r e =
        let next : left ≡ suc (left - 1) = omega arith in
        h.same ∙ ap (λ k. read_counts k s at h.before) next ∙ counts_refused _ _ _ _ _ (counted (refused r) e)

    -- with none left all were read
    pub counts_done : left ≡ 0 → read_counts header.arrays s (counts_start header) [] ≡ got h.before
    unfolding read_counts
    counts_done none = h.same ∙ ap (λ k. read_counts k s at h.before) none
