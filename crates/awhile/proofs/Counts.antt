-- The cell counts of an accepted table, where they stand in its bytes.
use Prim.Native.Nat.{ℕ, zero, suc, ◌+◌, ◌*◌, ◌<◌}
use native.Mathlib.Omega.{arith}
use mathlib.Core.Bool.{Bool, ◌&&◌}
use mathlib.Core.Path.{◌≡◌, refl, sym, ap, ◌∙◌}
use mathlib.Core.List.{List, [], ◌∷◌, ◌++◌, append-nil}
use lib.ListN.{length, get_or}
use lib.Seq.{append_snoc}
use lib.Dec.{ltb, leb}
use Rattle.bytes_le.specs.Numbers.{le_at}
use Rattle.bytes_le.proofs.Numbers.{Below}
use Rattle.awhile.specs.Lists.{sum}
use Rattle.awhile.specs.Refusals.{check, got}
use Rattle.awhile.specs.Tables.{Table, header_of, array_size, labels_start, counts_start, count_start, nodes_start, max_cells, length_of_kind, read_table, read_records, read_header, read_labels, read_count, read_counts, read_nodes}
use Rattle.awhile.proofs.Accepted.{check_got, framed_rest, got_same, then_got, counts_first, accepted_read}
use Rattle.awhile.specs.declared.Refusal.TheVariants.{BeyondLimit}

-- the counts that stand from an offset on, after others
record CountsThere (s : List ℕ) (left at : ℕ) (before counts : List ℕ) : Type 0 where
  more : List ℕ
  whole : counts ≡ before ++ more
  counted : length more ≡ left
  there : (a : ℕ) → a < left → get_or more a 0 ≡ le_at 2 s (at + array_size * a + 4)

module _ (s : List ℕ) where
  count_there : (at before n : ℕ) → read_count s at before ≡ got n → n ≡ le_at 2 s (at + 4)
  unfolding read_count
  count_there at before n e =
      let read : ℕ = le_at 2 s (at + 4) in
      let test : Bool = ltb 0 read && leb (before + read) max_cells in
      let rest = framed_rest s at (length_of_kind 2 array_size s at) (check test (BeyondLimit at) (got read)) n e in
      sym (got_same read n (check_got test (BeyondLimit at) (got read) n rest).1)

  counts_more : (left at n : ℕ) (before counts : List ℕ) → n ≡ le_at 2 s (at + 4) → CountsThere s left (at + array_size) (before ++ (n ∷ [])) counts
      → CountsThere s (suc left) at before counts
  counts_more left at n before counts first rest =
      record { more = n ∷ rest.more; whole = rest.whole ∙ append_snoc before n rest.more; counted = ap suc rest.counted; there = there }
    where
      there : (a : ℕ) → a < suc left → get_or (n ∷ rest.more) a 0 ≡ le_at 2 s (at + array_size * a + 4)
      there zero less = let e : at + 4 ≡ at + array_size * 0 + 4 = omega arith in first ∙ ap (le_at 2 s) e
      there (suc a) less = let e : at + array_size + array_size * a + 4 ≡ at + array_size * suc a + 4 = omega arith in rest.there a (omega arith) ∙ ap (le_at 2 s) e

  counts_there : (left at : ℕ) (before counts : List ℕ) → read_counts left s at before ≡ got counts → CountsThere s left at before counts
  unfolding read_counts
  counts_there zero at before counts e =
      record { more = []; whole = sym (got_same before counts e) ∙ sym (append-nil before); counted = refl; there = λ a less. absurd (omega arith) }
  counts_there (suc left) at before counts e =
      counts_first s (CountsThere s (suc left) at before counts) left at before counts e
      (λ n first rest. counts_more left at n before counts (count_there at (sum before) n first) (counts_there left (at + array_size) (before ++ (n ∷ [])) counts rest))

  records_counts : (t : Table) → read_records s ≡ got t → CountsThere s (length t.counts) (counts_start (header_of t)) [] t.counts
  unfolding read_records
  records_counts t e =
      let Q : Type 0 = CountsThere s (length t.counts) (counts_start (header_of t)) [] t.counts in
      then_got Q (read_header s) _ t e
      (λ h eh e₁.
      then_got Q (read_labels s h (labels_start h)) _ t e₁
      (λ l el e₂.
      then_got Q (read_counts h.arrays s (counts_start h) []) _ t e₂
      (λ cs ec e₃.
      then_got Q (read_nodes h.nodes h s (nodes_start h) []) _ t e₃
      (λ ns en e₄. rw (← got_same _ t e₄) (all_there (counts_start h) cs (counts_there h.arrays (counts_start h) [] cs ec))))))
    where
      all_there : (at : ℕ) (cs : List ℕ) {left : ℕ} → CountsThere s left at [] cs → CountsThere s (length cs) at [] cs
      all_there at cs r = let e : length cs ≡ _ = ap length r.whole ∙ r.counted in rw e r

-- "array: cell count": the count of array a stands in its record, and an array that is not declared has none
pub count_at : (s : List ℕ) → Below 256 s → (t : Table) → read_table s ≡ got t → (a : ℕ) → a < length t.counts → get_or t.counts a 0 ≡ le_at 2 s (count_start (header_of t) a + 4)
count_at s bytes t e a less =
    let r = records_counts s t (accepted_read s bytes t e) in
    ap (λ cs. get_or cs a 0) r.whole ∙ r.there a less
