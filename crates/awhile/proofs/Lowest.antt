-- A refusal by 6 points at the lowest-numbered node that breaks the rule.
use Prim.Native.Nat.{ℕ, zero, suc, ◌+◌, ◌≤◌, ◌<◌}
use native.Mathlib.Omega.{arith}
use native.Mathlib.Decide.{dec_lt}
use mathlib.Core.Bool.{Bool, true, false, true≢false}
use mathlib.Core.Path.{◌≡◌, refl, sym, ap, ◌∙◌}
use mathlib.Core.List.{List}
use lib.ListN.{length}
use lib.Dec.{leb}
use Rattle.awhile.specs.Refusals.{Answer, refused, got, check, refusal_number, refusal_place}
use Rattle.awhile.specs.Tables.{Table, offset_of, read_records, in_order, all_in_order, first_broken, LowestBroken, check_whole, read_table, PointsAtLowest}
use Rattle.awhile.proofs.Accepted.{refused_got}
use Rattle.awhile.proofs.Cases.{all_in_order_lem, each_in_order, table_read, table_refused}
use Rattle.awhile.proofs.Causes.{records_cause}
use Rattle.awhile.specs.declared.Node.{Node}
use Rattle.awhile.specs.declared.Refusal.TheVariants.{NotATree, ExtraBytes}

-- ---- the search
module _ (ns : List Node) where
  -- every node that the search passes is in order
  lower_in_order : (count n i : ℕ) → n ≤ i → i < first_broken ns count n → in_order ns i ≡ true
  unfolding first_broken
  lower_in_order zero n i from below = absurd (omega arith)
  lower_in_order (suc count) n i from below = go (in_order ns n) refl (lower_in_order count (suc n) i)
    where
      go : (b : Bool) → in_order ns n ≡ b → (suc n ≤ i → i < first_broken ns count (suc n) → in_order ns i ≡ true) → in_order ns i ≡ true
      go true e rest = here (dec_lt n i)
        where
          here : Dec (n < i) → in_order ns i ≡ true
          here (yes h) = rest (omega arith) (rw e at below)
          here (no h) = let same : i ≡ n = omega arith in rw same e
      go false e rest = absurd (let now : i < n = rw e at below in omega arith)

  -- where it stops before the end, the node breaks the rule
  stops_at_broken : (count n : ℕ) → first_broken ns count n < n + count → in_order ns (first_broken ns count n) ≡ false
  unfolding first_broken
  stops_at_broken zero n before = absurd (omega arith)
  stops_at_broken (suc count) n before = go (in_order ns n) refl (stops_at_broken count (suc n))
    where
      go : (b : Bool) → in_order ns n ≡ b → (first_broken ns count (suc n) < suc n + count → in_order ns (first_broken ns count (suc n)) ≡ false)
          → in_order ns (first_broken ns (suc count) n) ≡ false
      go true e rest = let now : first_broken ns count (suc n) < n + suc count = rw e at before in rw e (rest (omega arith))
      go false e rest = rw e e

  -- one node out of order is enough
  not_all_in_order : (count n : ℕ) → n < count → in_order ns n ≡ false → all_in_order ns count ≡ false
  not_all_in_order count n inside out = go (all_in_order ns count) refl
    where
      go : (b : Bool) → all_in_order ns count ≡ b → b ≡ false
      go true e = sym (each_in_order ns count e n inside) ∙ out
      go false e = refl

  -- where not all are in order, the search from 0 finds the lowest
  found_lowest : all_in_order ns (length ns) ≡ false → LowestBroken ns (first_broken ns (length ns) 0)
  found_lowest some = go (dec_lt (first_broken ns (length ns) 0) (length ns))
    where
      lower : (i : ℕ) → i < first_broken ns (length ns) 0 → in_order ns i ≡ true
      lower i below = lower_in_order (length ns) 0 i (omega arith) below

      go : Dec (first_broken ns (length ns) 0 < length ns) → LowestBroken ns (first_broken ns (length ns) 0)
      go (yes h) = record { is_node = h; broken = stops_at_broken (length ns) 0 (omega arith); lower = lower }
      go (no h) = absurd (true≢false (sym (all_in_order_lem ns (length ns) (λ i below. lower i (omega arith))) ∙ some))

  -- and there is only one lowest
  lowest_found : (n : ℕ) → LowestBroken ns n → first_broken ns (length ns) 0 ≡ n
  lowest_found n low = go (dec_lt (first_broken ns (length ns) 0) n) (dec_lt n (first_broken ns (length ns) 0))
    where
      found : LowestBroken ns (first_broken ns (length ns) 0)
      found = found_lowest (not_all_in_order (length ns) n low.is_node low.broken)

      go : Dec (first_broken ns (length ns) 0 < n) → Dec (n < first_broken ns (length ns) 0) → first_broken ns (length ns) 0 ≡ n
      go (yes h) other = absurd (true≢false (sym (low.lower _ h) ∙ found.broken))
      go (no h) (yes k) = absurd (true≢false (sym (found.lower n k) ∙ low.broken))
      go (no h) (no k) = omega arith

-- ---- over bytes
-- Where the records were read, and a node is the lowest-numbered that breaks the rule, the table is refused by 6 at its record
pub lowest_refused : (s : List ℕ) (t : Table) → read_records s ≡ got t → (n : ℕ) → LowestBroken t.nodes n → read_table s ≡ refused (NotATree (offset_of t n))
unfolding check_whole check
lowest_refused s t read n low =
    table_read s t read ∙ rw (not_all_in_order t.nodes (length t.nodes) n low.is_node low.broken, lowest_found t.nodes n low)

-- 7 is not 6
not_extra : (b : Bool) (end place : ℕ) (t : Table) → check b (ExtraBytes end) (got t) ≡ refused (NotATree place) → ⊥
unfolding check
not_extra true end place t e = refused_got (NotATree place) t (sym e)
not_extra false end place t e = let same : ExtraBytes end ≡ NotATree place = cc in omega (arith, ap refusal_number same)

-- And the other way round: "With refusal 6 the place must be the record of the lowest-numbered node that breaks the rule."
pub six_points_at_lowest : (s : List ℕ) (place : ℕ) → read_table s ≡ refused (NotATree place) → PointsAtLowest s place
unfolding check_whole check
six_points_at_lowest s place six = go (read_records s) refl
  where
    whole : (t : Table) → read_records s ≡ got t → check_whole s t ≡ refused (NotATree place) → (b : Bool) → all_in_order t.nodes (length t.nodes) ≡ b
        → PointsAtLowest s place
    whole t e refuses true ordered =
        let end = offset_of t (length t.nodes) in
        absurd (not_extra (leb (length s) end) end place t (rw ordered at refuses))
    whole t e refuses false broken =
        let first : NotATree (offset_of t (first_broken t.nodes (length t.nodes) 0)) ≡ NotATree place = cc (rw broken at refuses) in
        record {
          table = t;
          records = e;
          node = first_broken t.nodes (length t.nodes) 0;
          lowest = found_lowest t.nodes broken;
          is_place = sym (ap refusal_place first);
        }

    go : (a : Answer Table) → read_records s ≡ a → PointsAtLowest s place
    go (refused r) e =
        let same : r ≡ NotATree place = cc (sym (table_refused s r e) ∙ six) in
        absurd (omega (arith, ap refusal_number same, records_cause s r e))
    go (got t) e = whole t e (sym (table_read s t e) ∙ six) (all_in_order t.nodes (length t.nodes)) refl
