-- A piece that stands at a place of a list: how a list that was put together is read again.
use Prim.Native.Nat.{ℕ, ◌+◌, ◌^◌, ◌≤◌, ◌<◌}
use native.Mathlib.Omega.{arith}
use mathlib.Core.Path.{◌≡◌, sym, ap, ◌∙◌}
use mathlib.Core.List.{List, [], ◌++◌, append-nil, append_assoc}
use lib.ListN.{length, drop, length-append, length-drop}
use lib.Seq.{take_at, drop-append_seam, drop-drop}
use Rattle.bytes_le.specs.Numbers.{le, le_at}
use Rattle.bytes_le.proofs.Numbers.{length_le, from_le_le}

-- the piece stands in the list at the place, with something or nothing after it
pub record Stands (piece : List ℕ) (at : ℕ) (s : List ℕ) : Type 0 where
  pub after : List ℕ
  pub there : drop at s ≡ piece ++ after

module _ (s : List ℕ) where
  -- the first part of a piece stands where the piece stands
  pub stands_first : (xs ys : List ℕ) (at : ℕ) → Stands (xs ++ ys) at s → Stands xs at s
  stands_first xs ys at h = record { after = ys ++ h.after; there = h.there ∙ append_assoc xs ys h.after }

  -- the second part stands behind the first
  pub stands_second : (xs ys : List ℕ) (at next : ℕ) → at + length xs ≡ next → Stands (xs ++ ys) at s → Stands ys next s
  stands_second xs ys at next e h =
      record { after = h.after; there = rw (← e, ← drop-drop (length xs) at s, h.there, append_assoc, drop-append_seam) }

  -- a list stands in itself
  pub stands_whole : Stands s 0 s
  stands_whole = record { after = []; there = sym (append-nil s) }

  -- a piece that is not empty ends within the list
  pub stands_within : (piece : List ℕ) (at : ℕ) → 0 < length piece → Stands piece at s → at + length piece ≤ length s
  stands_within piece at some h = omega (arith, length-drop at s, simp length-append at (ap length h.there))

  -- a number that fits is read where it stands
  pub stands_le : (width n at : ℕ) → n < 256 ^ width → Stands (le width n) at s → le_at width s at ≡ n
  unfolding le_at
  stands_le width n at fits h = rw (h.there, take_at (le width n) h.after width (length_le width n)) (from_le_le width n fits)

  -- a number that fits is read where it stands, and what follows stands behind it
  pub record NumberThere (width n : ℕ) (following : List ℕ) (at next : ℕ) : Type 0 where
    pub is_number : le_at width s at ≡ n
    pub rest : Stands following next s

  -- so is every number that stands in front of something
  pub stands_number : (width n : ℕ) (following : List ℕ) (at next : ℕ) → n < 256 ^ width → at + width ≡ next
      → Stands (le width n ++ following) at s → NumberThere width n following at next
  stands_number width n following at next fits e h =
      record {
        is_number = stands_le width n at fits (stands_first (le width n) following at h);
        rest = stands_second (le width n) following at next (rw length_le e) h;
      }
