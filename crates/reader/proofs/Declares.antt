-- What a table that was read declares, where its bytes say so.
use Prim.Native.Nat.{ℕ, zero, suc, ◌+◌}
use native.Mathlib.Omega.{arith}
use mathlib.Core.Path.{◌≡◌, refl, sym}
use mathlib.Core.List.{List, [], ◌∷◌}
use lib.ListN.{get_or, take}
use Rattle.bytes_le.specs.Numbers.{le_at}
use Rattle.awhile.specs.Lists.{sum}
use Rattle.awhile.specs.Refusals.{got}
use Rattle.awhile.specs.Tables.{header_of, mask_bytes, header_size, labels_size, length_of_kind, read_header, read_labels}
use Rattle.awhile.proofs.Accepted.{check_got, framed_rest, got_same, accepted_read, heads_read}
use Rattle.awhile.specs.declared.Header.{Header}
use Rattle.awhile.specs.declared.Labelling.{Labelling}
use Rattle.awhile.specs.declared.Refusal.TheVariants.{BeyondLimit}
use Rattle.reader.specs.Admitted.{Admitted}
use Rattle.reader.specs.Index.{table_of, HasHeader}
use Rattle.reader.proofs.Admitted.{bytes}

-- the sum of one more
pub sum_more : (counts : List ℕ) (a : ℕ) → sum (take (suc a) counts) ≡ sum (take a counts) + get_or counts a 0
unfolding sum
sum_more [] zero = refl
sum_more [] (suc a) = refl
sum_more (n ∷ ns) zero = omega arith
sum_more (n ∷ ns) (suc a) = let r = sum_more ns a in omega arith

module _ (s : List ℕ) where
  header_there : (h : Header) → read_header s ≡ got h → ◌≡◌ {A = Header} (record { version = le_at 2 s 4; variables = le_at 1 s 6; arrays = le_at 1 s 7; nodes = le_at 2 s 8 }) h
  unfolding read_header
  header_there h e = got_same _ h (check_got _ (BeyondLimit 0) _ h (framed_rest s 0 (length_of_kind 1 header_size s 0) _ h e)).1

  labels_there : (h : Header) (at : ℕ) (l : Labelling) → read_labels s h at ≡ got l
      → ◌≡◌ {A = Labelling} (record { variables = le_at (mask_bytes h.version) s (at + 4); arrays = le_at 2 s (at + 4 + mask_bytes h.version) }) l
  unfolding read_labels
  labels_there h at l e = got_same _ l (check_got _ (BeyondLimit at) _ l (framed_rest s at (length_of_kind 3 (labels_size h.version) s at) _ l e)).1

module _ {table : List ℕ} (admitted : Admitted table) where
  pub has_header : {header : Header} → header ≡ header_of (table_of table) → HasHeader table header
  has_header e = record { reads = admitted.reads; is_header = sym e }

  pub header_stands : ◌≡◌ {A = Header} (record { version = le_at 2 table 4; variables = le_at 1 table 6; arrays = le_at 1 table 7; nodes = le_at 2 table 8 }) (header_of (table_of table))
  header_stands = header_there table _ (heads_read table (bytes admitted) (table_of table) (accepted_read table (bytes admitted) (table_of table) admitted.reads)).header

  pub labels_stand : ◌≡◌ {A = Labelling} (record { variables = le_at (mask_bytes (table_of table).version) table 14; arrays = le_at 2 table (14 + mask_bytes (table_of table).version) }) (table_of table).labels
  labels_stand = labels_there table _ _ _ (heads_read table (bytes admitted) (table_of table) (accepted_read table (bytes admitted) (table_of table) admitted.reads)).labels
