-- A file that does not say version 2 reads as document 01 has it.
use Prim.Native.Nat.{ℕ, ◌+◌, ◌*◌}
use mathlib.Core.Bool.{Bool, true, false}
use mathlib.Core.Path.{◌≡◌, refl, sym, ap, ◌∙◌}
use mathlib.Core.List.{List, []}
use lib.Dec.{eqb}
use borrow.Author.Tests.{eqb-true, ne_eqb}
use Rattle.bytes_le.specs.Numbers.{le_at}
use Rattle.awhile.specs.Refusals.{Answer, refused, got, check, and_then}
use Rattle.awhile.specs.Tables.{Table, known_version, mask_bytes, labels_start, counts_start, nodes_start, length_of_kind, read_header, read_labels, read_counts, read_nodes, read_records, offset_of, check_whole, read_table}
use Rattle.awhile.specs.VersionOne.{header_one, labels_one, records_one, offset_one, whole_one, ReadsAsBefore}
use Rattle.awhile.proofs.Accepted.{check_got, then_got, framed_rest, got_same}
use Rattle.awhile.specs.declared.Header.{Header}
use Rattle.awhile.specs.declared.Refusal.TheVariants.{BeyondLimit}

module _ (s : List ℕ) where
  -- the header: version 1 has its limits, and any other version is refused by both
  header_one_lem : ¬ (le_at 2 s 4 ≡ 2) → read_header s ≡ header_one s
  unfolding read_header header_one known_version mask_bytes check
  header_one_lem other = go (eqb (le_at 2 s 4) 1) refl
    where
      go : (b : Bool) → eqb (le_at 2 s 4) 1 ≡ b → read_header s ≡ header_one s
      go true e = rw (eqb-true (le_at 2 s 4) 1 e)
      go false e = rw (e, ne_eqb (le_at 2 s 4) 2 other)

  version_one : (h : Header) → header_one s ≡ got h → h.version ≡ 1
  unfolding header_one
  version_one h e =
      let rest = framed_rest s 0 (length_of_kind 1 10 s 0) _ h e in
      let passed = check_got _ (BeyondLimit 0) _ h rest in
      sym (ap (λ (x : Header). x.version) (got_same _ h passed.1))

  -- behind such a header
  labels_one_lem : (h : Header) → h.version ≡ 1 → read_labels s h (labels_start h) ≡ labels_one s h
  unfolding read_labels labels_one mask_bytes
  labels_one_lem h e = rw e

  abbrev behind : Header → Answer Table
  behind h =
      and_then (read_labels s h (labels_start h)) (λ l.
      and_then (read_counts h.arrays s (counts_start h) []) (λ cs.
      and_then (read_nodes h.nodes h s (nodes_start h) []) (λ ns.
      got (record { version = h.version; variables = h.variables; labels = l; counts = cs; nodes = ns }))))

  abbrev behind_one : Header → Answer Table
  behind_one h =
      and_then (labels_one s h) (λ l.
      and_then (read_counts h.arrays s 20 []) (λ cs.
      and_then (read_nodes h.nodes h s (20 + 6 * h.arrays) []) (λ ns.
      got (record { version = 1; variables = h.variables; labels = l; counts = cs; nodes = ns }))))

  behind_one_lem : (h : Header) → h.version ≡ 1 → behind h ≡ behind_one h
  unfolding mask_bytes
  behind_one_lem h e = rw (labels_one_lem h e, e)

  records_one_lem : ¬ (le_at 2 s 4 ≡ 2) → read_records s ≡ records_one s
  unfolding read_records records_one and_then
  records_one_lem other = rw (header_one_lem other) (go (header_one s) refl)
    where
      go : (a : Answer Header) → header_one s ≡ a → and_then a behind ≡ and_then a behind_one
      go (refused r) e = refl
      go (got h) e = behind_one_lem h (version_one h e)

  -- ---- 6 and 7
  records_version : (t : Table) → records_one s ≡ got t → t.version ≡ 1
  unfolding records_one
  records_version t e =
      let Q : Type 0 = t.version ≡ 1 in
      then_got Q (header_one s) behind_one t e
      (λ h eh e₁.
      then_got Q (labels_one s h) _ t e₁
      (λ l el e₂.
      then_got Q (read_counts h.arrays s 20 []) _ t e₂
      (λ cs ec e₃.
      then_got Q (read_nodes h.nodes h s (20 + 6 * h.arrays) []) _ t e₃
      (λ ns en e₄.
      sym (ap (λ (x : Table). x.version) (got_same _ t e₄))))))

  whole_one_lem : (t : Table) → t.version ≡ 1 → check_whole s t ≡ whole_one s t
  unfolding check_whole whole_one offset_of offset_one mask_bytes
  whole_one_lem t e = rw e

  read_one : (a : Answer Table) → records_one s ≡ a → and_then a (check_whole s) ≡ and_then a (whole_one s)
  unfolding and_then
  read_one (refused r) e = refl
  read_one (got t) e = whole_one_lem t (records_version t e)

-- "Version 1 files still read as before and keep their limit of 32."
pub reads_as_before : (s : List ℕ) → ReadsAsBefore s
unfolding read_table
reads_as_before s =
    record { as_before = λ other. ap (λ (a : Answer Table). and_then a (check_whole s)) (records_one_lem s other) ∙ read_one s (records_one s) refl }
