-- The declarations' records, after their frames: what is read depends on the tests of their fields.
use Prim.Native.Nat.{ℕ, ◌+◌, ◌*◌, ◌-◌, ◌/◌, ◌^◌, ◌≤◌}
use native.Mathlib.Nat.{one-le-pow, div-eq_of_lt, le-div_iff_mul-le, one-mul, div-div-eq-div-mul}
use lib.Pow.{pow-add}
use native.Mathlib.Omega.{arith}
use mathlib.Core.Bool.{Bool, true, false, ◌&&◌}
use mathlib.Core.Path.{◌≡◌, refl, sym, ap, ◌∙◌}
use mathlib.Core.List.{List}
use lib.Dec.{eqb, ltb, leb}
use borrow.Author.Tests.{ltb-true, ltb-false, eq-eqb, ne_eqb}
use Rattle.bytes_le.specs.Numbers.{le_at}
use Rattle.std.proofs.Common.{Ok, Err}
use Rattle.awhile.specs.Refusals.{Answer, as_result, refused, got, passed, check}
use Rattle.awhile.specs.Tables.{known_version, mask_bytes, most_variables, max_arrays, max_nodes, max_cells, header_size, labels_size, array_size}
use Rattle.awhile.specs.Tables.{framed, length_of_kind, read_header, read_labels, read_count}
use Rattle.record.proofs.Passing.{framed_refused, framed_passed_on}
use Rattle.awhile.specs.declared.Header.{Header}
use Rattle.awhile.specs.declared.Refusal.{Refusal}
use Rattle.awhile.specs.declared.Refusal.TheVariants.{BeyondLimit}

-- a mask shifted by a width leaves nothing where it fits the width
pub shifted_out : (mask width : ℕ) → eqb (mask / 2 ^ width) 0 ≡ ltb mask (2 ^ width)
shifted_out mask width = go (ltb mask (2 ^ width)) refl
  where
    go : (b : Bool) → ltb mask (2 ^ width) ≡ b → eqb (mask / 2 ^ width) 0 ≡ b
    go true e = eq-eqb (mask / 2 ^ width) 0 (div-eq_of_lt (ltb-true mask (2 ^ width) e))
    go false e =
        let some : 1 ≤ mask / 2 ^ width = (le-div_iff_mul-le (one-le-pow width 2 (omega arith))).1 (rw one-mul (ltb-false mask (2 ^ width) e)) in
        ne_eqb (mask / 2 ^ width) 0 (λ none. omega arith)

-- so does one that is shifted in two parts
pub shifted_twice : (mask width half : ℕ) → half ≤ width → eqb (mask / 2 ^ half / 2 ^ (width - half)) 0 ≡ ltb mask (2 ^ width)
shifted_twice mask width half less =
    let whole : half + (width - half) ≡ width = omega arith in
    let power : 2 ^ half * 2 ^ (width - half) ≡ 2 ^ width = sym (pow-add 2 half (width - half)) ∙ ap (λ n. 2 ^ n) whole in
    ap (λ q. eqb q 0) (div-div-eq-div-mul mask (2 ^ half) (2 ^ (width - half)) ∙ ap (λ d. mask / d) power) ∙ shifted_out mask width

-- what the reader hands on was read, and so was a refusal
module _ {A : Type 0} where
  pub handed_got : (a : Answer A) (x : A) → as_result a ≡ Ok x → a ≡ got x
  unfolding as_result
  handed_got (refused r) x e = cc
  handed_got (got y) x e = cc

  pub handed_refused : (a : Answer A) (r : Refusal) → as_result a ≡ Err r → a ≡ refused r
  unfolding as_result
  handed_refused (refused q) r e = cc
  handed_refused (got y) r e = cc

module _ (s : List ℕ) where
  -- ---- the header, which stands at the start
  module _ (at : ℕ) (here : at ≡ 0) where
    pub header_refused : (r : Refusal) → as_result (framed s at (length_of_kind 1 header_size s at) passed) ≡ Err r → Err r ≡ as_result (read_header s)
    unfolding read_header as_result
    header_refused r e = sym (ap as_result (framed_refused _ _ _ _ _ (rw here at e)))

    -- a whole header is accepted where its fields are within the limits
    pub header_tested : (version vs arrs nodes : ℕ) (b : Bool) → as_result (framed s at (length_of_kind 1 header_size s at) passed) ≡ Ok tt
        → version ≡ le_at 2 s (at + 4) → vs ≡ le_at 1 s (at + 6) → arrs ≡ le_at 1 s (at + 7) → nodes ≡ le_at 2 s (at + 8)
        → b ≡ (known_version version && leb vs (most_variables version) && leb arrs max_arrays && ltb 0 nodes && leb nodes max_nodes)
        → as_result (check b (BeyondLimit at) (got (record { version = version; variables = vs; arrays = arrs; nodes = nodes }))) ≡ as_result (read_header s)
    unfolding read_header
    header_tested version vs arrs nodes b whole p q r t e = sym (ap as_result (framed_passed_on _ _ _ _ (rw here at whole) ∙ rw (e, p, q, r, t, here)))

  -- ---- the labels
  module _ (h : Header) (at : ℕ) where
    pub labels_refused : (size : ℕ) (r : Refusal) → size ≡ labels_size h.version → as_result (framed s at (length_of_kind 3 size s at) passed) ≡ Err r
        → Err r ≡ as_result (read_labels s h at)
    unfolding read_labels as_result
    labels_refused size r long e = sym (ap as_result (framed_refused _ _ _ _ _ (rw long at e)))

    -- a whole labels record is accepted where its masks fit
    pub labels_tested : (size w vs arrs : ℕ) (a b : Bool) → size ≡ labels_size h.version → w ≡ mask_bytes h.version
        → as_result (framed s at (length_of_kind 3 size s at) passed) ≡ Ok tt
        → vs ≡ le_at (mask_bytes h.version) s (at + 4) → arrs ≡ le_at 2 s (at + 4 + w) → a ≡ ltb vs (2 ^ h.variables) → b ≡ ltb arrs (2 ^ h.arrays)
        → as_result (check (a && b) (BeyondLimit at) (got (record { variables = vs; arrays = arrs }))) ≡ as_result (read_labels s h at)
    unfolding read_labels
    labels_tested size w vs arrs a b long wide whole v x p q = sym (ap as_result (framed_passed_on _ _ _ _ (rw long at whole) ∙ rw (p, q, v, x, wide)))

  -- ---- the arrays
  module _ (at before : ℕ) where
    pub count_refused : (r : Refusal) → as_result (framed s at (length_of_kind 2 array_size s at) passed) ≡ Err r → Err r ≡ as_result (read_count s at before)
    unfolding read_count as_result
    count_refused r e = sym (ap as_result (framed_refused _ _ _ _ _ e))

    -- a whole array record is accepted where its count is positive and the cells are not too many
    pub count_tested : (n : ℕ) (a b : Bool) → as_result (framed s at (length_of_kind 2 array_size s at) passed) ≡ Ok tt → n ≡ le_at 2 s (at + 4)
        → ltb 0 n ≡ a → leb (before + n) max_cells ≡ b → as_result (check (a && b) (BeyondLimit at) (got n)) ≡ as_result (read_count s at before)
    unfolding read_count
    count_tested n a b whole e p q = sym (ap as_result (framed_passed_on _ _ _ _ whole ∙ rw (← p, ← q, e)))
