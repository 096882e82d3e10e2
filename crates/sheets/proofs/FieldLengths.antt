-- How long a record's fields are.
use Prim.Native.Nat.{ℕ, ◌+◌, ◌*◌, ◌≤◌, ◌<◌}
use native.Mathlib.Omega.{arith}
use mathlib.Core.Bool.{Bool, true, false, cond}
use mathlib.Core.List.{List, [], ◌∷◌, ◌++◌, append-nil, flat_map, map}
use mathlib.Core.Path.{◌≡◌, refl, sym, ap, ◌∙◌}
use lib.ListN.{length, take, get_or, length-append, length-map, get_or-map}
use lib.Seq.{sets, take-suc, take_all}
use native.Mathlib.Numerals.{add-one}
use Rattle.std.specs.List.{sum_by}
use Rattle.std.proofs.lemmas.List.Sums.{sum_by-cons}
use Rattle.std.proofs.lemmas.List.Folds.{length-flat_map-take}
use mir.Val.{bool_byte}
use Rattle.bytes_le.specs.Numbers.{le}
use Rattle.bytes_le.proofs.Numbers.{length_le}
use Rattle.awhile.specs.Tables.{mask_bytes}
use Rattle.awhile.specs.declared.Labelling.{Labelling}
use Rattle.awhile.proofs.Lists.{flat_map_append}
use Rattle.awhile.proofs.Versions.{mask_most}
use Rattle.sheets.specs.Rows.{field_of, most_fields, longest_field, RowPut}
use Rattle.sheets.specs.declared.fields.Field.{Field}
use Rattle.sheets.specs.declared.fields.Field.TheVariants.{Number}
use Rattle.labels.specs.Sheet.{SheetField, sheet_record, record_bytes, number, label, masks, field_bytes, fields_bytes}

-- a label's digit
pub digit_byte : (b : Bool) → bool_byte b ≡ cond b 1 0
digit_byte true = refl
digit_byte false = refl

module _ (v : ℕ) where
  pub number_length : (n : ℕ) → length (field_bytes v (number n)) ≡ 2
  unfolding field_bytes
  number_length n = length_le 2 n

  pub label_length : (b : Bool) → length (field_bytes v (label b)) ≡ 2
  unfolding field_bytes
  label_length b = length_le 2 (cond b 1 0)

  pub masks_length : (l : Labelling) → length (field_bytes v (masks l)) ≡ mask_bytes v + 2
  unfolding field_bytes
  masks_length l = simp (length-append, length_le)

  field_short : (f : SheetField) → length (field_bytes v f) ≤ 10
  field_short (number n) = omega (arith, number_length n)
  field_short (label b) = omega (arith, label_length b)
  field_short (masks l) = omega (arith, masks_length l, mask_most v)

  -- no fields have more than ten bytes each
  pub fields_short : (fs : List SheetField) → length (fields_bytes v fs) ≤ 10 * length fs
  unfolding fields_bytes flat_map
  fields_short [] = omega arith
  fields_short (f ∷ fs) = omega (arith, fields_short fs, field_short f, length-append (field_bytes v f) (flat_map (field_bytes v) fs))

  -- fields, and one more
  pub fields_more : (fs : List SheetField) (f : SheetField) → fields_bytes v (fs ++ f ∷ []) ≡ fields_bytes v fs ++ field_bytes v f
  unfolding fields_bytes flat_map
  fields_more fs f = flat_map_append (field_bytes v) fs (f ∷ []) ∙ ap (λ bs. flat_map (field_bytes v) fs ++ bs) (append-nil (field_bytes v f))

-- fields are as long as they are together
pub sized : (v : ℕ) (fs : List Field) → sum_by (λ f. length (field_bytes v (field_of f))) fs ≡ length (fields_bytes v (map field_of fs))
unfolding fields_bytes flat_map
sized v [] = refl
sized v (f ∷ fs) =
    let size : Field → ℕ = λ f. length (field_bytes v (field_of f)) in
    sum_by-cons size f fs ∙ ap (λ k. size f + k) (sized v fs) ∙ sym (length-append (field_bytes v (field_of f)) (flat_map (field_bytes v) (map field_of fs)))

-- no record has more bytes
pub size_short : (v : ℕ) (fs : List Field) → length fs ≤ most_fields → length (fields_bytes v (map field_of fs)) ≤ most_fields * longest_field
size_short v fs few = let many = length-map fs field_of in omega (arith, fields_short v (map field_of fs), many, few)

-- no row's fields have more than 14 bytes
module _ (v n : ℕ) where
  pub masks_short : (l : Labelling) → length (fields_bytes v (number n ∷ masks l ∷ [])) ≤ 14
  unfolding fields_bytes flat_map
  masks_short l = simp length-append (omega (arith, number_length v n, masks_length v l, mask_most v))

  pub label_short : (b : Bool) → length (fields_bytes v (number n ∷ label b ∷ [])) ≤ 14
  unfolding fields_bytes flat_map
  label_short b = simp length-append (omega (arith, number_length v n, label_length v b))

  pub labels_short : (a b : Bool) → length (fields_bytes v (number n ∷ label a ∷ label b ∷ [])) ≤ 14
  unfolding fields_bytes flat_map
  labels_short a b = simp length-append (omega (arith, number_length v n, label_length v a, label_length v b))

  pub label_masks_short : (b : Bool) (l : Labelling) → length (fields_bytes v (number n ∷ label b ∷ masks l ∷ [])) ≤ 14
  unfolding fields_bytes flat_map
  label_masks_short b l = simp length-append (omega (arith, number_length v n, label_length v b, masks_length v l, mask_most v))

-- how long a field is, and a label's digit
pub ruleset field_rules = (number_length, label_length, masks_length, digit_byte)

-- ---- field by field
module _ (v : ℕ) (fs : List Field) where
  -- the bytes of those before one
  abbrev pub bytes_before : (i : ℕ) → List ℕ
  bytes_before i = fields_bytes v (take i (map field_of fs))

  module _ {i : ℕ} (inside : i < length fs) where
    abbrev own_bytes : List ℕ
    own_bytes = field_bytes v (field_of (get_or fs i (Number 0)))

    mapped : get_or (map field_of fs) i (number 0) ≡ field_of (get_or fs i (Number 0))
    mapped = get_or-map field_of fs i (Number 0)

    many : length (map field_of fs) ≡ length fs
    many = length-map fs field_of

    pub with_next : bytes_before (i + 1) ≡ bytes_before i ++ own_bytes
    with_next =
        let room : i < length (map field_of fs) = omega (arith, many) in
        ap (fields_bytes v) (rw add-one (take-suc (map field_of fs) i (number 0) room))
        ∙ fields_more v (take i (map field_of fs)) (get_or (map field_of fs) i (number 0))
        ∙ ap (λ f. bytes_before i ++ field_bytes v f) mapped

    pub next_within : length (bytes_before i) + length own_bytes ≤ length (fields_bytes v (map field_of fs))
    unfolding fields_bytes flat_map field_bytes
    next_within =
        let room : i < length (map field_of fs) = omega (arith, many) in
        rw mapped at (length-flat_map-take (field_bytes v) (map field_of fs) i (number 0) room)

  pub none_before : bytes_before 0 ≡ []
  unfolding fields_bytes flat_map
  none_before = refl

  pub all_before : bytes_before (length fs) ≡ fields_bytes v (map field_of fs)
  all_before = ap (fields_bytes v) (take_all (length fs) (map field_of fs) (let many = length-map fs field_of in omega (arith, many)))

-- ---- a record
module _ (v kind : ℕ) (fs : List SheetField) where
  pub record_length : length (record_bytes v (sheet_record kind fs)) ≡ 4 + length (fields_bytes v fs)
  unfolding record_bytes
  record_length = simp (length-append, length_le) (omega arith)

  -- a record is written where it fits
  module _ (out : List ℕ) (at : ℕ) {size : ℕ} (is : size ≡ 4 + length (fields_bytes v fs)) where
    pub record_stored : {out' : List ℕ} → out' ≡ sets out at (le 2 size ++ (le 2 kind ++ fields_bytes v fs))
        → RowPut out at (record_bytes v (sheet_record kind fs)) out' (at + size)
    unfolding record_bytes
    record_stored e =
        let long = record_length in
        record { ends = omega (arith, long, is); stored = λ h. e ∙ ap (λ k. sets out at (le 2 k ++ (le 2 kind ++ fields_bytes v fs))) is }

    pub record_beyond : length out < at + size → RowPut out at (record_bytes v (sheet_record kind fs)) out (at + size)
    record_beyond short =
        let long = record_length in record { ends = omega (arith, long, is); stored = λ h. absurd (omega (arith, long, is, short, h)) }
