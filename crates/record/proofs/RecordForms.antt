-- The form of a record in the code, and what it says of its node.
use Prim.Native.Nat.{ℕ, ◌+◌, ◌*◌, ◌≤◌, ◌<◌}
use mathlib.Core.Bool.{Bool, ◌&&◌}
use native.Mathlib.Omega.{arith}
use mathlib.Core.Path.{◌≡◌, refl, ap}
use mathlib.Core.List.{List, [], ◌∷◌, map}
use lib.ListN.{length, get_or, drop}
use Rattle.std.proofs.Common.{add-one, drop-cons}
use Rattle.std.proofs.lemmas.List.{drop_all}
use Rattle.std.specs.List.{list_all}
use Rattle.awhile.specs.Lists.{sum, all}
use Rattle.awhile.specs.Nodes.{Field as AField, form, field_size, size_of, sort_of}
use Rattle.record.specs.RecordRead.{field_of, fields_of, form_of}
use Rattle.record.specs.declared.forms.Field.{Field}
use Rattle.record.specs.declared.forms.Field.TheVariants.{Constant, Variable, Array, Child}
use Rattle.record.specs.declared.forms.Fields.{Fields}
use Rattle.record.specs.declared.forms.Fields.TheVariants.{Nothing, Word, One, Two, Three}
use Rattle.record.specs.declared.forms.Form.{Form}
use Rattle.awhile.specs.declared.Node.{Node}

-- every field but a word has 2 bytes
pub two_bytes : (f : Field) → field_size (field_of f) ≡ 2
unfolding field_size
two_bytes (Constant n) = refl
two_bytes (Variable x) = refl
two_bytes (Array a) = refl
two_bytes (Child s n) = refl

-- so many fields have twice as many
pub short_fields : (fs : List Field) (count : ℕ) → length fs ≡ count → 4 + sum (map field_size (map field_of fs)) ≡ 4 + 2 * count
unfolding sum
short_fields fs count e = rw (← e) (ap (λ n. 4 + n) (go fs))
  where
    go : (fs : List Field) → sum (map field_size (map field_of fs)) ≡ 2 * length fs
    go [] = refl
    go (f ∷ fs) = rw two_bytes (omega (arith, go fs))

-- a test of all fields that the code's fields are
pub all_in_fields : (test : AField → Bool) (fs : List Field) → all test (map field_of fs) ≡ list_all (λ f. test (field_of f)) fs
unfolding all
all_in_fields test [] = refl
all_in_fields test (f ∷ fs) = ap (λ b. test (field_of f) && b) (all_in_fields test fs)

-- the fields that are left, one by one
pub fields_next : (fs : List Field) (i : ℕ) → i < length fs
    → map field_of (drop i fs) ≡ field_of (get_or fs i (Constant 0)) ∷ map field_of (drop (i + 1) fs)
fields_next fs i inside = rw add-one (ap (map field_of) (drop-cons fs i (Constant 0) inside))

pub fields_end : (fs : List Field) (i : ℕ) → length fs ≤ i → map field_of (drop i fs) ≡ []
fields_end fs i over = ap (map field_of) (drop_all i fs over)

-- a record has three fields at most
pub fields_few : (fs : Fields) → length (fields_of fs) ≤ 3
fields_few Nothing = omega arith
fields_few (Word n) = omega arith
fields_few (One f) = omega arith
fields_few (Two f g) = omega arith
fields_few (Three f g h) = omega arith

-- and at most 10 bytes
pub fields_short : (fs : Fields) → 4 + sum (map field_size (fields_of fs)) ≤ 10
unfolding sum field_size
fields_short Nothing = omega arith
fields_short (Word n) = omega arith
fields_short (One f) = rw two_bytes (omega arith)
fields_short (Two f g) = simp two_bytes (omega arith)
fields_short (Three f g h) = simp two_bytes (omega arith)

module _ (m : Node) (f : Form) (e : form_of f ≡ form m) where
  -- its fields are the node's, so its record is as long as they say, and its sort is the node's
  pub same_fields : fields_of f.fields ≡ (form m).fields
  same_fields = ap (λ g. g.fields) e

  pub same_size : 4 + sum (map field_size (fields_of f.fields)) ≡ size_of m
  unfolding size_of
  same_size = ap (λ fs. 4 + sum (map field_size fs)) same_fields

  pub same_sort_lem : f.sort ≡ sort_of m
  unfolding sort_of
  same_sort_lem = ap (λ g. g.sort) e
