-- What holds of each child of a node, field by field.
use Prim.Native.Nat.{ℕ, ◌<◌}
use mathlib.Core.Bool.{true}
use mathlib.Core.Path.{◌≡◌, refl}
use mathlib.Core.List.{List, [], ◌∷◌}
use lib.ListN.{length, get_or}
use borrow.Author.Tests.{ltb-true}
use Rattle.awhile.specs.Lists.{all}
use Rattle.awhile.specs.Nodes.{Field, word, constant, variable, array, child, form, sort_of, same_sort, field_in_range, in_range, field_sorted, sorted}
use Rattle.awhile.specs.WellFormed.{NodeFits}
use Rattle.awhile.proofs.Lists.{all_head, all_tail}
use Rattle.awhile.specs.declared.Sort.{Sort}
use Rattle.awhile.specs.declared.Sort.TheVariants.{Numeric, Truth, Command}
use Rattle.awhile.specs.declared.Node.{Node}
use Rattle.awhile.specs.declared.Node.TheVariants.{Skip}

-- the property holds of each child and the sort wanted of it
abbrev pub EachChild : (Sort → ℕ → Type 0) → List Field → Type 0
EachChild P [] = Unit
EachChild P (word n ∷ fs) = EachChild P fs
EachChild P (constant n ∷ fs) = EachChild P fs
EachChild P (variable x ∷ fs) = EachChild P fs
EachChild P (array a ∷ fs) = EachChild P fs
EachChild P (child s n ∷ fs) = P s n × EachChild P fs

-- what holds of each child holds of those of the other fields
pub other_children : (P : Sort → ℕ → Type 0) (f : Field) (fs : List Field) → EachChild P (f ∷ fs) → EachChild P fs
other_children P (word n) fs cs = cs
other_children P (constant n) fs cs = cs
other_children P (variable x) fs cs = cs
other_children P (array a) fs cs = cs
other_children P (child s n) fs cs = cs.1

-- the test of sorts tells equal sorts
pub same_sort_true : (s r : Sort) → same_sort s r ≡ true → s ≡ r
unfolding same_sort
same_sort_true Numeric Numeric e = refl
same_sort_true Numeric Truth e = cc
same_sort_true Numeric Command e = cc
same_sort_true Truth Numeric e = cc
same_sort_true Truth Truth e = refl
same_sort_true Truth Command e = cc
same_sort_true Command Numeric e = cc
same_sort_true Command Truth e = cc
same_sort_true Command Command e = refl

-- a sort is the same as itself
pub same_sort_refl : (s : Sort) → same_sort s s ≡ true
unfolding same_sort
same_sort_refl Numeric = refl
same_sort_refl Truth = refl
same_sort_refl Command = refl

module _ (vs arrs : ℕ) (before : List Node) (P : Sort → ℕ → Type 0) where
  field_children_lem : (f : Field) (fs : List Field) → field_in_range vs arrs (length before) f ≡ true → field_sorted before f ≡ true
      → ((s : Sort) (c : ℕ) → c < length before → sort_of (get_or before c Skip) ≡ s → P s c) → EachChild P fs → EachChild P (f ∷ fs)
  unfolding field_in_range field_sorted
  field_children_lem (word n) fs r w each rest = rest
  field_children_lem (constant n) fs r w each rest = rest
  field_children_lem (variable x) fs r w each rest = rest
  field_children_lem (array a) fs r w each rest = rest
  field_children_lem (child s c) fs r w each rest =
      (each s c (ltb-true c (length before) r) (same_sort_true (sort_of (get_or before c Skip)) s w), rest)

  fields_children : (fs : List Field) → all (field_in_range vs arrs (length before)) fs ≡ true → all (field_sorted before) fs ≡ true
      → ((s : Sort) (c : ℕ) → c < length before → sort_of (get_or before c Skip) ≡ s → P s c) → EachChild P fs
  fields_children [] r w each = tt
  fields_children (f ∷ fs) r w each =
      field_children_lem f fs
      (all_head (field_in_range vs arrs (length before)) f fs r)
      (all_head (field_sorted before) f fs w)
      each
      (fields_children fs (all_tail (field_in_range vs arrs (length before)) f fs r) (all_tail (field_sorted before) f fs w) each)

  -- the children of a node that fits stand before it and are of the wanted sorts
  pub fit_children : (n : Node) → NodeFits vs arrs before n
      → ((s : Sort) (c : ℕ) → c < length before → sort_of (get_or before c Skip) ≡ s → P s c) → EachChild P (form n).fields
  unfolding in_range sorted
  fit_children n fits each = fields_children (form n).fields fits.ranged fits.well_sorted each
