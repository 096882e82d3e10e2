-- The nodes that no arm of a `match` names, where every kind of the wanted sort has its arm: there are none.
use Prim.Native.Nat.{ℕ}
use native.Mathlib.Omega.{arith}
use mathlib.Core.Bool.{Bool, true, cond}
use mathlib.Core.Bool.{not as negated}
use mathlib.Core.Logic.{inl, inr}
use mathlib.Core.List.{List, [], ◌∷◌}
use mathlib.Core.Path.{◌≡◌, refl, sym, ◌∙◌}
use lib.Dec.{ltb}
use denote.Enum.Declared.{tag_of}
use types.Run.{OneOf}
use Rattle.awhile.specs.Lists.{all}
use Rattle.awhile.specs.Nodes.{form, sort_of, same_sort}
use Rattle.awhile.proofs.Lists.{all_head, all_tail}
use Rattle.awhile.specs.contracts.Node.{the_type}
use Rattle.awhile.specs.declared.Sort.{Sort}
use Rattle.awhile.specs.declared.Sort.TheVariants.{Numeric, Truth, Command}
use Rattle.awhile.specs.declared.Node.{Node}
use Rattle.awhile.specs.declared.Node.TheVariants.{Number, Variable, Add, Subtract, Multiply, Choice}
use Rattle.awhile.specs.declared.Node.TheVariants.{Constant, Equal, Less, Not, And}
use Rattle.awhile.specs.declared.Node.TheVariants.{Skip, Assign, Sequence, If, While, Read, Write}

-- the sort of the nodes of a kind, by the kind's place among the kinds
abbrev kind_sort : (kind : ℕ) → Sort
kind_sort k = cond (ltb k 6) Numeric (cond (ltb k 11) Truth Command)

kind_sort_lem : (m : Node) → sort_of m ≡ kind_sort (tag_of the_type m)
unfolding sort_of form
kind_sort_lem (Number v) = refl
kind_sort_lem (Variable x) = refl
kind_sort_lem (Add a b) = refl
kind_sort_lem (Subtract a b) = refl
kind_sort_lem (Multiply a b) = refl
kind_sort_lem (Choice c a b) = refl
kind_sort_lem (Constant v) = refl
kind_sort_lem (Equal a b) = refl
kind_sort_lem (Less a b) = refl
kind_sort_lem (Not a) = refl
kind_sort_lem (And a b) = refl
kind_sort_lem Skip = refl
kind_sort_lem (Assign x e) = refl
kind_sort_lem (Sequence c d) = refl
kind_sort_lem (If b c d) = refl
kind_sort_lem (While b c) = refl
kind_sort_lem (Read x a i) = refl
kind_sort_lem (Write a i e) = refl

same_sort_lem : (s : Sort) → same_sort s s ≡ true
unfolding same_sort
same_sort_lem Numeric = refl
same_sort_lem Truth = refl
same_sort_lem Command = refl

-- none of the kinds is of the sort
abbrev other_sort : Sort → (kind : ℕ) → Bool
other_sort wanted k = negated (same_sort (kind_sort k) wanted)

module _ (wanted : Sort) (x : ℕ) (is_wanted : kind_sort x ≡ wanted) where
  not_this : (k : ℕ) → other_sort wanted k ≡ true → x ≡ k → ⊥
  not_this k other e =
      let same : same_sort (kind_sort k) wanted ≡ true = rw (← e, is_wanted) (same_sort_lem wanted) in
      let z : negated true ≡ true = rw same at other in
      let no : ◌≡◌ {A = ℕ} 0 1 = cc in
      omega arith

  not_these : (ks : List ℕ) → all (other_sort wanted) ks ≡ true → OneOf ks x → ⊥
  not_these [] others o = o
  not_these (k ∷ []) others o = not_this k (all_head (other_sort wanted) k [] others) o
  not_these (k ∷ k' ∷ ks) others (inl e) = not_this k (all_head (other_sort wanted) k (k' ∷ ks) others) e
  not_these (k ∷ k' ∷ ks) others (inr o) = not_these (k' ∷ ks) (all_tail (other_sort wanted) k (k' ∷ ks) others) o

-- a node of a sort is of none of the kinds of other sorts
unnamed : (ks : List ℕ) (wanted : Sort) (m : Node) → all (other_sort wanted) ks ≡ true → OneOf ks (tag_of the_type m) → sort_of m ≡ wanted → ⊥
unnamed ks wanted m others o e = not_these wanted (tag_of the_type m) (sym (kind_sort_lem m) ∙ e) ks others o

-- the kinds that are no numbers, no truths, no commands
abbrev pub not_numeric : List ℕ
not_numeric = 6 ∷ 7 ∷ 8 ∷ 9 ∷ 10 ∷ 11 ∷ 12 ∷ 13 ∷ 14 ∷ 15 ∷ 16 ∷ 17 ∷ []

abbrev pub not_truth : List ℕ
not_truth = 0 ∷ 1 ∷ 2 ∷ 3 ∷ 4 ∷ 5 ∷ 11 ∷ 12 ∷ 13 ∷ 14 ∷ 15 ∷ 16 ∷ 17 ∷ []

abbrev pub not_command : List ℕ
not_command = 0 ∷ 1 ∷ 2 ∷ 3 ∷ 4 ∷ 5 ∷ 6 ∷ 7 ∷ 8 ∷ 9 ∷ 10 ∷ []

pub never_numeric : {A : Type 0} (m : Node) → OneOf not_numeric (tag_of the_type m) → sort_of m ≡ Numeric → A
unfolding all same_sort
never_numeric m o e = absurd (unnamed not_numeric Numeric m refl o e)

pub never_truth : {A : Type 0} (m : Node) → OneOf not_truth (tag_of the_type m) → sort_of m ≡ Truth → A
unfolding all same_sort
never_truth m o e = absurd (unnamed not_truth Truth m refl o e)

pub never_command : {A : Type 0} (m : Node) → OneOf not_command (tag_of the_type m) → sort_of m ≡ Command → A
unfolding all same_sort
never_command m o e = absurd (unnamed not_command Command m refl o e)
