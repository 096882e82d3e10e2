-- The order of labellings: a partial order with `join` as the least upper bound; what setting a label does; expressions' labels are monotone.
use Prim.Native.Nat.{ℕ}
use mathlib.Core.Bool.{Bool, true, le as at_most, ◌||◌, or_self}
use mathlib.Core.Logic.{◌↔◌}
use mathlib.Core.Path.{◌≡◌, refl, sym, ap, ap₂, ◌∙◌, subst}
use native.Mathlib.Decide.{ℕ_discrete, map_dec}
use native.Mathlib.Omega.{arith}
use lib.Dec.{eqb}
use borrow.Author.Tests.{eqb-true, eq-eqb}
use Rattle.awhile.specs.Language.{AExp, number, variable, add, subtract, multiply, choice}
use Rattle.awhile.specs.Language.{BExp, constant, equal, less, not, and}
use Rattle.awhile.specs.declared.Labelling.{Labelling}
use Rattle.labels.specs.Labellings.{Mark, variable_mark, array_mark, label_of, set_label, join, same, ◌⊑◌, times_nought, label_of_a, label_of_b}
use Rattle.labels.proofs.Booleans.{or_left, or_right, or_least, or_mono, at_most_antisym, and_left, and_right, unless_mono}
use Rattle.labels.proofs.Masks.{bit_put, bit_put_other, bit-bit_or, bit_ext}

-- labellings with equal masks are equal
pub equal_masks : (l m : Labelling) → l.variables ≡ m.variables → l.arrays ≡ m.arrays → l ≡ m
equal_masks l m p q = λ i. record { variables = p i; arrays = q i }

-- labellings with equal labels are equal
pub equal_labels : (l m : Labelling) → ((k : Mark) → label_of l k ≡ label_of m k) → l ≡ m
unfolding label_of
equal_labels l m h =
    equal_masks l m (bit_ext l.variables m.variables (λ x. h (variable_mark x))) (bit_ext l.arrays m.arrays (λ a. h (array_mark a)))

-- every labelling is below itself
pub ⊑_refl : (l : Labelling) → l ⊑ l
⊑_refl l = record { at = λ k h. h }

-- what is below something is below whatever that is below
pub ⊑_trans : {l m n : Labelling} → l ⊑ m → m ⊑ n → l ⊑ n
⊑_trans p q = record { at = λ k h. q.at k (p.at k h) }

-- labellings below each other are equal
pub ⊑-antisym : {l m : Labelling} → l ⊑ m → m ⊑ l → l ≡ m
⊑-antisym {l} {m} p q = equal_labels l m (λ k. at_most_antisym (p.at k) (q.at k))

-- what is secret in a join
pub label_join : (l m : Labelling) (k : Mark) → label_of (join l m) k ≡ (label_of l k || label_of m k)
unfolding label_of join
label_join l m (variable_mark x) = bit-bit_or l.variables m.variables x
label_join l m (array_mark a) = bit-bit_or l.arrays m.arrays a

-- a mark with one label on both sides has it in the join
pub label_join_same : (l m : Labelling) (k : Mark) (b : Bool) → label_of l k ≡ b → label_of m k ≡ b → label_of (join l m) k ≡ b
label_join_same l m k b p q = label_join l m k ∙ ap₂ ◌||◌ p q ∙ or_self b

module _ (l m : Labelling) where
  -- a join is above its first part
  pub join_left : l ⊑ join l m
  join_left = record { at = λ k h. label_join l m k ∙ or_left (label_of l k) (label_of m k) h }

  -- a join is above its second part
  pub join_right : m ⊑ join l m
  join_right = record { at = λ k h. label_join l m k ∙ or_right (label_of l k) (label_of m k) h }

  -- a join is below whatever is above both of its parts
  pub join_least : {n : Labelling} → l ⊑ n → m ⊑ n → join l m ⊑ n
  join_least {n} p q =
      record { at = λ k h. or_least (p.at k) (q.at k) (sym (label_join l m k) ∙ h) }

  -- the test for equal labellings answers true exactly there
  pub same_iff : (same l m ≡ true) ↔ (l ≡ m)
  unfolding same
  same_iff = (
    (λ e. equal_masks l m (eqb-true l.variables m.variables (and_left (eqb l.variables m.variables) (eqb l.arrays m.arrays) e))
        (eqb-true l.arrays m.arrays (and_right (eqb l.variables m.variables) (eqb l.arrays m.arrays) e))),
    (λ e. rw (eq-eqb l.variables m.variables (ap (λ (n : Labelling). n.variables) e), eq-eqb l.arrays m.arrays (ap (λ (n : Labelling). n.arrays) e))),
  )

-- joining in a smaller labelling adds nothing
pub join_absorbs : {l m : Labelling} → m ⊑ l → join l m ≡ l
join_absorbs {l} {m} p = ⊑-antisym (join_least l m (⊑_refl l) p) (join_left l m)

-- joins of larger labellings are larger
pub join_mono : {l m n o : Labelling} → l ⊑ n → m ⊑ o → join l m ⊑ join n o
join_mono {l} {m} {n} {o} p q = join_least l m (⊑_trans p (join_left n o)) (⊑_trans q (join_right n o))

-- a mark has the label that was set
pub label_set : (l : Labelling) (k : Mark) (b : Bool) → label_of (set_label l k b) k ≡ b
unfolding label_of set_label
label_set l (variable_mark x) b = bit_put b l.variables x
label_set l (array_mark a) b = bit_put b l.arrays a

-- every other mark keeps its label
pub label_set_other : (l : Labelling) (k j : Mark) (b : Bool) → (k ≡ j → ⊥) → label_of (set_label l k b) j ≡ label_of l j
unfolding label_of set_label
label_set_other l (variable_mark x) (variable_mark y) b h = bit_put_other b l.variables x y (λ e. h (ap variable_mark e))
label_set_other l (variable_mark x) (array_mark c) b h = refl
label_set_other l (array_mark a) (variable_mark y) b h = refl
label_set_other l (array_mark a) (array_mark c) b h = bit_put_other b l.arrays a c (λ e. h (ap array_mark e))

-- two marks are the same one or they are not
pub mark_discrete : Discrete Mark
mark_discrete (variable_mark x) (variable_mark y) = map_dec (λ e. ap variable_mark e) (λ e. cc) (ℕ_discrete x y)
mark_discrete (variable_mark x) (array_mark c) = no (λ e. let z : ◌≡◌ {A = ℕ} 0 1 = cc in omega arith)
mark_discrete (array_mark a) (variable_mark y) = no (λ e. let z : ◌≡◌ {A = ℕ} 0 1 = cc in omega arith)
mark_discrete (array_mark a) (array_mark c) = map_dec (λ e. ap array_mark e) (λ e. cc) (ℕ_discrete a c)

-- setting a larger label in a larger labelling gives a larger one
pub set_mono : {l m : Labelling} (k : Mark) {b c : Bool} → l ⊑ m → at_most b c → set_label l k b ⊑ set_label m k c
set_mono {l} {m} k {b} {c} p h = record { at = λ j e. go j (mark_discrete k j) e }
  where
    go : (j : Mark) → Dec (k ≡ j) → at_most (label_of (set_label l k b) j) (label_of (set_label m k c) j)
    go j (yes q) = subst (λ (i : Mark). at_most (label_of (set_label l k b) i) (label_of (set_label m k c) i)) q (λ e. label_set m k c ∙ h (sym (label_set l k b) ∙ e))
    go j (no n) = λ e. label_set_other m k j c n ∙ p.at j (sym (label_set_other l k j b n) ∙ e)

module _ {l m : Labelling} (p : l ⊑ m) where
  mutual
    unfolding label_of_a

    -- a larger labelling gives a numeric expression a larger label
    pub label_of_a_mono : (e : AExp) → at_most (label_of_a l e) (label_of_a m e)
    label_of_a_mono (number n) = λ h. h
    label_of_a_mono (variable x) = p.at (variable_mark x)
    label_of_a_mono (add a b) = or_mono (label_of_a_mono a) (label_of_a_mono b)
    label_of_a_mono (subtract a b) = or_mono (label_of_a_mono a) (label_of_a_mono b)
    label_of_a_mono (multiply a b) = unless_mono (times_nought a b) (or_mono (label_of_a_mono a) (label_of_a_mono b))
    label_of_a_mono (choice c a b) = or_mono (label_of_b_mono c) (or_mono (label_of_a_mono a) (label_of_a_mono b))

    -- a larger labelling gives a truth a larger label
    pub label_of_b_mono : (b : BExp) → at_most (label_of_b l b) (label_of_b m b)
    label_of_b_mono (constant b) = λ h. h
    label_of_b_mono (equal a b) = or_mono (label_of_a_mono a) (label_of_a_mono b)
    label_of_b_mono (less a b) = or_mono (label_of_a_mono a) (label_of_a_mono b)
    label_of_b_mono (not b) = label_of_b_mono b
    label_of_b_mono (and b c) = or_mono (label_of_b_mono b) (label_of_b_mono c)
