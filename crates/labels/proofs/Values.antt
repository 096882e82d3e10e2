-- Values of public expressions: they are the same wherever the public variables are.
use Prim.Native.Nat.{ℕ, zero, suc, ◌+◌, ◌-◌, ◌*◌, ◌%◌, ◌^◌}
use mathlib.Core.Bool.{Bool, true, false, cond, true≢false, ◌&&◌, ◌||◌}
use mathlib.Core.Bool.{not as negated}
use mathlib.Core.List.{List, [], ◌∷◌}
use mathlib.Core.Logic.{⊎_elim}
use mathlib.Core.Path.{◌≡◌, refl, sym, ap, ap₂, ◌∙◌}
use native.Mathlib.Decide.{ℕ_discrete}
use native.Mathlib.Nat.{zero-mul, mul-zero}
use native.Mathlib.Omega.{arith}
use borrow.Author.Tests.{eqb-true}
use lib.Dec.{eqb, ltb}
use lib.ListN.{length, get_or, set}
use lib.Seq.{get_or-set_other}
use Rattle.awhile.specs.Language.{AExp, number, variable, add, subtract, multiply, choice, value_of}
use Rattle.awhile.specs.Language.{BExp, constant, equal, less, not, and, truth_of}
use Rattle.awhile.specs.declared.Labelling.{Labelling}
use Rattle.labels.specs.Labellings.{variable_mark, label_of, set_label, ◌⊑◌, is_nought, times_nought, label_of_a, label_of_b}
use Rattle.labels.specs.Rules.{AgreeOn}
use Rattle.labels.proofs.Booleans.{or_false_left, or_false_right, at_most_false, unless_false}
use Rattle.labels.proofs.Order.{label_set, label_set_other}

-- an operation on two parts gives one result where the join of their labels is public and public parts are the same
by_parts : {A B C : Type 0} {a c : A} {b d : B} (f : A → B → C) (p q : Bool)
    → (p ≡ false → a ≡ c) → (q ≡ false → b ≡ d) → (p || q) ≡ false → f a b ≡ f c d
by_parts f p q left right e = ap₂ f (left (or_false_left p q e)) (right (or_false_right p q e))

-- a number node of value 0 is 0 in every state
pub nought_value : (e : AExp) (vs : List ℕ) → is_nought e ≡ true → value_of e vs ≡ 0
unfolding is_nought value_of
nought_value (number n) vs h = eqb-true n 0 h
nought_value (variable x) vs h = absurd (true≢false (sym h))
nought_value (add a b) vs h = absurd (true≢false (sym h))
nought_value (subtract a b) vs h = absurd (true≢false (sym h))
nought_value (multiply a b) vs h = absurd (true≢false (sym h))
nought_value (choice c a b) vs h = absurd (true≢false (sym h))

-- so is a product with one as either operand
pub nought_product : (a b : AExp) (vs : List ℕ) → times_nought a b ≡ true → value_of (multiply a b) vs ≡ 0
unfolding times_nought value_of
nought_product a b vs h = go (is_nought a) refl
  where
    go : (c : Bool) → is_nought a ≡ c → (value_of a vs * value_of b vs) % 2 ^ 32 ≡ 0
    go true e = rw (nought_value a vs e, zero-mul)
    go false e = rw (nought_value b vs (sym (ap (λ c. c || is_nought b) e) ∙ h), mul-zero)

module _ (l : Labelling) (vs ws : List ℕ) (agree : AgreeOn l vs ws) where
  mutual
    unfolding label_of_a value_of

    -- a public numeric expression has one value where the public variables agree
    pub public_value : (e : AExp) → label_of_a l e ≡ false → value_of e vs ≡ value_of e ws
    public_value (number n) = λ p. refl
    public_value (variable x) = agree.at x
    public_value (add a b) = by_parts (λ u w. (u + w) % 2 ^ 32) (label_of_a l a) (label_of_a l b) (public_value a) (public_value b)
    public_value (subtract a b) = by_parts (λ u w. (u + 2 ^ 32 - w) % 2 ^ 32) (label_of_a l a) (label_of_a l b) (public_value a) (public_value b)
    public_value (multiply a b) = λ e.
        ⊎_elim (λ n. nought_product a b vs n ∙ sym (nought_product a b ws n))
        (by_parts (λ u w. (u * w) % 2 ^ 32) (label_of_a l a) (label_of_a l b) (public_value a) (public_value b))
        (unless_false (times_nought a b) e)
    public_value (choice c a b) =
        by_parts (λ t (f : Bool → ℕ). f t) (label_of_b l c) (label_of_a l a || label_of_a l b) (public_truth c)
        (by_parts (λ u w t. cond t u w) (label_of_a l a) (label_of_a l b) (public_value a) (public_value b))

    -- a public truth has one truth value where the public variables agree
    pub public_truth : (b : BExp) → label_of_b l b ≡ false → truth_of b vs ≡ truth_of b ws
    public_truth (constant b) = λ p. refl
    public_truth (equal a b) = by_parts eqb (label_of_a l a) (label_of_a l b) (public_value a) (public_value b)
    public_truth (less a b) = by_parts ltb (label_of_a l a) (label_of_a l b) (public_value a) (public_value b)
    public_truth (not b) = λ p. ap negated (public_truth b p)
    public_truth (and b c) = by_parts ◌&&◌ (label_of_b l b) (label_of_b l c) (public_truth b) (public_truth c)

-- states that agree on a labelling agree on every larger one
pub agree_weaker : {l m : Labelling} {vs ws : List ℕ} → l ⊑ m → AgreeOn l vs ws → AgreeOn m vs ws
agree_weaker p agree = record { at = λ x e. agree.at x (at_most_false (p.at (variable_mark x)) e) }

-- an element stored in lists of one length is the same in both, or in neither
pub stored_same : (vs ws : List ℕ) (x a c : ℕ) → length vs ≡ length ws → a ≡ c → get_or (set vs x a) x 0 ≡ get_or (set ws x c) x 0
stored_same [] [] x a c n e = refl
stored_same [] (w ∷ ws) x a c n e = absurd (omega arith)
stored_same (v ∷ vs) [] x a c n e = absurd (omega arith)
stored_same (v ∷ vs) (w ∷ ws) zero a c n e = e
stored_same (v ∷ vs) (w ∷ ws) (suc x) a c n e = stored_same vs ws x a c (omega arith) e

-- states still agree after a variable is set in both, to one value where its new label is public
pub agree_set : {l : Labelling} {vs ws : List ℕ} (x : ℕ) (b : Bool) (a c : ℕ) → length vs ≡ length ws → (b ≡ false → a ≡ c)
    → AgreeOn l vs ws → AgreeOn (set_label l (variable_mark x) b) (set vs x a) (set ws x c)
agree_set {l} {vs} {ws} x b a c n h agree = record { at = λ y e. go y (ℕ_discrete y x) e }
  where
    go : (y : ℕ) → Dec (y ≡ x) → label_of (set_label l (variable_mark x) b) (variable_mark y) ≡ false → get_or (set vs x a) y 0 ≡ get_or (set ws x c) y 0
    go y (yes q) = rw q (λ e. stored_same vs ws x a c n (h (sym (label_set l (variable_mark x) b) ∙ e)))
    go y (no q) =
        rw (get_or-set_other vs x y a 0 q, get_or-set_other ws x y c 0 q, label_set_other l (variable_mark x) (variable_mark y) b (λ e. q (cc))) (agree.at y)
