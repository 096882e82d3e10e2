-- How agreement on what is public is kept: under larger labellings, assignments and updates of the flag variable.
use Prim.Native.Nat.{ℕ, ◌<◌}
use native.Mathlib.Decide.{ℕ_discrete, dec_lt}
use native.Mathlib.Omega.{arith}
use mathlib.Core.Bool.{Bool, true, false, true≢false}
use mathlib.Core.List.{List}
use mathlib.Core.Path.{◌≡◌, refl, sym, subst, ◌∙◌}
use lib.ListN.{length, get_or, set, length-set}
use lib.Seq.{get_or-set_same, get_or-set_other}
use Rattle.awhile.specs.Language.{AExp, BExp, value_of, truth_of}
use Rattle.awhile.specs.declared.Labelling.{Labelling}
use Rattle.labels.specs.Labellings.{◌⊑◌, Mark, variable_mark, array_mark, label_of, set_label, label_of_a, label_of_b}
use Rattle.labels.proofs.Order.{label_set, label_set_other}
use Rattle.labels.proofs.Booleans.{at_most_false}
use Rattle.labels.proofs.Values.{public_value, public_truth, agree_weaker, agree_set, stored_same}
use Rattle.machine.specs.Steps.{inside, cell_place}
use Rattle.machine.proofs.Cells.{cells_apart}
use Rattle.masks.specs.Covering.{Masked, AgreeOnArrays}
use Rattle.masks.specs.Hardening.{masked_condition, masked_index, zero_if_guessing}
use Rattle.masks.proofs.Locked.{Flagged}

-- what is public in the larger labelling is public in the smaller
pub public_below : {l m : Labelling} → l ⊑ m → (k : Mark) → label_of m k ≡ false → label_of l k ≡ false
public_below h k e = at_most_false (h.at k) e

pub flagged_larger : {f k : ℕ} {l m : Labelling} {vs ws : List ℕ} → l ⊑ m → Flagged f k l vs ws → Flagged f k m vs ws
flagged_larger h a =
    record { agree = agree_weaker h a.agree; left = a.left; right = a.right; lengths = a.lengths; declared = a.declared }

module _ {f k : ℕ} {l : Labelling} {vs ws : List ℕ} (a : Flagged f k l vs ws) where
  pub flagged_set : (x v w : ℕ) (b : Bool) → (x ≡ f → ⊥) → (b ≡ false → v ≡ w) → Flagged f k (set_label l (variable_mark x) b) (set vs x v) (set ws x w)
  flagged_set x v w b other h =
      record {
        agree = agree_set x b v w a.lengths h a.agree;
        left = get_or-set_other vs x f v 0 (λ e. other (sym e)) ∙ a.left;
        right = get_or-set_other ws x f w 0 (λ e. other (sym e)) ∙ a.right;
        lengths = length-set vs x v ∙ (a.lengths ∙ sym (length-set ws x w));
        declared = rw length-set a.declared;
      }

  -- the flag variable gets a new value on both sides
  pub flagged_flag : (j : ℕ) → Flagged f j l (set vs f j) (set ws f j)
  flagged_flag j =
      record {
        agree = record { at = λ y p. go y p (ℕ_discrete y f) };
        left = get_or-set_same vs f j 0 a.declared;
        right = get_or-set_same ws f j 0 (subst (λ (n : ℕ). f < n) a.lengths a.declared);
        lengths = length-set vs f j ∙ (a.lengths ∙ sym (length-set ws f j));
        declared = rw length-set a.declared;
      }
    where
      go : (y : ℕ) → label_of l (variable_mark y) ≡ false → Dec (y ≡ f) → get_or (set vs f j) y 0 ≡ get_or (set ws f j) y 0
      go y p (yes q) = subst (λ (z : ℕ). get_or (set vs f j) z 0 ≡ get_or (set ws f j) z 0) (sym q) (stored_same vs ws f j j a.lengths refl)
      go y p (no q) = get_or-set_other vs f y j 0 q ∙ (a.agree.at y p ∙ sym (get_or-set_other ws f y j 0 q))

-- ---- masks, by the value of the flag variable
module _ (f : ℕ) (vs : List ℕ) where
  pub condition_masked : (b : BExp) → get_or vs f 0 ≡ 1 → truth_of (masked_condition f true b) vs ≡ false
  unfolding masked_condition truth_of
  condition_masked b e = rw e

  pub zero_guessing : (i : AExp) → get_or vs f 0 ≡ 1 → value_of (zero_if_guessing f i) vs ≡ 0
  unfolding zero_if_guessing value_of
  zero_guessing i e = rw e

  pub same_straight : (i : AExp) → get_or vs f 0 ≡ 0 → value_of (zero_if_guessing f i) vs ≡ value_of i vs
  unfolding zero_if_guessing value_of
  same_straight i e = rw e

unmasked_public : {label : Bool} → Masked label false → label ≡ false
unmasked_public {label} h = go label refl
  where
    go : (b : Bool) → label ≡ b → label ≡ false
    go false e = e
    go true e = absurd (true≢false (sym (h.masked e)))

-- while guessing, a covered condition has one value on both sides, and so has a covered index
module _ {f : ℕ} {l : Labelling} {vs ws : List ℕ} (a : Flagged f 1 l vs ws) where
  pub same_condition : (mask : Bool) (b : BExp) → Masked (label_of_b l b) mask
      → truth_of (masked_condition f mask b) vs ≡ truth_of (masked_condition f mask b) ws
  unfolding masked_condition
  same_condition true b h = condition_masked f vs b a.left ∙ sym (condition_masked f ws b a.right)
  same_condition false b h = public_truth l vs ws a.agree b (unmasked_public h)

  pub same_index : (mask : Bool) (i : AExp) → Masked (label_of_a l i) mask → value_of (masked_index f mask i) vs ≡ value_of (masked_index f mask i) ws
  unfolding masked_index
  same_index true i h = zero_guessing f vs i a.left ∙ sym (zero_guessing f ws i a.right)
  same_index false i h = public_value l vs ws a.agree i (unmasked_public h)

array_marks : {a b : ℕ} → array_mark a ≡ array_mark b → a ≡ b
array_marks e = cc

-- a write at one place on both sides keeps agreement on the public arrays, where the value written to a public array is the same
module _ {l : Labelling} {counts cs ds : List ℕ} (a i v w : ℕ) (r : Bool) (h : AgreeOnArrays l counts cs ds) (lengths : length cs ≡ length ds)
    (within : inside counts a i ≡ true) (before : r ≡ false → label_of l (array_mark a) ≡ false) (equal : r ≡ false → v ≡ w) where
  Kept : ℕ → Type 0
  Kept k = get_or (set cs (cell_place counts a i) v) k 0 ≡ get_or (set ds (cell_place counts a i) w) k 0

  kept_off : (k : ℕ) → (k ≡ cell_place counts a i → ⊥) → get_or cs k 0 ≡ get_or ds k 0 → Kept k
  unfolding Kept
  kept_off k p e = get_or-set_other cs (cell_place counts a i) k v 0 p ∙ (e ∙ sym (get_or-set_other ds (cell_place counts a i) k w 0 p))

  kept_on : v ≡ w → Kept (cell_place counts a i)
  unfolding Kept
  kept_on e = stored_same cs ds (cell_place counts a i) v w lengths e

  same_array : (j : ℕ) → r ≡ false → inside counts a j ≡ true → Dec (cell_place counts a j ≡ cell_place counts a i) → Kept (cell_place counts a j)
  same_array j e p (yes q) = subst Kept (sym q) (kept_on (equal e))
  same_array j e p (no q) = kept_off (cell_place counts a j) q (h.at a j (before e) p)

  pub arrays_set : AgreeOnArrays (set_label l (array_mark a) r) counts (set cs (cell_place counts a i) v) (set ds (cell_place counts a i) w)
  unfolding Kept
  arrays_set = record { at = λ b j e p. go b j e p (ℕ_discrete b a) }
    where
      apart : (b j : ℕ) → (b ≡ a → ⊥) → inside counts b j ≡ true → cell_place counts b j ≡ cell_place counts a i → ⊥
      apart b j q p e = order (dec_lt b a) (dec_lt a b)
        where
          order : Dec (b < a) → Dec (a < b) → ⊥
          order (yes m) o = cells_apart counts b j a i m p e
          order (no m) (yes o) = cells_apart counts a i b j o within (sym e)
          order (no m) (no o) = q (omega arith)

      go : (b j : ℕ) → label_of (set_label l (array_mark a) r) (array_mark b) ≡ false → inside counts b j ≡ true → Dec (b ≡ a) → Kept (cell_place counts b j)
      go b j e p (yes q) =
          subst (λ (k : ℕ). Kept (cell_place counts k j)) (sym q)
          (same_array j (sym (label_set l (array_mark a) r) ∙ subst (λ (k : ℕ). label_of (set_label l (array_mark a) r) (array_mark k) ≡ false) q e)
          (subst (λ (k : ℕ). inside counts k j ≡ true) q p)
          (ℕ_discrete (cell_place counts a j) (cell_place counts a i)))
      go b j e p (no q) =
          kept_off (cell_place counts b j) (apart b j q p)
          (h.at b j (sym (label_set_other l (array_mark a) (array_mark b) r (λ s. q (sym (array_marks s)))) ∙ e) p)
