-- The list of the marks that cost: a mark stands in it exactly if lifting it changes the hardened nodes, and the numbers rise.
use Prim.Native.Nat.{ℕ, zero, suc, ◌+◌, ◌^◌, ◌≤◌, ◌<◌}
use native.Mathlib.Nat.{zero-add}
use native.Mathlib.Omega.{arith}
use native.Mathlib.Decide.{ℕ_discrete}
use mathlib.Core.Bool.{Bool, true, false, cond, true≢false}
use mathlib.Core.List.{List, [], ◌∷◌, ◌++◌, map, map-append, Memᴰ}
use mathlib.Core.Logic.{◌↔◌, ⊎_elim}
use mathlib.Core.Path.{◌≡◌, refl, sym, ap, ap₂, ◌∙◌}
use lib.ListN.{length}
use lib.Dec.{ltb}
use borrow.Author.Tests.{ltb-true, ltb-false}
use Rattle.awhile.specs.Tables.{Table}
use Rattle.awhile.specs.Trees.{root_of}
use Rattle.awhile.specs.WellFormed.{WellFormed}
use Rattle.awhile.specs.declared.Labelling.{Labelling}
use Rattle.labels.specs.Annotation.{annotate}
use Rattle.labels.specs.Masks.{bit}
use Rattle.labels.specs.Labellings.{Mark, variable_mark, array_mark, label_of, set_label}
use Rattle.labels.specs.Sheet.{annotated}
use Rattle.awhile.proofs.Versions.{declared_variables}
use Rattle.labels.proofs.Masks.{bit_above}
use Rattle.labels.proofs.Order.{equal_labels, label_set, label_set_other, mark_discrete}
use Rattle.masks.specs.Decisions.{decide, decisions_of}
use Rattle.masks.specs.Hardening.{hardened_program, table_of_hardened, hardened_table}
use Rattle.masks.specs.Costs.{lifted, costs, marks_below, marks_of, costing, mark_number, Rising, DeclaresMark, TellsCosts}
use Rattle.masks.proofs.Telling.{OfOne, decide_one, changes_tell, changes_none}

module _ (t : Table) where
  -- ---- one mark
  -- the decisions with a mark lifted and without are on one program
  pub lifted_one : (k : Mark) → OfOne (decisions_of (lifted t k)) (decisions_of t)
  unfolding lifted annotated root_of
  lifted_one k = decide_one (root_of t) false false (set_label t.labels k false) t.labels

  costs_tell : (k : Mark) → (costs t k ≡ true) ↔ ((hardened_table (lifted t k)).nodes ≡ (hardened_table t).nodes → ⊥)
  unfolding costs hardened_table table_of_hardened hardened_program lifted
  costs_tell k = changes_tell t t.variables (lifted_one k)

  -- lifting a mark that is public changes nothing
  lifted_public : (k : Mark) → label_of t.labels k ≡ false → set_label t.labels k false ≡ t.labels
  lifted_public k public = equal_labels (set_label t.labels k false) t.labels (λ j. go j (mark_discrete k j))
    where
      go : (j : Mark) → Dec (k ≡ j) → label_of (set_label t.labels k false) j ≡ label_of t.labels j
      go j (yes e) = ap (label_of (set_label t.labels k false)) (sym e) ∙ (label_set t.labels k false ∙ (sym public ∙ ap (label_of t.labels) e))
      go j (no apart) = label_set_other t.labels k j false apart

  pub public_free : (k : Mark) → label_of t.labels k ≡ false → costs t k ≡ false
  unfolding costs lifted annotated root_of
  public_free k public = changes_none (ap (λ (l : Labelling). decide (annotate (root_of t) false l)) (lifted_public k public))

  -- so what costs is secret
  costs_secret : (k : Mark) → costs t k ≡ true → label_of t.labels k ≡ true
  costs_secret k h = go (label_of t.labels k) refl
    where
      go : (b : Bool) → label_of t.labels k ≡ b → label_of t.labels k ≡ true
      go true e = e
      go false e = absurd (true≢false (sym h ∙ public_free k e))

  -- ---- some marks
  -- a mark that costs is kept
  costing_has : (ks : List Mark) (k : Mark) → Memᴰ k ks → costs t k ≡ true → Memᴰ k (costing t ks)
  unfolding costing
  costing_has [] k m h = absurd (mathlib.Core.List.Memᴰ.not-nil m)
  costing_has (j ∷ ks) k m h = go (costs t j) refl (costing_has ks k)
    where
      go : (b : Bool) → costs t j ≡ b → (Memᴰ k ks → costs t k ≡ true → Memᴰ k (costing t ks)) → Memᴰ k (cond (costs t j) (j ∷ costing t ks) (costing t ks))
      go true e later = rw e (⊎_elim (λ same. mathlib.Core.List.Memᴰ.head same) (λ rest. mathlib.Core.List.Memᴰ.tail (later rest h)) (mathlib.Core.List.Memᴰ.cases_cons m))
      go false e later =
          rw e (⊎_elim (λ same. absurd (true≢false (sym h ∙ (ap (costs t) same ∙ e)))) (λ rest. later rest h) (mathlib.Core.List.Memᴰ.cases_cons m))

  -- and no other is
  costing_costs : (ks : List Mark) (k : Mark) → Memᴰ k (costing t ks) → costs t k ≡ true
  unfolding costing
  costing_costs [] k m = absurd (mathlib.Core.List.Memᴰ.not-nil m)
  costing_costs (j ∷ ks) k m = go (costs t j) refl (costing_costs ks k)
    where
      go : (b : Bool) → costs t j ≡ b → (Memᴰ k (costing t ks) → costs t k ≡ true) → costs t k ≡ true
      go true e later =
          let kept : Memᴰ k (j ∷ costing t ks) = rw e at m in
          ⊎_elim (λ same. ap (costs t) same ∙ e) later (mathlib.Core.List.Memᴰ.cases_cons kept)
      go false e later = let kept : Memᴰ k (costing t ks) = rw e at m in later kept

  -- a number that is kept was there before
  number_kept : (ks : List Mark) (n : ℕ) → Memᴰ n (map mark_number (costing t ks)) → Memᴰ n (map mark_number ks)
  unfolding costing
  number_kept [] n m = m
  number_kept (j ∷ ks) n m = go (costs t j) refl (number_kept ks n)
    where
      go : (b : Bool) → costs t j ≡ b → (Memᴰ n (map mark_number (costing t ks)) → Memᴰ n (map mark_number ks)) → Memᴰ n (mark_number j ∷ map mark_number ks)
      go true e later =
          let kept : Memᴰ n (mark_number j ∷ map mark_number (costing t ks)) = rw e at m in
          ⊎_elim (λ same. mathlib.Core.List.Memᴰ.head same) (λ rest. mathlib.Core.List.Memᴰ.tail (later rest)) (mathlib.Core.List.Memᴰ.cases_cons kept)
      go false e later = let kept : Memᴰ n (map mark_number (costing t ks)) = rw e at m in mathlib.Core.List.Memᴰ.tail (later kept)

  -- so rising numbers rise still
  costing_rises : (ks : List Mark) → Rising (map mark_number ks) → Rising (map mark_number (costing t ks))
  unfolding costing
  costing_rises [] r = r
  costing_rises (j ∷ ks) r = go (costs t j) refl (costing_rises ks r.1)
    where
      go : (b : Bool) → costs t j ≡ b → Rising (map mark_number (costing t ks)) → Rising (map mark_number (cond (costs t j) (j ∷ costing t ks) (costing t ks)))
      go true e later = rw e ((λ m kept. r.0 m (number_kept ks m kept)), later)
      go false e later = rw e later

-- ---- the marks of a table
below_has : (mark : ℕ → Mark) (n x : ℕ) → x < n → Memᴰ (mark x) (marks_below mark n)
unfolding marks_below
below_has mark zero x h = absurd (omega arith)
below_has mark (suc n) x h = go (ℕ_discrete x n) (below_has mark n x)
  where
    go : Dec (x ≡ n) → (x < n → Memᴰ (mark x) (marks_below mark n)) → Memᴰ (mark x) (marks_below mark n ++ (mark n ∷ []))
    go (yes e) earlier = mathlib.Core.List.Memᴰ.append_right (marks_below mark n) (mathlib.Core.List.Memᴰ.head (ap mark e))
    go (no e) earlier = mathlib.Core.List.Memᴰ.append_left (mark n ∷ []) (earlier (omega arith))

-- a bit that is set stands below the mask's width
bit_below : (w m n : ℕ) → m < 2 ^ w → bit m n ≡ true → n < w
bit_below w m n fits h = go (ltb n w) refl
  where
    go : (b : Bool) → ltb n w ≡ b → n < w
    go true e = ltb-true n w e
    go false e = absurd (true≢false (sym h ∙ bit_above w m n fits (ltb-false n w e)))

-- a secret mark is declared, as masks have no bit from V or A up
secret_declared : (t : Table) → WellFormed t → (k : Mark) → label_of t.labels k ≡ true → DeclaresMark t k
unfolding label_of
secret_declared t w (variable_mark x) h = bit_below t.variables t.labels.variables x w.declared.variable_mask_fits h
secret_declared t w (array_mark a) h = bit_below (length t.counts) t.labels.arrays a w.declared.array_mask_fits h

declared_has : (t : Table) (k : Mark) → DeclaresMark t k → Memᴰ k (marks_of t)
unfolding marks_of
declared_has t (variable_mark x) h = mathlib.Core.List.Memᴰ.append_left (marks_below array_mark (length t.counts)) (below_has variable_mark t.variables x h)
declared_has t (array_mark a) h = mathlib.Core.List.Memᴰ.append_right (marks_below variable_mark t.variables) (below_has array_mark (length t.counts) a h)

-- ---- their numbers rise
-- the numbers from one on
unfoldable numbers_from : (base count : ℕ) → List ℕ
numbers_from base zero = []
numbers_from base (suc n) = numbers_from base n ++ ((base + n) ∷ [])

numbers_within : (base n m : ℕ) → Memᴰ m (numbers_from base n) → (base ≤ m) × (m < base + n)
unfolding numbers_from
numbers_within base zero m h = absurd (mathlib.Core.List.Memᴰ.not-nil h)
numbers_within base (suc n) m h =
    ⊎_elim
    (λ earlier. let r = numbers_within base n m earlier in (r.0, omega arith))
    (λ last. let e = mathlib.Core.List.Memᴰ.eq_of_singleton last in (omega arith, omega arith))
    (mathlib.Core.List.Memᴰ.append_cases (numbers_from base n) h)

rising_append : (ms ns : List ℕ) → Rising ms → Rising ns → ((m n : ℕ) → Memᴰ m ms → Memᴰ n ns → m < n) → Rising (ms ++ ns)
rising_append [] ns r s h = s
rising_append (m ∷ ms) ns r s h = (
  (λ k at. ⊎_elim (r.0 k) (λ later. h m k (mathlib.Core.List.Memᴰ.head refl) later) (mathlib.Core.List.Memᴰ.append_cases ms at)),
  rising_append ms ns r.1 s (λ i j at later. h i j (mathlib.Core.List.Memᴰ.tail at) later),
)

numbers_rise : (base n : ℕ) → Rising (numbers_from base n)
unfolding numbers_from
numbers_rise base zero = tt
numbers_rise base (suc n) =
    rising_append (numbers_from base n) ((base + n) ∷ []) (numbers_rise base n) ((λ m h. absurd (mathlib.Core.List.Memᴰ.not-nil h)), tt)
    (λ i j at last. let r = numbers_within base n i at in let e = mathlib.Core.List.Memᴰ.eq_of_singleton last in omega arith)

below_numbers : (mark : ℕ → Mark) (base : ℕ) → ((x : ℕ) → mark_number (mark x) ≡ base + x) → (n : ℕ) → map mark_number (marks_below mark n) ≡ numbers_from base n
unfolding marks_below numbers_from
below_numbers mark base is zero = refl
below_numbers mark base is (suc n) =
    map-append mark_number (marks_below mark n) (mark n ∷ []) ∙ ap₂ (λ (ns : List ℕ) (k : ℕ). ns ++ (k ∷ [])) (below_numbers mark base is n) (is n)

-- variables are below 256, and arrays are not
marks_rise : (t : Table) → t.variables ≤ 256 → Rising (map mark_number (marks_of t))
unfolding marks_of mark_number
marks_rise t few =
    rw (map-append, below_numbers variable_mark 0 (λ x. sym (zero-add x)), below_numbers array_mark 256 (λ a. refl))
    (rising_append (numbers_from 0 t.variables) (numbers_from 256 (length t.counts)) (numbers_rise 0 t.variables) (numbers_rise 256 (length t.counts))
    (λ i j at later. let r = numbers_within 0 t.variables i at in let s = numbers_within 256 (length t.counts) j later in omega arith))

-- THE LIST IS WHAT IS PROMISED, of every table that is read
pub list_tells : (t : Table) → WellFormed t → TellsCosts t (costing t (marks_of t))
list_tells t w =
    record {
      listed = λ k. ((λ at. (costs_tell t k).0 (costing_costs t (marks_of t) k at)), has k);
      declared = λ k at. secret_declared t w k (secret k at);
      secret = secret;
      rising = costing_rises t (marks_of t) (marks_rise t (omega (arith, declared_variables w.declared)));
    }
  where
    secret : (k : Mark) → Memᴰ k (costing t (marks_of t)) → label_of t.labels k ≡ true
    secret k at = costs_secret t k (costing_costs t (marks_of t) k at)

    has : (k : Mark) → ((hardened_table (lifted t k)).nodes ≡ (hardened_table t).nodes → ⊥) → Memᴰ k (costing t (marks_of t))
    has k differ =
        let h = (costs_tell t k).1 differ in
        costing_has t (marks_of t) k (declared_has t k (secret_declared t w k (costs_secret t k h))) h
