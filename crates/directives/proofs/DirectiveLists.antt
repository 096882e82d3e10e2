-- Laws of directive lists: the record at an offset, and the list from an offset on.
use Prim.Native.Nat.{ℕ, zero, suc, ◌+◌, ◌≤◌, ◌<◌}
use native.Mathlib.Omega.{arith}
use mathlib.Core.Path.{◌≡◌, refl, sym, ap, ◌∙◌}
use mathlib.Core.Bool.{Bool, true, false, cond, ◌&&◌}
use mathlib.Core.Option.{Option, none, some}
use mathlib.Core.List.{List, [], ◌∷◌}
use lib.ListN.{length, drop, length-drop}
use lib.Seq.{drop-drop}
use lib.Dec.{eqb, leb}
use borrow.Author.Tests.{leb-true, eqb-true}
use Rattle.bytes_le.specs.Numbers.{le_at}
use Rattle.machine.specs.Directives.{directive_of, directive_size, whole_directive, first_directive, before, directives_in, read_rolling_directives, is_rollback}
use Rattle.directives.specs.Listed.{found, is_some}
use Rattle.machine.specs.declared.Directive.{Directive}
use Rattle.machine.specs.declared.Directive.TheVariants.{Step, Force, Load, Store, Rollback}
use Rattle.std.specs.Prelude.{Some, None}
use Rattle.std.proofs.Common.{◌⊎◌, inl, inr}

-- a number of the rest from an offset on
pub le_at-drop : (width : ℕ) (s : List ℕ) (at k : ℕ) → le_at width (drop at s) k ≡ le_at width s (at + k)
unfolding le_at
le_at-drop width s at k = rw drop-drop

-- what the code finds first in bytes
pub found_some : (s : List ℕ) (d : Directive) → Some d ≡ found (first_directive s) → first_directive s ≡ some d
unfolding found
found_some s d = go (first_directive s)
  where
    go : (o : Option Directive) → Some d ≡ found o → o ≡ some d
    go none e = cc
    go (some d') e = cc

pub found_none : (s : List ℕ) → None ≡ found (first_directive s) → first_directive s ≡ none
unfolding found
found_none s = go (first_directive s)
  where
    go : (o : Option Directive) → None ≡ found o → o ≡ none
    go none e = refl
    go (some d) e = cc

-- ---- the list
-- a record has some bytes, and all of them stand in the list
pub size_some : (d : Directive) → 0 < directive_size d
unfolding directive_size
size_some Step = omega arith
size_some Force = omega arith
size_some (Load a i) = omega arith
size_some (Store a i) = omega arith
size_some Rollback = omega arith

none_some : (d : Directive) → none ≡ some d → ⊥
none_some d e = let z : ◌≡◌ {A = ℕ} 0 1 = cc in omega arith

whole_within : (s : List ℕ) (d d' : Directive) → whole_directive s d ≡ some d' → directive_size d' ≤ length s
unfolding whole_directive
whole_within s d d' e = go (eqb (le_at 2 s 0) (directive_size d)) (leb (directive_size d) (length s)) refl e
  where
    go : (a b : Bool) → leb (directive_size d) (length s) ≡ b → cond (a && b) (some d) none ≡ some d' → directive_size d' ≤ length s
    go true true t w =
        let same : d ≡ d' = cc in
        rw (← same) (leb-true (directive_size d) (length s) t)
    go true false t w = absurd (none_some d' w)
    go false b t w = absurd (none_some d' w)

pub first_within : (s : List ℕ) (d : Directive) → first_directive s ≡ some d → directive_size d ≤ length s
unfolding first_directive
first_within s d e = go (directive_of (le_at 2 s 2) (le_at 2 s 4) (le_at 4 s 6)) refl
  where
    go : (o : Option Directive) → directive_of (le_at 2 s 2) (le_at 2 s 4) (le_at 4 s 6) ≡ o → directive_size d ≤ length s
    go none k = absurd (none_some d (rw (k, first_directive) at e))
    go (some d') k = whole_within s d' d (rw (k, first_directive) at e)

-- a rollback's record has 4 bytes, and its kind is 76
pub rollback_size : (d : Directive) → is_rollback d ≡ true → directive_size d ≡ 4
unfolding is_rollback directive_size
rollback_size Step e = refl
rollback_size Force e = refl
rollback_size (Load a i) e = cc
rollback_size (Store a i) e = cc
rollback_size Rollback e = refl

kind_tells : (k a i : ℕ) (d : Directive) → directive_of k a i ≡ some d → is_rollback d ≡ eqb k 76
unfolding directive_of is_rollback
kind_tells k a i d e = go (eqb k 72) (eqb k 73) (eqb k 74) (eqb k 75) (eqb k 76) refl refl refl refl refl e
  where
    go : (p q r s t : Bool) → eqb k 72 ≡ p → eqb k 73 ≡ q → eqb k 74 ≡ r → eqb k 75 ≡ s → eqb k 76 ≡ t
        → cond p (some Step) (cond q (some Force) (cond r (some (Load a i)) (cond s (some (Store a i)) (cond t (some Rollback) none)))) ≡ some d → is_rollback d ≡ t
    go true q r s t hp hq hr hs ht w = let is : Step ≡ d = cc in rw (← is) (sym (ap (λ (n : ℕ). eqb n 76) (eqb-true k 72 hp)) ∙ ht)
    go false true r s t hp hq hr hs ht w = let is : Force ≡ d = cc in rw (← is) (sym (ap (λ (n : ℕ). eqb n 76) (eqb-true k 73 hq)) ∙ ht)
    go false false true s t hp hq hr hs ht w = let is : Load a i ≡ d = cc in rw (← is) (sym (ap (λ (n : ℕ). eqb n 76) (eqb-true k 74 hr)) ∙ ht)
    go false false false true t hp hq hr hs ht w = let is : Store a i ≡ d = cc in rw (← is) (sym (ap (λ (n : ℕ). eqb n 76) (eqb-true k 75 hs)) ∙ ht)
    go false false false false true hp hq hr hs ht w = let is : Rollback ≡ d = cc in rw (← is)
    go false false false false false hp hq hr hs ht w = absurd (none_some d w)

whole_same : (s : List ℕ) (d d' : Directive) → whole_directive s d ≡ some d' → d ≡ d'
unfolding whole_directive
whole_same s d d' e = go (eqb (le_at 2 s 0) (directive_size d) && leb (directive_size d) (length s)) e
  where
    go : (b : Bool) → cond b (some d) none ≡ some d' → d ≡ d'
    go true w = cc
    go false w = absurd (none_some d' w)

pub first_kind : (s : List ℕ) (d : Directive) → first_directive s ≡ some d → is_rollback d ≡ eqb (le_at 2 s 2) 76
unfolding first_directive
first_kind s d e = go (directive_of (le_at 2 s 2) (le_at 2 s 4) (le_at 4 s 6)) refl
  where
    go : (o : Option Directive) → directive_of (le_at 2 s 2) (le_at 2 s 4) (le_at 4 s 6) ≡ o → is_rollback d ≡ eqb (le_at 2 s 2) 76
    go none k = absurd (none_some d (rw (k, first_directive) at e))
    go (some d') k =
        let same = whole_same s d' d (rw (k, first_directive) at e) in
        rw (← same) (kind_tells (le_at 2 s 2) (le_at 2 s 4) (le_at 4 s 6) d' k)

module _ (most : ℕ) where
  directives_first : (s : List ℕ) (d : Directive) → 0 < length s → first_directive s ≡ some d → directives_in (suc most) s ≡ before d (directives_in most (drop (directive_size d) s))
  unfolding directives_in
  directives_first [] d h e = elim h [ ]
  directives_first (b ∷ bs) d h e = rw (e, directives_in)

  directives_bad : (s : List ℕ) → 0 < length s → first_directive s ≡ none → directives_in (suc most) s ≡ none
  unfolding directives_in
  directives_bad [] h e = elim h [ ]
  directives_bad (b ∷ bs) h e = rw (e, directives_in)

-- with as much fuel as there are bytes, no more is needed
enough : (m n : ℕ) (s : List ℕ) → length s ≤ m → length s ≤ n → directives_in m s ≡ directives_in n s
unfolding directives_in
enough zero zero s h k = refl
enough zero (suc n) [] h k = refl
enough (suc m) zero [] h k = refl
enough (suc m) (suc n) [] h k = refl
enough zero (suc n) (b ∷ bs) h k = absurd (omega arith)
enough (suc m) zero (b ∷ bs) h k = absurd (omega arith)
enough (suc m) (suc n) (b ∷ bs) h k = go (first_directive (b ∷ bs)) refl (λ rest. enough m n rest)
  where
    go : (o : Option Directive) → first_directive (b ∷ bs) ≡ o → ((rest : List ℕ) → length rest ≤ m → length rest ≤ n → directives_in m rest ≡ directives_in n rest)
        → directives_in (suc m) (b ∷ bs) ≡ directives_in (suc n) (b ∷ bs)
    go none e more = directives_bad m (b ∷ bs) (omega arith) e ∙ sym (directives_bad n (b ∷ bs) (omega arith) e)
    go (some d) e more =
        let positive = size_some d in
        let less = length-drop (directive_size d) (b ∷ bs) in
        directives_first m (b ∷ bs) d (omega arith) e
        ∙ ap (before d) (more (drop (directive_size d) (b ∷ bs)) (omega arith) (omega arith))
        ∙ sym (directives_first n (b ∷ bs) d (omega arith) e)

-- what a list reads as: nothing where it ends, else its first directive before the rest
pub reads_none_left : (s : List ℕ) → length s ≤ 0 → read_rolling_directives s ≡ some []
unfolding read_rolling_directives directives_in
reads_none_left [] h = refl
reads_none_left (b ∷ bs) h = absurd (omega arith)

pub reads_first : (s : List ℕ) (d : Directive) → 0 < length s → first_directive s ≡ some d → read_rolling_directives s ≡ before d (read_rolling_directives (drop (directive_size d) s))
unfolding read_rolling_directives
reads_first [] d h e = elim h [ ]
reads_first (b ∷ bs) d h e =
    let positive = size_some d in
    let less = length-drop (directive_size d) (b ∷ bs) in
    directives_first (length bs) (b ∷ bs) d h e
    ∙ ap (before d) (enough (length bs) (length (drop (directive_size d) (b ∷ bs))) (drop (directive_size d) (b ∷ bs)) (omega arith) (omega arith))

pub reads_bad : (s : List ℕ) → 0 < length s → first_directive s ≡ none → read_rolling_directives s ≡ none
unfolding read_rolling_directives
reads_bad [] h e = elim h [ ]
reads_bad (b ∷ bs) h e = directives_bad (length bs) (b ∷ bs) h e

-- where the code finds a directive first, the list reads if the rest behind it does
module _ (s : List ℕ) (d : Directive) (here : Some d ≡ found (first_directive s)) where
  pub reads_next : read_rolling_directives s ≡ before d (read_rolling_directives (drop (directive_size d) s))
  reads_next =
      let size = first_within s d (found_some s d here) in
      reads_first s d (omega (arith, size_some d)) (found_some s d here)

  pub size_within : directive_size d ≤ length s
  size_within = first_within s d (found_some s d here)

-- where it finds none, the list has ended or does not read
pub reads_over : (s : List ℕ) → None ≡ found (first_directive s) → (length s ≡ 0) ⊎ (read_rolling_directives s ≡ none)
reads_over [] e = inl refl
reads_over (b ∷ bs) e = inr (reads_bad (b ∷ bs) (omega arith) (found_none (b ∷ bs) e))

pub is_some_before : (d : Directive) (o : Option (List Directive)) → is_some (before d o) ≡ is_some o
unfolding before is_some
is_some_before d none = refl
is_some_before d (some ds) = refl
