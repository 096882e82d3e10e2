-- Repeated passes over a labelling: they settle once a pass adds no secret, which happens within as many passes as there are public marks.
use Prim.Native.Nat.{ℕ, zero, suc, ◌≤◌}
use mathlib.Core.Bool.{Bool, true, false, le as at_most, cond, true≢false}
use mathlib.Core.List.Memᴰ
use mathlib.Core.List.{List, [], ◌∷◌, Memᴰ}
use mathlib.Core.Logic.{⊎_elim}
use mathlib.Core.Path.{◌≡◌, refl, sym, ap, ◌∙◌, subst}
use native.Mathlib.Decide.{dec_le}
use native.Mathlib.Omega.{arith}
use lib.ListN.{length}
use Rattle.awhile.specs.declared.Labelling.{Labelling}
use Rattle.labels.specs.Labellings.{Mark, label_of, join, same, ◌⊑◌}
use Rattle.labels.specs.Analysis.{settle}
use Rattle.labels.specs.Rules.{Settled, passed, public_among}
use Rattle.labels.proofs.Order.{⊑_refl, ⊑_trans, ⊑-antisym, join_left, join_right, join_least, join_mono, join_absorbs, same_iff, label_join_same, mark_discrete}

-- a mark stands in a list or it does not
pub member : (k : Mark) (ks : List Mark) → Dec (Memᴰ k ks)
member k [] = no Memᴰ.not-nil
member k (j ∷ ks) = go (mark_discrete k j) (member k ks)
  where
    go : Dec (k ≡ j) → Dec (Memᴰ k ks) → Dec (Memᴰ k (j ∷ ks))
    go (yes e) d = yes (Memᴰ.head e)
    go (no n) (yes m) = yes (Memᴰ.tail m)
    go (no n) (no o) = no (λ m. ⊎_elim n o (Memᴰ.cases_cons m))

-- a mark counts as one while it is public: less where the label is larger
counted_less : (a b : Bool) → at_most a b → cond b 0 1 ≤ cond a 0 1
counted_less a true h = omega arith
counted_less true false h = absurd (true≢false (sym (h refl)))
counted_less false false h = omega arith

counted_back : (a b : Bool) → cond a 0 1 ≤ cond b 0 1 → at_most b a
counted_back true b h e = refl
counted_back false true h e = absurd (omega arith)
counted_back false false h e = e

-- no more marks are public than there are
pub public_length : (ks : List Mark) (l : Labelling) → public_among ks l ≤ length ks
unfolding public_among
public_length [] l = omega arith
public_length (k ∷ ks) l = let h = counted_less false (label_of l k) (λ e. absurd (true≢false (sym e))) in let t = public_length ks l in omega arith

module _ {l m : Labelling} (p : l ⊑ m) where
  -- in a larger labelling no more marks are public
  pub public_less : (ks : List Mark) → public_among ks m ≤ public_among ks l
  unfolding public_among
  public_less [] = omega arith
  public_less (k ∷ ks) = let h = counted_less (label_of l k) (label_of m k) (p.at k) in let t = public_less ks in omega arith

  -- where as many are public, a mark of the list is public in both or in neither
  pub public_same : {k : Mark} {ks : List Mark} → Memᴰ k ks → public_among ks l ≤ public_among ks m → at_most (label_of m k) (label_of l k)
  unfolding public_among
  public_same {k} (Memᴰ.head {x = j} {xs = ks} e) h =
      let t = public_less ks in
      let c : at_most (label_of m j) (label_of l j) = counted_back (label_of l j) (label_of m j) (omega arith) in
      subst (λ (i : Mark). at_most (label_of m i) (label_of l i)) (sym e) c
  public_same {k} (Memᴰ.tail {x = j} {xs = ks} i) h =
      let c = counted_less (label_of l j) (label_of m j) (p.at j) in
      public_same i (omega arith)

module _ (pass : Labelling → Labelling) where
  -- there is one settled labelling
  pub settled_unique : {l s t : Labelling} → Settled pass l s → Settled pass l t → s ≡ t
  settled_unique {l} {s} {t} p q = ⊑-antisym (p.least t q.above q.closed) (q.least s p.above p.closed)

  -- once a pass adds nothing, no later one does
  passed_fixed : (n : ℕ) (l : Labelling) → join l (pass l) ≡ l → passed n pass l ≡ l
  unfolding passed
  passed_fixed zero l e = refl
  passed_fixed (suc n) l e = ap (λ (m : Labelling). passed n pass m) e ∙ passed_fixed n l e

  closed_stays : (n : ℕ) (l : Labelling) → pass l ⊑ l → pass (passed n pass l) ⊑ passed n pass l
  closed_stays n l p = rw (passed_fixed n l (join_absorbs p)) p

  -- stopping at the first pass that adds nothing changes no result
  pub settle_passed : (n : ℕ) (l : Labelling) → settle n pass l ≡ passed n pass l
  unfolding passed settle
  settle_passed zero l = refl
  settle_passed (suc n) l = go (same (join l (pass l)) l) refl (settle_passed n (join l (pass l)))
    where
      go : (b : Bool) → same (join l (pass l)) l ≡ b → settle n pass (join l (pass l)) ≡ passed n pass (join l (pass l)) → settle (suc n) pass l ≡ passed n pass (join l (pass l))
      go true e r = rw (e, settle) (sym (ap (λ (m : Labelling). passed n pass m) ((same_iff (join l (pass l)) l).0 e) ∙ passed_fixed n l ((same_iff (join l (pass l)) l).0 e)))
      go false e r = rw (e, settle) r

  -- passes that keep a label keep it however many they are
  pub passed_frame : (k : Mark) → ((l : Labelling) → label_of (pass l) k ≡ label_of l k) → (n : ℕ) (l : Labelling) → label_of (passed n pass l) k ≡ label_of l k
  unfolding passed
  passed_frame k h zero l = refl
  passed_frame k h (suc n) l = passed_frame k h n (join l (pass l)) ∙ label_join_same l (pass l) k (label_of l k) refl (h l)

  -- passes only add
  pub passed_above : (n : ℕ) (l : Labelling) → l ⊑ passed n pass l
  unfolding passed
  passed_above zero l = ⊑_refl l
  passed_above (suc n) l = ⊑_trans (join_left l (pass l)) (passed_above n (join l (pass l)))

module _ (f g : Labelling → Labelling) (h : (l m : Labelling) → l ⊑ m → f l ⊑ g m) where
  -- larger passes from a larger labelling give a larger one
  pub passed_mono : (n : ℕ) (l m : Labelling) → l ⊑ m → passed n f l ⊑ passed n g m
  unfolding passed
  passed_mono zero l m p = p
  passed_mono (suc n) l m p = passed_mono n (join l (f l)) (join m (g m)) (join_mono p (h l m p))

module _ (pass : Labelling → Labelling) (mono : (l m : Labelling) → l ⊑ m → pass l ⊑ pass m) where
  -- passes stay below a closed labelling
  pub passed_below : (n : ℕ) (l m : Labelling) → l ⊑ m → pass m ⊑ m → passed n pass l ⊑ m
  unfolding passed
  passed_below zero l m p q = p
  passed_below (suc n) l m p q = passed_below n (join l (pass l)) m (join_least l (pass l) p (⊑_trans (mono l m p) q)) q

  module _ {l s m : Labelling} (settled : Settled pass l s) (p : l ⊑ m) (q : m ⊑ s) where
    -- a pass from between the entering and the settled labelling stays between them
    pub between_pass : join m (pass m) ⊑ s
    between_pass = join_least m (pass m) q (⊑_trans (mono m s q) settled.closed)

    -- where such a pass adds nothing, it started from the settled labelling
    pub between_settled : pass m ⊑ m → m ≡ s
    between_settled h = ⊑-antisym q (settled.least m p h)

  module _ (ks : List Mark) (frame : (l : Labelling) (k : Mark) → (Memᴰ k ks → ⊥) → label_of (pass l) k ≡ label_of l k) where
    -- a pass that leaves as many marks public adds nothing
    idle : (l : Labelling) → public_among ks l ≤ public_among ks (join l (pass l)) → pass l ⊑ l
    idle l h = record { at = λ k e. go k (member k ks) e }
      where
        go : (k : Mark) → Dec (Memᴰ k ks) → at_most (label_of (pass l) k) (label_of l k)
        go k (yes i) = λ e. public_same (join_left l (pass l)) i h ((join_right l (pass l)).at k e)
        go k (no n) = λ e. sym (frame l k n) ∙ e

    -- as many passes as marks are public leave nothing to add
    passed_closed : (n : ℕ) (l : Labelling) → public_among ks l ≤ n → pass (passed n pass l) ⊑ passed n pass l
    unfolding passed
    passed_closed zero l h = idle l (omega arith)
    passed_closed (suc n) l h = go (dec_le (public_among ks l) (public_among ks (join l (pass l)))) (passed_closed n (join l (pass l)))
      where
        go : Dec (public_among ks l ≤ public_among ks (join l (pass l)))
            → (public_among ks (join l (pass l)) ≤ n → pass (passed n pass (join l (pass l))) ⊑ passed n pass (join l (pass l)))
            → pass (passed n pass (join l (pass l))) ⊑ passed n pass (join l (pass l))
        go (yes k) r = closed_stays pass (suc n) l (idle l k)
        go (no k) r = r (omega arith)

    -- as many passes as marks are public give the settled labelling
    pub passed_settles : (n : ℕ) (l : Labelling) → public_among ks l ≤ n → Settled pass l (passed n pass l)
    passed_settles n l h =
        record { above = passed_above pass n l; closed = passed_closed n l h; least = λ m p q. passed_below n l m p q }
