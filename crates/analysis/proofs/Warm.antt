-- Warm starts give the results of the analysis: notes stay in order, and what one analysis leaves is in order for every larger one.
use Prim.Native.Nat.{ℕ, ◌+◌, ◌≤◌}
use mathlib.Core.Bool.{Bool, false, le as at_most, ◌||◌}
use mathlib.Core.List.{List}
use mathlib.Core.Path.{◌≡◌, refl, sym, ap, subst, ◌∙◌}
use native.Mathlib.Omega.{arith}
use borrow.Author.Tests.{eq-eqb}
use Rattle.awhile.specs.Language.{BExp, Com, skip, assign, sequence, if, while, read, write, note_of}
use Rattle.awhile.specs.declared.Labelling.{Labelling}
use Rattle.labels.specs.Labellings.{label_of_b, join, ◌⊑◌}
use Rattle.labels.specs.Analysis.{analyse}
use Rattle.labels.specs.Annotation.{Entry, entered, annotate}
use Rattle.analysis.specs.declared.noting.Note.{Note}
use Rattle.analysis.specs.Notes.{note_in, Noted}
use Rattle.awhile.specs.Standing.{standing}
use Rattle.analysis.specs.Warm.{Outside, kept_in, Remembered, InOrder}
use Rattle.labels.proofs.Booleans.{or_mono}
use Rattle.labels.proofs.Order.{⊑_trans, ⊑-antisym, join_right, label_of_b_mono}
use Rattle.labels.proofs.Analysis.{analyse_mono, loop_settles}
use Rattle.analysis.proofs.AllPublic.{nothing, public_least, nothing_in_b, nothing_secret}

-- a command stands in itself
pub stands : (c : Com ℕ) → 1 ≤ standing (note_of c) c
unfolding standing note_of
stands (skip n) = rw (eq-eqb n n refl) (omega arith)
stands (assign n v e) = rw (eq-eqb n n refl) (omega arith)
stands (sequence n c d) = rw (eq-eqb n n refl) (omega arith)
stands (if n b c d) = rw (eq-eqb n n refl) (omega arith)
stands (while n b c) = rw (eq-eqb n n refl) (omega arith)
stands (read n v a i) = rw (eq-eqb n n refl) (omega arith)
stands (write n a i e) = rw (eq-eqb n n refl) (omega arith)

-- the notes of a command's commands are the same before and after
pub record SameOn (c : Com ℕ) (ns ns' : List Note) : Type 0 where
  pub same : (p : ℕ) → 1 ≤ standing p c → note_in ns' p ≡ note_in ns p

module _ {ns ns' : List Note} where
  -- what is the same for a command is the same for its parts
  same_part : {c d : Com ℕ} → ((p : ℕ) → standing p d ≤ standing p c) → SameOn c ns ns' → SameOn d ns ns'
  same_part h s = record { same = λ p k. s.same p (omega (arith, h p)) }

  -- what changed outside of a command left the notes of its commands
  pub outside_same : {c d : Com ℕ} → ((p : ℕ) → standing p c + standing p d ≤ 1) → Outside d ns ns' → SameOn c ns ns'
  outside_same h o = record { same = λ p k. o.same p (omega (arith, h p)) }

  kept_same : (c : Com ℕ) → SameOn c ns ns' → kept_in ns' c ≡ kept_in ns c
  unfolding kept_in
  kept_same c s = ap (λ (e : Entry). e.labelling) (s.same (note_of c) (stands c))

  -- notes stay right while they stay
  pub noted_same : (c : Com ℕ) (x : Bool) (l : Labelling) → SameOn c ns ns' → Noted ns (annotate c x l) → Noted ns' (annotate c x l)
  unfolding standing annotate note_of
  noted_same (skip n) x l s h = s.same n (stands (skip n)) ∙ h
  noted_same (assign n v e) x l s h = s.same n (stands (assign n v e)) ∙ h
  noted_same (sequence n c d) x l s h = (
    s.same n (stands (sequence n c d)) ∙ h.0,
    noted_same c x l (same_part {c = sequence n c d} (λ p. omega arith) s) h.1,
    noted_same d x (analyse c x l) (same_part {c = sequence n c d} (λ p. omega arith) s) h.2,
  )
  noted_same (if n b c d) x l s h = (
    s.same n (stands (if n b c d)) ∙ h.0,
    noted_same c (label_of_b l b || x) l (same_part {c = if n b c d} (λ p. omega arith) s) h.1,
    noted_same d (label_of_b l b || x) l (same_part {c = if n b c d} (λ p. omega arith) s) h.2,
  )
  noted_same (while n b c) x l s h =
      let m : Labelling = analyse (while n b c) x l in
      (s.same n (stands (while n b c)) ∙ h.0, noted_same c (label_of_b m b || x) m (same_part {c = while n b c} (λ p. omega arith) s) h.1)
  noted_same (read n v a i) x l s h = s.same n (stands (read n v a i)) ∙ h
  noted_same (write n a i e) x l s h = s.same n (stands (write n a i e)) ∙ h

  -- what was last analysed stays remembered while the notes of the command stay
  remembered_same : (c : Com ℕ) → SameOn c ns ns' → Remembered ns c → Remembered ns' c
  unfolding Remembered
  remembered_same c s h =
      subst (λ (e : Entry). Noted ns' (annotate c e.context e.labelling)) (sym (s.same (note_of c) (stands c)))
      (noted_same c (note_in ns (note_of c)).context (note_in ns (note_of c)).labelling s h)

  -- what a loop keeps, and what is inside its body
  pub body_in_order : (n : ℕ) (b : BExp) (c : Com ℕ) (x : Bool) (l : Labelling) → SameOn c ns ns'
      → ((y : Bool) (m : Labelling) → InOrder ns c y m → InOrder ns' c y m)
      → kept_in ns c ⊑ analyse (while n b c) x l → InOrder ns c (label_of_b (join l (kept_in ns c)) b || x) (join l (kept_in ns c))
      → (kept_in ns' c ⊑ analyse (while n b c) x l) × InOrder ns' c (label_of_b (join l (kept_in ns' c)) b || x) (join l (kept_in ns' c))
  body_in_order n b c x l s body h k =
      subst (λ (m : Labelling). (m ⊑ analyse (while n b c) x l) × InOrder ns' c (label_of_b (join l m) b || x) (join l m)) (sym (kept_same c s))
      (h, body (label_of_b (join l (kept_in ns c)) b || x) (join l (kept_in ns c)) k)

  -- masks that are in order stay so while the notes of the command stay
  pub in_order_same : (c : Com ℕ) (x : Bool) (l : Labelling) → SameOn c ns ns' → InOrder ns c x l → InOrder ns' c x l
  unfolding standing
  in_order_same (skip n) x l s h = tt
  in_order_same (assign n v e) x l s h = tt
  in_order_same (sequence n c d) x l s h = (
    in_order_same c x l (same_part {c = sequence n c d} (λ p. omega arith) s) h.0,
    in_order_same d x (analyse c x l) (same_part {c = sequence n c d} (λ p. omega arith) s) h.1,
  )
  in_order_same (if n b c d) x l s h = (
    in_order_same c (label_of_b l b || x) l (same_part {c = if n b c d} (λ p. omega arith) s) h.0,
    in_order_same d (label_of_b l b || x) l (same_part {c = if n b c d} (λ p. omega arith) s) h.1,
  )
  in_order_same (while n b c) x l s h =
      let t : SameOn c ns ns' = same_part {c = while n b c} (λ p. omega arith) s in
      let k = body_in_order n b c x l t (λ y m. in_order_same c y m t) h.0 h.1 in
      (k.0, k.1, remembered_same (while n b c) s h.2)
  in_order_same (read n v a i) x l s h = tt
  in_order_same (write n a i e) x l s h = tt

module _ (ns : List Note) where
  -- the note of a noted command
  pub noted_note : (c : Com ℕ) (x : Bool) (l : Labelling) → Noted ns (annotate c x l) → note_in ns (note_of c) ≡ entered (note_of c) x l
  unfolding annotate note_of
  noted_note (skip n) x l h = h
  noted_note (assign n v e) x l h = h
  noted_note (sequence n c d) x l h = h.0
  noted_note (if n b c d) x l h = h.0
  noted_note (while n b c) x l h = h.0
  noted_note (read n v a i) x l h = h
  noted_note (write n a i e) x l h = h

  kept_noted : (c : Com ℕ) (x : Bool) (l : Labelling) → Noted ns (annotate c x l) → kept_in ns c ≡ l
  unfolding kept_in
  kept_noted c x l h = ap (λ (e : Entry). e.labelling) (noted_note c x l h)

  -- what an analysis left is remembered
  noted_remembered : (c : Com ℕ) (x : Bool) (l : Labelling) → Noted ns (annotate c x l) → Remembered ns c
  unfolding Remembered
  noted_remembered c x l h = rw (noted_note c x l h) h

  -- a command that is remembered as entered so is noted so
  pub remembered_noted : (c : Com ℕ) (x : Bool) (l : Labelling) → Remembered ns c → note_in ns (note_of c) ≡ entered (note_of c) x l → Noted ns (annotate c x l)
  unfolding Remembered
  remembered_noted c x l h e = rw e at h

  -- what one analysis leaves is in order for every larger labelling and context
  pub noted_in_order : (c : Com ℕ) {x y : Bool} {l m : Labelling} → Noted ns (annotate c x l) → at_most x y → l ⊑ m → InOrder ns c y m
  unfolding annotate
  noted_in_order (skip n) h k p = tt
  noted_in_order (assign n v e) h k p = tt
  noted_in_order (sequence n c d) h k p = (noted_in_order c h.1 k p, noted_in_order d h.2 k (analyse_mono c k p))
  noted_in_order (if n b c d) h k p =
      let q = or_mono (label_of_b_mono p b) k in
      (noted_in_order c h.1 q p, noted_in_order d h.2 q p)
  noted_in_order (while n b c) {x} {y} {l} {m} h k p =
      let s : Labelling = analyse (while n b c) x l in
      let e : kept_in ns c ≡ s = kept_noted c (label_of_b s b || x) s h.1 in
      let q : s ⊑ join m s = join_right m s in
      let body : (kept_in ns c ⊑ analyse (while n b c) y m) × InOrder ns c (label_of_b (join m (kept_in ns c)) b || y) (join m (kept_in ns c)) =
      subst (λ (k : Labelling). (k ⊑ analyse (while n b c) y m) × InOrder ns c (label_of_b (join m k) b || y) (join m k)) (sym e)
      (analyse_mono (while n b c) k p, noted_in_order c h.1 (or_mono (label_of_b_mono q b) k) q) in
      (body.0, body.1, noted_remembered (while n b c) x l h)
  noted_in_order (read n v a i) h k p = tt
  noted_in_order (write n a i e) h k p = tt

  -- notes that are all public and in a public context are those of an analysis that starts so
  module _ (h : (p : ℕ) → note_in ns p ≡ entered p false nothing) where
    fresh_noted : (c : Com ℕ) → Noted ns (annotate c false nothing)
    unfolding annotate
    fresh_noted (skip n) = h n
    fresh_noted (assign n v e) = h n
    fresh_noted (sequence n c d) = (h n, fresh_noted c, rw (nothing_secret c) (fresh_noted d))
    fresh_noted (if n b c d) = (h n, rw (nothing_in_b b) (fresh_noted c), rw (nothing_in_b b) (fresh_noted d))
    fresh_noted (while n b c) = (h n, rw (nothing_secret (while n b c), nothing_in_b b) (fresh_noted c))
    fresh_noted (read n v a i) = h n
    fresh_noted (write n a i e) = h n

    fresh_remembered : (c : Com ℕ) → Remembered ns c
    unfolding Remembered
    fresh_remembered c = rw (h (note_of c)) (fresh_noted c)

    -- and in order for every analysis
    pub fresh_in_order : (c : Com ℕ) (x : Bool) (l : Labelling) → InOrder ns c x l
    unfolding kept_in
    fresh_in_order (skip n) x l = tt
    fresh_in_order (assign n v e) x l = tt
    fresh_in_order (sequence n c d) x l = (fresh_in_order c x l, fresh_in_order d x (analyse c x l))
    fresh_in_order (if n b c d) x l = (fresh_in_order c (label_of_b l b || x) l, fresh_in_order d (label_of_b l b || x) l)
    fresh_in_order (while n b c) x l =
        let m : Labelling = join l (kept_in ns c) in
        (rw (kept_in, h (note_of c)) (public_least (analyse (while n b c) x l)), fresh_in_order c (label_of_b m b || x) m, fresh_remembered (while n b c))
    fresh_in_order (read n v a i) x l = tt
    fresh_in_order (write n a i e) x l = tt

-- a loop settles at the same labelling from wherever between the entering labelling and that it starts
pub warm_settles : (n : ℕ) (b : BExp) (c : Com ℕ) (x : Bool) (l m : Labelling) → l ⊑ m → m ⊑ analyse (while n b c) x l → analyse (while n b c) x m ≡ analyse (while n b c) x l
warm_settles n b c x l m p q =
    let cold = loop_settles n b c x l in
    let warm = loop_settles n b c x m in
    ⊑-antisym (warm.least (analyse (while n b c) x l) q cold.closed) (cold.least (analyse (while n b c) x m) (⊑_trans p warm.above) warm.closed)
