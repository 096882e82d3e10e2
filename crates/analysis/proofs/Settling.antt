-- The passes of a loop in code, from a warm start: each stays between where it started and what the loop settles at, and leaves fewer public
-- marks, until one adds no secret.
use Prim.Native.Nat.{ℕ, ◌≤◌, ◌<◌}
use mathlib.Core.Bool.{Bool, true, false, true≢false, ◌||◌}
use mathlib.Core.List.Memᴰ
use mathlib.Core.List.{List, Memᴰ}
use mathlib.Core.Path.{◌≡◌, refl, sym, ap, subst, ◌∙◌}
use native.Mathlib.Decide.{dec_le}
use native.Mathlib.Omega.{arith}
use lib.ListN.{length}
use Rattle.awhile.specs.Language.{BExp, Com, while, note_of}
use Rattle.awhile.specs.declared.Labelling.{Labelling}
use Rattle.labels.specs.Labellings.{Mark, variable_mark, array_mark, label_of, label_of_b, join, same, ◌⊑◌}
use Rattle.labels.specs.Analysis.{analyse}
use Rattle.labels.specs.Rules.{Settled, LabelsWithin, public_among, marks_below, declared_marks, loop_pass}
use Rattle.analysis.specs.declared.noting.Note.{Note}
use Rattle.analysis.specs.Warm.{Outside, kept_in, InOrder}
use Rattle.analysis.specs.Conditions.{Analysed, SettledLoop}
use Rattle.labels.proofs.Booleans.{or_mono}
use Rattle.labels.proofs.Masks.{bit_above}
use Rattle.labels.proofs.Order.{⊑_refl, ⊑_trans, ⊑-antisym, join_left, join_right, join_least, same_iff, label_of_b_mono}
use Rattle.labels.proofs.Passes.{public_same, between_pass, between_settled}
use Rattle.labels.proofs.Analysis.{mark_below, loop_pass_mono, loop_settles}
use Rattle.analysis.proofs.Warm.{noted_in_order, warm_settles}

-- ---- marks still public
-- a mark that is secret in a labelling within these widths is one of theirs
secret_declared : (v a : ℕ) (l : Labelling) → LabelsWithin v a l → (k : Mark) → label_of l k ≡ true → Memᴰ k (declared_marks v a)
unfolding label_of declared_marks
secret_declared v a l h (variable_mark x) e = go (dec_le v x)
  where
    go : Dec (v ≤ x) → Memᴰ (variable_mark x) (declared_marks v a)
    go (yes q) = absurd (true≢false (sym e ∙ bit_above v l.variables x h.variable_mask q))
    go (no q) = Memᴰ.append_left (marks_below array_mark a) (mark_below variable_mark v x (omega arith))
secret_declared v a l h (array_mark y) e = go (dec_le a y)
  where
    go : Dec (a ≤ y) → Memᴰ (array_mark y) (declared_marks v a)
    go (yes q) = absurd (true≢false (sym e ∙ bit_above a l.arrays y h.array_mask q))
    go (no q) = Memᴰ.append_right (marks_below variable_mark v) (mark_below array_mark a y (omega arith))

-- a join that adds a secret leaves fewer marks public
pub fewer_public : (v a : ℕ) (l m : Labelling) → LabelsWithin v a (join l m) → same (join l m) l ≡ false
    → public_among (declared_marks v a) (join l m) < public_among (declared_marks v a) l
fewer_public v a l m h e = go (dec_le (public_among (declared_marks v a) l) (public_among (declared_marks v a) (join l m)))
  where
    go : Dec (public_among (declared_marks v a) l ≤ public_among (declared_marks v a) (join l m)) → public_among (declared_marks v a) (join l m) < public_among (declared_marks v a) l
    go (yes q) =
        let back : join l m ⊑ l = record { at = λ j s. public_same (join_left l m) (secret_declared v a (join l m) h j s) q s } in
        absurd (true≢false (sym ((same_iff (join l m) l).1 (⊑-antisym back (join_left l m))) ∙ e))
    go (no q) = omega arith

-- ---- the loop's invariant
-- Between passes: the masks are between those at the start and what the loop settles at, the kept masks of the body are in order for the
-- next pass, and notes outside of the body are as they were.
pub record Passing (b : BExp) (c : Com ℕ) (x : Bool) (start : Labelling) (ns : List Note) (m : Labelling) (ns' : List Note) : Type 0 where
  pub above : start ⊑ m
  pub below : m ⊑ analyse (while (note_of c) b c) x start
  pub in_order : InOrder ns' c (label_of_b m b || x) m
  pub outside : Outside c ns ns'
  pub within : LabelsWithin 64 16 m
  pub long : length ns' ≡ length ns

module _ (b : BExp) (c : Com ℕ) (x : Bool) where
  module _ (l : Labelling) (ns : List Note) (kept : kept_in ns c ⊑ analyse (while (note_of c) b c) x l) where
    warm_below : join l (kept_in ns c) ⊑ analyse (while (note_of c) b c) x l
    warm_below = join_least l (kept_in ns c) (loop_settles (note_of c) b c x l).above kept

    -- from a warm start the loop settles where it does from the entering labelling
    pub warm_answer : {start : Labelling} → start ≡ join l (kept_in ns c) → analyse (while (note_of c) b c) x start ≡ analyse (while (note_of c) b c) x l
    warm_answer e = rw e (warm_settles (note_of c) b c x l (join l (kept_in ns c)) (join_left l (kept_in ns c)) warm_below)

    -- the invariant holds at the start
    pub passing_starts : {start : Labelling} → start ≡ join l (kept_in ns c) → LabelsWithin 64 16 start
        → InOrder ns c (label_of_b (join l (kept_in ns c)) b || x) (join l (kept_in ns c)) → Passing b c x start ns start ns
    passing_starts {start} e w h =
        record {
          above = ⊑_refl start;
          below = (loop_settles (note_of c) b c x start).above;
          in_order = rw e h;
          outside = record { same = λ p k. refl };
          within = w;
          long = refl;
        }

  module _ {start m r k : Labelling} {y : Bool} {ns ns' os : List Note} (h : Passing b c x start ns m ns')
      (context : y ≡ (label_of_b m b || x)) (pass : Analysed c y m ns' os r) (joined : k ≡ join m r) where
    passed_once : r ≡ loop_pass b c x m
    passed_once = pass.answers ∙ ap (λ z. analyse c z m) context

    -- and again after a pass
    pub passing_next : LabelsWithin 64 16 k → length os ≡ length ns' → Passing b c x start ns k os
    passing_next w e =
        let settled : Settled (loop_pass b c x) start (analyse (while (note_of c) b c) x start) = loop_settles (note_of c) b c x start in
        let up : m ⊑ join m r = join_left m r in
        rw joined
        (record {
          above = ⊑_trans h.above up;
          below = rw passed_once (between_pass (loop_pass b c x) (loop_pass_mono (note_of c) b c x) settled h.above h.below);
          in_order = noted_in_order os c pass.notes (rw context (or_mono (label_of_b_mono up b) (λ e. e))) up;
          outside = record { same = λ p s. pass.outside.same p s ∙ h.outside.same p s };
          within = rw joined at w;
          long = e ∙ h.long;
        })

    -- a pass that adds a secret leaves fewer marks public
    pub passing_falls : LabelsWithin 64 16 k → same k m ≡ false → public_among (declared_marks 64 16) k < public_among (declared_marks 64 16) m
    passing_falls w e = rw joined (fewer_public 64 16 m r (rw joined at w) (rw joined at e))

    -- where a pass adds no secret, its masks are the settled ones, and the body is noted with them
    pub passing_ends : {l : Labelling} → analyse (while (note_of c) b c) x start ≡ analyse (while (note_of c) b c) x l → same k m ≡ true → SettledLoop b c x l ns os m
    passing_ends {l} answer e =
        let settled : Settled (loop_pass b c x) start (analyse (while (note_of c) b c) x start) = loop_settles (note_of c) b c x start in
        let idle : join m r ≡ m = sym joined ∙ (same_iff k m).0 e in
        let closed : loop_pass b c x m ⊑ m = subst (λ z. z ⊑ m) passed_once (subst (λ z. r ⊑ z) idle (join_right m r)) in
        record {
          answers = between_settled (loop_pass b c x) (loop_pass_mono (note_of c) b c x) settled h.above h.below closed ∙ answer;
          notes = rw context at pass.notes;
          outside = record { same = λ p s. pass.outside.same p s ∙ h.outside.same p s };
        }
