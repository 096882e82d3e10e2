-- The analysis is monotone, sets the labels of its targets only, and answers a loop with its settled labelling.
use Prim.Native.Nat.{ℕ, zero, suc, ◌<◌}
use mathlib.Core.Bool.{Bool, le as at_most, ◌||◌}
use mathlib.Core.List.Memᴰ
use mathlib.Core.List.{◌∷◌, Memᴰ}
use mathlib.Core.Path.{◌≡◌, refl, sym, ap, ◌∙◌}
use native.Mathlib.Nat.{le_refl}
use native.Mathlib.Decide.{ℕ_discrete}
use native.Mathlib.Omega.{arith}
use lib.ListN.{length}
use Rattle.awhile.specs.Language.{AExp, BExp, Com, skip, assign, sequence, if, while, read, write}
use Rattle.awhile.specs.declared.Labelling.{Labelling}
use Rattle.labels.specs.Labellings.{Mark, variable_mark, array_mark, label_of, ◌⊑◌, label_of_a, label_of_b}
use Rattle.labels.specs.Analysis.{read_label, write_label, targets, analyse}
use Rattle.labels.specs.Rules.{Settled, SettledWithin, public_among, marks_below, declared_marks, loop_pass, SetsDeclared}
use Rattle.labels.proofs.Booleans.{or_mono}
use Rattle.labels.proofs.Order.{join_absorbs, join_mono, label_join_same, set_mono, label_set_other, label_of_a_mono, label_of_b_mono}
use Rattle.labels.proofs.Passes.{public_length, settle_passed, passed_mono, passed_frame, passed_settles, settled_unique}

-- the marks of the numbers below a count are in their list
pub mark_below : (mark : ℕ → Mark) (n i : ℕ) → i < n → Memᴰ (mark i) (marks_below mark n)
unfolding marks_below
mark_below mark zero i h = absurd (omega arith)
mark_below mark (suc n) i h = go (ℕ_discrete i n) (mark_below mark n i)
  where
    go : Dec (i ≡ n) → (i < n → Memᴰ (mark i) (marks_below mark n)) → Memᴰ (mark i) (mark n ∷ marks_below mark n)
    go (yes e) r = Memᴰ.head (ap mark e)
    go (no e) r = Memᴰ.tail (r (omega arith))

module _ {l m : Labelling} {x y : Bool} (h : at_most x y) (p : l ⊑ m) where
  -- a larger labelling and context give what is read a larger label
  pub read_label_mono : (a : ℕ) (i : AExp) → at_most (read_label l x a i) (read_label m y a i)
  unfolding read_label
  read_label_mono a i = or_mono (label_of_a_mono p i) (or_mono (p.at (array_mark a)) h)

  -- a larger labelling and context give the array written a larger label
  pub write_label_mono : (a : ℕ) (i e : AExp) → at_most (write_label l x a i e) (write_label m y a i e)
  unfolding write_label
  write_label_mono a i e = or_mono (p.at (array_mark a)) (or_mono (label_of_a_mono p i) (or_mono (label_of_a_mono p e) h))

module _ {Note : Type 0} where
  -- a larger labelling and context give a larger labelling after the command
  pub analyse_mono : (c : Com Note) {x y : Bool} {l m : Labelling} → at_most x y → l ⊑ m → analyse c x l ⊑ analyse c y m
  unfolding analyse
  analyse_mono (skip n) h p = p
  analyse_mono (assign n v e) h p = set_mono (variable_mark v) p (or_mono (label_of_a_mono p e) h)
  analyse_mono (sequence n c d) h p = analyse_mono d h (analyse_mono c h p)
  analyse_mono (if n b c d) h p =
      let k = or_mono (label_of_b_mono p b) h in
      join_mono (analyse_mono c k p) (analyse_mono d k p)
  analyse_mono (while n b c) {x} {y} {l} {m} h p =
      rw (settle_passed (loop_pass b c x) (length (targets c)) l, settle_passed (loop_pass b c y) (length (targets c)) m)
      (passed_mono (loop_pass b c x) (loop_pass b c y) (λ i j q. analyse_mono c (or_mono (label_of_b_mono q b) h) q) (length (targets c)) l m p)
  analyse_mono (read n v a i) h p = set_mono (variable_mark v) p (read_label_mono h p a i)
  analyse_mono (write n a i e) h p = set_mono (array_mark a) p (write_label_mono h p a i e)

  -- a mark that the command does not set keeps its label
  pub analyse_frame : (c : Com Note) (x : Bool) (l : Labelling) (k : Mark) → (Memᴰ k (targets c) → ⊥) → label_of (analyse c x l) k ≡ label_of l k
  unfolding analyse targets
  analyse_frame (skip n) x l k h = refl
  analyse_frame (assign n v e) x l k h = label_set_other l (variable_mark v) k (label_of_a l e || x) (λ e. h (Memᴰ.head (sym e)))
  analyse_frame (sequence n c d) x l k h =
      analyse_frame d x (analyse c x l) k (λ i. h (Memᴰ.append_right (targets c) i)) ∙ analyse_frame c x l k (λ i. h (Memᴰ.append_left (targets d) i))
  analyse_frame (if n b c d) x l k h =
      label_join_same (analyse c (label_of_b l b || x) l) (analyse d (label_of_b l b || x) l) k (label_of l k)
      (analyse_frame c (label_of_b l b || x) l k (λ i. h (Memᴰ.append_left (targets d) i)))
      (analyse_frame d (label_of_b l b || x) l k (λ i. h (Memᴰ.append_right (targets c) i)))
  analyse_frame (while n b c) x l k h =
      rw (settle_passed (loop_pass b c x) (length (targets c)) l)
      (passed_frame (loop_pass b c x) k (λ m. analyse_frame c (label_of_b m b || x) m k h) (length (targets c)) l)
  analyse_frame (read n v a i) x l k h = label_set_other l (variable_mark v) k (read_label l x a i) (λ e. h (Memᴰ.head (sym e)))
  analyse_frame (write n a i e) x l k h = label_set_other l (array_mark a) k (write_label l x a i e) (λ e. h (Memᴰ.head (sym e)))

  -- what a command sets is declared
  targets_declared : (c : Com Note) (v a : ℕ) → SetsDeclared v a c → (k : Mark) → Memᴰ k (targets c) → Memᴰ k (declared_marks v a)
  unfolding declared_marks
  targets_declared c v a d (variable_mark x) i = Memᴰ.append_left (marks_below array_mark a) (mark_below variable_mark v x (d.variable x i))
  targets_declared c v a d (array_mark y) i = Memᴰ.append_right (marks_below variable_mark v) (mark_below array_mark a y (d.array y i))

  module _ (n : Note) (b : BExp) (c : Com Note) (x : Bool) where
    -- a pass of a loop is monotone
    pub loop_pass_mono : (l m : Labelling) → l ⊑ m → loop_pass b c x l ⊑ loop_pass b c x m
    loop_pass_mono l m p = analyse_mono c (or_mono (label_of_b_mono p b) (λ e. e)) p

    -- the analysis answers a loop with its settled labelling
    pub loop_settles : (l : Labelling) → Settled (loop_pass b c x) l (analyse (while n b c) x l)
    unfolding analyse
    loop_settles l =
        rw (settle_passed (loop_pass b c x) (length (targets c)) l)
        (passed_settles (loop_pass b c x) loop_pass_mono (targets c) (λ m k i. analyse_frame c (label_of_b m b || x) m k i)
        (length (targets c)) l (public_length (targets c) l))

    -- a loop that sets declared marks settles within one pass more than there are public ones among them
    pub loop_settles_within : (v a : ℕ) → SetsDeclared v a c → (l : Labelling) → SettledWithin (declared_marks v a) (loop_pass b c x) l (analyse (while n b c) x l)
    loop_settles_within v a d l =
        let s = loop_settles l in
        let t = passed_settles (loop_pass b c x) loop_pass_mono (declared_marks v a)
        (λ m k i. analyse_frame c (label_of_b m b || x) m k (λ j. i (targets_declared c v a d k j)))
        (public_among (declared_marks v a) l) l (le_refl (public_among (declared_marks v a) l)) in
        record { passes = settled_unique (loop_pass b c x) s t; idle = join_absorbs s.closed }
