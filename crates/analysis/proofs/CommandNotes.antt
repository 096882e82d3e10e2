-- The notes that an analysis leaves, built from those of a command's parts.
use Prim.Native.Nat.{ℕ, ◌+◌, ◌≤◌, ◌<◌}
use mathlib.Core.Bool.{Bool, true, false, cond, ◌||◌}
use mathlib.Core.List.{List}
use mathlib.Core.Path.{◌≡◌, refl, ap, ap₂, subst, ◌∙◌}
use native.Mathlib.Omega.{arith}
use lib.Dec.{eqb}
use lib.ListN.{length, set, length-set}
use lib.Seq.{get_or-set_same, get_or-set_other}
use borrow.Author.Tests.{eq-eqb, eqb-false}
use Rattle.awhile.specs.Language.{BExp, Com, sequence, if, while, note_of}
use Rattle.awhile.specs.declared.Labelling.{Labelling}
use Rattle.labels.specs.Labellings.{label_of_b, join, ◌⊑◌}
use Rattle.labels.specs.Analysis.{analyse}
use Rattle.labels.specs.Annotation.{Entry, entered, annotate}
use Rattle.analysis.specs.declared.noting.Note.{Note}
use Rattle.analysis.specs.Notes.{noted, blank, note_in, Noted}
use Rattle.awhile.specs.Standing.{standing, Distinct}
use Rattle.analysis.specs.Warm.{kept_in, InOrder}
use Rattle.analysis.specs.Conditions.{Analysed, SettledLoop}
use Rattle.analysis.proofs.Warm.{SameOn, outside_same, body_in_order, in_order_same, noted_same, noted_note, remembered_noted}

-- one command's note was written, and no other, in a slice as long
pub record NotedAt (n : ℕ) (x : Bool) (l : Labelling) (ns ns' : List Note) : Type 0 where
  pub here : note_in ns' n ≡ entered n x l
  pub others : (p : ℕ) → eqb p n ≡ false → note_in ns' p ≡ note_in ns p
  pub long : length ns' ≡ length ns

module _ (n : ℕ) (x : Bool) (l : Labelling) (ns : List Note) (inside : n < length ns) where
  -- what the code stores is the command's note
  pub note_stored : {ns' : List Note} → ns' ≡ set ns n (noted x l) → NotedAt n x l ns ns'
  unfolding note_in
  note_stored e =
      rw e
      (record {
        here = rw (get_or-set_same ns n (noted x l) blank inside) refl;
        others = λ p h. rw (get_or-set_other ns n p (noted x l) blank (eqb-false p n h)) refl;
        long = length-set ns n (noted x l);
      })

-- ---- what stands apart
-- a number that stands in a part is not the whole's
apart : (b : Bool) (k : ℕ) → cond b 1 0 + k ≤ 1 → 1 ≤ k → b ≡ false
apart true k h g = absurd (omega arith)
apart false k h g = refl

-- the commands of a part have numbers of their own
pub distinct_part : {c d : Com ℕ} → ((p : ℕ) → standing p d ≤ standing p c) → Distinct c → Distinct d
distinct_part h o = record { once = λ p. omega (arith, h p, o.once p) }

module _ {n : ℕ} {x : Bool} {l : Labelling} {s0 s1 : List Note} (w : NotedAt n x l s0 s1) where
  note_apart : {c : Com ℕ} → ((p : ℕ) → cond (eqb p n) 1 0 + standing p c ≤ 1) → SameOn c s0 s1
  note_apart {c} once = record { same = λ p h. w.others p (apart (eqb p n) (standing p c) (once p) h) }

  note_outside : (p : ℕ) → cond (eqb p n) 1 0 ≤ 0 → note_in s1 p ≡ note_in s0 p
  note_outside p h = w.others p (go (eqb p n) h)
    where
      go : (b : Bool) → cond b 1 0 ≤ 0 → b ≡ false
      go true h = absurd (omega arith)
      go false h = refl

-- the whole's number does not stand in a part
own_apart : (n k : ℕ) → cond (eqb n n) 1 0 + k ≤ 1 → k ≡ 0
own_apart n k h = let e : eqb n n ≡ true = eq-eqb n n refl in omega (arith, rw e at h)

-- a command that stands alone leaves its own note
pub alone_analysed : {n : ℕ} {x : Bool} {l : Labelling} {s0 s1 : List Note} → NotedAt n x l s0 s1
    → (c : Com ℕ) → ((p : ℕ) → standing p c ≡ cond (eqb p n) 1 0) → Noted s1 (annotate c x l) → {r : Labelling} → r ≡ analyse c x l → Analysed c x l s0 s1 r
alone_analysed w c alone notes q =
    record { answers = q; notes = notes; outside = record { same = λ p h. note_outside w p (omega (arith, alone p)) } }

-- ---- a command that is noted before its two parts are analysed, one after the other
module _ {n : ℕ} {x : Bool} {l : Labelling} {s0 s1 : List Note} (w : NotedAt n x l s0 s1) (c d : Com ℕ)
    (once : (p : ℕ) → cond (eqb p n) 1 0 + standing p c + standing p d ≤ 1) where
  -- the notes are in order for the first part
  pub first_in_order : (y : Bool) (m : Labelling) → InOrder s0 c y m → InOrder s1 c y m
  first_in_order y m h = in_order_same c y m (note_apart w (λ p. omega (arith, once p))) h

  module _ {y : Bool} {m r : Labelling} {s2 : List Note} (f : Analysed c y m s1 s2 r) where
    -- and for the second, once the first is analysed
    pub second_in_order : (z : Bool) (k : Labelling) → InOrder s0 d z k → InOrder s2 d z k
    second_in_order z k h =
        in_order_same d z k (outside_same {c = d} (λ p. omega (arith, once p)) f.outside)
        (in_order_same d z k (note_apart w (λ p. omega (arith, once p))) h)

    module _ {z : Bool} {k s : Labelling} {s3 : List Note} (g : Analysed d z k s2 s3 s) where
      -- the whole's note stays, and so do those of the first part
      own_note : note_in s3 n ≡ entered n x l
      own_note =
          g.outside.same n (own_apart n (standing n d) (omega (arith, once n))) ∙ f.outside.same n (own_apart n (standing n c) (omega (arith, once n))) ∙ w.here

      first_notes : Noted s3 (annotate c y m)
      first_notes = noted_same c y m (outside_same {c = c} (λ p. omega (arith, once p)) g.outside) f.notes

      over_pair : (whole : Com ℕ) → ((p : ℕ) → standing p whole ≡ cond (eqb p n) 1 0 + standing p c + standing p d) → Noted s3 (annotate whole x l)
          → {t : Labelling} → t ≡ analyse whole x l → Analysed whole x l s0 s3 t
      over_pair whole stands notes q =
          record {
            answers = q;
            notes = notes;
            outside = record { same = λ p h. g.outside.same p (omega (arith, stands p)) ∙ f.outside.same p (omega (arith, stands p)) ∙ note_outside w p (omega (arith, stands p)) };
          }

-- a sequence's parts leave what the sequence does
pub sequence_analysed : {n : ℕ} {x : Bool} {l : Labelling} {s0 s1 s2 s3 : List Note} → NotedAt n x l s0 s1 → (c d : Com ℕ)
    → ((p : ℕ) → cond (eqb p n) 1 0 + standing p c + standing p d ≤ 1) → {r s : Labelling} → Analysed c x l s1 s2 r → Analysed d x r s2 s3 s
    → Analysed (sequence n c d) x l s0 s3 s
unfolding analyse annotate standing
sequence_analysed {n} {x} {l} {s3 = s3} w c d once f g =
    over_pair w c d once f g (sequence n c d) (λ p. refl)
    (own_note w c d once f g, first_notes w c d once f g, subst (λ m. Noted s3 (annotate d x m)) f.answers g.notes)
    (g.answers ∙ ap (analyse d x) f.answers)

-- an if's sides leave what the if does
pub if_analysed : {n : ℕ} {x : Bool} {l : Labelling} {s0 s1 s2 s3 : List Note} → NotedAt n x l s0 s1 → (b : BExp) (c d : Com ℕ)
    → ((p : ℕ) → cond (eqb p n) 1 0 + standing p c + standing p d ≤ 1) → {y : Bool} {r s t : Labelling} → y ≡ (label_of_b l b || x)
    → Analysed c y l s1 s2 r → Analysed d y l s2 s3 s → t ≡ join r s → Analysed (if n b c d) x l s0 s3 t
unfolding analyse annotate standing
if_analysed {n} {x} {l} {s3 = s3} w b c d once e f g j =
    over_pair w c d once f g (if n b c d) (λ p. refl)
    (own_note w c d once f g, subst (λ z. Noted s3 (annotate c z l)) e (first_notes w c d once f g), subst (λ z. Noted s3 (annotate d z l)) e g.notes)
    (j ∙ ap₂ join (f.answers ∙ ap (λ z. analyse c z l) e) (g.answers ∙ ap (λ z. analyse d z l) e))

-- ---- loops
module _ (n : ℕ) (b : BExp) (c : Com ℕ) (once : (p : ℕ) → cond (eqb p n) 1 0 + standing p c ≤ 1) {x : Bool} {l : Labelling} {s0 : List Note} where
  module _ {s1 : List Note} (w : NotedAt n x l s0 s1) where
    -- the notes are in order for settling the loop
    pub loop_ready : InOrder s0 (while n b c) x l
        → (kept_in s1 c ⊑ analyse (while (note_of c) b c) x l) × InOrder s1 c (label_of_b (join l (kept_in s1 c)) b || x) (join l (kept_in s1 c))
    unfolding analyse
    loop_ready h =
        let s = note_apart w {c = c} once in
        body_in_order (note_of c) b c x l s (λ y m. in_order_same c y m s) h.0 h.1

    -- a loop's body is entered with the settled labelling
    pub while_analysed : {s2 : List Note} {r : Labelling} → SettledLoop b c x l s1 s2 r → Analysed (while n b c) x l s0 s2 r
    unfolding analyse annotate standing
    while_analysed {s2} {r} f =
        let e : r ≡ analyse (while n b c) x l = f.answers in
        record {
          answers = e;
          notes = (
            f.outside.same n (own_apart n (standing n c) (once n)) ∙ w.here,
            subst (λ m. Noted s2 (annotate c (label_of_b m b || x) m)) e f.notes,
          );
          outside = record { same = λ p h. f.outside.same p (omega arith) ∙ note_outside w p (omega arith) };
        }

  -- a loop that is entered as it last was is analysed already: its body's note is the answer
  pub while_remembered : InOrder s0 (while n b c) x l → note_in s0 n ≡ entered n x l → {r : Labelling} → r ≡ (note_in s0 (note_of c)).labelling
      → Analysed (while n b c) x l s0 s0 r
  unfolding annotate note_of
  while_remembered h e q =
      let s : Labelling = analyse (while n b c) x l in
      let notes : Noted s0 (annotate (while n b c) x l) = remembered_noted s0 (while n b c) x l h.2 e in
      record {
        answers = q ∙ ap (λ (k : Entry). k.labelling) (noted_note s0 c (label_of_b s b || x) s notes.1);
        notes = notes;
        outside = record { same = λ p k. refl };
      }
