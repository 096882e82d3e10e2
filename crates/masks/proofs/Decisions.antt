-- The decisions that the labels give are made for the program that was analysed, and cover its labels.
use Prim.Native.Nat.{ℕ}
use mathlib.Core.Bool.{Bool, false, ◌||◌}
use mathlib.Core.Bool.{not as negated}
use mathlib.Core.Path.{◌≡◌, refl, sym, ap, ap₂, subst, ◌∙◌}
use Rattle.awhile.specs.Language.{BExp, Com, skip, assign, sequence, if, while, read, write, map_notes}
use Rattle.awhile.specs.WellFormed.{Within}
use Rattle.awhile.specs.declared.Labelling.{Labelling}
use Rattle.labels.specs.Labellings.{label_of_a, label_of_b}
use Rattle.labels.specs.Analysis.{analyse, read_label}
use Rattle.labels.specs.Annotation.{Entry, annotate}
use Rattle.labels.specs.Rules.{program_of}
use Rattle.labels.specs.Sheet.{entry_of}
use Rattle.labels.proofs.Notes.{analyse_notes}
use Rattle.labels.proofs.Rules.{note_annotate, program_annotate}
use Rattle.masks.specs.Decisions.{Decision, decision, decide}
use Rattle.masks.specs.Covering.{Masked, ValueMasked, Covers, covers_skip, covers_assign, covers_sequence, covers_if, covers_while, covers_read, covers_write}
use Rattle.masks.specs.SameRun.{AssignsBelow}

-- the program that decisions are made for
abbrev pub program_for : Com Decision → Com ℕ
program_for d = map_notes (λ (n : Decision). n.node) d

program_decide : (a : Com Entry) → program_for (decide a) ≡ program_of a
unfolding decide map_notes
program_decide (skip e) = refl
program_decide (assign e x a) = refl
program_decide (sequence e c d) = ap₂ (sequence e.node) (program_decide c) (program_decide d)
program_decide (if e b c d) = ap₂ (if e.node b) (program_decide c) (program_decide d)
program_decide (while e b c) = ap (while e.node b) (program_decide c)
program_decide (read e x a i) = refl
program_decide (write e a i v) = refl

pub program_decided : (c : Com ℕ) (x : Bool) (l : Labelling) → program_for (decide (annotate c x l)) ≡ c
program_decided c x l = program_decide (annotate c x l) ∙ program_annotate c x l

-- the analysis of a program is that of the program with its decisions
analyse_decided : (c : Com ℕ) (x : Bool) (l : Labelling) (y : Bool) (m : Labelling) → analyse (decide (annotate c x l)) y m ≡ analyse c y m
analyse_decided c x l y m =
    sym (analyse_notes (λ (n : Decision). n.node) (decide (annotate c x l)) y m) ∙ ap (λ (p : Com ℕ). analyse p y m) (program_decided c x l)

loop_decided : (n : ℕ) (b : BExp) (mask : Bool) (c : Com ℕ) (y : Bool) (m : Labelling) (x : Bool) (l : Labelling)
    → analyse (while (decision n mask false false) b (decide (annotate c y m))) x l ≡ analyse (while n b c) x l
unfolding map_notes
loop_decided n b mask c y m x l =
    sym (analyse_notes (λ (k : Decision). k.node) (while (decision n mask false false) b (decide (annotate c y m))) x l)
    ∙ ap (λ (p : Com ℕ). analyse (while n b p) x l) (program_decided c y m)

entry_annotate : (c : Com ℕ) (x : Bool) (l : Labelling) → entry_of (annotate c x l) ≡ l
unfolding entry_of
entry_annotate c x l = ap (λ (e : Entry). e.labelling) (note_annotate c x l)

by_label : (b : Bool) → Masked b b
by_label b = record { masked = λ e. e }

by_labels : (v i : Bool) → ValueMasked v i (negated (v || i))
by_labels v i = record { masked = λ p q. rw (p, q) refl }

pub decide_covers : (c : Com ℕ) (x : Bool) (l : Labelling) → Covers (decide (annotate c x l)) x l
unfolding decide annotate
decide_covers (skip n) x l = covers_skip
decide_covers (assign n v e) x l = covers_assign
decide_covers (sequence n c d) x l =
    covers_sequence (decide_covers c x l)
    (subst (λ (m : Labelling). Covers (decide (annotate d x (analyse c x l))) x m) (sym (analyse_decided c x l x l)) (decide_covers d x (analyse c x l)))
decide_covers (if n b c d) x l = covers_if (by_label (label_of_b l b)) (decide_covers c (label_of_b l b || x) l) (decide_covers d (label_of_b l b || x) l)
decide_covers (while n b c) x l =
    covers_while (subst (λ (m : Labelling). Masked (label_of_b m b) (label_of_b (entry_of body) b)) (entry ∙ sym settled) (by_label (label_of_b (entry_of body) b)))
    (subst (λ (m : Labelling). Covers (decide body) (label_of_b m b || x) m) (sym settled) (decide_covers c (label_of_b s b || x) s))
  where
    s : Labelling
    s = analyse (while n b c) x l

    body : Com Entry
    body = annotate c (label_of_b s b || x) s

    entry : entry_of body ≡ s
    entry = entry_annotate c (label_of_b s b || x) s

    settled : analyse (while (decision n (label_of_b (entry_of body) b) false false) b (decide body)) x l ≡ s
    settled = loop_decided n b (label_of_b (entry_of body) b) c (label_of_b s b || x) s x l
decide_covers (read n v a i) x l = covers_read (by_label (label_of_a l i)) (by_labels (read_label l x a i) (label_of_a l i))
decide_covers (write n a i e) x l = covers_write (by_label (label_of_a l i))

-- every variable that a declared program assigns is below the flag's number, whatever is decided
pub assigns_below : (variables arrays : ℕ) (d : Com Decision) → Within variables arrays (program_for d) → AssignsBelow variables d
unfolding map_notes
assigns_below v a (skip n) h = tt
assigns_below v a (assign n x e) h = h.0
assigns_below v a (sequence n c d) h = (assigns_below v a c h.0, assigns_below v a d h.1)
assigns_below v a (if n b c d) h = (assigns_below v a c h.1, assigns_below v a d h.2)
assigns_below v a (while n b c) h = assigns_below v a c h.1
assigns_below v a (read n x b i) h = h.0
assigns_below v a (write n b i e) h = tt
