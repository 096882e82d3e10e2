-- The analysis satisfies the rules for labels, and every annotation that does is above it at every command.
use Prim.Native.Nat.{ℕ}
use mathlib.Core.Bool.{Bool, le as at_most, ◌||◌}
use mathlib.Core.List.Memᴰ
use mathlib.Core.List.{[], ◌∷◌, ◌++◌}
use mathlib.Core.Logic.{⊎_elim}
use mathlib.Core.Path.{◌≡◌, refl, sym, ap, ap₂, fun_ext, subst, ◌∙◌}
use native.Mathlib.Omega.{arith}
use Rattle.awhile.specs.Language.{BExp, Com, skip, assign, sequence, if, while, read, write, note_of, map_notes}
use Rattle.awhile.specs.declared.Labelling.{Labelling}
use Rattle.labels.specs.Labellings.{variable_mark, array_mark, ◌⊑◌, label_of_b}
use Rattle.labels.specs.Analysis.{read_label, write_label, analyse}
use Rattle.labels.specs.Annotation.{Entry, entered, annotate, parts}
use Rattle.labels.specs.Rules.{Settled, loop_pass, program_of, Enters, Satisfies, skip_rule, assign_rule, sequence_rule, if_rule, while_rule, read_rule, write_rule}
use Rattle.labels.specs.Rules.{Annotates, EntryAbove, Above, skip_above, assign_above, sequence_above, if_above, while_above, read_above, write_above}
use Rattle.labels.specs.Rules.{LoopsSettle, LeastAnnotation}
use Rattle.labels.proofs.Booleans.{or_mono}
use Rattle.labels.proofs.Order.{⊑_refl, ⊑_trans, join_left, join_right, join_least, set_mono, label_of_a_mono, label_of_b_mono}
use Rattle.labels.proofs.Analysis.{read_label_mono, write_label_mono, loop_settles}
use Rattle.labels.proofs.Notes.{analyse_notes}

-- what satisfies the rules still does with a larger labelling after it
pub satisfies_weaker : {a : Com Entry} {m n : Labelling} → Satisfies a m → m ⊑ n → Satisfies a n
satisfies_weaker (skip_rule p) q = skip_rule (⊑_trans p q)
satisfies_weaker (assign_rule p) q = assign_rule (⊑_trans p q)
satisfies_weaker (sequence_rule i c j d) q = sequence_rule i c j (satisfies_weaker d q)
satisfies_weaker (if_rule i c j d) q = if_rule i (satisfies_weaker c q) j (satisfies_weaker d q)
satisfies_weaker (while_rule i c p) q = while_rule i c (⊑_trans p q)
satisfies_weaker (read_rule p) q = read_rule (⊑_trans p q)
satisfies_weaker (write_rule p) q = write_rule (⊑_trans p q)

-- the note of an annotated command is the node, context and labelling that it was given
pub note_annotate : (c : Com ℕ) (x : Bool) (l : Labelling) → note_of (annotate c x l) ≡ entered (note_of c) x l
unfolding note_of annotate
note_annotate (skip n) x l = refl
note_annotate (assign n v e) x l = refl
note_annotate (sequence n c d) x l = refl
note_annotate (if n b c d) x l = refl
note_annotate (while n b c) x l = refl
note_annotate (read n v a i) x l = refl
note_annotate (write n a i e) x l = refl

-- an annotated command is entered with the labelling and context that it was given
pub enters_annotate : (c : Com ℕ) {x : Bool} {l m : Labelling} → l ⊑ m → Enters l x (annotate c x m)
enters_annotate c {x} {l} {m} p = record { labelling = rw (note_annotate c x m) p; context = rw (note_annotate c x m) (λ e. e) }

-- annotating keeps the program
pub program_annotate : (c : Com ℕ) (x : Bool) (l : Labelling) → program_of (annotate c x l) ≡ c
unfolding map_notes annotate
program_annotate (skip n) x l = refl
program_annotate (assign n v e) x l = refl
program_annotate (sequence n c d) x l = ap₂ (sequence n) (program_annotate c x l) (program_annotate d x (analyse c x l))
program_annotate (if n b c d) x l = ap₂ (if n b) (program_annotate c (label_of_b l b || x) l) (program_annotate d (label_of_b l b || x) l)
program_annotate (while n b c) x l = ap (while n b) (program_annotate c (label_of_b (analyse (while n b c) x l) b || x) (analyse (while n b c) x l))
program_annotate (read n v a i) x l = refl
program_annotate (write n a i e) x l = refl

-- a loop satisfies the rules if its body does, entered with a labelling that the body leads back to
loop_satisfied : (e : Entry) (b : BExp) (a : Com Entry) (s : Labelling) → (note_of a).labelling ≡ s → (note_of a).context ≡ (label_of_b s b || e.context)
    → e.labelling ⊑ s → Satisfies a s → Satisfies (while e b a) s
loop_satisfied e b a s p q h k = while_rule {e = e} {b = b} {c = a} {after = s} (record { labelling = rw p h; context = rw (p, q) (λ t. t) }) (rw p k) (rw p (⊑_refl s))

satisfied : (c : Com ℕ) (x : Bool) (l : Labelling) → Satisfies (annotate c x l) (analyse c x l)
unfolding annotate analyse read_label write_label
satisfied (skip n) x l = skip_rule (⊑_refl l)
satisfied (assign n v e) x l = assign_rule (⊑_refl _)
satisfied (sequence n c d) x l =
    sequence_rule (enters_annotate c (⊑_refl l)) (satisfied c x l) (enters_annotate d (⊑_refl (analyse c x l))) (satisfied d x (analyse c x l))
satisfied (if n b c d) x l =
    let y : Bool = label_of_b l b || x in
    if_rule (enters_annotate c (⊑_refl l)) (satisfies_weaker (satisfied c y l) (join_left (analyse c y l) (analyse d y l)))
    (enters_annotate d (⊑_refl l)) (satisfies_weaker (satisfied d y l) (join_right (analyse c y l) (analyse d y l)))
satisfied (while n b c) x l =
    let s : Labelling = analyse (while n b c) x l in
    let y : Bool = label_of_b s b || x in
    let settled : Settled (loop_pass b c x) l s = loop_settles n b c x l in
    loop_satisfied (entered n x l) b (annotate c y s) s (ap (λ (e : Entry). e.labelling) (note_annotate c y s)) (ap (λ (e : Entry). e.context) (note_annotate c y s))
    settled.above (satisfies_weaker (satisfied c y s) settled.closed)
satisfied (read n v a i) x l = read_rule (⊑_refl _)
satisfied (write n a i e) x l = write_rule (⊑_refl _)

-- the analysis satisfies the rules
pub analysis_satisfies : (c : Com ℕ) (x : Bool) (l : Labelling) → Annotates c x l (annotate c x l) (analyse c x l)
analysis_satisfies c x l = record { program = program_annotate c x l; enters = enters_annotate c (⊑_refl l); satisfies = satisfied c x l }

-- what is entered with more is entered with less
enters_trans : {l m : Labelling} {x y : Bool} {a : Com Entry} → l ⊑ m → at_most x y → Enters m y a → Enters l x a
enters_trans p h i = record { labelling = ⊑_trans p i.labelling; context = λ e. i.context (h e) }

entry_above : (e : Entry) (x : Bool) (l : Labelling) → l ⊑ e.labelling → at_most x e.context → EntryAbove e (entered e.node x l)
entry_above e x l p h = record { node = refl; labelling = p; context = h }

-- whatever satisfies the rules is above the analysis, command by command and after the last
least : {a : Com Entry} {after : Labelling} → Satisfies a after → (x : Bool) (l : Labelling) → Enters l x a
    → Above a (annotate (program_of a) x l) × (analyse (program_of a) x l ⊑ after)
unfolding map_notes annotate analyse read_label write_label note_of
least (skip_rule {e = e} p) x l i = (skip_above (entry_above e x l i.labelling i.context), ⊑_trans i.labelling p)
least (assign_rule {e = e} {v = v} {a = a} p) x l i = (
  assign_above (entry_above e x l i.labelling i.context),
  ⊑_trans (set_mono (variable_mark v) i.labelling (or_mono (label_of_a_mono i.labelling a) i.context)) p,
)
least (sequence_rule {e = e} j c k d) x l i =
    let first = least c x l (enters_trans i.labelling i.context j) in
    let second = least d x _ (enters_trans first.1 i.context k) in
    (sequence_above (entry_above e x l i.labelling i.context) first.0 second.0, second.1)
least (if_rule {e = e} {b = b} j c k d) x l i =
    let h = or_mono (label_of_b_mono i.labelling b) i.context in
    let left = least c (label_of_b l b || x) l (enters_trans i.labelling h j) in
    let right = least d (label_of_b l b || x) l (enters_trans i.labelling h k) in
    (if_above (entry_above e x l i.labelling i.context) left.0 right.0, join_least _ _ left.1 right.1)
least (while_rule {e = e} {b = b} {c = a} j c p) x l i =
    let m : Labelling = (note_of a).labelling in
    let s : Labelling = analyse (while e.node b (program_of a)) x l in
    let settled : Settled (loop_pass b (program_of a) x) l s = loop_settles e.node b (program_of a) x l in
    let enter : (n : Labelling) → n ⊑ m → Enters n (label_of_b n b || x) a = λ n q. enters_trans q (or_mono (label_of_b_mono q b) i.context) (record { labelling = ⊑_refl m; context = j.context }) in
    let below : s ⊑ m = settled.least m (⊑_trans i.labelling j.labelling) (least c (label_of_b m b || x) m (enter m (⊑_refl m))).1 in
    let body = least c (label_of_b s b || x) s (enter s below) in
    (while_above (entry_above e x l i.labelling i.context) body.0, ⊑_trans below p)
least (read_rule {e = e} {v = v} {a = a} {i = index} p) x l i = (
  read_above (entry_above e x l i.labelling i.context),
  ⊑_trans (set_mono (variable_mark v) i.labelling (read_label_mono i.context i.labelling a index)) p,
)
least (write_rule {e = e} {a = a} {i = index} {v = v} p) x l i = (
  write_above (entry_above e x l i.labelling i.context),
  ⊑_trans (set_mono (array_mark a) i.labelling (write_label_mono i.context i.labelling a index v)) p,
)

-- every annotation that satisfies the rules is above the analysis at every command, inner loops included, and after the program
pub analysis_least : (c : Com ℕ) (x : Bool) (l : Labelling) {a : Com Entry} {after : Labelling} → Annotates c x l a after
    → Above a (annotate c x l) × (analyse c x l ⊑ after)
analysis_least c x l {a} {after} h =
    subst (λ (d : Com ℕ). Above a (annotate d x l) × (analyse d x l ⊑ after)) h.program (least h.satisfies x l h.enters)

-- ---- the loops of the analysis
-- the analysis of an annotated command is that of the command
analyse_annotated : (c : Com ℕ) (x : Bool) (l : Labelling) (y : Bool) (m : Labelling) → analyse (annotate c x l) y m ≡ analyse c y m
analyse_annotated c x l y m =
    sym (analyse_notes (λ (e : Entry). e.node) (annotate c x l) y m) ∙ ap (λ (d : Com ℕ). analyse d y m) (program_annotate c x l)

-- a loop's body is entered with the labelling at which passes over it settle
body_settles : (n : ℕ) (b : BExp) (c : Com ℕ) (x : Bool) (l : Labelling) (a : Com Entry) (s : Labelling) → analyse (while n b c) x l ≡ s
    → ((y : Bool) (m : Labelling) → analyse a y m ≡ analyse c y m) → (note_of a).labelling ≡ s → Settled (loop_pass b a x) l (note_of a).labelling
body_settles n b c x l a s is same entry =
    let settled : Settled (loop_pass b c x) l s = rw is at (loop_settles n b c x l) in
    rw entry (subst (λ (pass : Labelling → Labelling). Settled pass l s) (fun_ext (λ m. sym (same (label_of_b m b || x) m))) settled)

-- no loop is this command
abbrev NoLoop : Com Entry → Type 0
NoLoop a = (e : Entry) (b : BExp) (c : Com Entry) → while e b c ≡ a → ◌≡◌ {A = ℕ} 0 1

-- a command without parts has no loop in it, and one of two parts has the loops of its parts
no_loops : (a : Com Entry) → NoLoop a → parts a ≡ a ∷ [] → LoopsSettle a
no_loops a other is =
    record { settles = λ e b c m. absurd (⊎_elim (λ same. let z = other e b c same in omega arith) Memᴰ.not-nil (Memᴰ.cases_cons (rw is at m))) }

loops_of_two : (a c d : Com Entry) → NoLoop a → parts a ≡ a ∷ (parts c ++ parts d) → LoopsSettle c → LoopsSettle d → LoopsSettle a
loops_of_two a c d other is first second =
    record {
      settles = λ e b body m.
          ⊎_elim (λ same. let z = other e b body same in absurd (omega arith))
          (λ rest. ⊎_elim (first.settles e b body) (second.settles e b body) (Memᴰ.append_cases (parts c) rest))
          (Memᴰ.cases_cons (rw is at m));
    }

-- a loop that settles, with the loops of its body
loops_of_loop : (e : Entry) (b : BExp) (a : Com Entry) → Settled (loop_pass b a e.context) e.labelling (note_of a).labelling → LoopsSettle a
    → LoopsSettle (while e b a)
unfolding parts
loops_of_loop e b a settled body = record { settles = λ f d c m. ⊎_elim (this f d c) (body.settles f d c) (Memᴰ.cases_cons m) }
  where
    this : (f : Entry) (d : BExp) (c : Com Entry) → while f d c ≡ while e b a → Settled (loop_pass d c f.context) f.labelling (note_of c).labelling
    this f d c same =
        let entry : f ≡ e = cc in
        let test : d ≡ b = cc in
        let inside : c ≡ a = cc in
        rw (entry, test, inside) settled

loops_settle : (c : Com ℕ) (x : Bool) (l : Labelling) → LoopsSettle (annotate c x l)
unfolding annotate parts
loops_settle (skip n) x l = no_loops _ (λ e b c same. cc) refl
loops_settle (assign n v e) x l = no_loops _ (λ e b c same. cc) refl
loops_settle (sequence n c d) x l = loops_of_two _ _ _ (λ e b c same. cc) refl (loops_settle c x l) (loops_settle d x (analyse c x l))
loops_settle (if n b c d) x l = loops_of_two _ _ _ (λ e b c same. cc) refl (loops_settle c (label_of_b l b || x) l) (loops_settle d (label_of_b l b || x) l)
loops_settle (while n b c) x l =
    let s : Labelling = analyse (while n b c) x l in
    let y : Bool = label_of_b s b || x in
    loops_of_loop (entered n x l) b (annotate c y s)
    (body_settles n b c x l (annotate c y s) s refl (analyse_annotated c y s) (ap (λ (e : Entry). e.labelling) (note_annotate c y s)))
    (loops_settle c y s)
loops_settle (read n v a i) x l = no_loops _ (λ e b c same. cc) refl
loops_settle (write n a i e) x l = no_loops _ (λ e b c same. cc) refl

-- THE ANALYSIS gives the least annotation
pub analysis_is_least : (c : Com ℕ) (x : Bool) (l : Labelling) → LeastAnnotation c x l (annotate c x l) (analyse c x l)
analysis_is_least c x l =
    record { annotates = analysis_satisfies c x l; least = λ b m. analysis_least c x l; loops = loops_settle c x l }
