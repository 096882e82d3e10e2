-- The answers by the notes of an analysis are those of the annotated program.
use Prim.Native.Nat.{ℕ, zero, suc, ◌+◌, ◌<◌}
use native.Mathlib.Omega.{arith}
use native.Mathlib.Numerals.{add-one}
use mathlib.Core.Bool.{Bool, true, false, cond}
use mir.Val.{bool_byte}
use mathlib.Core.Logic.{⊎_elim}
use mathlib.Core.List.Memᴰ
use mathlib.Core.List.{List, [], ◌∷◌, ◌++◌, Memᴰ}
use mathlib.Core.Path.{◌≡◌, refl, sym, ap, ap₂, subst, ◌∙◌}
use lib.ListN.{length, set, length-append}
use lib.Seq.{sets}
use lib.Dec.{ltb}
use borrow.Author.Tests.{ltb-true}
use Rattle.bytes_le.proofs.Stores.{sets-append}
use Rattle.awhile.specs.Language.{Com, skip, assign, sequence, if, while, read, write, note_of}
use Rattle.awhile.specs.Tables.{Table}
use Rattle.awhile.specs.WellFormed.{WellFormed}
use Rattle.awhile.specs.declared.Labelling.{Labelling}
use Rattle.awhile.proofs.Lists.{and_first, and_second}
use Rattle.reader.specs.Index.{table_of, nodes_in}
use Rattle.labels.specs.Labellings.{variable_mark, label_of}
use Rattle.labels.specs.Annotation.{Entry, parts}
use Rattle.labels.specs.Sheet.{entry_of, annotated}
use Rattle.labels.specs.Questions.{pairs_in, question_at, is_command, askable, all_askable, answerable, answer_to, answers_to, answer_bytes}
use Rattle.labels.specs.declared.Question.{Question}
use Rattle.labels.proofs.Questions.{answerable_list, askable_at, command_found}
use Rattle.analysis.specs.declared.noting.Note.{Note}
use Rattle.analysis.specs.Notes.{note_in, Noted}
use Rattle.analysis.specs.Conditions.{Labelled}
use Rattle.questions.specs.Noted.{noted_answer, noted_answers, NotesReach}

-- ---- every command of a noted program has its note
module _ (ns : List Note) (p : Com Entry) where
  -- p, or one of its parts
  abbrev Has : Com Entry → Type 0
  Has a = note_in ns (note_of a).node ≡ note_of a

  this : {a : Com Entry} → Has a → p ≡ a → Has p
  this h e = subst Has (sym e) h

  pub part_noted : (a : Com Entry) → Noted ns a → Memᴰ p (parts a) → Has p
  unfolding parts note_of
  part_noted (skip e) h m = this h (Memᴰ.eq_of_singleton m)
  part_noted (assign e v x) h m = this h (Memᴰ.eq_of_singleton m)
  part_noted (sequence e c d) h m =
      ⊎_elim (this h.0) (λ rest. ⊎_elim (part_noted c h.1) (part_noted d h.2) (Memᴰ.append_cases (parts c) rest)) (Memᴰ.cases_cons m)
  part_noted (if e b c d) h m =
      ⊎_elim (this h.0) (λ rest. ⊎_elim (part_noted c h.1) (part_noted d h.2) (Memᴰ.append_cases (parts c) rest)) (Memᴰ.cases_cons m)
  part_noted (while e b c) h m = ⊎_elim (this h.0) (part_noted c h.1) (Memᴰ.cases_cons m)
  part_noted (read e v x i) h m = this h (Memᴰ.eq_of_singleton m)
  part_noted (write e x i v) h m = this h (Memᴰ.eq_of_singleton m)

-- ---- the answers
module _ {table : List ℕ} {ns : List Note} {l : Labelling} (w : WellFormed (table_of table)) (labelled : Labelled table ns l) where
  abbrev t : Table
  t = table_of table

  -- what is noted for a question's node is what enters its command
  noted_answer_lem : (q : Question) → askable t q ≡ true → noted_answer ns q ≡ answer_to (annotated t l) q
  unfolding noted_answer answer_to askable entry_of
  noted_answer_lem q h =
      let f = command_found t l q.node w (and_first (is_command t q.node) (ltb q.variable t.variables) h) in
      let note : note_in ns q.node ≡ note_of f.command =
      ap (note_in ns) (sym f.the.is_node) ∙ part_noted ns f.command (annotated t l) labelled.notes f.the.stands in
      ap (λ (m : Labelling). cond (label_of m (variable_mark q.variable)) 1 0) (ap (λ (e : Entry). e.labelling) note ∙ sym f.enters)

  noted_answers_lem : (s : List ℕ) (n : ℕ) → all_askable t s n ≡ true → noted_answers ns s n ≡ answers_to (annotated t l) s n
  unfolding noted_answers answers_to all_askable
  noted_answers_lem s zero h = refl
  noted_answers_lem s (suc n) h =
      ap₂ (λ (bs : List ℕ) (b : ℕ). bs ++ (b ∷ []))
      (noted_answers_lem s n (and_second (askable t (question_at s n)) (all_askable t s n) h))
      (noted_answer_lem (question_at s n) (and_first (askable t (question_at s n)) (all_askable t s n) h))

  -- there is a note for each
  notes_reach : (s : List ℕ) (n : ℕ) → all_askable t s n ≡ true → NotesReach ns s n
  unfolding askable is_command nodes_in
  notes_reach s n h =
      record {
        each =
            λ i k.
            let can = askable_at t s n i h k in
            let command = and_first (is_command t (question_at s i).node) (ltb (question_at s i).variable t.variables) can in
            let inside = ltb-true (question_at s i).node (length t.nodes) (and_first (ltb (question_at s i).node (length t.nodes)) _ command) in
            omega (arith, labelled.notes_fit.room);
      }

  -- so it is with a list that is answered
  module _ (s : List ℕ) (ok : answerable t s ≡ true) where
    pub list_answers : noted_answers ns s (pairs_in s) ≡ answer_bytes t l s
    unfolding answer_bytes
    list_answers = noted_answers_lem s (pairs_in s) (answerable_list t s ok).all

    pub list_noted : NotesReach ns s (pairs_in s)
    list_noted = notes_reach s (pairs_in s) (answerable_list t s ok).all

-- a question that was read from the list has its note
pub reaches : {ns : List Note} {s : List ℕ} {n i : ℕ} {q : Question} → NotesReach ns s n → q ≡ question_at s i → i < n → q.node < length ns
reaches {i = i} h e k = rw e (h.each i k)

-- ---- the answers written one behind the other
module _ (ns : List Note) (s : List ℕ) where
  pub length_noted : (n : ℕ) → length (noted_answers ns s n) ≡ n
  unfolding noted_answers
  length_noted zero = refl
  length_noted (suc n) = simp length-append (omega (arith, length_noted n))

  pub none_yet : (out : List ℕ) → out ≡ sets out 0 (noted_answers ns s 0)
  unfolding noted_answers
  none_yet out = refl

  pub one_more_written : (out₀ out out' : List ℕ) (i b : ℕ) → out ≡ sets out₀ 0 (noted_answers ns s i) → b ≡ noted_answer ns (question_at s i) → out' ≡ set out i b
      → out' ≡ sets out₀ 0 (noted_answers ns s (i + 1))
  unfolding noted_answers
  one_more_written out₀ out out' i b e f g =
      let behind : 0 + length (noted_answers ns s i) ≡ i = omega (arith, length_noted i) in
      g ∙ ap₂ (λ (l : List ℕ) (v : ℕ). set l i v) e f
      ∙ ap (λ (k : ℕ). sets (sets out₀ 0 (noted_answers ns s i)) k (noted_answer ns (question_at s i) ∷ [])) (sym behind)
      ∙ sym (sets-append (noted_answers ns s i) (noted_answer ns (question_at s i) ∷ []) out₀ 0)
      ∙ ap (λ (k : ℕ). sets out₀ 0 (noted_answers ns s k)) (sym (add-one i))

-- the byte of a label
pub answer_byte : (b : Bool) → bool_byte b ≡ cond b 1 0
answer_byte true = refl
answer_byte false = refl

-- a loop over the questions writes one more answer
pub ruleset one_more = (none_yet, one_more_written)
