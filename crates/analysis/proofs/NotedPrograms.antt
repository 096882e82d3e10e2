-- A labelled table's program is its commands with their notes.
use Prim.Native.Nat.{ℕ}
use mathlib.Core.Bool.{Bool, false, ◌||◌}
use mathlib.Core.List.{List}
use mathlib.Core.Path.{◌≡◌, sym}
use Rattle.awhile.specs.Language.{Com, skip, assign, sequence, if, while, read, write, map_notes}
use Rattle.awhile.specs.Trees.{root_of}
use Rattle.awhile.specs.declared.Labelling.{Labelling}
use Rattle.reader.specs.Index.{table_of}
use Rattle.labels.specs.Labellings.{label_of_b}
use Rattle.labels.specs.Analysis.{analyse}
use Rattle.labels.specs.Annotation.{annotate}
use Rattle.labels.specs.Sheet.{annotated}
use Rattle.analysis.specs.declared.noting.Note.{Note}
use Rattle.analysis.specs.Notes.{note_in, noted_program, Noted}
use Rattle.analysis.specs.Conditions.{Labelled}

-- a program that is noted is its commands with their notes
pub annotated_by_notes : (ns : List Note) (c : Com ℕ) (x : Bool) (l : Labelling) → Noted ns (annotate c x l) → annotate c x l ≡ map_notes (note_in ns) c
unfolding annotate map_notes
annotated_by_notes ns (skip n) x l h = λ i. skip (sym h i)
annotated_by_notes ns (assign n v e) x l h = λ i. assign (sym h i) v e
annotated_by_notes ns (sequence n c d) x l h =
    λ i. sequence (sym h.0 i) (annotated_by_notes ns c x l h.1 i) (annotated_by_notes ns d x (analyse c x l) h.2 i)
annotated_by_notes ns (if n b c d) x l h =
    λ i. if (sym h.0 i) b (annotated_by_notes ns c (label_of_b l b || x) l h.1 i) (annotated_by_notes ns d (label_of_b l b || x) l h.2 i)
annotated_by_notes ns (while n b c) x l h =
    let m : Labelling = analyse (while n b c) x l in
    λ i. while (sym h.0 i) b (annotated_by_notes ns c (label_of_b m b || x) m h.1 i)
annotated_by_notes ns (read n v a j) x l h = λ i. read (sym h i) v a j
annotated_by_notes ns (write n a j e) x l h = λ i. write (sym h i) a j e

-- the program of a labelled table
pub labelled_program : {table : List ℕ} {ns : List Note} {l : Labelling} → Labelled table ns l → noted_program table ns ≡ annotated (table_of table) l
unfolding noted_program annotated
labelled_program {table} {ns} {l} h = sym (annotated_by_notes ns (root_of (table_of table)) false l h.notes)
