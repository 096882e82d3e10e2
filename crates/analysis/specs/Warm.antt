-- Warm starts: a loop starts its passes from the entering labelling joined with what it last settled at, so that nested loops settle in
-- few passes; and where a loop is entered as it last was, it makes no pass. What it last settled at is kept where the notes are, as the note of
-- its body. The results are those of the analysis.
use Rattle.std.specs.Prelude.{ℕ, Bool, ◌||◌, List, ◌≡◌}
use Rattle.awhile.specs.Language.{Com, skip, assign, sequence, if, while, read, write, note_of}
use Rattle.awhile.specs.Standing.{standing}
use Rattle.awhile.specs.declared.Labelling.{Labelling}
use Rattle.labels.specs.Labellings.{label_of_b, join, ◌⊑◌}
use Rattle.labels.specs.Analysis.{analyse}
use Rattle.labels.specs.Annotation.{annotate}
use Rattle.analysis.specs.declared.noting.Note.{Note}
use Rattle.analysis.specs.Notes.{note_in, Noted}

-- the notes of all commands other than those of a command are the same before and after
pub record Outside (c : Com ℕ) (ns ns' : List Note) : Type 0 where
  pub same : (p : ℕ) → standing p c ≡ 0 → note_in ns' p ≡ note_in ns p

-- what a loop last settled at, from the note of its body
unfoldable pub kept_in : (notes : List Note) → (body : Com ℕ) → Labelling
kept_in ns c = (note_in ns (note_of c)).labelling

-- a command was last analysed as its note says: all its commands are noted as entered so
unfoldable pub Remembered : (notes : List Note) → Com ℕ → Type 0
Remembered ns c = Noted ns (annotate c (note_in ns (note_of c)).context (note_in ns (note_of c)).labelling)

-- The notes are in order for an analysis: what is kept of a loop is no more than it settles at, the notes inside its body are in order for
-- the pass that it starts with, and the loop was last analysed as its note says.
module _ (ns : List Note) where
  abbrev pub InOrder : Com ℕ → (context : Bool) → Labelling → Type 0
  InOrder (skip n) x l = Unit
  InOrder (assign n v e) x l = Unit
  InOrder (sequence n c d) x l = InOrder c x l × InOrder d x (analyse c x l)
  InOrder (if n b c d) x l = InOrder c (label_of_b l b || x) l × InOrder d (label_of_b l b || x) l
  InOrder (while n b c) x l =
      (kept_in ns c ⊑ analyse (while n b c) x l)
      × InOrder c (label_of_b (join l (kept_in ns c)) b || x) (join l (kept_in ns c))
      × Remembered ns (while n b c)
  InOrder (read n v a i) x l = Unit
  InOrder (write n a i e) x l = Unit
