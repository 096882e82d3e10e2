-- The notes that the analysis leaves in memory: for each command's node, the context and labelling on entry to it.
use Rattle.std.specs.Prelude.{ℕ, Bool, false, List, ◌≡◌, get_or}
use Rattle.awhile.specs.Language.{Com, skip, assign, sequence, if, while, read, write, map_notes}
use Rattle.awhile.specs.Trees.{root_of}
use Rattle.awhile.specs.declared.Labelling.{Labelling}
use Rattle.reader.specs.Index.{table_of}
use Rattle.labels.specs.Annotation.{Entry, entered}
use Rattle.analysis.specs.declared.noting.Note.{Note}

-- the note of a context and a labelling, and its labelling
abbrev pub noted : (context : Bool) → Labelling → Note
noted x l = record { variables = l.variables; arrays = l.arrays; context = x }

abbrev pub labels_of : Note → Labelling
labels_of m = record { variables = m.variables; arrays = m.arrays }

-- nothing is noted
abbrev pub blank : Note
blank = record { variables = 0; arrays = 0; context = false }

-- what is noted for a node
unfoldable pub note_in : (notes : List Note) → (node : ℕ) → Entry
note_in ns n = entered n (get_or ns n blank).context (labels_of (get_or ns n blank))

-- the program of a table as its commands are noted
unfoldable pub noted_program : (table : List ℕ) → (notes : List Note) → Com Entry
noted_program table ns = map_notes (note_in ns) (root_of (table_of table))

-- every command of an annotated program is noted at its node
module _ (ns : List Note) where
  abbrev pub Noted : Com Entry → Type 0
  Noted (skip e) = note_in ns e.node ≡ e
  Noted (assign e v a) = note_in ns e.node ≡ e
  Noted (sequence e c d) = (note_in ns e.node ≡ e) × Noted c × Noted d
  Noted (if e b c d) = (note_in ns e.node ≡ e) × Noted c × Noted d
  Noted (while e b c) = (note_in ns e.node ≡ e) × Noted c
  Noted (read e v a i) = note_in ns e.node ≡ e
  Noted (write e a i v) = note_in ns e.node ≡ e
