-- The label sheet's bytes: kind 128, then by node number the records of sequences, ifs, whiles, reads and writes.
use Rattle.std.specs.Prelude.{ℕ, zero, suc, ◌+◌, Bool, false, cond, length, eqb}
use mathlib.Core.List.{List, [], ◌∷◌, ◌++◌, flat_map}
use Rattle.bytes_le.specs.Numbers.{le}
use Rattle.awhile.specs.Language.{Com, skip, assign, sequence, if, while, read, write, note_of}
use Rattle.awhile.specs.Tables.{Table, mask_bytes}
use Rattle.awhile.specs.Trees.{root_of}
use Rattle.awhile.specs.declared.Labelling.{Labelling}
use Rattle.labels.specs.Labellings.{label_of_a, label_of_b}
use Rattle.labels.specs.Analysis.{analyse, read_label}
use Rattle.labels.specs.Annotation.{Entry, annotate, parts}

-- what a field of a record holds: a number in 2 bytes, a label, or the two masks of a labelling
pub data SheetField : Type 0 where
  number : ℕ → SheetField
  label : Bool → SheetField
  masks : Labelling → SheetField

-- a record of the sheet: its kind and its fields
pub record SheetRecord : Type 0 where
  pub kind : ℕ
  pub fields : List SheetField

abbrev pub sheet_record : ℕ → List SheetField → SheetRecord
sheet_record k fs = record { kind = k; fields = fs }

-- "Label 1 is secret." How many bytes a variable mask has goes by the version.
unfoldable pub field_bytes : (version : ℕ) → SheetField → List ℕ
field_bytes v (number n) = le 2 n
field_bytes v (label b) = le 2 (cond b 1 0)
field_bytes v (masks l) = le (mask_bytes v) l.variables ++ le 2 l.arrays

unfoldable pub fields_bytes : (version : ℕ) → List SheetField → List ℕ
fields_bytes v fs = flat_map (field_bytes v) fs

-- "A record is a 2-byte length (of the whole record), a 2-byte kind, then fields"
unfoldable pub record_bytes : (version : ℕ) → SheetRecord → List ℕ
record_bytes v r = le 2 (4 + length (fields_bytes v r.fields)) ++ (le 2 r.kind ++ fields_bytes v r.fields)

-- the labelling on entry to a command
unfoldable pub entry_of : Com Entry → Labelling
entry_of c = (note_of c).labelling

-- the record of one command, if it has one. A sequence's masks after its first part are its second part's entry; a loop's settled masks are its
-- body's entry, and its condition is labelled by them. "Condition and index labels leave the context out; 132's variable label is the one
-- the read gives."
unfoldable pub command_records : Com Entry → List SheetRecord
command_records (skip e) = []
command_records (assign e v a) = []
command_records (sequence e c d) = sheet_record 129 (number e.node ∷ masks (entry_of d) ∷ []) ∷ []
command_records (if e b c d) = sheet_record 130 (number e.node ∷ label (label_of_b e.labelling b) ∷ []) ∷ []
command_records (while e b c) = sheet_record 131 (number e.node ∷ label (label_of_b (entry_of c) b) ∷ masks (entry_of c) ∷ []) ∷ []
command_records (read e v a i) =
    sheet_record 132 (number e.node ∷ label (read_label e.labelling e.context a i) ∷ label (label_of_a e.labelling i) ∷ []) ∷ []
command_records (write e a i v) = sheet_record 133 (number e.node ∷ label (label_of_a e.labelling i) ∷ []) ∷ []

-- the record of the command with this number, if there is one
unfoldable pub records_at : Com Entry → (node : ℕ) → List SheetRecord
records_at c n = flat_map (λ (p : Com Entry). cond (eqb (note_of p).node n) (command_records p) []) (parts c)

-- the records of the nodes below a number, by node number
unfoldable pub records_below : Com Entry → ℕ → List SheetRecord
records_below c zero = []
records_below c (suc n) = records_below c n ++ records_at c n

-- the first record: the version, the number of nodes, and the masks after the program
unfoldable pub head_record : (version nodes : ℕ) → (final : Labelling) → SheetRecord
head_record v n final = sheet_record 128 (number v ∷ number n ∷ masks final ∷ [])

-- the sheet of an annotated program with so many nodes and this labelling after it: its records, and their bytes
unfoldable pub sheet_records : (version nodes : ℕ) → Com Entry → (final : Labelling) → List SheetRecord
sheet_records v n a final = head_record v n final ∷ records_below a n

unfoldable pub sheet_of : (version nodes : ℕ) → Com Entry → (final : Labelling) → List ℕ
sheet_of v n a final = flat_map (record_bytes v) (sheet_records v n a final)

-- the program of a table with its labels: "a labelling and a context, public at the root". Which labelling it starts from is given.
unfoldable pub annotated : Table → Labelling → Com Entry
annotated t l = annotate (root_of t) false l

-- the labelling after it
unfoldable pub final_labels : Table → Labelling → Labelling
final_labels t l = analyse (root_of t) false l

-- the sheet of a table whose analysis starts from a labelling: "A sheet has its table's version."
unfoldable pub sheet_bytes : Table → Labelling → List ℕ
sheet_bytes t l = sheet_of t.version (length t.nodes) (annotated t l) (final_labels t l)
