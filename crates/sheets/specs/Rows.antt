-- A record as the code has it, what it stands for, and the sheet of a table by the notes that the analysis left.
use Rattle.std.specs.Prelude.{ℕ, ◌+◌, ◌≤◌, ◌≡◌, map, length}
use mathlib.Core.List.{List, flat_map}
use Rattle.std.proofs.lemmas.List.Edits.{sets}
use Rattle.awhile.specs.Language.{map_notes}
use Rattle.awhile.specs.declared.Labelling.{Labelling}
use Rattle.awhile.specs.Tables.{mask_bytes}
use Rattle.reader.specs.Index.{version_in, nodes_in, command_in}
use Rattle.labels.specs.Sheet.{SheetField, SheetRecord, sheet_record, number, label, masks, record_bytes, command_records, records_below, sheet_of}
use Rattle.analysis.specs.Notes.{note_in, noted_program}
use Rattle.analysis.specs.declared.noting.Note.{Note}
use Rattle.sheets.specs.declared.fields.Field.{Field}
use Rattle.sheets.specs.declared.fields.Field.TheVariants.{Number, Label, Masks}
use Rattle.sheets.specs.declared.records.Kind.{Kind}
use Rattle.sheets.specs.declared.records.Kind.TheVariants.{Sheet, Sequence, If, While, Read, Write}

-- the field, and the number of the kind
abbrev pub field_of : Field → SheetField
field_of (Number n) = number n
field_of (Label b) = label b
field_of (Masks l) = masks l

abbrev pub number_of : Kind → ℕ
number_of Sheet = 128
number_of Sequence = 129
number_of If = 130
number_of While = 131
number_of Read = 132
number_of Write = 133

abbrev pub record_of : Kind → List Field → SheetRecord
record_of k fs = sheet_record (number_of k) (map field_of fs)

-- no record has more fields than these, and no field more bytes of any version
abbrev pub most_fields : ℕ
most_fields = 3

abbrev pub longest_field : ℕ
longest_field = 10

-- bytes at an offset: written where they fit whole, and where they end
pub record RowPut (out : List ℕ) (at : ℕ) (bytes : List ℕ) (out' : List ℕ) (end : ℕ) : Type 0 where
  pub ends : end ≡ at + length bytes
  pub stored : at + length bytes ≤ length out → out' ≡ sets out at bytes

-- the record of a node's command, by the notes, and its bytes
unfoldable pub records_in : (table : List ℕ) (notes : List Note) → (node : ℕ) → List SheetRecord
records_in table ns n = command_records (map_notes (note_in ns) (command_in table n))

unfoldable pub row_in : (table : List ℕ) (notes : List Note) → (node : ℕ) → List ℕ
row_in table ns n = flat_map (record_bytes (version_in table)) (records_in table ns n)

-- the records of all nodes of the program as it is noted
unfoldable pub rows_in : (table : List ℕ) (notes : List Note) → List ℕ
rows_in table ns = flat_map (record_bytes (version_in table)) (records_below (noted_program table ns) (nodes_in table))

-- how many bytes the sheet's first record has: no other has more, and none has more of any version than these
abbrev pub first_size : (version : ℕ) → ℕ
first_size v = 10 + mask_bytes v

abbrev pub longest_row : ℕ
longest_row = 18

-- these bytes are written behind the first record where they fit, and they end there
pub record RowsPut (version : ℕ) (rows out out' : List ℕ) (end : ℕ) : Type 0 where
  pub ends : end ≡ first_size version + length rows
  pub stored : first_size version + length rows ≤ length out → out' ≡ sets out (first_size version) rows

-- the sheet of the program as it is noted, with this labelling after it
unfoldable pub sheet_in : (table : List ℕ) (notes : List Note) → (final : Labelling) → List ℕ
sheet_in table ns final = sheet_of (version_in table) (nodes_in table) (noted_program table ns) final
