-- The sheet of a labelled table is the sheet that its labels define.
use mathlib.Core.List.{List}
use mathlib.Core.Path.{◌≡◌, ap₂}
use Prim.Native.Nat.{ℕ}
use Rattle.awhile.specs.Language.{Com}
use Rattle.awhile.specs.declared.Labelling.{Labelling}
use Rattle.reader.specs.Index.{table_of, version_in, nodes_in}
use Rattle.labels.specs.Annotation.{Entry}
use Rattle.labels.specs.Sheet.{sheet_of, final_labels, sheet_bytes}
use Rattle.analysis.specs.declared.noting.Note.{Note}
use Rattle.analysis.specs.Conditions.{Labelled}
use Rattle.analysis.proofs.NotedPrograms.{labelled_program}
use Rattle.sheets.specs.Rows.{sheet_in}

pub labelled_sheet : {table : List ℕ} {ns : List Note} {l final : Labelling} → Labelled table ns l → final ≡ final_labels (table_of table) l → sheet_in table ns final ≡ sheet_bytes (table_of table) l
unfolding sheet_in sheet_bytes nodes_in version_in
labelled_sheet {table} h e = ap₂ (λ (a : Com Entry) (m : Labelling). sheet_of (version_in table) (nodes_in table) a m) (labelled_program h) e
