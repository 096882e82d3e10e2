-- `write_rows` writes one row behind the other, where all fit.
use Prim.Native.Nat.{◌+◌, ◌≤◌}
use mathlib.Core.Path.{◌≡◌}
use lib.ListN.{length}
use lib.Seq.{sets}
use Rattle.reader.specs.Index.{version_in, nodes_in}
use Rattle.analysis.specs.Notes.{noted_program}
use Rattle.sheets.specs.Rows.{first_size}
use Rattle.sheets.proofs.SheetLengths.{bytes_below}
use Rattle.sheets.proofs.sheet.write_rows.Given as goal

abbrev pub invariant-loop-n : goal.invariant-loop-n
invariant-loop-n l =
    let table = l.labelled.expressions.table.now in
    let below = bytes_below (version_in table) (noted_program table l.labelled.notes.now) in
    let first = first_size (version_in table) in
    (l.at ≡ first + length (below l.n))
    × (first + length (below (nodes_in table)) ≤ length l.initial.out → l.out ≡ sets l.initial.out first (below l.n))
