-- `sheet_fits` measures where the longest sheet would not fit.
use Prim.Native.Nat.{◌+◌, ◌*◌}
use native.Mathlib.Omega.{arith}
use mathlib.Core.Path.{◌≡◌, sym, ap, ap₂, ◌∙◌}
use lib.ListN.{length}
use borrow.Author.Tests.{le-leb}
use Rattle.reader.specs.Index.{version_in, nodes_in}
use Rattle.sheets.specs.Rows.{first_size, sheet_in}
use Rattle.sheets.proofs.SheetLengths.{sheet_short}
use Rattle.sheets.proofs.sheet.sheet_fits.Goals as goal

pub returns-then-most-count : goal.returns-then-most-count
returns-then-most-count c = λ final.
    let table = c.args.labelled.now.expressions.table.now in
    let sheet = sheet_in table c.args.labelled.now.notes.now final in
    let longest : c.first_bytes-most.result + c.first_bytes-most.result * c.count.result ≡ first_size (version_in table) + first_size (version_in table) * nodes_in table =
    ap₂ (λ m k. m + m * k) (c.first_bytes-most.ensures.0 ∙ ap first_size c.version_of.ensures) c.count.ensures.value in
    let short = sheet_short c.args.labelled.now.expressions.admitted c.args.labelled.now.notes.now final in
    le-leb _ c.args.room c.if-most-count.true ∙ sym (le-leb (length sheet) c.args.room (omega (arith, short, longest, c.if-most-count.true)))
