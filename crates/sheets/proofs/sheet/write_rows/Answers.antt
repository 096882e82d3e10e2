-- `write_rows` writes one row behind the other, where all fit.
use Prim.Native.Nat.{◌+◌, ◌<◌}
use native.Mathlib.Omega.{arith}
use mathlib.Core.List.{flat_map}
use mathlib.Core.Path.{◌≡◌, refl, ap, ◌∙◌}
use lib.ListN.{length}
use lib.Seq.{sets}
use Rattle.reader.specs.Index.{version_in, nodes_in}
use Rattle.labels.specs.Sheet.{records_below}
use Rattle.analysis.specs.Notes.{noted_program}
use Rattle.sheets.specs.Rows.{first_size, rows_in}
use Rattle.sheets.proofs.SheetLengths.{bytes_below, length_next, rows_next, row_early, own_row}
use Rattle.sheets.proofs.sheet.write_rows.Goals as goal

pub loop-n-init : goal.loop-n-init
unfolding records_below flat_map
loop-n-init c = let first = c.first_bytes-at.ensures.0 ∙ ap first_size c.version_of.ensures in (omega (arith, first), λ fits. refl)

pub put_row-at-requires : goal.put_row-at-requires
put_row-at-requires c =
    let inside : c.loop-n.n < nodes_in c.args.labelled.now.expressions.table.now = omega (arith, c.loop-n-test.true, c.count-n-end.ensures.value) in
    let early = row_early c.args.labelled.now.expressions.admitted c.args.labelled.now.notes.now c.loop-n.n c.loop-n.at inside c.loop-n.invariant.0 in
    (inside, omega (arith, early))

pub loop-n-preserved : goal.loop-n-preserved
loop-n-preserved c =
    let table = c.args.labelled.now.expressions.table.now in
    let notes = c.args.labelled.now.notes.now in
    let inside : c.loop-n.n < nodes_in table = omega (arith, c.loop-n-test.true, c.count-n-end.ensures.value) in
    let own = own_row c.args.labelled.now.expressions.admitted notes c.loop-n.n inside in
    let put = c.put_row-at.ensures in (
      omega (arith, c.loop-n.invariant.0, put.ends, length_next (version_in table) (noted_program table notes) c.loop-n.n own),
      rows_next (version_in table) (noted_program table notes) c.loop-n.n (nodes_in table) _ _ own inside _ _ _ c.loop-n.auto.out c.loop-n.invariant.0 put
          c.loop-n.invariant.1,
    )

pub returns : goal.returns
unfolding rows_in
returns c =
    let table = c.args.labelled.now.expressions.table.now in
    let first = first_size (version_in table) in
    let below = bytes_below (version_in table) (noted_program table c.args.labelled.now.notes.now) in
    let all : c.loop-n.n ≡ nodes_in table = omega (arith, c.loop-n.auto.n-end, c.loop-n-test.false, c.count-n-end.ensures.value) in
    record {
      ends = c.loop-n.invariant.0 ∙ ap (λ k. first + length (below k)) all;
      stored = λ fits. c.loop-n.invariant.1 fits ∙ ap (λ k. sets c.args.out.now first (below k)) all;
    }
