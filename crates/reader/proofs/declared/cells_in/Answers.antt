-- `cells_in`: each count stands in its array's record, and no table has more than sixteen arrays.
use native.Mathlib.Numerals.{add-one}
use native.Mathlib.Omega.{arith}
use mathlib.Core.Path.{refl, sym}
use Rattle.awhile.proofs.Versions.{mask_most}
use Rattle.awhile.specs.Lists.{sum as total}
use Rattle.reader.proofs.Admitted.{bytes}
use Rattle.reader.proofs.Declares.{sum_more, has_header}
use Rattle.reader.proofs.Ready.{header_few_arrays, header_count}
use Rattle.reader.proofs.declared.cells_in.Goals as goal

pub loop-a-init : goal.loop-a-init
unfolding total
loop-a-init c = (refl, omega arith)

pub count_start-requires : goal.count_start-requires
count_start-requires c = omega (arith, header_few_arrays (has_header c.requires.0 c.requires.1) (bytes c.requires.0))

pub overflow_add-count_start : goal.overflow_add-count_start
overflow_add-count_start c =
    let few = header_few_arrays (has_header c.requires.0 c.requires.1) (bytes c.requires.0) in
    omega (arith, few, c.count_start.ensures, mask_most c.args.header.version)

pub overflow_add-cells : goal.overflow_add-cells
overflow_add-cells c =
    let few = header_few_arrays (has_header c.requires.0 c.requires.1) (bytes c.requires.0) in
    omega (arith, few)

pub loop-a-preserved : goal.loop-a-preserved
loop-a-preserved c =
    let here = header_count (has_header c.requires.0 c.requires.1) (bytes c.requires.0) c.loop-a.a c.loop-a-test.true in (
      rw (c.u16_at-cells.ensures.0, c.count_start.ensures, ← here, c.loop-a.invariant.0, add-one) (sym (sum_more _ c.loop-a.a)),
      omega arith,
    )
