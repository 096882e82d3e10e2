-- `count_of` reads the count from the array's record, and has 0 for an array that is not declared.
use native.Mathlib.Omega.{arith}
use mathlib.Core.Path.{sym, ap, ◌∙◌}
use Prim.Native.Nat.{◌+◌}
use Rattle.bytes_le.specs.Numbers.{le_at}
use Rattle.bytes_le.proofs.Numbers.{slice_bytes}
use Rattle.awhile.proofs.Versions.{mask_most}
use Rattle.reader.proofs.Ready.{header_few_arrays, header_count}
use Rattle.directives.proofs.CellPlaces.{undeclared_count}
use Rattle.directives.proofs.places.count_of.Goals as goal

pub count_start-requires : goal.count_start-requires
count_start-requires c = omega (arith, header_few_arrays c.requires (slice_bytes _ c.shared_slice_known-1.given))

pub overflow_add-count_start : goal.overflow_add-count_start
overflow_add-count_start c = omega (arith, header_few_arrays c.requires (slice_bytes _ c.shared_slice_known-1.given), c.count_start.ensures, mask_most c.args.header.version)

pub returns-then-a-header : goal.returns-then-a-header
returns-then-a-header c =
    c.u16_at.ensures.0 ∙ ap (λ at. le_at 2 c.args.table.now (at + 4)) c.count_start.ensures
    ∙ sym (header_count c.requires (slice_bytes _ c.shared_slice_known-1.given) c.args.a c.if-a-header.true)

pub returns-else-a-header : goal.returns-else-a-header
returns-else-a-header c = undeclared_count c.requires _ c.if-a-header.false
