-- `find_starts`: at every turn the starts noted so far are the sums of the counts before them.
use Rattle.std.proofs.Common.{◌≡◌, ◌+◌, sym, refl, arith}
use Rattle.bytes_le.proofs.Numbers.{slice_bytes}
use Rattle.awhile.specs.Lists.{sum as total}
use Rattle.reader.specs.Index.{table_of}
use Rattle.directives.proofs.CellPlaces.{sum_next, starts_none, starts_more, starts_all, starts_small, counts_few}
use Rattle.directives.proofs.places.find_starts.Goals as goal

pub loop-a-init : goal.loop-a-init
unfolding total
loop-a-init c = (refl, starts_none _)

pub overflow_add-sum : goal.overflow_add-sum
overflow_add-sum c =
    let small = starts_small c.requires (slice_bytes _ c.shared_slice_known-1.given) (c.loop-a.a + 1) in
    omega (arith, sum_next (table_of c.args.table.now).counts c.loop-a.a, c.count_of-sum.ensures, c.loop-a.invariant.0)

pub overflow_cast-starts : goal.overflow_cast-starts
overflow_cast-starts c =
    let small = starts_small c.requires (slice_bytes _ c.shared_slice_known-1.given) (c.loop-a.a + 1) in
    omega (arith, sum_next (table_of c.args.table.now).counts c.loop-a.a, c.count_of-sum.ensures, c.loop-a.invariant.0)

pub loop-a-preserved : goal.loop-a-preserved
loop-a-preserved c =
    let so = c.loop-a.invariant in
    let counts = (table_of c.args.table.now).counts in (
      rw (so.0, c.count_of-sum.ensures) (sym (sum_next counts c.loop-a.a)),
      rw (so.0, c.count_of-sum.ensures) (starts_more counts _ c.loop-a.a (omega arith) so.1),
    )

pub returns : goal.returns
returns c =
    let last : c.loop-a.a ≡ 16 = omega arith in
    starts_all _ _ (counts_few c.requires (slice_bytes _ c.shared_slice_known-1.given)) (rw last at c.loop-a.invariant.1)
