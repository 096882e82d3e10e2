-- `put_counts` stores the array records that are done so far.
use Prim.Native.Nat.{ℕ, ◌+◌}
use native.Mathlib.Omega.{arith}
use mathlib.Core.List.{List, flat_map}
use mathlib.Core.Path.{refl, sym, ap, ◌∙◌}
use Rattle.bytes_le.specs.Numbers.{le_at}
use Rattle.awhile.specs.declared.Declarations.{Declarations}
use Rattle.awhile.proofs.Versions.{mask_most}
use Rattle.reader.proofs.Admitted.{bytes}
use Rattle.hardener.proofs.TableWrites.{declared_header, measured_arrays, counts_step}
use Rattle.hardener.proofs.tables.put_counts.Goals as goal

pub loop-a-init : goal.loop-a-init
unfolding flat_map
loop-a-init c = refl

pub count_start-from-requires : goal.count_start-from-requires
count_start-from-requires c = omega (arith, measured_arrays c.declared.ensures.admitted c.declared.ensures.value)

pub overflow_add-from : goal.overflow_add-from
overflow_add-from c =
    omega (arith, measured_arrays c.declared.ensures.admitted c.declared.ensures.value, c.count_start-from.ensures, mask_most c.declared.result.header.version)

pub count_start-at-requires : goal.count_start-at-requires
count_start-at-requires c = omega (arith, measured_arrays c.declared.ensures.admitted c.declared.ensures.value)

pub loop-a-preserved : goal.loop-a-preserved
loop-a-preserved c =
    let told = c.declared.ensures in
    counts_step c.args.to (bytes told.admitted) (declared_header told.admitted told.value) (c.requires.0 ∙ sym (ap (λ (d : Declarations). d.header.arrays) told.value))
    c.loop-a.a c.count_start-from.result c.count_start-at.result c.u16_at-count.result c.loop-a-test.true c.count_start-from.ensures c.count_start-at.ensures
    (c.u16_at-count.ensures.0 ∙ ap (λ (s : List ℕ). le_at 2 s (c.count_start-from.result + 4)) c.bytes-bytes.ensures.value)
    c.args.out.now c.loop-a.out c.put_record.new.out c.requires.1 c.loop-a.invariant c.put_record.ensures.0
