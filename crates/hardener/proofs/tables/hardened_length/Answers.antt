-- `hardened_length` reads the table's length off its root's total.
use Prim.Native.Nat.{ℕ, ◌-◌}
use native.Mathlib.Omega.{arith}
use mathlib.Core.Path.{refl, ap}
use lib.ListN.{get_or}
use Rattle.reader.specs.Index.{nodes_in}
use Rattle.copier.specs.Totals.{bytes_told}
use Rattle.hardener.proofs.TableWrites.{measured_some, measured_total, start_small}
use Rattle.hardener.proofs.tables.hardened_length.Goals as goal

pub overflow_sub-count : goal.overflow_sub-count
unfolding nodes_in
overflow_sub-count c = omega (arith, c.count.ensures.value, measured_some c.count.ensures.admitted refl)

pub overflow_add-result : goal.overflow_add-result
overflow_add-result c = omega (arith, c.hardened_start.ensures.start, c.bytes_told.ensures, start_small c.count.ensures.admitted refl)

pub returns : goal.returns
unfolding nodes_in
returns c =
    omega (
      arith,
      c.hardened_start.ensures.start,
      c.bytes_told.ensures,
      ap (λ (n : ℕ). bytes_told (get_or c.size_all.new.totals (n - 1) 0)) c.count.ensures.value,
      measured_total c.count.ensures.admitted refl c.requires c.size_all.ensures,
    )
