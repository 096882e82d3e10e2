-- `hardened_fits` measures where the largest hardened table would not fit.
use native.Mathlib.Omega.{arith}
use mathlib.Core.Path.{refl, sym, ◌∙◌}
use lib.ListN.{length}
use borrow.Author.Tests.{le-leb}
use Rattle.awhile.specs.Encoding.{table_bytes}
use Rattle.reader.specs.Index.{table_of, nodes_in}
use Rattle.masks.specs.Hardening.{hardened_table}
use Rattle.hardener.proofs.TableWrites.{measured_short, start_small}
use Rattle.hardener.proofs.tables.hardened_fits.Goals as goal

pub overflow_add-hardened_start : goal.overflow_add-hardened_start
overflow_add-hardened_start c =
    omega (arith, c.hardened_start.ensures.start, c.count.ensures.value, c.requires.few, start_small c.count.ensures.admitted refl)

pub returns-then-hardened_start-count : goal.returns-then-hardened_start-count
unfolding nodes_in
returns-then-hardened_start-count c =
    let short = measured_short c.count.ensures.admitted refl c.requires in
    let size = length (table_bytes (hardened_table (table_of c.args.table.now))) in
    le-leb _ _ c.if-hardened_start-count.true ∙ sym (le-leb size c.args.room (omega (arith, short, c.if-hardened_start-count.true, c.hardened_start.ensures.start, c.count.ensures.value)))

pub returns-else-hardened_start-count : goal.returns-else-hardened_start-count
returns-else-hardened_start-count c = rw c.hardened_length.ensures
