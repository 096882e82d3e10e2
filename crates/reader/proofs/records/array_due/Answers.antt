-- `array_due` reads an array's record.
use native.Mathlib.Omega.{arith}
use mathlib.Core.Path.{sym, ◌∙◌}
use Rattle.awhile.proofs.Accepted.{count_fits}
use Rattle.record.proofs.Declaring.{handed_got}
use Rattle.reader.proofs.records.array_due.Goals as goal

-- the cells stay within the limit
pub overflow_add-result : goal.overflow_add-result
overflow_add-result c = omega (arith, (count_fits _ _ _ _ (handed_got _ _ (sym c.read_count.ensures ∙ c.in_ok-count.was))).total)
