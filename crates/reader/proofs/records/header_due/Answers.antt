-- `header_due` reads the header.
use native.Mathlib.Omega.{arith}
use mathlib.Core.Path.{sym, ◌∙◌}
use Rattle.awhile.proofs.Accepted.{header_fits}
use Rattle.record.proofs.Declaring.{handed_got}
use Rattle.reader.proofs.records.header_due.Goals as goal

-- so many records fit a machine's number
pub overflow_add-result : goal.overflow_add-result
overflow_add-result c = omega (arith, (header_fits _ _ (handed_got _ _ (sym c.read_header.ensures ∙ c.in_ok-header.was))).arrays_fit)

pub overflow_add-result-2 : goal.overflow_add-result-2
overflow_add-result-2 c =
    let fit = header_fits _ _ (handed_got _ _ (sym c.read_header.ensures ∙ c.in_ok-header.was)) in
    omega arith
