-- `check_sorts` tests one field after the other.
use native.Mathlib.Omega.{arith}
use Rattle.std.proofs.Common.{true, false}
use Rattle.std.proofs.lemmas.Result.{err_from_is_err_and}
use Rattle.record.proofs.RecordForms.{fields_next, fields_end}
use Rattle.record.proofs.Sorting.{nothing_sorted, sorted_never, sorted_more}
use Rattle.record.proofs.node.check_sorts.Goals as goal

-- a field that is not of the wanted sort decides
pub returns-in_err-check_child : goal.returns-in_err-check_child
returns-in_err-check_child g c =
    let next = fields_next c.args.fields c.loop-field.field-index (omega arith) in
    let p = err_from_is_err_and c.from_residual.result c.from_residual.ensures.1 in
    let stopped = rw c.in_err-check_child.was at c.check_child.ensures in
    rw (p.1, p.2) (stopped.0, c.loop-field.invariant.1 false (rw next (sorted_never _ _ _ _ stopped.1)))

pub loop-field-preserved : goal.loop-field-preserved
loop-field-preserved g c =
    let next = fields_next c.args.fields c.loop-field.field-index (omega arith) in (
      (rw next at c.loop-field.invariant.0).1,
      λ r h. c.loop-field.invariant.1 r (rw next (sorted_more _ _ _ _ true r (rw c.in_ok-check_child.was at c.check_child.ensures) h)),
    )

pub returns : goal.returns
returns g c =
    let none = fields_end c.args.fields c.loop-field.field-index (omega arith) in
    c.loop-field.invariant.1 true (rw none (nothing_sorted _ _))
