-- `read_node` makes the tests of a node's record, once its kind tells which fields it has.
use mathlib.Core.Path.{sym, ◌∙◌}
use Rattle.std.proofs.lemmas.Result.{err_from_is_err_and}
use Rattle.record.proofs.RecordForms.{same_fields}
use Rattle.record.proofs.Sorting.{unknown_read, record_refused, record_read}
use Rattle.record.proofs.node.read_node.Goals as goal

pub returns-in_default : goal.returns-in_default
returns-in_default c =
    unknown_read _ _ _ _ _ _ (sym c.decode_at.ensures ∙ c.in_default.is) c.refuse_kind.ensures

pub returns-in_err-check_record : goal.returns-in_err-check_record
returns-in_err-check_record c =
    let p = err_from_is_err_and c.from_residual.result c.from_residual.ensures.1 in
    rw (p.1, p.2) (record_refused _ _ _ _ _ _ (sym c.decode_at.ensures ∙ c.in-Some.is) _ (same_fields _ c.form_of-form.result c.form_of-form.ensures) _
    (rw c.in_err-check_record.was at c.check_record.ensures))

pub returns : goal.returns
returns c =
    record_read _ _ _ _ _ _ (sym c.decode_at.ensures ∙ c.in-Some.is) _ (same_fields _ c.form_of-form.result c.form_of-form.ensures)
    (rw c.in_ok-check_record.was at c.check_record.ensures)
