-- `check_fields` tests the frame, then all ranges, then all sorts.
use native.Mathlib.Omega.{arith}
use mathlib.Core.Path.{◌≡◌, sym, ◌∙◌}
use mathlib.Core.Bool.{true}
use Rattle.std.specs.List.{list_all}
use Rattle.awhile.specs.Nodes.{field_in_range}
use Rattle.awhile.specs.declared.Header.{Header}
use Rattle.record.specs.RecordRead.{field_of}
use Rattle.std.proofs.lemmas.Result.{err_from_is_err_and}
use Rattle.record.proofs.RecordForms.{all_in_fields, short_fields}
use Rattle.record.proofs.Sorting.{all_there, frame_stops, ranges_stop, sorts_decide}
use Rattle.record.proofs.node.check_fields.Goals as goal

pub returns-in_err-frame : goal.returns-in_err-frame
returns-in_err-frame g c =
    let p = err_from_is_err_and c.from_residual.result c.from_residual.ensures.1 in
    rw (p.1, p.2) (frame_stops _ _ _ _ _ _ _ (rw (short_fields c.args.fields g.row.N (omega arith)) (sym c.frame.ensures ∙ c.in_err-frame.was)))

pub returns-then-not-all_in_range : goal.returns-then-not-all_in_range
returns-then-not-all_in_range g c =
    ranges_stop _ _ _ _ _ _ (rw (short_fields c.args.fields g.row.N (omega arith)) (sym c.frame.ensures ∙ c.in_ok-frame.was))
    (all_in_fields _ _ ∙ sym c.all_in_range.ensures ∙ c.if-not-all_in_range.true)

pub check_sorts-requires : goal.check_sorts-requires
check_sorts-requires g c =
    let h : Header = c.args.header in
    let ranged : list_all (λ f. field_in_range h.variables h.arrays c.args.n (field_of f)) c.args.fields ≡ true = cc in
    (omega arith, all_there _ _ _ _ _ c.requires.2 _ (all_in_fields _ _ ∙ ranged))

pub returns : goal.returns
returns g c =
    sorts_decide _ _ _ _ _ _ (rw (short_fields c.args.fields g.row.N (omega arith)) (sym c.frame.ensures ∙ c.in_ok-frame.was))
    (all_in_fields _ _ ∙ sym c.all_in_range.ensures ∙ c.if-not-all_in_range.false) _ c.check_sorts.ensures
