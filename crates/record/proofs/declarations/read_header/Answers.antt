-- `read_header` tests the frame, then the fields.
use mathlib.Core.Bool.{true, false}
use mathlib.Core.Path.{sym, ◌∙◌}
use Rattle.std.proofs.lemmas.Result.{err_from_is_err_and}
use Rattle.awhile.specs.Refusals.{as_result, check}
use Rattle.record.proofs.Declaring.{header_refused, header_tested}
use Rattle.record.proofs.declarations.read_header.Goals as goal

pub returns-in_err-frame_of_kind : goal.returns-in_err-frame_of_kind
returns-in_err-frame_of_kind c =
    let p = err_from_is_err_and c.from_residual.result c.from_residual.ensures.1 in
    rw (p.1, p.2) (header_refused _ _ c.requires _ (sym c.frame_of_kind.ensures ∙ c.in_err-frame_of_kind.was))

pub returns-then-not-within_limits : goal.returns-then-not-within_limits
unfolding as_result check
returns-then-not-within_limits c =
    header_tested _ _ c.requires _ _ _ _ false (sym c.frame_of_kind.ensures ∙ c.in_ok-frame_of_kind.was) c.u16_at.ensures.0
    c.byte_at.ensures.0 c.byte_at-2.ensures.0 c.u16_at-2.ensures.0 (sym c.if-not-within_limits.true ∙ c.within_limits.ensures)

pub returns : goal.returns
unfolding as_result check
returns c =
    header_tested _ _ c.requires _ _ _ _ true (sym c.frame_of_kind.ensures ∙ c.in_ok-frame_of_kind.was) c.u16_at.ensures.0
    c.byte_at.ensures.0 c.byte_at-2.ensures.0 c.u16_at-2.ensures.0 (sym c.if-not-within_limits.false ∙ c.within_limits.ensures)
