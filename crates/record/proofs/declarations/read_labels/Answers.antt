-- `read_labels` tests the frame, then the masks.
use mathlib.Core.Bool.{true, false}
use mathlib.Core.Path.{refl, sym, ◌∙◌}
use Rattle.std.proofs.lemmas.Result.{err_from_is_err_and}
use Rattle.awhile.specs.Refusals.{as_result, check}
use Rattle.record.proofs.Declaring.{labels_refused, labels_tested}
use Rattle.record.proofs.declarations.read_labels.Goals as goal
use Rattle.record.proofs.declarations.read_labels.Goals.{then-not-mask_fits-via-then-not-mask_fits, then-not-mask_fits-via-else-not-mask_fits+then-not-mask_fits-2}

pub returns-in_err-frame_of_kind : goal.returns-in_err-frame_of_kind
returns-in_err-frame_of_kind c =
    let p = err_from_is_err_and c.from_residual.result c.from_residual.ensures.1 in
    rw (p.1, p.2) (labels_refused _ _ _ _ _ c.labels_bytes.ensures.0 (sym c.frame_of_kind.ensures ∙ c.in_err-frame_of_kind.was))

pub returns-then-not-mask_fits : goal.returns-then-not-mask_fits
unfolding as_result check
returns-then-not-mask_fits c =
    elim c.then-not-mask_fits.branch [
      | then-not-mask_fits-via-then-not-mask_fits w ↦
          labels_tested _ _ _ _ _ _ _ false _ c.labels_bytes.ensures.0 c.mask_bytes.ensures.0 (sym c.frame_of_kind.ensures ∙ c.in_ok-frame_of_kind.was)
          c.mask_at-variables.ensures c.u16_at-arrays.ensures.0 (sym w.if-not-mask_fits.true ∙ c.mask_fits.ensures) refl
      | then-not-mask_fits-via-else-not-mask_fits+then-not-mask_fits-2 w ↦
          labels_tested _ _ _ _ _ _ _ true false c.labels_bytes.ensures.0 c.mask_bytes.ensures.0 (sym c.frame_of_kind.ensures ∙ c.in_ok-frame_of_kind.was)
          c.mask_at-variables.ensures c.u16_at-arrays.ensures.0 (sym w.if-not-mask_fits.false ∙ c.mask_fits.ensures)
          (sym w.if-not-mask_fits-2.true ∙ w.mask_fits-else-not-mask_fits.ensures)
    ]

pub returns : goal.returns
unfolding as_result check
returns c =
    labels_tested _ _ _ _ _ _ _ true true c.labels_bytes.ensures.0 c.mask_bytes.ensures.0 (sym c.frame_of_kind.ensures ∙ c.in_ok-frame_of_kind.was)
    c.mask_at-variables.ensures c.u16_at-arrays.ensures.0
    (sym c.if-not-mask_fits.false ∙ c.mask_fits.ensures) (sym c.if-not-mask_fits-2.false ∙ c.mask_fits-else-not-mask_fits.ensures)
