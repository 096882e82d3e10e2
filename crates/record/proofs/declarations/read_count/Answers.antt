-- `read_count` tests the frame, then the count.
use mathlib.Core.Bool.{true, false}
use mathlib.Core.Path.{refl, sym, ◌∙◌}
use borrow.Author.Tests.{le-leb, lt-leb}
use Rattle.std.proofs.lemmas.Result.{err_from_is_err_and}
use Rattle.awhile.specs.Refusals.{as_result, check}
use Rattle.record.proofs.Passing.{none_positive, some_positive}
use Rattle.record.proofs.Declaring.{count_refused, count_tested}
use Rattle.record.proofs.declarations.read_count.Goals as goal
use Rattle.record.proofs.declarations.read_count.Goals.{then-count-eq0-via-then-count-eq0, then-count-eq0-via-else-count-eq0+then-before-count-gt-MAX_CELLS}

pub returns-in_err-frame_of_kind : goal.returns-in_err-frame_of_kind
returns-in_err-frame_of_kind c =
    let p = err_from_is_err_and c.from_residual.result c.from_residual.ensures.1 in
    rw (p.1, p.2) (count_refused _ _ _ _ (sym c.frame_of_kind.ensures ∙ c.in_err-frame_of_kind.was))

pub returns-then-count-eq0 : goal.returns-then-count-eq0
unfolding as_result check
returns-then-count-eq0 c =
    elim c.then-count-eq0.branch [
      | then-count-eq0-via-then-count-eq0 w ↦
          count_tested _ _ _ _ false _ (sym c.frame_of_kind.ensures ∙ c.in_ok-frame_of_kind.was) c.u16_at-count.ensures.0 (none_positive _ w.if-count-eq0.true) refl
      | then-count-eq0-via-else-count-eq0+then-before-count-gt-MAX_CELLS w ↦
          count_tested _ _ _ _ true false (sym c.frame_of_kind.ensures ∙ c.in_ok-frame_of_kind.was) c.u16_at-count.ensures.0
          (some_positive _ w.if-count-eq0.false) (lt-leb _ _ w.if-before-count-gt-MAX_CELLS.true)
    ]

pub returns : goal.returns
unfolding as_result check
returns c =
    count_tested _ _ _ _ true true (sym c.frame_of_kind.ensures ∙ c.in_ok-frame_of_kind.was) c.u16_at-count.ensures.0
    (some_positive _ c.if-count-eq0.false) (le-leb _ _ c.if-before-count-gt-MAX_CELLS.false)
