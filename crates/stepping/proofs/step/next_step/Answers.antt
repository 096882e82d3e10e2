-- `next_step` is over for one of the five ends in their order, goes back to a save, saves, or takes the step that `next` takes.
use Rattle.std.proofs.Common.{pos_of_ne-zero, arith}
use Rattle.stepping.proofs.NextSteps.{backs, ends_finished, ends_spent, ends_out, ends_stuck, shows, forces, advances_quietly, steppable, error_of}
use Rattle.std.proofs.lemmas.Result.{err_from_is_err_and}
use Rattle.stepping.proofs.step.next_step.Goals as goal

-- ---- before the look
pub returns-then-rollback_next : goal.returns-then-rollback_next
returns-then-rollback_next c = backs _ _ _ _ _ _ _ c.if-rollback_next.ensures c.requires.shown_fit _ c.back_step.ensures

pub returns-then-count-eq0 : goal.returns-then-count-eq0
returns-then-count-eq0 c = ends_finished _ _ _ _ _ _ _ c.if-rollback_next.ensures c.if-count-eq0.true

pub returns-then-budget-state : goal.returns-then-budget-state
returns-then-budget-state c = ends_spent _ _ _ _ _ _ _ c.if-rollback_next.ensures (pos_of_ne-zero c.if-count-eq0.false) c.if-budget-state.true

-- ---- after it
pub stepped_silently-requires : goal.stepped_silently-requires
stepped_silently-requires c =
    steppable c.requires c.table.ensures.admitted (pos_of_ne-zero c.if-count-eq0.false) c.if-budget-state.false (omega arith) (omega arith) (omega arith) (omega (arith, c.requires.readable.within, c.well_formed))

pub returns-in_err-guided-in-Show : goal.returns-in_err-guided-in-Show
returns-in_err-guided-in-Show c =
    let exit = err_from_is_err_and c.from_residual.result c.from_residual.ensures.1 in
    let absent = c.in_err-guided-in-Show.ensures in
    let looked = rw (c.whole_u32-n.ensures, c.table.ensures.value) at c.in-Show.ensures in
    let out = rw absent.ok_part at c.guide.ensures in
    rw (exit.1, exit.2, error_of absent.ok_part absent.value)
    (ends_out _ _ _ _ _ _ _ c.if-rollback_next.ensures (pos_of_ne-zero c.if-count-eq0.false) c.if-budget-state.false c.requires.used_fit c.requires.shown_fit _ looked out)

pub returns-in_err-forced-in-Show : goal.returns-in_err-forced-in-Show
returns-in_err-forced-in-Show c =
    let exit = err_from_is_err_and c.from_residual-in_err-forced-in-Show.result c.from_residual-in_err-forced-in-Show.ensures.1 in
    let absent = c.in_err-forced-in-Show.ensures in
    let looked = rw (c.whole_u32-n.ensures, c.table.ensures.value) at c.in-Show.ensures in
    let by = rw c.in_ok-guided-in-Show.ensures.ok_part at c.guide.ensures in
    rw (exit.1, exit.2, error_of absent.ok_part absent.value)
    (ends_stuck _ _ _ _ _ _ _ c.if-rollback_next.ensures (pos_of_ne-zero c.if-count-eq0.false) c.if-budget-state.false c.requires.used_fit c.requires.shown_fit _ looked _ _ by c.requires.saved_fit _ c.fitting-fit.ensures absent.ok_part)

pub force_step-requires : goal.force_step-requires
force_step-requires c =
    let by = rw c.in_ok-guided-in-Show.ensures.ok_part at c.guide.ensures in
    (steppable c.requires c.table.ensures.admitted (pos_of_ne-zero c.if-count-eq0.false) c.if-budget-state.false (omega arith) (omega arith) by.few (omega (arith, by.readable.within, c.well_formed)), c.requires.shown_fit)

pub show_step-requires : goal.show_step-requires
show_step-requires c =
    let by = rw c.in_ok-guided-in-Show.ensures.ok_part at c.guide.ensures in
    (steppable c.requires c.table.ensures.admitted (pos_of_ne-zero c.if-count-eq0.false) c.if-budget-state.false (omega arith) (omega arith) by.few (omega (arith, by.readable.within, c.well_formed)), c.requires.shown_fit)

pub returns-in-Quiet : goal.returns-in-Quiet
returns-in-Quiet c =
    let looked = rw (c.whole_u32-n.ensures, c.table.ensures.value) at c.in-Quiet.ensures in
    rw c.stepped_silently.ensures (advances_quietly _ _ _ _ _ _ _ c.if-rollback_next.ensures (pos_of_ne-zero c.if-count-eq0.false) c.if-budget-state.false c.requires.used_fit c.requires.shown_fit c.requires.readable _ looked)

pub returns-in-Forces : goal.returns-in-Forces
returns-in-Forces c =
    let looked = rw (c.whole_u32-n.ensures, c.table.ensures.value) at c.in-Show.ensures in
    let by = rw c.in_ok-guided-in-Show.ensures.ok_part at c.guide.ensures in
    let fit = c.in_ok-forced-in-Show.ensures.ok_part in
    forces _ _ _ _ _ _ _ c.if-rollback_next.ensures (pos_of_ne-zero c.if-count-eq0.false) c.if-budget-state.false c.requires.used_fit c.requires.shown_fit _ looked _ _ by c.requires.saved_fit
    _ c.fitting-fit.ensures _ (rw c.in-Forces.is at fit) _ c.force_step.ensures

pub returns-in-Goes : goal.returns-in-Goes
returns-in-Goes c =
    let looked = rw (c.whole_u32-n.ensures, c.table.ensures.value) at c.in-Show.ensures in
    let by = rw c.in_ok-guided-in-Show.ensures.ok_part at c.guide.ensures in
    let fit = c.in_ok-forced-in-Show.ensures.ok_part in
    shows _ _ _ _ _ _ _ c.if-rollback_next.ensures (pos_of_ne-zero c.if-count-eq0.false) c.if-budget-state.false c.requires.used_fit c.requires.shown_fit _ looked _ _ by c.requires.saved_fit
    _ c.fitting-fit.ensures _ (rw c.in-Goes.is at fit) _ c.show_step.ensures
