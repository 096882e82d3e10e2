-- The run goes on until one of the five ends: what is left to run is always the whole run.
use mathlib.Core.Path.{refl, ap}
use native.Mathlib.Omega.{arith}
use Rattle.stepping.specs.Stepping.{undone_state}
use Rattle.stepping.specs.declared.state.MachineState.{MachineState}
use Rattle.interpreter.proofs.Underway.{underway_start, underway_over}
use Rattle.interpreter.proofs.ProgramSteps.{next_seen, perform_fits, show_fits, underway_next}
use Rattle.interpreter.proofs.SavedSteps.{place_offset, save_fits, underway_saved, restore_fits, undoable, underway_back}
use Rattle.std.specs.Prelude.{Ok}
use Rattle.interpreter.proofs.run.go_on.Goals as goal

pub loop-next-init : goal.loop-next-init
loop-next-init c =
    record {
      underway = rw c.start-state.ensures (underway_start c.requires.0.admitted c.requires.2 c.requires.0 c.requires.1);
      memory = (refl, refl, refl, refl, refl, refl);
      saves = refl;
      size = refl;
    }

pub next_step-requires : goal.next_step-requires
next_step-requires c = rw c.view-view.ensures c.loop-next.invariant.underway.between

-- ---- the run is over
pub returns-in-Err-clause-stopped : goal.returns-in-Err-clause-stopped
returns-in-Err-clause-stopped c =
    let u = c.loop-next.invariant.underway in
    record {
      seen = u.seen;
      is_outcome = rw (← c.requires.2) (underway_over c.requires.0.admitted u (rw c.view-view.ensures at c.in-Err.ensures));
      is_shown = u.is_shown;
      observations = u.written;
      few = u.between.few;
      entries = u.between.entries;
      beyond = u.beyond;
      few_saves = u.between.saved_fit;
      places = u.saved.holds;
      saves_beyond = u.saved.beyond;
      variables_long = omega (arith, u.between.variables_long, c.requires.0.between.variables_long);
      cells_long = omega (arith, u.between.cells_long, c.requires.0.between.cells_long);
      pending_long = u.same;
      saves_long = u.saved.same;
    }

-- ---- a step of the program
pub show-requires : goal.show-requires
show-requires c = show_fits c.requires.0.admitted c.loop-next.invariant.underway (rw c.in-Goes.is at (next_seen _ _ _ _ _ _ (Ok c.in-Ok.next) c.view-view.ensures c.in-Ok.ensures))

pub perform-requires : goal.perform-requires
perform-requires c = perform_fits c.requires.0.admitted c.loop-next.invariant.underway (rw c.in-Goes.is at (next_seen _ _ _ _ _ _ (Ok c.in-Ok.next) c.view-view.ensures c.in-Ok.ensures))

pub loop-next-preserved-in-Goes : goal.loop-next-preserved-in-Goes
loop-next-preserved-in-Goes c =
    record {
      underway = underway_next c.requires.0.admitted c.loop-next.invariant.underway (rw c.in-Goes.is at (next_seen _ _ _ _ _ _ (Ok c.in-Ok.next) c.view-view.ensures c.in-Ok.ensures)) c.perform.ensures.performed c.show.ensures;
      memory = (cc, cc, cc, cc, cc, cc);
      saves = c.loop-next.invariant.saves;
      size = c.loop-next.invariant.size;
    }

-- ---- a force that saves
pub save_forced-requires : goal.save_forced-requires
save_forced-requires c = save_fits c.requires.0.admitted c.loop-next.invariant.underway (rw c.in-Saves.is at (next_seen _ _ _ _ _ _ (Ok c.in-Ok.next) c.view-view.ensures c.in-Ok.ensures)) (rw c.loop-next.invariant.size (place_offset c.requires.1 _))

pub loop-next-preserved-in-Saves : goal.loop-next-preserved-in-Saves
loop-next-preserved-in-Saves c =
    record {
      underway = rw c.save_forced.ensures.others (underway_saved c.requires.0.admitted c.loop-next.invariant.underway (rw c.in-Saves.is at (next_seen _ _ _ _ _ _ (Ok c.in-Ok.next) c.view-view.ensures c.in-Ok.ensures)) (rw c.loop-next.invariant.size (place_offset c.requires.1 _)) c.save_forced.ensures.saved c.show_branch.ensures);
      memory = (cc, cc, cc, cc, cc, cc);
      saves = cc;
      size = cc;
    }

-- ---- a rollback
pub take_back-high-requires : goal.take_back-high-requires
take_back-high-requires c =
    let u = c.loop-next.invariant.underway in
    let undoes = rw c.in-Undoes.is at (next_seen _ _ _ _ _ _ (Ok c.in-Ok.next) c.view-view.ensures c.in-Ok.ensures) in
    (omega (arith, undoes.some, u.between.saved_fit), restore_fits c.requires.0.admitted u undoes (rw c.loop-next.invariant.size (place_offset c.requires.1 _)))

pub undone-state-requires : goal.undone-state-requires
undone-state-requires c =
    undoable c.requires.0.admitted c.loop-next.invariant.underway (rw c.in-Undoes.is at (next_seen _ _ _ _ _ _ (Ok c.in-Ok.next) c.view-view.ensures c.in-Ok.ensures)) c.requires.0.budget_fits (omega arith) (omega arith)

pub loop-next-smaller : goal.loop-next-smaller
unfolding undone_state
loop-next-smaller c =
    let one = ap (λ (s : MachineState). s.steps) c.undone-state.ensures in
    let undoes = rw c.in-Undoes.is at (next_seen _ _ _ _ _ _ (Ok c.in-Ok.next) c.view-view.ensures c.in-Ok.ensures) in
    omega (arith, undoes.steps_fit)

pub loop-next-preserved : goal.loop-next-preserved
loop-next-preserved c =
    record {
      underway = underway_back c.requires.0.admitted c.loop-next.invariant.underway (rw c.in-Undoes.is at (next_seen _ _ _ _ _ _ (Ok c.in-Ok.next) c.view-view.ensures c.in-Ok.ensures)) _ (rw c.loop-next.invariant.size (place_offset c.requires.1 _)) c.take_back-high.ensures.restored c.show_rollback.ensures (rw (← c.take_back-high.ensures.height) c.undone-state.ensures);
      memory = (cc, cc, cc, cc, cc, cc);
      saves = c.loop-next.invariant.saves;
      size = c.loop-next.invariant.size;
    }
