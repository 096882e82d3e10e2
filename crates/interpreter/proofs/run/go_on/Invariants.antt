-- The run goes on until one of the five ends: what is left to run is always the whole run.
use Prim.Native.Nat.{◌-◌}
use mathlib.Core.Path.{◌≡◌}
use Rattle.stepping.specs.Lending.{SameMemory}
use Rattle.stepping.specs.Stepping.{memory_of}
use Rattle.interpreter.specs.Running.{run_of}
use Rattle.interpreter.proofs.Underway.{Underway}
use Rattle.interpreter.proofs.run.go_on.Given as goal

abbrev pub invariant-loop-next : goal.invariant-loop-next
invariant-loop-next l =
    record {
      underway : Underway l.run.places l.run.directives.now l.run.board l.run.budget l.run.room (run_of l.run.places l.run.directives.now l.run.board l.run.budget (memory_of l.initial.memory) l.run.room) l.initial.memory.pending.now l.initial.saves.bytes.now l.initial.observations l.state (memory_of l.memory) l.saves.bytes.now l.saves.heights l.observations;
      memory : SameMemory l.initial.memory l.memory;
      saves : l.saves.bytes.ghost_name ≡ l.initial.saves.bytes.ghost_name;
      size : l.saves.size ≡ l.initial.saves.size;
    }

abbrev pub decreases-loop-next : goal.decreases-loop-next
decreases-loop-next l = l.run.budget - l.state.steps
