-- The machines, computed on small programs.
use Prim.Native.Nat.{ℕ}
use mathlib.Core.Bool.{Bool, true, false}
use mathlib.Core.Path.{◌≡◌, refl}
use mathlib.Core.Option.{none, some}
use mathlib.Core.List.{List, [], ◌∷◌, ◌++◌}
use lib.ListN.{replicate}
use Rattle.bytes_le.specs.Numbers.{words}
use Rattle.awhile.specs.Language.{constant, number, Com, skip, sequence, if, while, read, write}
use Rattle.machine.specs.Observations.{branch, read_at, write_at}
use Rattle.machine.specs.Directives.{read_rolling_directives, read_directives}
use Rattle.machine.specs.Runs.{Guide, plain, guessing, rolling, Room, endless, bytes, Outcome, run, started}
use Rattle.machine.specs.Memory.{saves_after, run_numbers}
use Rattle.machine.specs.declared.Directive.{Directive}
use Rattle.machine.specs.declared.Directive.TheVariants.{Step, Force, Load, Store, Rollback}
use Rattle.machine.specs.declared.End.TheVariants.{Finished, Spent, Stuck}
use Rattle.machine.proofs.Open.{opened}

-- the run of a program with one variable, 0, and one array of two cells, 5 and 6, with a budget of 9
abbrev outcome : Com ℕ → Guide → Outcome ℕ
outcome c guide = run (2 ∷ []) endless 9 (started c (0 ∷ []) (5 ∷ 6 ∷ []) guide)

-- `x0:=a0[1]; skip` on the plain machine: it finishes after three steps, with 6 in the variable
pub read_finishes :
    outcome (sequence 3 (read 1 0 0 (number 1)) (skip 2)) plain
    ≡ record {
      end = Finished;
      machine = record {
        state = record { pending = []; variables = 6 ∷ []; cells = 5 ∷ 6 ∷ []; flag = false };
        saves = [];
        guide = plain;
        steps = 3;
        used = 0;
        shown = read_at 0 1 ∷ [];
      };
    }
unfolding opened
read_finishes = refl

-- `if true then skip else skip` under force: the other side is taken, and the condition is what is shown
pub condition_shown : (outcome (if 3 (constant true) (skip 1) (skip 2)) (guessing (Force ∷ []))).machine.shown ≡ branch true ∷ []
unfolding opened
condition_shown = refl

-- `if false then x0:=a0[1] else skip` under force, load 0 0: the index is in bounds, so the read takes its own cell, 6 and not 5, and uses
-- the load up. By document 01's rule, before change request P4, this run was stuck at the read
pub load_in_bounds_own :
    outcome (if 3 (constant false) (read 1 0 0 (number 1)) (skip 2)) (guessing (Force ∷ Load 0 0 ∷ []))
    ≡ record {
      end = Finished;
      machine = record {
        state = record { pending = []; variables = 6 ∷ []; cells = 5 ∷ 6 ∷ []; flag = true };
        saves = [];
        guide = guessing [];
        steps = 2;
        used = 2;
        shown = branch false ∷ read_at 0 1 ∷ [];
      };
    }
unfolding opened
load_in_bounds_own = refl

-- `a0[0]:=9` under store 7 3, with the flag clear and no array 7: the write takes its own cell and uses the store up
pub store_in_bounds_own :
    outcome (write 0 0 (number 0) (number 9)) (guessing (Store 7 3 ∷ []))
    ≡ record {
      end = Finished;
      machine = record {
        state = record { pending = []; variables = 0 ∷ []; cells = 9 ∷ 6 ∷ []; flag = false };
        saves = [];
        guide = guessing [];
        steps = 1;
        used = 1;
        shown = write_at 0 0 ∷ [];
      };
    }
unfolding opened
store_in_bounds_own = refl

-- `x0:=a0[1]` under store 0 1: a store does not fit a read, in bounds or not
pub store_at_a_read_stuck : (outcome (read 0 0 0 (number 1)) (guessing (Store 0 1 ∷ []))).end ≡ Stuck
unfolding opened
store_at_a_read_stuck = refl

-- `x0:=a0[2]` without room for its observation: the index is not below the cell count, and stuck is tested before full
pub stuck_before_full : (run {Note = ℕ} (2 ∷ []) (bytes 0) 9 (started (read 0 0 0 (number 2)) (0 ∷ []) (5 ∷ 6 ∷ []) plain)).end ≡ Stuck
unfolding opened
stuck_before_full = refl

-- ---- wrong guesses rolled back (change request P5)
-- `if true then skip else a0[0]:=9` under a list of directives
abbrev forked : List Directive → Outcome ℕ
forked ds = outcome (if 5 (constant true) (skip 1) (write 4 0 (number 0) (number 9))) (rolling ds)

-- force: the write is pending, and the saved state has the skip pending, with the flag as it was before
pub right_side_saved :
    (forked (Force ∷ [])).machine.saves ≡ record { pending = skip 1 ∷ []; variables = 0 ∷ []; cells = 5 ∷ 6 ∷ []; flag = false } ∷ []
unfolding opened
right_side_saved = refl

-- force, step, rollback: the cell that the wrong side wrote has its old value again
pub cells_restored : (forked (Force ∷ Step ∷ Rollback ∷ [])).machine.state.cells ≡ 5 ∷ 6 ∷ []
unfolding opened
cells_restored = refl

-- after the last rollback the flag is clear
pub flag_cleared_by_last_rollback : (forked (Force ∷ Rollback ∷ [])).machine.state.flag ≡ false
unfolding opened
flag_cleared_by_last_rollback = refl

-- the answer: finished after a force, the write, the rollback and the skip, with three directives used; the branch, the write and the
-- rollback took 6, 10 and 4 bytes; the flag is clear and nothing is pending
pub rolled_back_answer : run_numbers (forked (Force ∷ Step ∷ Rollback ∷ [])) ≡ 1 ∷ 4 ∷ 3 ∷ 20 ∷ 0 ∷ 0 ∷ []
unfolding opened
rolled_back_answer = refl

-- `if true then skip else skip` under force, rollback: the forced side's skip is never stepped, so the run finishes after three steps
pub rollback_before_silent_steps : (outcome (if 3 (constant true) (skip 1) (skip 2)) (rolling (Force ∷ Rollback ∷ []))).machine.steps ≡ 3
unfolding opened
rollback_before_silent_steps = refl

-- `while true do skip` and `while false do skip` with a budget, under a list of directives
abbrev looped : Bool → Room → (budget : ℕ) → List Directive → Outcome ℕ
looped b room n ds = run [] room n (started (while 2 (constant b) (skip 1)) [] [] (rolling ds))

-- `while true do skip` under force, rollback: after the force nothing is pending, and 76 is next. Budget for one step: spent
pub spent_before_rollback : (looped true endless 1 (Force ∷ Rollback ∷ [])).end ≡ Spent
unfolding opened
spent_before_rollback = refl

-- budget for two: the second step goes back, to the body and then the loop
pub rollback_with_nothing_pending : run_numbers (looped true endless 2 (Force ∷ Rollback ∷ [])) ≡ 2 ∷ 2 ∷ 2 ∷ 10 ∷ 0 ∷ 1 ∷ []
unfolding opened
rollback_with_nothing_pending = refl

-- nine bytes of room hold the branch's 6 and not the rollback's 4 as well: full, and nothing of the rollback happens
pub rollback_full : run_numbers (looped true (bytes 9) 9 (Force ∷ Rollback ∷ [])) ≡ 5 ∷ 1 ∷ 1 ∷ 6 ∷ 1 ∷ 0 ∷ []
unfolding opened
rollback_full = refl

-- `while true do skip` under force alone: finished, with the save still open and so the flag set
pub finished_with_a_save_open : run_numbers (looped true endless 9 (Force ∷ [])) ≡ 1 ∷ 1 ∷ 1 ∷ 6 ∷ 1 ∷ 0 ∷ []
unfolding opened
finished_with_a_save_open = refl

-- `while false do skip` under step, rollback: nothing is pending and no save is open, which is stuck and not finished
pub rollback_without_a_save_stuck : run_numbers (looped false endless 9 (Step ∷ Rollback ∷ [])) ≡ 4 ∷ 1 ∷ 1 ∷ 6 ∷ 0 ∷ 0 ∷ []
unfolding opened
rollback_without_a_save_stuck = refl

-- `while false do skip` under nine forces, with 48 bytes of room: eight of them open a save and enter the body, in 16 steps and 48 bytes.
-- The ninth is stuck at the loop, and not full, although its observation has no room
pub ninth_force_stuck :
    run_numbers (looped false (bytes 48) 99 (Force ∷ Force ∷ Force ∷ Force ∷ Force ∷ Force ∷ Force ∷ Force ∷ Force ∷ [])) ≡ 4 ∷ 16 ∷ 8 ∷ 48 ∷ 1 ∷ 2 ∷ []
unfolding opened
ninth_force_stuck = refl

-- two saves of one variable, one cell and N = 2 in memory, the newer one first in the list: the older one takes the first of the eight places.
-- Its one pending entry is padded by a zero; of the newer one's two, node 4 is next and stands last. Six places are zeros, and what is beyond stays
pub oldest_save_first :
    saves_after
    2
    4
    (record { pending = skip 4 ∷ skip 3 ∷ []; variables = 21 ∷ []; cells = 22 ∷ []; flag = true }
    ∷ record { pending = skip 1 ∷ []; variables = 11 ∷ []; cells = 12 ∷ []; flag = false } ∷ [])
    (replicate 129 7)
    ≡ words (11 ∷ 12 ∷ 1 ∷ 0 ∷ 21 ∷ 22 ∷ 3 ∷ 4 ∷ []) ++ (replicate 96 0 ++ (7 ∷ []))
unfolding opened
oldest_save_first = refl

-- the list of one rollback: the rolling machine takes it, the guessing machine refuses it
pub rolling_list_takes_rollback : read_rolling_directives (4 ∷ 0 ∷ 76 ∷ 0 ∷ []) ≡ some (Rollback ∷ [])
unfolding opened
rolling_list_takes_rollback = refl

pub guessing_list_refuses_rollback : read_directives (4 ∷ 0 ∷ 76 ∷ 0 ∷ []) ≡ none
unfolding opened
guessing_list_refuses_rollback = refl
