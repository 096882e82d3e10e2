-- `if i<4 then (j:=a0[i]; x:=a1[j]) else skip` on the guessing machine, as it stands and hardened; redirects in bounds; and the budget 0
-- on both machines.
use Rattle.std.specs.Prelude.{ℕ, ◌*◌, ◌+◌, ◌≡◌, refl, List, [], ◌∷◌, ◌++◌, replicate}
use Rattle.bytes_le.specs.Numbers.{words}
use Rattle.awhile.specs.Language.{note_of}
use Rattle.awhile.specs.Refusals.{got}
use Rattle.awhile.specs.Tables.{Table}
use Rattle.awhile.specs.Trees.{root_of}
use Rattle.machine.specs.Runs.{Guide}
use Rattle.entries.specs.Answers.{answered}
use Rattle.entries.specs.Running.{Lent, running, run_entry, guess_entry}
use Rattle.entries.proofs.Open.{opened}
use Rattle.marked_cases.specs.Claims.{HardensTo, written}

-- `if i<4 then (j:=a0[i]; x:=a1[j]) else skip`: i, j, x are the variables 0 to 2; cells 4, 256, 1; only array 2 is secret
abbrev pub bounds_check : List ℕ
bounds_check =
    10 ∷ 0 ∷ 1 ∷ 0 ∷ 1 ∷ 0 ∷ 3 ∷ 3 ∷ 10 ∷ 0  -- header: version 1, V 3, A 3, N 10
    ∷ 10 ∷ 0 ∷ 3 ∷ 0 ∷ 0 ∷ 0 ∷ 0 ∷ 0 ∷ 4 ∷ 0  -- labels: variable mask 0, array mask 4
    ∷ 6 ∷ 0 ∷ 2 ∷ 0 ∷ 4 ∷ 0  -- array of 4 cells
    ∷ 6 ∷ 0 ∷ 2 ∷ 0 ∷ 0 ∷ 1  -- array of 256 cells
    ∷ 6 ∷ 0 ∷ 2 ∷ 0 ∷ 1 ∷ 0  -- array of 1 cells
    ∷ 6 ∷ 0 ∷ 17 ∷ 0 ∷ 0 ∷ 0  -- 0: variable x0
    ∷ 8 ∷ 0 ∷ 16 ∷ 0 ∷ 4 ∷ 0 ∷ 0 ∷ 0  -- 1: number 4
    ∷ 8 ∷ 0 ∷ 34 ∷ 0 ∷ 0 ∷ 0 ∷ 1 ∷ 0  -- 2: less 0 1
    ∷ 6 ∷ 0 ∷ 17 ∷ 0 ∷ 0 ∷ 0  -- 3: variable x0
    ∷ 10 ∷ 0 ∷ 53 ∷ 0 ∷ 1 ∷ 0 ∷ 0 ∷ 0 ∷ 3 ∷ 0  -- 4: read x1 a0 3
    ∷ 6 ∷ 0 ∷ 17 ∷ 0 ∷ 1 ∷ 0  -- 5: variable x1
    ∷ 10 ∷ 0 ∷ 53 ∷ 0 ∷ 2 ∷ 0 ∷ 1 ∷ 0 ∷ 5 ∷ 0  -- 6: read x2 a1 5
    ∷ 8 ∷ 0 ∷ 50 ∷ 0 ∷ 4 ∷ 0 ∷ 6 ∷ 0  -- 7: sequence 4 6
    ∷ 4 ∷ 0 ∷ 48 ∷ 0  -- 8: skip
    ∷ 10 ∷ 0 ∷ 51 ∷ 0 ∷ 2 ∷ 0 ∷ 7 ∷ 0 ∷ 8 ∷ 0  -- 9: if 2 7 8
    ∷ []

-- hardened; f is variable 3
abbrev pub bounds_check_hardened : List ℕ
bounds_check_hardened =
    10 ∷ 0 ∷ 1 ∷ 0 ∷ 1 ∷ 0 ∷ 4 ∷ 3 ∷ 42 ∷ 0  -- header: version 1, V 4, A 3, N 42
    ∷ 10 ∷ 0 ∷ 3 ∷ 0 ∷ 0 ∷ 0 ∷ 0 ∷ 0 ∷ 4 ∷ 0  -- labels: variable mask 0, array mask 4
    ∷ 6 ∷ 0 ∷ 2 ∷ 0 ∷ 4 ∷ 0  -- array of 4 cells
    ∷ 6 ∷ 0 ∷ 2 ∷ 0 ∷ 0 ∷ 1  -- array of 256 cells
    ∷ 6 ∷ 0 ∷ 2 ∷ 0 ∷ 1 ∷ 0  -- array of 1 cells
    ∷ 6 ∷ 0 ∷ 17 ∷ 0 ∷ 0 ∷ 0  -- 0: variable x0
    ∷ 8 ∷ 0 ∷ 16 ∷ 0 ∷ 4 ∷ 0 ∷ 0 ∷ 0  -- 1: number 4
    ∷ 8 ∷ 0 ∷ 34 ∷ 0 ∷ 0 ∷ 0 ∷ 1 ∷ 0  -- 2: less 0 1
    ∷ 6 ∷ 0 ∷ 17 ∷ 0 ∷ 0 ∷ 0  -- 3: variable x0
    ∷ 8 ∷ 0 ∷ 16 ∷ 0 ∷ 4 ∷ 0 ∷ 0 ∷ 0  -- 4: number 4
    ∷ 8 ∷ 0 ∷ 34 ∷ 0 ∷ 3 ∷ 0 ∷ 4 ∷ 0  -- 5: less 3 4
    ∷ 6 ∷ 0 ∷ 17 ∷ 0 ∷ 3 ∷ 0  -- 6: variable x3
    ∷ 8 ∷ 0 ∷ 16 ∷ 0 ∷ 1 ∷ 0 ∷ 0 ∷ 0  -- 7: number 1
    ∷ 10 ∷ 0 ∷ 21 ∷ 0 ∷ 5 ∷ 0 ∷ 6 ∷ 0 ∷ 7 ∷ 0  -- 8: choice 5 6 7
    ∷ 8 ∷ 0 ∷ 49 ∷ 0 ∷ 3 ∷ 0 ∷ 8 ∷ 0  -- 9: assign x3 8
    ∷ 6 ∷ 0 ∷ 17 ∷ 0 ∷ 0 ∷ 0  -- 10: variable x0
    ∷ 10 ∷ 0 ∷ 53 ∷ 0 ∷ 1 ∷ 0 ∷ 0 ∷ 0 ∷ 10 ∷ 0  -- 11: read x1 a0 10
    ∷ 6 ∷ 0 ∷ 17 ∷ 0 ∷ 3 ∷ 0  -- 12: variable x3
    ∷ 8 ∷ 0 ∷ 16 ∷ 0 ∷ 1 ∷ 0 ∷ 0 ∷ 0  -- 13: number 1
    ∷ 8 ∷ 0 ∷ 33 ∷ 0 ∷ 12 ∷ 0 ∷ 13 ∷ 0  -- 14: equal 12 13
    ∷ 8 ∷ 0 ∷ 16 ∷ 0 ∷ 0 ∷ 0 ∷ 0 ∷ 0  -- 15: number 0
    ∷ 6 ∷ 0 ∷ 17 ∷ 0 ∷ 1 ∷ 0  -- 16: variable x1
    ∷ 10 ∷ 0 ∷ 21 ∷ 0 ∷ 14 ∷ 0 ∷ 15 ∷ 0 ∷ 16 ∷ 0  -- 17: choice 14 15 16
    ∷ 8 ∷ 0 ∷ 49 ∷ 0 ∷ 1 ∷ 0 ∷ 17 ∷ 0  -- 18: assign x1 17
    ∷ 8 ∷ 0 ∷ 50 ∷ 0 ∷ 11 ∷ 0 ∷ 18 ∷ 0  -- 19: sequence 11 18
    ∷ 6 ∷ 0 ∷ 17 ∷ 0 ∷ 1 ∷ 0  -- 20: variable x1
    ∷ 10 ∷ 0 ∷ 53 ∷ 0 ∷ 2 ∷ 0 ∷ 1 ∷ 0 ∷ 20 ∷ 0  -- 21: read x2 a1 20
    ∷ 6 ∷ 0 ∷ 17 ∷ 0 ∷ 3 ∷ 0  -- 22: variable x3
    ∷ 8 ∷ 0 ∷ 16 ∷ 0 ∷ 1 ∷ 0 ∷ 0 ∷ 0  -- 23: number 1
    ∷ 8 ∷ 0 ∷ 33 ∷ 0 ∷ 22 ∷ 0 ∷ 23 ∷ 0  -- 24: equal 22 23
    ∷ 8 ∷ 0 ∷ 16 ∷ 0 ∷ 0 ∷ 0 ∷ 0 ∷ 0  -- 25: number 0
    ∷ 6 ∷ 0 ∷ 17 ∷ 0 ∷ 2 ∷ 0  -- 26: variable x2
    ∷ 10 ∷ 0 ∷ 21 ∷ 0 ∷ 24 ∷ 0 ∷ 25 ∷ 0 ∷ 26 ∷ 0  -- 27: choice 24 25 26
    ∷ 8 ∷ 0 ∷ 49 ∷ 0 ∷ 2 ∷ 0 ∷ 27 ∷ 0  -- 28: assign x2 27
    ∷ 8 ∷ 0 ∷ 50 ∷ 0 ∷ 21 ∷ 0 ∷ 28 ∷ 0  -- 29: sequence 21 28
    ∷ 8 ∷ 0 ∷ 50 ∷ 0 ∷ 19 ∷ 0 ∷ 29 ∷ 0  -- 30: sequence 19 29
    ∷ 8 ∷ 0 ∷ 50 ∷ 0 ∷ 9 ∷ 0 ∷ 30 ∷ 0  -- 31: sequence 9 30
    ∷ 6 ∷ 0 ∷ 17 ∷ 0 ∷ 0 ∷ 0  -- 32: variable x0
    ∷ 8 ∷ 0 ∷ 16 ∷ 0 ∷ 4 ∷ 0 ∷ 0 ∷ 0  -- 33: number 4
    ∷ 8 ∷ 0 ∷ 34 ∷ 0 ∷ 32 ∷ 0 ∷ 33 ∷ 0  -- 34: less 32 33
    ∷ 8 ∷ 0 ∷ 16 ∷ 0 ∷ 1 ∷ 0 ∷ 0 ∷ 0  -- 35: number 1
    ∷ 6 ∷ 0 ∷ 17 ∷ 0 ∷ 3 ∷ 0  -- 36: variable x3
    ∷ 10 ∷ 0 ∷ 21 ∷ 0 ∷ 34 ∷ 0 ∷ 35 ∷ 0 ∷ 36 ∷ 0  -- 37: choice 34 35 36
    ∷ 8 ∷ 0 ∷ 49 ∷ 0 ∷ 3 ∷ 0 ∷ 37 ∷ 0  -- 38: assign x3 37
    ∷ 4 ∷ 0 ∷ 48 ∷ 0  -- 39: skip
    ∷ 8 ∷ 0 ∷ 50 ∷ 0 ∷ 38 ∷ 0 ∷ 39 ∷ 0  -- 40: sequence 38 39
    ∷ 10 ∷ 0 ∷ 51 ∷ 0 ∷ 2 ∷ 0 ∷ 31 ∷ 0 ∷ 40 ∷ 0  -- 41: if 2 31 40
    ∷ []

-- ---- the calls
-- the slices lent for a run of a table of so many nodes: the variables' values; arrays 0 and 1 hold zeros and array 2 holds 77;
-- pending and observation bytes hold 255, one entry more than is needed and 40 bytes
abbrev pub lent_from : (nodes : ℕ) → (variables : List ℕ) → Lent
lent_from nodes variables =
    record {
      variables = words variables;
      cells = words (replicate 260 0 ++ (77 ∷ []));
      pending = replicate (4 * (nodes + 1)) 255;
      observations = replicate 40 255;
    }

-- the same slices after a run: the cells and the bytes beyond what is written are as they were
abbrev pub lent_after : (pending variables shown : List ℕ) → (unshown : ℕ) → Lent
lent_after pending variables shown unshown =
    record {
      variables = words variables;
      cells = words (replicate 260 0 ++ (77 ∷ []));
      pending = words pending ++ replicate 4 255;
      observations = shown ++ replicate unshown 255;
    }

-- the answer of a run: 0, then end, steps, directives used, observation bytes, flag, next node
abbrev pub numbers : (end steps used bytes flag next : ℕ) → List ℕ
numbers end steps used bytes flag next = 0 ∷ end ∷ steps ∷ used ∷ bytes ∷ flag ∷ next ∷ []

-- directives
abbrev pub force_load_step : List ℕ
force_load_step =
    4 ∷ 0 ∷ 73 ∷ 0  -- force
    ∷ 10 ∷ 0 ∷ 74 ∷ 0 ∷ 2 ∷ 0 ∷ 0 ∷ 0 ∷ 0 ∷ 0  -- load 2 0
    ∷ 4 ∷ 0 ∷ 72 ∷ 0  -- step
    ∷ []

-- directives
abbrev pub force_load : List ℕ
force_load =
    4 ∷ 0 ∷ 73 ∷ 0  -- force
    ∷ 10 ∷ 0 ∷ 74 ∷ 0 ∷ 2 ∷ 0 ∷ 0 ∷ 0 ∷ 0 ∷ 0  -- load 2 0
    ∷ []

-- directives
abbrev pub step_load_step : List ℕ
step_load_step =
    4 ∷ 0 ∷ 72 ∷ 0  -- step
    ∷ 10 ∷ 0 ∷ 74 ∷ 0 ∷ 2 ∷ 0 ∷ 0 ∷ 0 ∷ 0 ∷ 0  -- load 2 0
    ∷ 4 ∷ 0 ∷ 72 ∷ 0  -- step
    ∷ []

-- directives
abbrev pub force_load_load : List ℕ
force_load_load =
    4 ∷ 0 ∷ 73 ∷ 0  -- force
    ∷ 10 ∷ 0 ∷ 74 ∷ 0 ∷ 2 ∷ 0 ∷ 0 ∷ 0 ∷ 0 ∷ 0  -- load 2 0
    ∷ 10 ∷ 0 ∷ 74 ∷ 0 ∷ 9 ∷ 0 ∷ 9 ∷ 0 ∷ 0 ∷ 0  -- load 9 9
    ∷ []

-- directives
abbrev pub force_load_beyond : List ℕ
force_load_beyond =
    4 ∷ 0 ∷ 73 ∷ 0  -- force
    ∷ 10 ∷ 0 ∷ 74 ∷ 0 ∷ 2 ∷ 0 ∷ 5 ∷ 0 ∷ 0 ∷ 0  -- load 2 5
    ∷ []

-- observations of the table as it stands, i = 4: the last one is the secret cell
abbrev pub shows_secret : List ℕ
shows_secret =
    6 ∷ 0 ∷ 64 ∷ 0 ∷ 0 ∷ 0  -- branch 0
    ∷ 10 ∷ 0 ∷ 65 ∷ 0 ∷ 0 ∷ 0 ∷ 4 ∷ 0 ∷ 0 ∷ 0  -- read 0 4
    ∷ 10 ∷ 0 ∷ 65 ∷ 0 ∷ 1 ∷ 0 ∷ 77 ∷ 0 ∷ 0 ∷ 0  -- read 1 77
    ∷ []

-- observations of the hardened table, i = 4
abbrev pub shows_no_secret : List ℕ
shows_no_secret =
    6 ∷ 0 ∷ 64 ∷ 0 ∷ 0 ∷ 0  -- branch 0
    ∷ 10 ∷ 0 ∷ 65 ∷ 0 ∷ 0 ∷ 0 ∷ 4 ∷ 0 ∷ 0 ∷ 0  -- read 0 4
    ∷ 10 ∷ 0 ∷ 65 ∷ 0 ∷ 1 ∷ 0 ∷ 0 ∷ 0 ∷ 0 ∷ 0  -- read 1 0
    ∷ []

-- the observation of both, i = 3
abbrev pub shows_branch : List ℕ
shows_branch =
    6 ∷ 0 ∷ 64 ∷ 0 ∷ 1 ∷ 0  -- branch 1
    ∷ []

-- observations of the table as it stands, i = 3, under step, load 2 0, step
abbrev pub shows_own : List ℕ
shows_own =
    6 ∷ 0 ∷ 64 ∷ 0 ∷ 1 ∷ 0  -- branch 1
    ∷ 10 ∷ 0 ∷ 65 ∷ 0 ∷ 0 ∷ 0 ∷ 3 ∷ 0 ∷ 0 ∷ 0  -- read 0 3
    ∷ 10 ∷ 0 ∷ 65 ∷ 0 ∷ 1 ∷ 0 ∷ 0 ∷ 0 ∷ 0 ∷ 0  -- read 1 0
    ∷ []

-- the observation of a branch that goes the wrong way, i = 4
abbrev pub shows_wrong_way : List ℕ
shows_wrong_way =
    6 ∷ 0 ∷ 64 ∷ 0 ∷ 0 ∷ 0  -- branch 0
    ∷ []

-- what a call answers and leaves, whatever the answer slice
abbrev pub RunsTo : (table : List ℕ) → Lent → (budget : ℕ) → (answer_numbers : List ℕ) → (after : Lent) → Type 0
RunsTo table lent budget answer_numbers after =
    (answer : List ℕ) →
    run_entry table lent budget answer ≡ record { result = 0; lent = after; answer = answered answer_numbers answer }

abbrev pub GuessesTo : (table directives : List ℕ) → Lent → (budget : ℕ) → (answer_numbers : List ℕ) → (after : Lent) → Type 0
GuessesTo table directives lent budget answer_numbers after =
    (answer : List ℕ) →
    guess_entry table directives lent budget answer ≡ record { result = 0; lent = after; answer = answered answer_numbers answer }

-- ---- the cases
-- "Plain: branch 0, read 0 4, read 1 77."
pub unhardened_shows_secret :
    GuessesTo bounds_check force_load_step (lent_from 10 (4 ∷ 0 ∷ 0 ∷ [])) 100
    (numbers 1 4 3 26 1 0) (lent_after (replicate 10 0) (4 ∷ 77 ∷ 0 ∷ []) shows_secret 14)
unfolding opened
unhardened_shows_secret answer = refl

-- P: hardened: branch 0, read 0 4, read 1 0. f is 0 at the start and 1 at the end
pub hardened_shows_no_secret :
    HardensTo bounds_check bounds_check_hardened
    × GuessesTo bounds_check_hardened force_load_step (lent_from 42 (4 ∷ 0 ∷ 0 ∷ 0 ∷ [])) 100
    (numbers 1 10 3 26 1 0) (lent_after (replicate 42 0) (4 ∷ 0 ∷ 0 ∷ 1 ∷ []) shows_no_secret 14)
unfolding opened
hardened_shows_no_secret = (written bounds_check_hardened, λ answer. refl)

-- P: i = 3 with force, load: the branch shows 1, the else side skips, and the run finishes with one directive used.
-- The hardened table's run too
pub in_bounds_skips :
    GuessesTo bounds_check force_load (lent_from 10 (3 ∷ 0 ∷ 0 ∷ [])) 100
    (numbers 1 2 1 6 1 0) (lent_after (replicate 10 0) (3 ∷ 0 ∷ 0 ∷ []) shows_branch 34)
    × GuessesTo bounds_check_hardened force_load (lent_from 42 (3 ∷ 0 ∷ 0 ∷ 0 ∷ [])) 100
    (numbers 1 4 1 6 1 0) (lent_after (replicate 42 0) (3 ∷ 0 ∷ 0 ∷ 1 ∷ []) shows_branch 34)
unfolding opened
in_bounds_skips = (λ answer. refl, λ answer. refl)

-- change request P4: i = 3 with step, load 2 0, step. The index 3 is in bounds, so j gets its own cell, 0 and not 77, with the flag clear,
-- and the load is used up
pub load_in_bounds_clear :
    GuessesTo bounds_check step_load_step (lent_from 10 (3 ∷ 5 ∷ 6 ∷ [])) 100
    (numbers 1 4 3 26 0 0) (lent_after (replicate 10 0) (3 ∷ 0 ∷ 0 ∷ []) shows_own 14)
unfolding opened
load_in_bounds_clear answer = refl

-- i = 4 with force, load 2 0, load 9 9. Out of bounds j gets the named cell, 77; that is in bounds of array 1, so x gets its own cell, 0,
-- with the flag set, and that there is no array 9 does not matter
pub load_in_bounds_set :
    GuessesTo bounds_check force_load_load (lent_from 10 (4 ∷ 5 ∷ 6 ∷ [])) 100
    (numbers 1 4 3 26 1 0) (lent_after (replicate 10 0) (4 ∷ 77 ∷ 0 ∷ []) shows_secret 14)
unfolding opened
load_in_bounds_set answer = refl

-- i = 4 with force, load 2 5. Out of bounds the named cell must exist: stuck at the first read, node 4, the load not used
pub load_out_of_bounds_missing :
    GuessesTo bounds_check force_load_beyond (lent_from 10 (4 ∷ 5 ∷ 6 ∷ [])) 100
    (numbers 4 2 1 6 1 4) (lent_after (6 ∷ 4 ∷ replicate 8 0) (4 ∷ 5 ∷ 6 ∷ []) shows_wrong_way 34)
unfolding opened
load_out_of_bounds_missing answer = refl

-- P: budget 0: spent, 0 steps, on both machines. The root, node 9, is still pending
pub budget_zero :
    RunsTo bounds_check (lent_from 10 (4 ∷ 0 ∷ 0 ∷ [])) 0
    (numbers 2 0 0 0 0 9) (lent_after (9 ∷ replicate 9 0) (4 ∷ 0 ∷ 0 ∷ []) [] 40)
    × GuessesTo bounds_check force_load_step (lent_from 10 (4 ∷ 0 ∷ 0 ∷ [])) 0
    (numbers 2 0 0 0 0 9) (lent_after (9 ∷ replicate 9 0) (4 ∷ 0 ∷ 0 ∷ []) [] 40)
unfolding opened
budget_zero = (λ answer. refl, λ answer. refl)

-- the same for every table and every directive list that is accepted
pub budget_zero_anywhere :
    (t : Table) (lent : Lent) (answer : List ℕ) (machine : Guide) →
    (running (got t) lent 0 answer machine).answer ≡ answered (numbers 2 0 0 0 0 (note_of (root_of t))) answer
unfolding opened
budget_zero_anywhere t lent answer machine = refl
