-- P5 on document 01's bounds check, `if i<4 then (j:=a0[i]; x:=a1[j]) else skip`: a wrong guess rolled back, as it stands and hardened; a save
-- that is left open; and a rollback that is not taken. The expected numbers and bytes were worked out from the documents by hand.
use Rattle.std.specs.Prelude.{ℕ, ◌+◌, ◌*◌, ◌≡◌, refl, List, [], ◌∷◌, ◌++◌, replicate}
use Rattle.bytes_le.specs.Numbers.{words}
use Rattle.entries.specs.Answers.{answered}
use Rattle.entries.specs.Running.{Lent, guess_entry}
use Rattle.entries.specs.Rolling.{rollback_entry}
use Rattle.entries.proofs.Open.{opened}
use Rattle.marked_cases.specs.Claims.{refused_run}
use Rattle.marked_cases.specs.BoundsCheck.{bounds_check, bounds_check_hardened, lent_from, lent_after, numbers, force_load_step, step_load_step}
use Rattle.marked_cases.specs.BoundsCheck.{shows_secret, shows_no_secret, shows_own}

-- a directive, and its observation
abbrev pub rollback : List ℕ
rollback =
    4 ∷ 0 ∷ 76 ∷ 0  -- rollback
    ∷ []

abbrev pub shows_rollback : List ℕ
shows_rollback =
    4 ∷ 0 ∷ 67 ∷ 0  -- rolled back
    ∷ []

-- ---- the save slice. A save is 3 variables, 261 cells and 10 pending entries, 274 words; of the hardened table 4, 261 and 42, 307 words.
-- eight places, and two bytes more; all bytes hold 255
abbrev pub saves_lent : (size : ℕ) → List ℕ
saves_lent size = replicate (32 * size + 2) 255

-- the same slice after a run: the words of the open saves, so many zeros to the end of the eight places, and the two bytes as they were
abbrev pub saves_left : (saved : List ℕ) → (zeros : ℕ) → List ℕ
saves_left saved zeros = words (saved ++ replicate zeros 0) ++ (255 ∷ 255 ∷ [])

-- what force saves at the branch, i = 4: the variables, the cells, and the else side, node 8, as all that is pending
abbrev pub else_side : List ℕ
else_side = 4 ∷ 0 ∷ 0 ∷ (replicate 260 0 ++ (77 ∷ 8 ∷ replicate 9 0))

-- ---- what a call answers and leaves, whatever the answer slice
abbrev pub RollsTo : (table directives : List ℕ) → Lent → (saves : List ℕ) → (budget : ℕ)
    → (answer_numbers : List ℕ) → (after : Lent) → (saves_after : List ℕ) → Type 0
RollsTo table directives lent saves budget answer_numbers after saves_after =
    (answer : List ℕ) →
    rollback_entry table directives lent saves budget answer
    ≡ record { ran = record { result = 0; lent = after; answer = answered answer_numbers answer }; saves = saves_after }

-- ---- the cases
-- i = 4 with force, load 2 0, step, rollback: branch 0, read 0 4, read 1 77, rolled back. j is 0 again, the else side skips, and the run
-- finishes with the flag clear
pub rolled_back_lem :
    RollsTo bounds_check (force_load_step ++ rollback) (lent_from 10 (4 ∷ 0 ∷ 0 ∷ [])) (saves_lent 274) 100
    (numbers 1 6 4 30 0 0) (lent_after (replicate 10 0) (4 ∷ 0 ∷ 0 ∷ []) (shows_secret ++ shows_rollback) 10) (saves_left [] (8 * 274))
unfolding opened
rolled_back_lem answer = refl

-- hardened: branch 0, read 0 4, read 1 0, rolled back. It is taken right after the read, before the mask of x; f is 0 again, and stays so
pub hardened_rolled_back :
    RollsTo bounds_check_hardened (force_load_step ++ rollback) (lent_from 42 (4 ∷ 0 ∷ 0 ∷ 0 ∷ [])) (saves_lent 307) 100
    (numbers 1 13 4 30 0 0) (lent_after (replicate 42 0) (4 ∷ 0 ∷ 0 ∷ 0 ∷ []) (shows_no_secret ++ shows_rollback) 10) (saves_left [] (8 * 307))
unfolding opened
hardened_rolled_back answer = refl

-- force, load 2 0, step: the run finishes on the wrong side, with the flag set and the right side in the first place
pub left_open :
    RollsTo bounds_check force_load_step (lent_from 10 (4 ∷ 0 ∷ 0 ∷ [])) (saves_lent 274) 100
    (numbers 1 4 3 26 1 0) (lent_after (replicate 10 0) (4 ∷ 77 ∷ 0 ∷ []) shows_secret 14) (saves_left else_side (7 * 274))
unfolding opened
left_open answer = refl

-- with a rollback next and nothing pending, after 4 steps: spent with a budget of 4, and not finished
pub spent_before_rollback :
    RollsTo bounds_check (force_load_step ++ rollback) (lent_from 10 (4 ∷ 0 ∷ 0 ∷ [])) (saves_lent 274) 4
    (numbers 2 4 3 26 1 0) (lent_after (replicate 10 0) (4 ∷ 77 ∷ 0 ∷ []) shows_secret 14) (saves_left else_side (7 * 274))
unfolding opened
spent_before_rollback answer = refl

-- a rollback with no save open is stuck: with the root, node 9, pending, and with nothing pending, i = 3 after step, load 2 0, step;
-- with budget 0 it is spent
pub nothing_to_roll_back :
    RollsTo bounds_check rollback (lent_from 10 (4 ∷ 0 ∷ 0 ∷ [])) (saves_lent 274) 100
    (numbers 4 0 0 0 0 9) (lent_after (9 ∷ replicate 9 0) (4 ∷ 0 ∷ 0 ∷ []) [] 40) (saves_left [] (8 * 274))
    × RollsTo bounds_check (step_load_step ++ rollback) (lent_from 10 (3 ∷ 5 ∷ 6 ∷ [])) (saves_lent 274) 100
    (numbers 4 4 3 26 0 0) (lent_after (replicate 10 0) (3 ∷ 0 ∷ 0 ∷ []) shows_own 14) (saves_left [] (8 * 274))
    × RollsTo bounds_check rollback (lent_from 10 (4 ∷ 0 ∷ 0 ∷ [])) (saves_lent 274) 0
    (numbers 2 0 0 0 0 9) (lent_after (9 ∷ replicate 9 0) (4 ∷ 0 ∷ 0 ∷ []) [] 40) (saves_left [] (8 * 274))
unfolding opened
nothing_to_roll_back = (λ answer. refl, λ answer. refl, λ answer. refl)

-- eight places exactly suffice, as at budget 0; one byte fewer is 24, whatever the budget, and the save slice too is unchanged
pub one_byte_short :
    RollsTo bounds_check force_load_step (lent_from 10 (4 ∷ 0 ∷ 0 ∷ [])) (replicate 8768 255) 0
    (numbers 2 0 0 0 0 9) (lent_after (9 ∷ replicate 9 0) (4 ∷ 0 ∷ 0 ∷ []) [] 40) (words (replicate (8 * 274) 0))
    × ((budget : ℕ) (answer : List ℕ) →
    rollback_entry bounds_check force_load_step (lent_from 10 (4 ∷ 0 ∷ 0 ∷ [])) (replicate 8767 255) budget answer
    ≡ record { ran = refused_run 24 0 (lent_from 10 (4 ∷ 0 ∷ 0 ∷ [])) answer; saves = replicate 8767 255 })
unfolding opened
one_byte_short = (λ answer. refl, λ budget answer. refl)

-- "The forward machine still refuses 76 by 10", whatever is lent
pub forward_refuses_rollback :
    (lent : Lent) (budget : ℕ) (answer : List ℕ) → guess_entry bounds_check (force_load_step ++ rollback) lent budget answer ≡ refused_run 10 0 lent answer
unfolding opened
forward_refuses_rollback lent budget answer = refl
