-- What stands in lent memory after a run, and the run's numbers.
use Rattle.std.specs.Prelude.{ℕ, ◌*◌, ◌-◌, cond, length, drop, replicate}
use mathlib.Core.List.{List, [], ◌∷◌, ◌++◌, map, flat_map, reverse}
use Rattle.bytes_le.specs.Numbers.{words}
use Rattle.awhile.specs.Language.{Com, note_of}
use Rattle.machine.specs.Observations.{shown_bytes}
use Rattle.machine.specs.Steps.{State}
use Rattle.machine.specs.Runs.{max_saves, Outcome, end_number}

-- "The first N pending entries hold the list, then zeros": the next command's entry is the last
unfoldable pub pending_words : (nodes : ℕ) → List (Com ℕ) → List ℕ
pending_words n cs = map note_of (reverse cs) ++ replicate (n - length cs) 0

-- "entries beyond N .. are unchanged"
unfoldable pub pending_after : (nodes : ℕ) → List (Com ℕ) → List ℕ → List ℕ
pending_after n cs slice = words (pending_words n cs) ++ drop (4 * n) slice

-- "each as variables, cells and N pending entries padded with zeros"
unfoldable pub save_words : (nodes : ℕ) → State ℕ → List ℕ
save_words n s = s.variables ++ (s.cells ++ pending_words n s.pending)

-- "the save words hold the open saves, oldest first ..; the rest of the eight places is zeros, and words beyond are unchanged".
-- A place has so many words; the newest save is the first of the list
unfoldable pub saves_after : (nodes size : ℕ) → List (State ℕ) → (slice : List ℕ) → List ℕ
saves_after n size ss slice = words (flat_map (save_words n) (reverse ss) ++ replicate ((max_saves - length ss) * size) 0) ++ drop (4 * max_saves * size) slice

-- bytes written at the front of a slice; "bytes beyond are unchanged"
unfoldable pub written_over : (written slice : List ℕ) → List ℕ
written_over bytes slice = bytes ++ drop (length bytes) slice

-- "the next node (0 if nothing is pending)"
unfoldable pub next_node : List (Com ℕ) → ℕ
next_node [] = 0
next_node (c ∷ cs) = note_of c

-- "The answer is this end, steps, directives used, observation bytes, flag, and the next node"
unfoldable pub run_numbers : Outcome ℕ → List ℕ
run_numbers o =
    end_number o.end
    ∷ o.machine.steps
    ∷ o.machine.used
    ∷ length (shown_bytes o.machine.shown)
    ∷ cond o.machine.state.flag 1 0
    ∷ next_node o.machine.state.pending
    ∷ []
