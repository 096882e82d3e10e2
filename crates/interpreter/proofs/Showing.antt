-- What was shown so far, at the front of the observation buffer.
use Prim.Native.Nat.{ℕ, ◌+◌, ◌≤◌}
use native.Mathlib.Omega.{arith}
use mathlib.Core.Path.{◌≡◌, refl, sym, ◌∙◌}
use mathlib.Core.List.{List, [], ◌∷◌, ◌++◌, flat_map, append-nil, append_assoc}
use lib.ListN.{length, drop, length-append, length-drop}
use lib.Seq.{sets, sets-eq, take-append_seam, drop-append-add, drop-drop}
use Rattle.machine.specs.Observations.{Observation, observation_bytes, shown_bytes}
use Rattle.machine.specs.Memory.{written_over}
use Rattle.stepping.specs.Actions.{observation_of}
use Rattle.stepping.specs.Stepping.{seen_list}
use Rattle.interpreter.specs.Effects.{seen_bytes}
use Rattle.directives.specs.declared.change.Shown.{Shown}
use Rattle.std.specs.Prelude.{Option, Some, None}

pub shown_append : (os ps : List Observation) → shown_bytes (os ++ ps) ≡ shown_bytes os ++ shown_bytes ps
unfolding shown_bytes flat_map
shown_append [] ps = refl
shown_append (o ∷ os) ps = rw (shown_append os ps) (sym (append_assoc (observation_bytes o) (shown_bytes os) (shown_bytes ps)))

pub seen_bytes_lem : (seen : Option Shown) → shown_bytes (seen_list seen) ≡ seen_bytes seen
unfolding shown_bytes flat_map seen_list seen_bytes
seen_bytes_lem None = refl
seen_bytes_lem (Some s) = append-nil (observation_bytes (observation_of s))

-- a record written behind what was written
pub written_more : (xs ys slice : List ℕ) → length xs + length ys ≤ length slice → sets (written_over xs slice) (length xs) ys ≡ written_over (xs ++ ys) slice
unfolding written_over
written_more xs ys slice fits =
    sets-eq ys (xs ++ drop (length xs) slice) (length xs) (simp (length-append, length-drop) (omega arith))
    ∙ rw (take-append_seam xs (drop (length xs) slice), drop-append-add xs (drop (length xs) slice) (length ys), drop-drop (length ys) (length xs) slice, length-append xs ys)

pub length_written : (xs slice : List ℕ) → length xs ≤ length slice → length (written_over xs slice) ≡ length slice
unfolding written_over
length_written xs slice fits = simp (length-append, length-drop) (omega arith)
