-- Nodes that fit one after the other: the form for induction of what `WellFormed` says of each node by its number.
use Prim.Native.Nat.{ℕ, zero, suc, ◌<◌}
use native.Mathlib.Omega.{arith}
use mathlib.Core.List.{List, [], ◌∷◌, ◌++◌, append-nil}
use lib.ListN.{length, get_or, take}
use lib.Seq.{append_snoc}
use Rattle.awhile.specs.WellFormed.{NodeFits}
use Rattle.awhile.specs.declared.Node.{Node}
use Rattle.awhile.specs.declared.Node.TheVariants.{Skip}

-- each node fits after the nodes before it
abbrev pub FitAfter : (variables arrays : ℕ) → (before : List Node) → List Node → Type 0
FitAfter vs arrs before [] = Unit
FitAfter vs arrs before (n ∷ ns) = NodeFits vs arrs before n × FitAfter vs arrs (before ++ (n ∷ [])) ns

module _ (vs arrs : ℕ) where
  -- nodes that fit in turn fit by their numbers
  pub fit_by_number : (ns before : List Node) → FitAfter vs arrs before ns
      → (i : ℕ) → i < length ns → NodeFits vs arrs (before ++ take i ns) (get_or ns i Skip)
  fit_by_number [] before fits i inside = absurd (omega arith)
  fit_by_number (n ∷ ns) before fits zero inside = rw append-nil fits.0
  fit_by_number (n ∷ ns) before fits (suc i) inside = rw append_snoc at (fit_by_number ns (before ++ (n ∷ [])) fits.1 i (omega arith))

  -- nodes that fit by their numbers fit in turn
  pub fit_in_turn : (ns before : List Node) → ((i : ℕ) → i < length ns → NodeFits vs arrs (before ++ take i ns) (get_or ns i Skip))
      → FitAfter vs arrs before ns
  fit_in_turn [] before each = tt
  fit_in_turn (n ∷ ns) before each =
      (rw append-nil at (each 0 (omega arith)), fit_in_turn ns (before ++ (n ∷ [])) (λ i inside. rw append_snoc (each (suc i) (omega arith))))

  -- what fits in two parts fits as a whole
  pub fit_append : (ms ns before : List Node) → FitAfter vs arrs before ms → FitAfter vs arrs (before ++ ms) ns → FitAfter vs arrs before (ms ++ ns)
  fit_append [] ns before first second = rw append-nil at second
  fit_append (m ∷ ms) ns before first second = (first.0, fit_append ms ns (before ++ (m ∷ [])) first.1 (rw append_snoc second))
