-- What guides a step, as the code has it: an offset in the bytes of a directive list.
use Rattle.std.specs.Prelude.{ℕ, ◌+◌, ◌≤◌, Bool, true, false, ◌≡◌, List, [], length, drop}
use Rattle.std.specs.Prelude.{None, Some}
use Rattle.std.specs.Prelude.{Option as Found}
use Rattle.std.proofs.Math.Option.{Option, none, some}
use Rattle.machine.specs.Observations.{Observation}
use Rattle.machine.specs.Directives.{read_rolling_directives}
use Rattle.directives.specs.Listed.{is_some}
use Rattle.machine.specs.Steps.{Taken}
use Rattle.machine.specs.Runs.{Room, Guide, plain, guessing, rolling, rollback_next, Machine, over, shown_if, shown_step}
use Rattle.machine.specs.declared.Board.{Board}
use Rattle.machine.specs.declared.Board.TheVariants.{Plain, Guessing, Rolling}
use Rattle.machine.specs.declared.Directive.{Directive}
use Rattle.machine.specs.declared.End.TheVariants.{OutOfDirectives}
use Rattle.directives.specs.declared.guide.Guided.{Guided}

-- an offset from which the list reads
pub record Readable (list : List ℕ) (at : ℕ) : Type 0 where
  pub within : at ≤ length list
  pub reads : is_some (read_rolling_directives (drop at list)) ≡ true

-- the directives that are read, none where the bytes are refused
unfoldable pub or_none : Option (List Directive) → List Directive
or_none none = []
or_none (some ds) = ds

-- the directives that stand from an offset on, and the machine that they guide
unfoldable pub directives_from : (list : List ℕ) → (at : ℕ) → List Directive
directives_from list at = or_none (read_rolling_directives (drop at list))

unfoldable pub guide_of : Board → (list : List ℕ) → (at : ℕ) → Guide
guide_of Plain list at = plain
guide_of Guessing list at = guessing (directives_from list at)
guide_of Rolling list at = rolling (directives_from list at)

-- a shown step goes by this directive, with so many bytes and directives used up after it
pub record GoesBy (board : Board) (list : List ℕ) (at : ℕ) (d : Directive) (size used : ℕ) : Type 0 where
  pub step : (room : Room) (m : Machine ℕ) (o : Observation) (after : Directive → Option (Taken ℕ))
      → shown_step room m o after (guide_of board list at) ≡ shown_if room m o (guide_of board list (at + size)) used (after d)
  pub readable : Readable list (at + size)
  pub few : used ≤ 1

-- a shown step finds no directive
pub record RunsOut (board : Board) (list : List ℕ) (at : ℕ) : Type 0 where
  pub step : (room : Room) (m : Machine ℕ) (o : Observation) (after : Directive → Option (Taken ℕ))
      → shown_step room m o after (guide_of board list at) ≡ over OutOfDirectives

abbrev pub GuidedAs : Board → (list : List ℕ) → (at : ℕ) → Found Guided → Type 0
GuidedAs board list at (Some g) = GoesBy board list at g.directive g.consumed.size g.consumed.used
GuidedAs board list at None = RunsOut board list at

-- a rollback is next: a record of 4 bytes, with the rest of the list behind it
pub record RollbackNext (board : Board) (list : List ℕ) (at : ℕ) : Type 0 where
  pub is_rolling : board ≡ Rolling
  pub after : rollback_next (guide_of board list at) ≡ some (guide_of board list (at + 4))
  pub readable : Readable list (at + 4)

abbrev pub RollbackAs : Board → (list : List ℕ) → (at : ℕ) → Bool → Type 0
RollbackAs board list at true = RollbackNext board list at
RollbackAs board list at false = rollback_next (guide_of board list at) ≡ none
