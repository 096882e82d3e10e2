-- Which cell a shown step uses under a directive and what it changes, as the code has it: cells by their places, words in bytes.
use Rattle.std.specs.Prelude.{ℕ, ◌*◌, Bool, cond, List, Option, None, Some, option_map}
use Rattle.std.proofs.Math.Option as maybe
use Rattle.bytes_le.specs.Numbers.{le_at}
use Rattle.machine.specs.Steps.{cell_at, cell_used}
use Rattle.machine.specs.declared.Directive.{Directive}
use Rattle.machine.specs.declared.Directive.TheVariants.{Step, Force, Load, Store, Rollback}
use Rattle.directives.specs.Listed.{found}
use Rattle.directives.specs.declared.change.Back.{Back}
use Rattle.directives.specs.declared.change.Change.TheVariants.{PutBack, Assign}
use Rattle.directives.specs.declared.change.Change.TheVariants.{Store as StoreInto}
use Rattle.directives.specs.declared.change.Shown.{Shown}
use Rattle.directives.specs.declared.change.Shown.TheVariants.{Fork, Get, Put}
use Rattle.directives.specs.declared.places.Cell.{Cell}
use Rattle.directives.specs.declared.fit.Access.{Access}
use Rattle.directives.specs.declared.fit.Access.TheVariants.{Read, Write}
use Rattle.directives.specs.declared.fit.Fit.{Fit}
use Rattle.directives.specs.declared.fit.Fit.TheVariants.{Goes, Forces}

-- the cell that a directive asks a read or a write to use, the program's own or another: a load fits only a read, a store only a write
unfoldable pub asked_of : Access → (own : Cell) → Directive → Option Cell
asked_of a own Step = Some own
asked_of a own Force = None
asked_of Read own (Load b j) = Some (record { array = b; index = j })
asked_of Write own (Load b j) = None
asked_of Read own (Store b j) = None
asked_of Write own (Store b j) = Some (record { array = b; index = j })
asked_of a own Rollback = None

-- the place of the cell that a read or a write uses
unfoldable pub cell_for : (counts : List ℕ) → (flag : Bool) → (own : Cell) → (asked : Option Cell) → maybe.Option ℕ
cell_for counts f own (Some c) = cell_used counts f own.array own.index (cell_at counts c.array c.index)
cell_for counts f own None = maybe.none

-- the same, by the directive
abbrev pub cell_by : (counts : List ℕ) → (flag : Bool) → Access → (own : Cell) → Directive → maybe.Option ℕ
cell_by counts f access own d = cell_for counts f own (asked_of access own d)

-- what a branch, a read and a write change. Only a force sets the flag
unfoldable pub fork_fit : (value : Bool) → (yes no : Back) → Directive → Option Fit
fork_fit v y n Step = Some (Goes (PutBack (cond v y n)))
fork_fit v y n Force = Some (Forces (record { value = v; right = cond v y n; wrong = cond v n y }))
fork_fit v y n (Load b j) = None
fork_fit v y n (Store b j) = None
fork_fit v y n Rollback = None

abbrev pub load_fit : (cells : List ℕ) → (variable place : ℕ) → Fit
load_fit cells x p = Goes (Assign x (le_at 4 cells (4 * p)))

abbrev pub store_fit : (value place : ℕ) → Fit
store_fit v p = Goes (StoreInto p v)

unfoldable pub fit_of : (counts cells : List ℕ) → (flag : Bool) → Shown → Directive → Option Fit
fit_of counts cells f (Fork v y n) d = fork_fit v y n d
fit_of counts cells f (Get x a i) d = option_map (load_fit cells x) (found (cell_by counts f Read (record { array = a; index = i }) d))
fit_of counts cells f (Put a i v) d = option_map (store_fit v) (found (cell_by counts f Write (record { array = a; index = i }) d))
