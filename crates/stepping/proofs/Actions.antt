-- What the command of a node does, by the node's kind.
use Rattle.std.proofs.Common.{◌≡◌, ℕ, Bool, List}
use Rattle.reader.specs.Index.{HasSort}
use Rattle.reader.proofs.Index.{Child, Parts}
use Rattle.awhile.specs.declared.Sort.TheVariants.{Command}
use Rattle.awhile.specs.declared.Node.TheVariants.{Skip, Sequence, If, While, Read, Write}
use Rattle.awhile.specs.declared.Node.TheVariants.{Assign as AssignNode}
use Rattle.machine.specs.Look.{look}
use Rattle.stepping.specs.Evaluation.{value_in, holds_in}
use Rattle.stepping.specs.Actions.{back_on, quiet_look, shown_look, look_of, CommandAt, Looked}
use Rattle.directives.specs.declared.change.Back.TheVariants.{Nothing, One, Two}
use Rattle.directives.specs.declared.change.Change.TheVariants.{PutBack, Assign}
use Rattle.directives.specs.declared.change.Shown.TheVariants.{Fork, Get, Put}
use Rattle.stepping.specs.declared.action.Action.TheVariants.{Quiet, Show}

module _ (table variables : List ℕ) (n : ℕ) where
  -- a command that is a child may be pending
  child_command : (k : ℕ) → Child table Command n k → CommandAt table k
  child_command k child = record { inside = child.inside; is_command = child.is_sort }

  pub looked_skip : Parts table n Skip → Looked table variables n (Quiet (PutBack Nothing))
  unfolding look look_of quiet_look back_on
  looked_skip parts = record { is_look = λ rest. rw (parts, look); fits = tt }

  pub looked_assign : {x e v : ℕ} → v ≡ value_in table variables e → Parts table n (AssignNode x e) → Looked table variables n (Quiet (Assign x v))
  unfolding look look_of quiet_look value_in
  looked_assign value parts = rw value (record { is_look = λ rest. rw (parts.2, look); fits = parts.0 })

  pub looked_sequence : {c d : ℕ} → Parts table n (Sequence c d) → Looked table variables n (Quiet (PutBack (Two d c)))
  unfolding look look_of quiet_look back_on
  looked_sequence {c} {d} parts =
      record { is_look = λ rest. rw (parts.2, look); fits = (child_command d parts.1, child_command c parts.0) }

  pub looked_if : {b c d : ℕ} {v : Bool} → v ≡ holds_in table variables b → Parts table n (If b c d) → Looked table variables n (Show (Fork v (One c) (One d)))
  unfolding look look_of shown_look back_on holds_in
  looked_if {b} {c} {d} truth parts =
      rw truth (record { is_look = λ rest. rw (parts.3, look); fits = (child_command c parts.1, child_command d parts.2) })

  pub looked_while : {b c : ℕ} {v : Bool} → v ≡ holds_in table variables b → HasSort table Command n → Parts table n (While b c)
      → Looked table variables n (Show (Fork v (Two n c) Nothing))
  unfolding look look_of shown_look back_on holds_in
  looked_while {b} {c} truth self parts =
      let here : CommandAt table n = record { inside = self.inside; is_command = self.is_sort } in
      rw truth (record { is_look = λ rest. rw (parts.2, look); fits = ((here, child_command c parts.1), tt) })

  pub looked_read : {x a e v : ℕ} → v ≡ value_in table variables e → Parts table n (Read x a e) → Looked table variables n (Show (Get x a v))
  unfolding look look_of shown_look value_in
  looked_read value parts = rw value (record { is_look = λ rest. rw (parts.3, look); fits = parts.0 })

  pub looked_write : {a e f i v : ℕ} → i ≡ value_in table variables e → v ≡ value_in table variables f → Parts table n (Write a e f)
      → Looked table variables n (Show (Put a i v))
  unfolding look look_of shown_look value_in
  looked_write index value parts = rw (index, value) (record { is_look = λ rest. rw (parts.3, look); fits = tt })
