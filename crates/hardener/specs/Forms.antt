-- What comes out for commands by their fields: the parts are nodes of the table. And what writing one leaves.
use Rattle.std.specs.Prelude.{ℕ, Bool, List}
use Rattle.std.proofs.Math.Option.{none}
use Rattle.awhile.specs.Language.{Com, assign, sequence}
use Rattle.awhile.specs.Encoding.{write_c}
use Rattle.reader.specs.Index.{numeric_in}
use Rattle.deciding.specs.declared.decisions.Decision.{Decision}
use Rattle.masks.specs.Hardening.{Origin}
use Rattle.masking.specs.InMemory.{hardened_at, side_in, if_in, loop_in, while_in}
use Rattle.copier.specs.Written.{Wrote}
use Rattle.copier.specs.declared.Size.{Size}
use Rattle.hardener.specs.declared.plan.Plan.{Plan}
use Rattle.hardener.specs.declared.plan.Test.{Test}

-- an assignment
unfoldable pub assign_in : (table : List ℕ) → (variable value : ℕ) → Com Origin
assign_in table x e = assign none x (numeric_in table e)

-- a sequence of two commands
unfoldable pub sequence_in : (table : List ℕ) (decisions : List Decision) → (f first second : ℕ) → Com Origin
sequence_in table ds f c d = sequence none (hardened_at table ds f c) (hardened_at table ds f d)

-- ---- by a plan
module _ (plan : Plan) where
  -- the command of a node
  abbrev pub hardened_by : (node : ℕ) → Com Origin
  hardened_by n = hardened_at plan.table.now plan.decisions.now plan.flag n

  -- a sequence of two commands
  abbrev pub sequence_by : (first second : ℕ) → Com Origin
  sequence_by first second = sequence_in plan.table.now plan.decisions.now plan.flag first second

-- a side of an if, an if, a loop without what stands after it and with it
module _ (test : Test) where
  abbrev pub side_by : (taken : Bool) → (side : ℕ) → Com Origin
  side_by taken side = side_in test.plan.now.table.now test.plan.now.decisions.now test.plan.now.flag test.condition taken side

  abbrev pub if_by : (first second : ℕ) → Com Origin
  if_by first second = if_in test.plan.now.table.now test.plan.now.decisions.now test.plan.now.flag test.condition none first second

  abbrev pub loop_by : (body : ℕ) → Com Origin
  loop_by body = loop_in test.plan.now.table.now test.plan.now.decisions.now test.plan.now.flag test.condition none body

  abbrev pub while_by : (body : ℕ) → Com Origin
  while_by body = while_in test.plan.now.table.now test.plan.now.decisions.now test.plan.now.flag test.condition none body

-- a command is written, its nodes numbered from a number on
abbrev pub WroteCommand : (from : ℕ) → Com Origin → (before after : List ℕ) → (answer : Size) → Type 0
WroteCommand from c before after answer = Wrote (write_c from c) before after answer
