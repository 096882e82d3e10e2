-- The hardened program of a node, by the decisions that stand in memory.
use Rattle.std.specs.Prelude.{ℕ, ◌≤◌, Bool, true, false, cond, List, [], ◌∷◌, ◌++◌, length}
use Rattle.std.proofs.Math.Option.{none}
use Rattle.awhile.specs.Language.{AExp, number, variable, BExp, equal, Com, sequence, if, while, read, write}
use Rattle.awhile.specs.Encoding.{write_b}
use Rattle.reader.specs.Index.{nodes_in, numeric_in, truth_in, HasSort}
use Rattle.awhile.specs.declared.Sort.TheVariants.{Command}
use Rattle.awhile.specs.declared.Node.{Node}
use Rattle.awhile.specs.declared.Node.TheVariants.{Number}
use Rattle.masks.specs.Decisions.{decision}
use Rattle.masks.specs.Hardening.{Origin, masked_condition, masked_index, flag_if_true, flag_if_false, harden}
use Rattle.masking.specs.declared.Maskable.{Maskable}
use Rattle.deciding.specs.Deciding.{decided_in}
use Rattle.deciding.specs.declared.decisions.Decision.{Decision as Choices}

-- what comes out for a node
unfoldable pub hardened_at : (table : List ℕ) (decisions : List Choices) → (f node : ℕ) → Com Origin
hardened_at table ds f n = harden f (decided_in table ds n)

-- the flag's update where a condition was taken as true or as false
unfoldable pub flag_update : (f : ℕ) → (taken : Bool) → BExp → Com Origin
flag_update f taken c = cond taken (flag_if_true f c) (flag_if_false f c)

-- ---- the parts that a condition comes with, masked or not
unfoldable pub test_in : (table : List ℕ) → (f : ℕ) → (condition : Maskable) → BExp
test_in table f c = masked_condition f c.mask (truth_in table c.node)

module _ (table : List ℕ) (ds : List Choices) (f : ℕ) (condition : Maskable) where
  -- a side begins with the flag's update
  unfoldable pub side_in : (taken : Bool) → (side : ℕ) → Com Origin
  side_in taken side = sequence none (flag_update f taken (test_in table f condition)) (hardened_at table ds f side)

  unfoldable pub if_in : Origin → (first second : ℕ) → Com Origin
  if_in origin first second = if origin (test_in table f condition) (side_in true first) (side_in false second)

  unfoldable pub loop_in : Origin → (body : ℕ) → Com Origin
  loop_in origin body = while origin (test_in table f condition) (side_in true body)

  -- after the loop stands the other update
  unfoldable pub while_in : Origin → (body : ℕ) → Com Origin
  while_in origin body = sequence none (loop_in origin body) (flag_update f false (test_in table f condition))

-- an index, masked or not
unfoldable pub index_in : (table : List ℕ) → (f : ℕ) → (place : Maskable) → AExp
index_in table f p = masked_index f p.mask (numeric_in table p.node)

-- a read and a write over such an index, by their decisions; the number that a decision is noted with is of no account
abbrev pub read_in : (table : List ℕ) → (f variable array : ℕ) → (place : Maskable) → (hide : Bool) → Com Origin
read_in table f x a p hide = harden f (read (decision 0 false p.mask hide) x a (numeric_in table p.node))

abbrev pub write_in : (table : List ℕ) → (f array : ℕ) → (place : Maskable) → (value : ℕ) → Com Origin
write_in table f a p value = harden f (write (decision 0 false p.mask false) a (numeric_in table p.node) (numeric_in table value))

-- a node with a command that may be hardened
pub record Hardenable (table : List ℕ) (ds : List Choices) (n : ℕ) : Type 0 where
  pub node : HasSort table Command n
  pub room : nodes_in table ≤ length ds

-- the nodes of (f = 1) ? 0 : e that stand before those of e
unfoldable pub guard_nodes : (from f : ℕ) → List Node
guard_nodes from f = write_b from (equal (variable f) (number 1)) ++ (Number 0 ∷ [])
