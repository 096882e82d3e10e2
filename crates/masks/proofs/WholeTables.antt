-- The hardened nodes of whole tables, computed from their bytes: reads, writes and branches in a secret context, and what a write is given.
-- x0 is s, secret; x1 is x, public; the flag f is x2.
use Prim.Native.Nat.{ℕ}
use mathlib.Core.List.{List, [], ◌∷◌, ◌++◌}
use mathlib.Core.Path.{◌≡◌, refl}
use Rattle.awhile.specs.Refusals.{Answer, got, and_then}
use Rattle.awhile.specs.Tables.{read_table}
use Rattle.awhile.specs.declared.Node.{Node}
use Rattle.awhile.specs.declared.Node.TheVariants.{Number, Variable, Choice, Equal, And, Skip, Assign, Sequence, If, Read, Write}
use Rattle.labels.proofs.WholeTables.{guarded_write, secret_index_write, secret_value_write, guarded_read, public_inside}
use Rattle.masks.specs.Hardening.{hardened_table}
use Rattle.masks.proofs.Open.{opened}

-- the nodes that a table's bytes are hardened to
abbrev nodes_for : List ℕ → Answer (List Node)
nodes_for bytes = and_then (read_table bytes) (λ t. got (hardened_table t).nodes)

-- "A secret index i of a read or write becomes (f = 1) ? 0 : i": `a0[(f=1) ? 0 : s]:=1`
pub secret_index_of_write_masked :
    nodes_for secret_index_write
    ≡ got (Variable 2 ∷ Number 1 ∷ Equal 0 1 ∷ Number 0 ∷ Variable 0 ∷ Choice 2 3 4 ∷ Number 1 ∷ Write 0 5 6 ∷ [])
unfolding opened
secret_index_of_write_masked = refl

-- a public index is not, though the value is secret: `a0[x]:=s` as it was
pub public_index_of_write_unmasked : nodes_for secret_value_write ≡ got (Variable 1 ∷ Variable 0 ∷ Write 0 0 1 ∷ [])
unfolding opened
public_index_of_write_unmasked = refl

-- ---- in the sides of `if s=0`, whose condition is masked: `(f=0) and s=0`
-- the first nodes: the condition, and on its true side `f := c' ? f : 1`
abbrev true_side : List Node
true_side =
    Variable 2 ∷ Number 0 ∷ Equal 0 1 ∷ Variable 0 ∷ Number 0 ∷ Equal 3 4 ∷ And 2 5  -- 6: c'
    ∷ Variable 2 ∷ Number 0 ∷ Equal 7 8 ∷ Variable 0 ∷ Number 0 ∷ Equal 10 11 ∷ And 9 12  -- 13: c'
    ∷ Variable 2 ∷ Number 1 ∷ Choice 13 14 15 ∷ Assign 2 16  -- 17: f := c' ? f : 1
    ∷ []

-- the write in it stays as it was: its index is public, whatever the context
pub guarded_write_unmasked :
    nodes_for guarded_write
    ≡ got
    (true_side
    ++ (Number 1 ∷ Number 1 ∷ Write 0 18 19 ∷ Sequence 17 20
    ∷ Variable 2 ∷ Number 0 ∷ Equal 22 23 ∷ Variable 0 ∷ Number 0 ∷ Equal 25 26 ∷ And 24 27  -- 28: c'
    ∷ Number 1 ∷ Variable 2 ∷ Choice 28 29 30 ∷ Assign 2 31  -- 32: f := c' ? 1 : f
    ∷ Skip ∷ Sequence 32 33 ∷ If 6 21 34 ∷ []))
unfolding opened
guarded_write_unmasked = refl

-- so does the read: its index is public, and its variable is secret by the context, so that its value is not masked
pub guarded_read_unmasked :
    nodes_for guarded_read
    ≡ got
    (true_side
    ++ (Number 1 ∷ Read 1 0 18 ∷ Sequence 17 19
    ∷ Variable 2 ∷ Number 0 ∷ Equal 21 22 ∷ Variable 0 ∷ Number 0 ∷ Equal 24 25 ∷ And 23 26  -- 27: c'
    ∷ Number 1 ∷ Variable 2 ∷ Choice 27 28 29 ∷ Assign 2 30  -- 31: f := c' ? 1 : f
    ∷ Skip ∷ Sequence 31 32 ∷ If 6 20 33 ∷ []))
unfolding opened
guarded_read_unmasked = refl

-- an inner condition that is public is not masked, and f is updated by it all the same
pub public_inside_unmasked :
    nodes_for public_inside
    ≡ got
    (true_side
    ++ (Variable 1 ∷ Number 0 ∷ Equal 18 19  -- 20: x = 0
    ∷ Variable 1 ∷ Number 0 ∷ Equal 21 22 ∷ Variable 2 ∷ Number 1 ∷ Choice 23 24 25 ∷ Assign 2 26  -- 27: f := x = 0 ? f : 1
    ∷ Number 1 ∷ Assign 1 28 ∷ Sequence 27 29
    ∷ Variable 1 ∷ Number 0 ∷ Equal 31 32 ∷ Number 1 ∷ Variable 2 ∷ Choice 33 34 35 ∷ Assign 2 36  -- 37: f := x = 0 ? 1 : f
    ∷ Skip ∷ Sequence 37 38 ∷ If 20 30 39 ∷ Sequence 17 40
    ∷ Variable 2 ∷ Number 0 ∷ Equal 42 43 ∷ Variable 0 ∷ Number 0 ∷ Equal 45 46 ∷ And 44 47  -- 48: c'
    ∷ Number 1 ∷ Variable 2 ∷ Choice 48 49 50 ∷ Assign 2 51  -- 52: f := c' ? 1 : f
    ∷ Skip ∷ Sequence 52 53 ∷ If 6 41 54 ∷ []))
unfolding opened
public_inside_unmasked = refl
