-- Hardening, computed on small programs. The flag f is variable 2.
use Prim.Native.Nat.{ℕ, ◌*◌, ◌<◌}
use native.Mathlib.Omega.{arith}
use mathlib.Core.Bool.{true, false}
use mathlib.Core.Option.{none, some}
use mathlib.Core.Path.{◌≡◌, refl}
use Rattle.awhile.specs.Language.{AExp, number, variable, choice, BExp, constant, equal, less, and}
use Rattle.awhile.specs.Language.{Com, skip, assign, sequence, if, while, read}
use Rattle.awhile.specs.Encoding.{nodes_of}
use Rattle.labels.specs.Annotation.{annotate}
use Rattle.masks.specs.Decisions.{Decision, decision, decide}
use Rattle.masks.specs.Hardening.{Origin, harden, version_for}
use Rattle.masks.proofs.Open.{opened}

-- a program over two variables and an array hardened, where variable 0 alone is secret
abbrev hardened : Com ℕ → Com Origin
hardened c = harden 2 (decide (annotate c false (record { variables = 1; arrays = 0 })))

-- (f = 0) and x0 < 3
abbrev secret_condition : BExp
secret_condition = and (equal (variable 2) (number 0)) (less (variable 0) (number 3))

-- x1 < 3
abbrev public_condition : BExp
public_condition = less (variable 1) (number 3)

-- (f = 1) ? 0 : e
abbrev zero_if_set : AExp → AExp
zero_if_set e = choice (equal (variable 2) (number 1)) (number 0) e

-- `while x0<3 do skip`: the condition is masked, f is updated at the start of the body and after the loop
pub loop_masked :
    hardened (while 4 (less (variable 0) (number 3)) (skip 3))
    ≡ sequence none
    (while (some 4) secret_condition (sequence none (assign none 2 (choice secret_condition (variable 2) (number 1))) (skip (some 3))))
    (assign none 2 (choice secret_condition (number 1) (variable 2)))
unfolding opened
loop_masked = refl

-- `if x1<3 then skip else skip`: a public condition is not masked, and f is updated on both sides all the same
pub public_if_unmasked :
    hardened (if 5 public_condition (skip 3) (skip 4))
    ≡ if (some 5) public_condition
    (sequence none (assign none 2 (choice public_condition (variable 2) (number 1))) (skip (some 3)))
    (sequence none (assign none 2 (choice public_condition (number 1) (variable 2))) (skip (some 4)))
unfolding opened
public_if_unmasked = refl

-- `x1:=a0[x0]`, a secret index: the index is masked, and the value is not
pub secret_index_masked : hardened (read 1 1 0 (variable 0)) ≡ read (some 1) 1 0 (zero_if_set (variable 0))
unfolding opened
secret_index_masked = refl

-- `x1:=a0[x1]`, index and array public: the value read is masked
pub public_value_masked :
    hardened (read 1 1 0 (variable 1)) ≡ sequence none (read (some 1) 1 0 (variable 1)) (assign none 1 (zero_if_set (variable 1)))
unfolding opened
public_value_masked = refl

-- an if on a masked constant
abbrev masked_constant : Com Decision → Com Decision
masked_constant c = if (decision 0 true false false) (constant true) c c

-- two such ifs in one another grow more than eightfold: the bound of document 01 is about conditions that the labels may mask
pub masked_constants_grow :
    8 * nodes_of (masked_constant (masked_constant (skip (decision 0 false false false))))
    < nodes_of (harden 2 (masked_constant (masked_constant (skip (decision 0 false false false)))))
unfolding opened
masked_constants_grow = omega arith

-- "A hardened table is version 2 where its input is, or where it declares 33 variables; otherwise it stays version 1."
pub versions_out : (version_for 1 32 ≡ 1) × (version_for 1 33 ≡ 2) × (version_for 2 6 ≡ 2) × (version_for 2 64 ≡ 2)
unfolding opened
versions_out = (refl, refl, refl, refl)
