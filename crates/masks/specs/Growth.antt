-- "At most 8 nodes come out per node put in."
use Rattle.std.specs.Prelude.{◌≤◌, Bool, true, ◌≡◌}
use Rattle.awhile.specs.Language.{BExp, Com, skip, assign, sequence, if, while, read, write}
use Rattle.awhile.specs.Encoding.{nodes_of_b}
use Rattle.masks.specs.Decisions.{Decision}

-- a condition that is masked has at least three nodes
pub record LargeIfMasked (mask : Bool) (b : BExp) : Type 0 where
  pub large : mask ≡ true → 3 ≤ nodes_of_b b

-- Every masked condition of a command has at least three nodes. A smaller condition is a constant, or one negated: the labels never mask it,
-- and a program of ifs on masked constants grows more than eightfold.
abbrev pub MasksLargeConditions : Com Decision → Type 0
MasksLargeConditions (skip n) = Unit {0}
MasksLargeConditions (assign n x e) = Unit {0}
MasksLargeConditions (sequence n c d) = MasksLargeConditions c × MasksLargeConditions d
MasksLargeConditions (if n b c d) = LargeIfMasked n.mask_condition b × MasksLargeConditions c × MasksLargeConditions d
MasksLargeConditions (while n b c) = LargeIfMasked n.mask_condition b × MasksLargeConditions c
MasksLargeConditions (read n x a i) = Unit {0}
MasksLargeConditions (write n a i e) = Unit {0}
