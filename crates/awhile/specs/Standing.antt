-- Where commands stand: how often a number is that of a command in a program.
use Rattle.std.specs.Prelude.{ℕ, ◌+◌, ◌≤◌, cond, eqb}
use Rattle.awhile.specs.Language.{Com, skip, assign, sequence, if, while, read, write}

-- how many commands with this number stand in a command, itself included
unfoldable pub standing : (node : ℕ) → Com ℕ → ℕ
standing p (skip n) = cond (eqb p n) 1 0
standing p (assign n v e) = cond (eqb p n) 1 0
standing p (sequence n c d) = cond (eqb p n) 1 0 + standing p c + standing p d
standing p (if n b c d) = cond (eqb p n) 1 0 + standing p c + standing p d
standing p (while n b c) = cond (eqb p n) 1 0 + standing p c
standing p (read n v a i) = cond (eqb p n) 1 0
standing p (write n a i e) = cond (eqb p n) 1 0

-- no two commands of a command have one number
pub record Distinct (c : Com ℕ) : Type 0 where
  pub once : (p : ℕ) → standing p c ≤ 1
