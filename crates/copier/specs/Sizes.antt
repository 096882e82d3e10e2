-- How much an expression or a command takes when it is written: its nodes are counted by `nodes_of..` of awhile, its bytes here.
-- Neither depends on how the nodes are numbered (proofs/Lengths).
use Rattle.std.specs.Prelude.{ℕ, ◌+◌, ◌*◌, ◌≤◌, ◌≡◌}
use Rattle.awhile.specs.Language.{AExp, number, variable, add, subtract, multiply, choice}
use Rattle.awhile.specs.Language.{BExp, constant, equal, less, not, and}
use Rattle.awhile.specs.Language.{Com, skip, assign, sequence, if, while, read, write}
use Rattle.awhile.specs.Tables.{max_nodes}
use Rattle.copier.specs.declared.Size.{Size}

-- the lengths of the records of all nodes
unfoldable mutual
  pub bytes_of_a : AExp → ℕ
  bytes_of_a (number n) = 8
  bytes_of_a (variable x) = 6
  bytes_of_a (add a b) = bytes_of_a a + bytes_of_a b + 8
  bytes_of_a (subtract a b) = bytes_of_a a + bytes_of_a b + 8
  bytes_of_a (multiply a b) = bytes_of_a a + bytes_of_a b + 8
  bytes_of_a (choice c a b) = bytes_of_b c + bytes_of_a a + bytes_of_a b + 10

  pub bytes_of_b : BExp → ℕ
  bytes_of_b (constant b) = 6
  bytes_of_b (equal a b) = bytes_of_a a + bytes_of_a b + 8
  bytes_of_b (less a b) = bytes_of_a a + bytes_of_a b + 8
  bytes_of_b (not b) = bytes_of_b b + 6
  bytes_of_b (and b c) = bytes_of_b b + bytes_of_b c + 8

module _ {Note : Type 0} where
  unfoldable pub bytes_of : Com Note → ℕ
  bytes_of (skip n) = 4
  bytes_of (assign n x e) = bytes_of_a e + 8
  bytes_of (sequence n c d) = bytes_of c + bytes_of d + 8
  bytes_of (if n b c d) = bytes_of_b b + bytes_of c + bytes_of d + 10
  bytes_of (while n b c) = bytes_of_b b + bytes_of c + 8
  bytes_of (read n x a i) = bytes_of_a i + 10
  bytes_of (write n a i e) = bytes_of_a i + bytes_of_a e + 10

-- an answer that says so many nodes and bytes
pub record Sized (nodes bytes : ℕ) (answer : Size) : Type 0 where
  pub nodes_counted : answer.nodes ≡ nodes
  pub bytes_counted : answer.bytes ≡ bytes

-- no more than a table holds: no record is longer than 10 bytes
pub record Few (nodes bytes : ℕ) : Type 0 where
  pub few_nodes : nodes ≤ max_nodes
  pub few_bytes : bytes ≤ 10 * max_nodes
