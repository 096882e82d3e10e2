-- Writing a program as a table: nodes in post-order ("parts first, left to right, then the parent"), numbered from 0, and the table's bytes.
use Rattle.std.specs.Prelude.{ℕ, ◌+◌, ◌-◌, cond}
use mathlib.Core.List.{List, [], ◌∷◌, ◌++◌, flat_map}
use Rattle.bytes_le.specs.Numbers.{le}
use Rattle.awhile.specs.Language.{AExp, number, variable, add, subtract, multiply, choice}
use Rattle.awhile.specs.Language.{BExp, constant, equal, less, not, and}
use Rattle.awhile.specs.Language.{Com, skip, assign, sequence, if, while, read, write, map_notes}
use Rattle.awhile.specs.Nodes.{node_bytes}
use Rattle.awhile.specs.Tables.{Table, header_of, mask_bytes, header_size, labels_size, array_size}
use Rattle.awhile.specs.declared.Header.{Header}
use Rattle.awhile.specs.declared.Labelling.{Labelling}
use Rattle.awhile.specs.declared.Node.{Node}
use Rattle.awhile.specs.declared.Node.TheVariants.{Number, Variable, Add, Subtract, Multiply, Choice}
use Rattle.awhile.specs.declared.Node.TheVariants.{Constant, Equal, Less, Not, And}
use Rattle.awhile.specs.declared.Node.TheVariants.{Skip, Assign, Sequence, If, While, Read, Write}

-- ---- how many nodes
unfoldable mutual
  pub nodes_of_a : AExp → ℕ
  nodes_of_a (number n) = 1
  nodes_of_a (variable x) = 1
  nodes_of_a (add a b) = nodes_of_a a + nodes_of_a b + 1
  nodes_of_a (subtract a b) = nodes_of_a a + nodes_of_a b + 1
  nodes_of_a (multiply a b) = nodes_of_a a + nodes_of_a b + 1
  nodes_of_a (choice c a b) = nodes_of_b c + nodes_of_a a + nodes_of_a b + 1

  pub nodes_of_b : BExp → ℕ
  nodes_of_b (constant b) = 1
  nodes_of_b (equal a b) = nodes_of_a a + nodes_of_a b + 1
  nodes_of_b (less a b) = nodes_of_a a + nodes_of_a b + 1
  nodes_of_b (not b) = nodes_of_b b + 1
  nodes_of_b (and b c) = nodes_of_b b + nodes_of_b c + 1

module _ {Note : Type 0} where
  unfoldable pub nodes_of : Com Note → ℕ
  nodes_of (skip n) = 1
  nodes_of (assign n x e) = nodes_of_a e + 1
  nodes_of (sequence n c d) = nodes_of c + nodes_of d + 1
  nodes_of (if n b c d) = nodes_of_b b + nodes_of c + nodes_of d + 1
  nodes_of (while n b c) = nodes_of_b b + nodes_of c + 1
  nodes_of (read n x a i) = nodes_of_a i + 1
  nodes_of (write n a i e) = nodes_of_a i + nodes_of_a e + 1

-- ---- the nodes, where `from` is the number of the first of them; the last node written is the root of what is written
unfoldable pub binary : (ℕ → ℕ → Node) → (from : ℕ) → (nodes_left nodes_right : ℕ) → Node
binary f from l r = f (from + l - 1) (from + l + r - 1)

unfoldable pub ternary : (ℕ → ℕ → ℕ → Node) → (from : ℕ) → (nodes_first nodes_second nodes_third : ℕ) → Node
ternary f from l m r = f (from + l - 1) (from + l + m - 1) (from + l + m + r - 1)

unfoldable mutual
  pub write_a : (from : ℕ) → AExp → List Node
  write_a from (number n) = Number n ∷ []
  write_a from (variable x) = Variable x ∷ []
  write_a from (add a b) = write_a from a ++ (write_a (from + nodes_of_a a) b ++ (binary Add from (nodes_of_a a) (nodes_of_a b) ∷ []))
  write_a from (subtract a b) = write_a from a ++ (write_a (from + nodes_of_a a) b ++ (binary Subtract from (nodes_of_a a) (nodes_of_a b) ∷ []))
  write_a from (multiply a b) = write_a from a ++ (write_a (from + nodes_of_a a) b ++ (binary Multiply from (nodes_of_a a) (nodes_of_a b) ∷ []))
  write_a from (choice c a b) =
      write_b from c ++ (write_a (from + nodes_of_b c) a ++ (write_a (from + nodes_of_b c + nodes_of_a a) b ++ (ternary Choice from (nodes_of_b c) (nodes_of_a a) (nodes_of_a b) ∷ [])))

  pub write_b : (from : ℕ) → BExp → List Node
  write_b from (constant b) = Constant (cond b 1 0) ∷ []
  write_b from (equal a b) = write_a from a ++ (write_a (from + nodes_of_a a) b ++ (binary Equal from (nodes_of_a a) (nodes_of_a b) ∷ []))
  write_b from (less a b) = write_a from a ++ (write_a (from + nodes_of_a a) b ++ (binary Less from (nodes_of_a a) (nodes_of_a b) ∷ []))
  write_b from (not b) = write_b from b ++ (Not (from + nodes_of_b b - 1) ∷ [])
  write_b from (and b c) = write_b from b ++ (write_b (from + nodes_of_b b) c ++ (binary And from (nodes_of_b b) (nodes_of_b c) ∷ []))

-- a note with a node number beside it
pub record Numbered (Note : Type 0) : Type 0 where
  pub number : ℕ
  pub note : Note

abbrev pub with_number : {Note : Type 0} → ℕ → Note → Numbered Note
with_number n a = record { number = n; note = a }

abbrev pub number_of : {Note : Type 0} → Numbered Note → ℕ
number_of n = n.number

module _ {Note : Type 0} where
  unfoldable pub write_c : (from : ℕ) → Com Note → List Node
  write_c from (skip n) = Skip ∷ []
  write_c from (assign n x e) = write_a from e ++ (Assign x (from + nodes_of_a e - 1) ∷ [])
  write_c from (sequence n c d) = write_c from c ++ (write_c (from + nodes_of c) d ++ (binary Sequence from (nodes_of c) (nodes_of d) ∷ []))
  write_c from (if n b c d) =
      write_b from b ++ (write_c (from + nodes_of_b b) c ++ (write_c (from + nodes_of_b b + nodes_of c) d ++ (ternary If from (nodes_of_b b) (nodes_of c) (nodes_of d) ∷ [])))
  write_c from (while n b c) = write_b from b ++ (write_c (from + nodes_of_b b) c ++ (binary While from (nodes_of_b b) (nodes_of c) ∷ []))
  write_c from (read n x a i) = write_a from i ++ (Read x a (from + nodes_of_a i - 1) ∷ [])
  write_c from (write n a i e) = write_a from i ++ (write_a (from + nodes_of_a i) e ++ (binary (Write a) from (nodes_of_a i) (nodes_of_a e) ∷ []))

  -- the same command, each part noted with the number that its node has above, beside the note it had
  unfoldable pub numbered_from : (from : ℕ) → Com Note → Com (Numbered Note)
  numbered_from from (skip n) = skip (with_number from n)
  numbered_from from (assign n x e) = assign (with_number (from + nodes_of_a e) n) x e
  numbered_from from (sequence n c d) =
      sequence (with_number (from + nodes_of c + nodes_of d) n) (numbered_from from c) (numbered_from (from + nodes_of c) d)
  numbered_from from (if n b c d) =
      if
      (with_number (from + nodes_of_b b + nodes_of c + nodes_of d) n)
      b
      (numbered_from (from + nodes_of_b b) c)
      (numbered_from (from + nodes_of_b b + nodes_of c) d)
  numbered_from from (while n b c) = while (with_number (from + nodes_of_b b + nodes_of c) n) b (numbered_from (from + nodes_of_b b) c)
  numbered_from from (read n x a i) = read (with_number (from + nodes_of_a i) n) x a i
  numbered_from from (write n a i e) = write (with_number (from + nodes_of_a i + nodes_of_a e) n) a i e

  -- the command as its table reads back: noted with its node numbers alone
  unfoldable pub numbered : Com Note → Com ℕ
  numbered c = map_notes number_of (numbered_from 0 c)

-- ---- the bytes of a table: header, labels, arrays, nodes
unfoldable pub header_bytes : Header → List ℕ
header_bytes h = le 2 header_size ++ (le 2 1 ++ (le 2 h.version ++ (le 1 h.variables ++ (le 1 h.arrays ++ le 2 h.nodes))))

unfoldable pub labels_bytes : (version : ℕ) → Labelling → List ℕ
labels_bytes v l = le 2 (labels_size v) ++ (le 2 3 ++ (le (mask_bytes v) l.variables ++ le 2 l.arrays))

unfoldable pub count_bytes : ℕ → List ℕ
count_bytes n = le 2 array_size ++ (le 2 2 ++ le 2 n)

unfoldable pub table_bytes : Table → List ℕ
table_bytes t =
    header_bytes (header_of t)
    ++ (labels_bytes t.version t.labels ++ (flat_map count_bytes t.counts ++ flat_map node_bytes t.nodes))
