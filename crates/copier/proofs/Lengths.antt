-- What is written for an expression or a command has the counted nodes and bytes, whatever number its first node has.
use Prim.Native.Nat.{ℕ, ◌+◌, ◌*◌, ◌≤◌, ◌<◌}
use native.Mathlib.Omega.{arith}
use mathlib.Core.Bool.{cond}
use mathlib.Core.Path.{◌≡◌, refl}
use mathlib.Core.List.{List, [], ◌∷◌, ◌++◌, flat_map}
use lib.ListN.{length, length-append}
use Rattle.awhile.specs.Language.{AExp, number, variable, add, subtract, multiply, choice}
use Rattle.awhile.specs.Language.{BExp, constant, equal, less, not, and}
use Rattle.awhile.specs.Language.{Com, skip, assign, sequence, if, while, read, write}
use Rattle.awhile.specs.Lists.{sum}
use Rattle.awhile.specs.Nodes.{form, field_size, size_of, node_bytes}
use Rattle.awhile.specs.Encoding.{nodes_of_a, nodes_of_b, nodes_of, binary, ternary, write_a, write_b, write_c}
use Rattle.awhile.proofs.Lists.{flat_map_append}
use Rattle.awhile.proofs.Records.{length-node_bytes}
use Rattle.copier.specs.Sizes.{bytes_of_a, bytes_of_b, bytes_of}
use Rattle.awhile.specs.declared.Node.{Node}
use Rattle.awhile.specs.declared.Node.TheVariants.{Number, Variable}
use Rattle.awhile.specs.declared.Node.TheVariants.{Constant}
use Rattle.awhile.specs.declared.Node.TheVariants.{Skip}

-- so many nodes, with records of so many bytes
pub record Counted (ns : List Node) (nodes bytes : ℕ) : Type 0 where
  pub nodes_are : length ns ≡ nodes
  pub bytes_are : length (flat_map node_bytes ns) ≡ bytes

pub counted_node : (n : Node) → Counted (n ∷ []) 1 (size_of n)
unfolding flat_map
counted_node n = record { nodes_are = refl; bytes_are = simp length-append (omega (arith, length-node_bytes n)) }

pub counted_append : {ms ns : List Node} {i j k l : ℕ} → Counted ms i j → Counted ns k l → Counted (ms ++ ns) (i + k) (j + l)
counted_append {ms} {ns} a b =
    record {
      nodes_are = rw length-append (omega (arith, a.nodes_are, b.nodes_are));
      bytes_are = rw (flat_map_append node_bytes ms ns, length-append) (omega (arith, a.bytes_are, b.bytes_are));
    }

-- a parent behind one, two or three parts
module _ (n : Node) {size : ℕ} (own : size_of n ≡ size) {ms : List Node} {i j : ℕ} (a : Counted ms i j) where
  pub over_one : Counted (ms ++ (n ∷ [])) (i + 1) (j + size)
  over_one = rw own at (counted_append a (counted_node n))

  module _ {ns : List Node} {k l : ℕ} (b : Counted ns k l) where
    pub over_two : Counted (ms ++ (ns ++ (n ∷ []))) (i + k + 1) (j + l + size)
    over_two =
        let r = counted_append a (counted_append b (counted_node n)) in
        record { nodes_are = omega (arith, r.nodes_are); bytes_are = omega (arith, r.bytes_are) }

    pub over_three : {ls : List Node} {p q : ℕ} → Counted ls p q → Counted (ms ++ (ns ++ (ls ++ (n ∷ [])))) (i + k + p + 1) (j + l + q + size)
    over_three c =
        let r = counted_append a (counted_append b (counted_append c (counted_node n))) in
        record { nodes_are = omega (arith, r.nodes_are); bytes_are = omega (arith, r.bytes_are) }

mutual
  unfolding write_a nodes_of_a bytes_of_a size_of form field_size sum binary ternary

  pub counted_a : (from : ℕ) (e : AExp) → Counted (write_a from e) (nodes_of_a e) (bytes_of_a e)
  counted_a from (number n) = counted_node (Number n)
  counted_a from (variable x) = counted_node (Variable x)
  counted_a from (add a b) = over_two _ refl (counted_a from a) (counted_a (from + nodes_of_a a) b)
  counted_a from (subtract a b) = over_two _ refl (counted_a from a) (counted_a (from + nodes_of_a a) b)
  counted_a from (multiply a b) = over_two _ refl (counted_a from a) (counted_a (from + nodes_of_a a) b)
  counted_a from (choice c a b) =
      over_three _ refl (counted_b from c) (counted_a (from + nodes_of_b c) a) (counted_a (from + nodes_of_b c + nodes_of_a a) b)

  pub counted_b : (from : ℕ) (b : BExp) → Counted (write_b from b) (nodes_of_b b) (bytes_of_b b)
  counted_b from (constant b) = counted_node (Constant (cond b 1 0))
  counted_b from (equal a b) = over_two _ refl (counted_a from a) (counted_a (from + nodes_of_a a) b)
  counted_b from (less a b) = over_two _ refl (counted_a from a) (counted_a (from + nodes_of_a a) b)
  counted_b from (not b) = over_one _ refl (counted_b from b)
  counted_b from (and b c) = over_two _ refl (counted_b from b) (counted_b (from + nodes_of_b b) c)

pub counted_c : {Note : Type 0} (from : ℕ) (c : Com Note) → Counted (write_c from c) (nodes_of c) (bytes_of c)
unfolding write_c nodes_of bytes_of size_of form field_size sum binary ternary
counted_c from (skip n) = counted_node Skip
counted_c from (assign n x e) = over_one _ refl (counted_a from e)
counted_c from (sequence n c d) = over_two _ refl (counted_c from c) (counted_c (from + nodes_of c) d)
counted_c from (if n b c d) =
    over_three _ refl (counted_b from b) (counted_c (from + nodes_of_b b) c) (counted_c (from + nodes_of_b b + nodes_of c) d)
counted_c from (while n b c) = over_two _ refl (counted_b from b) (counted_c (from + nodes_of_b b) c)
counted_c from (read n x a i) = over_one _ refl (counted_a from i)
counted_c from (write n a i e) = over_two _ refl (counted_a from i) (counted_a (from + nodes_of_a i) e)

-- a size whose bytes are at most 10 for each node
pub record Short (nodes bytes : ℕ) : Type 0 where
  pub short : bytes ≤ 10 * nodes

-- no record is longer than 10 bytes
mutual
  unfolding nodes_of_a bytes_of_a

  pub bytes_a : (e : AExp) → Short (nodes_of_a e) (bytes_of_a e)
  bytes_a (number n) = record { short = omega arith }
  bytes_a (variable x) = record { short = omega arith }
  bytes_a (add a b) = record { short = omega (arith, (bytes_a a).short, (bytes_a b).short) }
  bytes_a (subtract a b) = record { short = omega (arith, (bytes_a a).short, (bytes_a b).short) }
  bytes_a (multiply a b) = record { short = omega (arith, (bytes_a a).short, (bytes_a b).short) }
  bytes_a (choice c a b) = record { short = omega (arith, (bytes_b c).short, (bytes_a a).short, (bytes_a b).short) }

  pub bytes_b : (b : BExp) → Short (nodes_of_b b) (bytes_of_b b)
  bytes_b (constant b) = record { short = omega arith }
  bytes_b (equal a b) = record { short = omega (arith, (bytes_a a).short, (bytes_a b).short) }
  bytes_b (less a b) = record { short = omega (arith, (bytes_a a).short, (bytes_a b).short) }
  bytes_b (not b) = record { short = omega (arith, (bytes_b b).short) }
  bytes_b (and b c) = record { short = omega (arith, (bytes_b b).short, (bytes_b c).short) }

pub bytes_c_lem : {Note : Type 0} (c : Com Note) → Short (nodes_of c) (bytes_of c)
unfolding nodes_of bytes_of
bytes_c_lem (skip n) = record { short = omega arith }
bytes_c_lem (assign n x e) = record { short = omega (arith, (bytes_a e).short) }
bytes_c_lem (sequence n c d) = record { short = omega (arith, (bytes_c_lem c).short, (bytes_c_lem d).short) }
bytes_c_lem (if n b c d) = record { short = omega (arith, (bytes_b b).short, (bytes_c_lem c).short, (bytes_c_lem d).short) }
bytes_c_lem (while n b c) = record { short = omega (arith, (bytes_b b).short, (bytes_c_lem c).short) }
bytes_c_lem (read n x a i) = record { short = omega (arith, (bytes_a i).short) }
bytes_c_lem (write n a i e) = record { short = omega (arith, (bytes_a i).short, (bytes_a e).short) }

-- every expression and command has a node
pub some_a : (e : AExp) → 0 < nodes_of_a e
unfolding nodes_of_a
some_a (number n) = omega arith
some_a (variable x) = omega arith
some_a (add a b) = omega arith
some_a (subtract a b) = omega arith
some_a (multiply a b) = omega arith
some_a (choice c a b) = omega arith

pub some_b : (b : BExp) → 0 < nodes_of_b b
unfolding nodes_of_b
some_b (constant b) = omega arith
some_b (equal a b) = omega arith
some_b (less a b) = omega arith
some_b (not b) = omega arith
some_b (and b c) = omega arith

pub some_c : {Note : Type 0} (c : Com Note) → 0 < nodes_of c
unfolding nodes_of
some_c (skip n) = omega arith
some_c (assign n x e) = omega arith
some_c (sequence n c d) = omega arith
some_c (if n b c d) = omega arith
some_c (while n b c) = omega arith
some_c (read n x a i) = omega arith
some_c (write n a i e) = omega arith
