-- A node's own fields, those that name no child: what is written for a program within the declarations has them in range.
use Prim.Native.Nat.{ℕ, ◌+◌, ◌^◌}
use mathlib.Core.Bool.{Bool, true, false}
use mathlib.Core.Path.{◌≡◌, refl}
use mathlib.Core.List.{List, [], ◌∷◌, ◌++◌}
use lib.Dec.{ltb, leb}
use borrow.Author.Tests.{lt-ltb}
use Rattle.awhile.specs.Language.{AExp, number, variable, add, subtract, multiply, choice}
use Rattle.awhile.specs.Language.{BExp, constant, equal, less, not, and}
use Rattle.awhile.specs.Language.{Com, skip, assign, sequence, if, while, read, write}
use Rattle.awhile.specs.Lists.{all}
use Rattle.awhile.specs.Nodes.{Field, form}
use Rattle.awhile.specs.Nodes.{word as word_field, constant as constant_field, variable as variable_field, array as array_field, child as child_field}
use Rattle.awhile.specs.Encoding.{nodes_of_a, nodes_of_b, nodes_of, binary, ternary, write_a, write_b, write_c}
use Rattle.awhile.specs.WellFormed.{WithinA, WithinB, Within}
use Rattle.awhile.proofs.Lists.{all_append, all_cons}
use Rattle.awhile.specs.declared.Node.{Node}

-- a field that is no child is in range and fits
unfoldable pub own_fits : (variables arrays : ℕ) → Field → Bool
own_fits vs arrs (word_field n) = ltb n (2 ^ 32)
own_fits vs arrs (constant_field n) = leb n 1
own_fits vs arrs (variable_field x) = ltb x vs
own_fits vs arrs (array_field a) = ltb a arrs
own_fits vs arrs (child_field s n) = true

-- all own fields of a node fit
unfoldable pub own_fields_fit : (variables arrays : ℕ) → Node → Bool
own_fields_fit vs arrs n = all (own_fits vs arrs) (form n).fields

-- the own fields of all these nodes fit
pub record OwnFit (vs arrs : ℕ) (ns : List Node) : Type 0 where
  pub each : all (own_fields_fit vs arrs) ns ≡ true

module _ {vs arrs : ℕ} where
  -- one node
  pub own_one : {n : Node} → own_fields_fit vs arrs n ≡ true → OwnFit vs arrs (n ∷ [])
  unfolding all
  own_one {n} p = record { each = all_cons (own_fields_fit vs arrs) n [] p refl }

  -- two lists of nodes
  pub own_append : {ms ns : List Node} → OwnFit vs arrs ms → OwnFit vs arrs ns → OwnFit vs arrs (ms ++ ns)
  own_append {ms} {ns} p q = record { each = all_append (own_fields_fit vs arrs) ms ns p.each q.each }

module _ (vs arrs : ℕ) where
  -- what is written for a program within the declarations
  mutual
    unfolding write_a write_b binary ternary all own_fits own_fields_fit form

    -- a numeric expression
    pub own_a : (a : AExp) (from : ℕ) → WithinA vs a → OwnFit vs arrs (write_a from a)
    own_a (number n) from w = own_one (rw (lt-ltb n (2 ^ 32) w))
    own_a (variable x) from w = own_one (rw (lt-ltb x vs w))
    own_a (add a b) from w = own_append (own_a a from w.0) (own_append (own_a b (from + nodes_of_a a) w.1) (own_one refl))
    own_a (subtract a b) from w = own_append (own_a a from w.0) (own_append (own_a b (from + nodes_of_a a) w.1) (own_one refl))
    own_a (multiply a b) from w = own_append (own_a a from w.0) (own_append (own_a b (from + nodes_of_a a) w.1) (own_one refl))
    own_a (choice c a b) from w =
        own_append (own_b c from w.0) (own_append (own_a a (from + nodes_of_b c) w.1) (own_append (own_a b (from + nodes_of_b c + nodes_of_a a) w.2) (own_one refl)))

    -- a truth expression
    pub own_b : (b : BExp) (from : ℕ) → WithinB vs b → OwnFit vs arrs (write_b from b)
    own_b (constant true) from w = own_one refl
    own_b (constant false) from w = own_one refl
    own_b (equal a b) from w = own_append (own_a a from w.0) (own_append (own_a b (from + nodes_of_a a) w.1) (own_one refl))
    own_b (less a b) from w = own_append (own_a a from w.0) (own_append (own_a b (from + nodes_of_a a) w.1) (own_one refl))
    own_b (not b) from w = own_append (own_b b from w) (own_one refl)
    own_b (and b c) from w = own_append (own_b b from w.0) (own_append (own_b c (from + nodes_of_b b) w.1) (own_one refl))

  module _ {Note : Type 0} where
    -- a command
    pub own_c : (c : Com Note) (from : ℕ) → Within vs arrs c → OwnFit vs arrs (write_c from c)
    unfolding write_c binary ternary all own_fits own_fields_fit form
    own_c (skip n) from w = own_one refl
    own_c (assign n x e) from w = own_append (own_a e from w.1) (own_one (rw (lt-ltb x vs w.0)))
    own_c (sequence n c d) from w = own_append (own_c c from w.0) (own_append (own_c d (from + nodes_of c) w.1) (own_one refl))
    own_c (if n b c d) from w =
        own_append (own_b b from w.0) (own_append (own_c c (from + nodes_of_b b) w.1) (own_append (own_c d (from + nodes_of_b b + nodes_of c) w.2) (own_one refl)))
    own_c (while n b c) from w = own_append (own_b b from w.0) (own_append (own_c c (from + nodes_of_b b) w.1) (own_one refl))
    own_c (read n x a i) from w = own_append (own_a i from w.2) (own_one (rw (lt-ltb x vs w.0, lt-ltb a arrs w.1)))
    own_c (write n a i e) from w = own_append (own_a i from w.1) (own_append (own_a e (from + nodes_of_a i) w.2) (own_one (rw (lt-ltb a arrs w.0))))
