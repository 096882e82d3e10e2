-- The nodes that no arm of a `match` over expressions names: numbers and constants, which name no variable, and where 0 is looked for, what is no number.
use Prim.Native.Nat.{ℕ}
use mathlib.Core.Bool.{false}
use mathlib.Core.List.{List}
use mathlib.Core.Path.{◌≡◌, refl}
use Rattle.reader.specs.Index.{numeric_in, truth_in}
use Rattle.awhile.specs.Nodes.{form, sort_of}
use Rattle.awhile.specs.declared.Sort.TheVariants.{Numeric, Truth}
use Rattle.awhile.specs.declared.Node.{Node}
use Rattle.awhile.specs.declared.Node.TheVariants.{Number, Variable, Add, Subtract, Multiply, Choice}
use Rattle.awhile.specs.declared.Node.TheVariants.{Constant, Equal, Less, Not, And}
use Rattle.awhile.specs.declared.Node.TheVariants.{Skip, Assign, Sequence, If, While, Read, Write}
use Rattle.reader.proofs.Index.{Parts}
use Rattle.reader.proofs.NodeKinds.{numeric_kinds}
use Rattle.labels.specs.Labellings.{is_nought}
use Rattle.variables.specs.Variables.{variables_of_a, variables_of_b}

module _ (table : List ℕ) (n : ℕ) where
  -- a numeric node that is no other kind is a number, which names no variable
  pub number_names_none : (m : Node) → sort_of m ≡ Numeric → ((x : ℕ) → m ≡ Variable x → ⊥) → ((a b : ℕ) → m ≡ Add a b → ⊥) → ((a b : ℕ) → m ≡ Subtract a b → ⊥)
      → ((a b : ℕ) → m ≡ Multiply a b → ⊥) → ((c a b : ℕ) → m ≡ Choice c a b → ⊥) → Parts table n m → 0 ≡ variables_of_a (numeric_in table n)
  unfolding variables_of_a
  number_names_none m sort variable add subtract multiply choice =
      numeric_kinds (λ k. m ≡ k → Parts table n k → 0 ≡ variables_of_a (numeric_in table n))
      (λ v e p. rw p)
      (λ x e p. absurd (variable x e))
      (λ a b e p. absurd (add a b e))
      (λ a b e p. absurd (subtract a b e))
      (λ a b e p. absurd (multiply a b e))
      (λ c a b e p. absurd (choice c a b e))
      m sort refl

  -- one that is no number is no nought
  pub no_nought : (m : Node) → sort_of m ≡ Numeric → ((v : ℕ) → m ≡ Number v → ⊥) → Parts table n m → false ≡ is_nought (numeric_in table n)
  unfolding is_nought
  no_nought m sort number =
      numeric_kinds (λ k. m ≡ k → Parts table n k → false ≡ is_nought (numeric_in table n))
      (λ v e p. absurd (number v e))
      (λ x e p. rw p.1)
      (λ a b e p. rw p.2)
      (λ a b e p. rw p.2)
      (λ a b e p. rw p.2)
      (λ c a b e p. rw p.3)
      m sort refl

  -- a truth node that is no other kind is a constant, which names none
  pub constant_names_none : (m : Node) → sort_of m ≡ Truth → ((a b : ℕ) → m ≡ Equal a b → ⊥) → ((a b : ℕ) → m ≡ Less a b → ⊥) → ((b : ℕ) → m ≡ Not b → ⊥)
      → ((a b : ℕ) → m ≡ And a b → ⊥) → Parts table n m → 0 ≡ variables_of_b (truth_in table n)
  unfolding sort_of form variables_of_b
  constant_names_none (Number v) s equal less not and p = cc
  constant_names_none (Variable x) s equal less not and p = cc
  constant_names_none (Add a b) s equal less not and p = cc
  constant_names_none (Subtract a b) s equal less not and p = cc
  constant_names_none (Multiply a b) s equal less not and p = cc
  constant_names_none (Choice c a b) s equal less not and p = cc
  constant_names_none (Constant v) s equal less not and p = rw p.1
  constant_names_none (Equal a b) s equal less not and p = absurd (equal a b refl)
  constant_names_none (Less a b) s equal less not and p = absurd (less a b refl)
  constant_names_none (Not a) s equal less not and p = absurd (not a refl)
  constant_names_none (And a b) s equal less not and p = absurd (and a b refl)
  constant_names_none Skip s equal less not and p = cc
  constant_names_none (Assign x e) s equal less not and p = cc
  constant_names_none (Sequence c d) s equal less not and p = cc
  constant_names_none (If b c d) s equal less not and p = cc
  constant_names_none (While b c) s equal less not and p = cc
  constant_names_none (Read x a i) s equal less not and p = cc
  constant_names_none (Write a i e) s equal less not and p = cc
