-- What holds of every kind of truth holds of every truth node.
use Prim.Native.Nat.{ℕ}
use native.Mathlib.Omega.{arith}
use mathlib.Core.Path.{◌≡◌}
use Rattle.awhile.specs.Nodes.{form, sort_of}
use Rattle.awhile.specs.declared.Node.{Node}
use Rattle.awhile.specs.declared.Node.TheVariants.{Number, Variable, Add, Subtract, Multiply, Choice, Constant, Equal, Less, Not, And}
use Rattle.awhile.specs.declared.Node.TheVariants.{Skip, Assign, Sequence, If, While, Read, Write}
use Rattle.awhile.specs.declared.Sort.TheVariants.{Truth}

pub truth_kinds : (P : Node → Type 0) → ((v : ℕ) → P (Constant v)) → ((a b : ℕ) → P (Equal a b)) → ((a b : ℕ) → P (Less a b)) → ((a : ℕ) → P (Not a))
    → ((a b : ℕ) → P (And a b)) → (m : Node) → sort_of m ≡ Truth → P m
unfolding sort_of form
truth_kinds P constant equal less not and (Number v) sort = absurd (let z : ◌≡◌ {A = ℕ} 0 1 = cc in omega arith)
truth_kinds P constant equal less not and (Variable x) sort = absurd (let z : ◌≡◌ {A = ℕ} 0 1 = cc in omega arith)
truth_kinds P constant equal less not and (Add a b) sort = absurd (let z : ◌≡◌ {A = ℕ} 0 1 = cc in omega arith)
truth_kinds P constant equal less not and (Subtract a b) sort = absurd (let z : ◌≡◌ {A = ℕ} 0 1 = cc in omega arith)
truth_kinds P constant equal less not and (Multiply a b) sort = absurd (let z : ◌≡◌ {A = ℕ} 0 1 = cc in omega arith)
truth_kinds P constant equal less not and (Choice c a b) sort = absurd (let z : ◌≡◌ {A = ℕ} 0 1 = cc in omega arith)
truth_kinds P constant equal less not and (Constant v) sort = constant v
truth_kinds P constant equal less not and (Equal a b) sort = equal a b
truth_kinds P constant equal less not and (Less a b) sort = less a b
truth_kinds P constant equal less not and (Not a) sort = not a
truth_kinds P constant equal less not and (And a b) sort = and a b
truth_kinds P constant equal less not and Skip sort = absurd (let z : ◌≡◌ {A = ℕ} 0 1 = cc in omega arith)
truth_kinds P constant equal less not and (Assign x e) sort = absurd (let z : ◌≡◌ {A = ℕ} 0 1 = cc in omega arith)
truth_kinds P constant equal less not and (Sequence c d) sort = absurd (let z : ◌≡◌ {A = ℕ} 0 1 = cc in omega arith)
truth_kinds P constant equal less not and (If b c d) sort = absurd (let z : ◌≡◌ {A = ℕ} 0 1 = cc in omega arith)
truth_kinds P constant equal less not and (While b c) sort = absurd (let z : ◌≡◌ {A = ℕ} 0 1 = cc in omega arith)
truth_kinds P constant equal less not and (Read x a i) sort = absurd (let z : ◌≡◌ {A = ℕ} 0 1 = cc in omega arith)
truth_kinds P constant equal less not and (Write a i e) sort = absurd (let z : ◌≡◌ {A = ℕ} 0 1 = cc in omega arith)
