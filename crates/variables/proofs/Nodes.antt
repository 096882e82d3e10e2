-- What calls on a node's children ask.
use Prim.Native.Nat.{ℕ, ◌+◌, ◌*◌, ◌<◌, max}
use mathlib.Core.List.{List}
use mathlib.Core.Path.{◌≡◌}
use native.Mathlib.Omega.{arith}
use Rattle.reader.specs.Index.{HasSort}
use Rattle.awhile.specs.declared.Sort.{Sort}
use Rattle.awhile.specs.declared.Sort.TheVariants.{Numeric, Truth}
use Rattle.reader.proofs.Admitted.{child}
use Rattle.reader.proofs.Index.{Child}

-- calls on a node's children, which are below it: on one, on a pair of numbers, on a product's two, which are called once more, and on a choice's three
module _ {table : List ℕ} {n t : ℕ} (measure : 3 * n + 1 ≡ t) where
  pub call_child : {wanted : Sort} {k : ℕ} → Child table wanted n k → (3 * k + 1 < t) × HasSort table wanted k
  call_child p = (omega (arith, measure, p.below), child p)

  pub call_pair : {rest : Type 0} {j k : ℕ} → Child table Numeric n j × Child table Numeric n k × rest
      → (3 * max j k + 2 < t) × (HasSort table Numeric j × HasSort table Numeric k)
  call_pair p = (omega (arith, measure, p.0.below, p.1.below), (child p.0, child p.1))

  pub call_product : {rest : Type 0} {j k : ℕ} → Child table Numeric n j × Child table Numeric n k × rest
      → (3 * max j k + 3 < t) × (HasSort table Numeric j × HasSort table Numeric k)
  call_product p = (omega (arith, measure, p.0.below, p.1.below), (child p.0, child p.1))

  pub call_choice : {rest : Type 0} {i j k : ℕ} → Child table Truth n i × Child table Numeric n j × Child table Numeric n k × rest
      → (3 * max i (max j k) + 3 < t) × (HasSort table Truth i × HasSort table Numeric j × HasSort table Numeric k)
  call_choice p = (omega (arith, measure, p.0.below, p.1.below, p.2.below), (child p.0, child p.1, child p.2))
