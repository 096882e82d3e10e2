-- Calls on a node's children: their numbers are lower, and so are the measures. A node's is 3 times its number, so that up to two calls on the same
-- children fall by 1 each.
use Prim.Native.Nat.{ℕ, suc, ◌+◌, ◌*◌, ◌<◌, max}
use native.Mathlib.Omega.{arith}
use mathlib.Core.List.{List}
use mathlib.Core.Path.{◌≡◌}
use Rattle.awhile.specs.Language.{AExp, BExp}
use Rattle.awhile.specs.Encoding.{nodes_of_a, nodes_of_b}
use Rattle.reader.specs.Index.{numeric_in, truth_in, HasSort}
use Rattle.awhile.specs.declared.Sort.{Sort}
use Rattle.awhile.specs.declared.Sort.TheVariants.{Numeric, Truth}
use Rattle.reader.proofs.Index.{Child}
use Rattle.reader.proofs.Admitted.{child}
use Rattle.copier.specs.Sizes.{bytes_of_a, bytes_of_b}
use Rattle.copier.specs.Written.{SpaceFor}
use Rattle.copier.proofs.ExpressionWrites.{room_a, room_b}

module _ {table : List ℕ} {t n : ℕ} (is : 3 * n ≡ t) where
  -- one child
  pub lower : {s : Sort} {k : ℕ} → Child table s n k → (3 * k < t) × HasSort table s k
  lower h = (omega (arith, h.below), child h)

  -- two children
  lower_pair : {s : Sort} {j k : ℕ} → Child table s n j → Child table s n k
      → (3 * max j k + 2 < t) × (HasSort table s j × HasSort table s k)
  lower_pair g h = (omega (arith, g.below, h.below), (child g, child h))

  -- the three children of a choice
  lower_three : {i j k : ℕ} → Child table Truth n i → Child table Numeric n j → Child table Numeric n k
      → (3 * max i (max j k) + 2 < t) × (HasSort table Truth i × HasSort table Numeric j × HasSort table Numeric k)
  lower_three f g h =
      (omega (arith, f.below, g.below, h.below), (child f, child g, child h))

-- the copies of a node's children are asked for with the room that the node has
module _ {table out : List ℕ} {from t n : ℕ} where
  module _ (pre : (3 * n ≡ t) × (HasSort table Numeric n × SpaceFor from (nodes_of_a (numeric_in table n)) (bytes_of_a (numeric_in table n)) out)) {e : AExp} where
    pub call_binary : {j k : ℕ} → Child table Numeric n j × Child table Numeric n k × (numeric_in table n ≡ e)
        → (3 * max j k + 2 < t) × ((HasSort table Numeric j × HasSort table Numeric k) × SpaceFor from (nodes_of_a e) (bytes_of_a e) out)
    call_binary p = let q = lower_pair pre.0 p.0 p.1 in (q.0, (q.1, room_a p.2 pre.1.1))

    pub call_choice : {i j k : ℕ} → Child table Truth n i × Child table Numeric n j × Child table Numeric n k × (numeric_in table n ≡ e)
        → (3 * max i (max j k) + 2 < t)
        × ((HasSort table Truth i × HasSort table Numeric j × HasSort table Numeric k) × SpaceFor from (nodes_of_a e) (bytes_of_a e) out)
    call_choice p = let q = lower_three pre.0 p.0 p.1 p.2 in (q.0, (q.1, room_a p.3 pre.1.1))

  module _ (pre : (3 * n ≡ t) × (HasSort table Truth n × SpaceFor from (nodes_of_b (truth_in table n)) (bytes_of_b (truth_in table n)) out)) {e : BExp} where
    -- an equal or a less of two numerics, or an and of two truths
    pub call_truth : {s : Sort} {j k : ℕ} → Child table s n j × Child table s n k × (truth_in table n ≡ e)
        → (3 * max j k + 2 < t) × ((HasSort table s j × HasSort table s k) × SpaceFor from (nodes_of_b e) (bytes_of_b e) out)
    call_truth p = let q = lower_pair pre.0 p.0 p.1 in (q.0, (q.1, room_b p.2 pre.1.1))

-- the members of a pair, in a function that adds so many calls and one to their measure
module _ (j k more : ℕ) {t : ℕ} (is : 3 * max j k + suc more ≡ t) where
  pub first_of_pair : 3 * j < t
  first_of_pair = omega arith

  pub second_of_pair : 3 * k < t
  second_of_pair = omega arith

-- the same pair, and the pair behind a first child
pub pair_of_binary : (j k : ℕ) {t : ℕ} → 3 * max j k + 2 ≡ t → 3 * max j k + 1 < t
pair_of_binary j k e = omega arith

pub pair_of_choice : (i j k : ℕ) {t : ℕ} → 3 * max i (max j k) + 2 ≡ t → 3 * max j k + 1 < t
pair_of_choice i j k e = omega arith
