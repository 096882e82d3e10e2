-- The totals of what hardening adds, and that they do not depend on the flag's number.
use Prim.Native.Nat.{ℕ, ◌+◌, ◌*◌, ◌≤◌}
use native.Mathlib.Omega.{arith}
use mathlib.Core.Bool.{Bool, true, false, cond}
use mathlib.Core.List.{List}
use mathlib.Core.Path.{◌≡◌, refl}
use Rattle.awhile.specs.Language.{AExp, BExp, Com, skip, assign, sequence, if, while, read, write}
use Rattle.awhile.specs.Encoding.{nodes_of_a, nodes_of_b, nodes_of}
use Rattle.reader.specs.Index.{truth_in}
use Rattle.masks.specs.Decisions.{Decision, decision}
use Rattle.masks.specs.Hardening.{Origin, masked_condition, zero_if_guessing, masked_index, flag_if_true, flag_if_false, mask_value_of, harden}
use Rattle.deciding.specs.declared.decisions.Decision.{Decision as Choices}
use Rattle.masking.specs.declared.Maskable.{Maskable}
use Rattle.masking.specs.InMemory.{hardened_at, flag_update, test_in, side_in, if_in, loop_in, while_in}
use Rattle.copier.specs.Sizes.{bytes_of_a, bytes_of_b, bytes_of}
use Rattle.copier.specs.Totals.{total, total_of_a, total_of_b, total_of}

-- ---- totals
-- a mask adds no more than its nodes and bytes
pub mask_most : (mask : Bool) (n : ℕ) → cond mask n 0 ≤ n
mask_most true n = omega arith
mask_most false n = omega arith

module _ (f : ℕ) where
  -- a condition with its mask or without
  test_total : (mask : Bool) (b : BExp) → total_of_b (masked_condition f mask b) ≡ total_of_b b + cond mask (total 4 30) 0
  unfolding masked_condition nodes_of_b bytes_of_b
  test_total true b = omega arith
  test_total false b = omega arith

  -- an index
  place_total : (mask : Bool) (i : AExp) → total_of_a (masked_index f mask i) ≡ total_of_a i + cond mask (total 5 40) 0
  unfolding masked_index zero_if_guessing nodes_of_a bytes_of_a
  place_total true i = omega arith
  place_total false i = omega arith

  -- a read
  pub read_total : (x a n : ℕ) (mask hide : Bool) (i : AExp) → total_of (harden f (read (decision n false mask hide) x a i))
      ≡ total_of_a i + cond mask (total 5 40) 0 + cond hide (total 8 62) 0 + total 1 10
  unfolding harden mask_value_of zero_if_guessing nodes_of bytes_of nodes_of_a bytes_of_a
  read_total x a n mask true i = omega (arith, place_total mask i)
  read_total x a n mask false i = omega (arith, place_total mask i)

  -- a write
  pub write_total : (a n : ℕ) (mask : Bool) (i e : AExp) → total_of (harden f (write (decision n false mask false) a i e))
      ≡ total_of_a i + cond mask (total 5 40) 0 + total_of_a e + total 1 10
  unfolding harden nodes_of bytes_of
  write_total a n mask i e = omega (arith, place_total mask i)

  -- an if and a loop, from their condition and their sides
  module _ (table : List ℕ) (ds : List Choices) (b : Maskable) (o : Origin) where
    pub if_total : (c d : ℕ) → total_of (if_in table ds f b o c d)
        ≡ 3 * (total_of_b (truth_in table b.node) + cond b.mask (total 4 30) 0) + total_of (hardened_at table ds f c) + total_of (hardened_at table ds f d) + total 11 90
    unfolding if_in side_in test_in flag_update flag_if_true flag_if_false nodes_of bytes_of nodes_of_a bytes_of_a
    if_total c d = omega (arith, test_total b.mask (truth_in table b.node))

    pub while_total : (c : ℕ) → total_of (while_in table ds f b o c)
        ≡ 3 * (total_of_b (truth_in table b.node) + cond b.mask (total 4 30) 0) + total_of (hardened_at table ds f c) + total 11 88
    unfolding while_in loop_in side_in test_in flag_update flag_if_true flag_if_false nodes_of bytes_of nodes_of_a bytes_of_a
    while_total c = omega (arith, test_total b.mask (truth_in table b.node))

-- so many nodes and bytes are so many
pub record SameSize (nodes bytes true_nodes true_bytes : ℕ) : Type 0 where
  pub nodes_same : nodes ≡ true_nodes
  pub bytes_same : bytes ≡ true_bytes

-- ---- sizes do not depend on the flag's number
module _ (f g : ℕ) where
  same_condition : (mask : Bool) (b : BExp)
      → SameSize (nodes_of_b (masked_condition f mask b)) (bytes_of_b (masked_condition f mask b)) (nodes_of_b (masked_condition g mask b)) (bytes_of_b (masked_condition g mask b))
  unfolding masked_condition nodes_of_b bytes_of_b nodes_of_a bytes_of_a
  same_condition true b = record { nodes_same = refl; bytes_same = refl }
  same_condition false b = record { nodes_same = refl; bytes_same = refl }

  same_index : (mask : Bool) (i : AExp)
      → SameSize (nodes_of_a (masked_index f mask i)) (bytes_of_a (masked_index f mask i)) (nodes_of_a (masked_index g mask i)) (bytes_of_a (masked_index g mask i))
  unfolding masked_index zero_if_guessing nodes_of_b bytes_of_b nodes_of_a bytes_of_a
  same_index true i = record { nodes_same = refl; bytes_same = refl }
  same_index false i = record { nodes_same = refl; bytes_same = refl }

  pub any_flag : (d : Com Decision) → SameSize (nodes_of (harden f d)) (bytes_of (harden f d)) (nodes_of (harden g d)) (bytes_of (harden g d))
  unfolding harden flag_if_true flag_if_false mask_value_of zero_if_guessing nodes_of bytes_of nodes_of_a bytes_of_a
  any_flag (skip n) = record { nodes_same = refl; bytes_same = refl }
  any_flag (assign n x e) = record { nodes_same = refl; bytes_same = refl }
  any_flag (sequence n c d) =
      let p = any_flag c in
      let q = any_flag d in
      record { nodes_same = omega (arith, p.nodes_same, q.nodes_same); bytes_same = omega (arith, p.bytes_same, q.bytes_same) }
  any_flag (if n b c d) =
      let t = same_condition n.mask_condition b in
      let p = any_flag c in
      let q = any_flag d in
      record {
        nodes_same = omega (arith, t.nodes_same, p.nodes_same, q.nodes_same);
        bytes_same = omega (arith, t.bytes_same, p.bytes_same, q.bytes_same);
      }
  any_flag (while n b c) =
      let t = same_condition n.mask_condition b in
      let p = any_flag c in
      record { nodes_same = omega (arith, t.nodes_same, p.nodes_same); bytes_same = omega (arith, t.bytes_same, p.bytes_same) }
  any_flag (read n x a i) = hidden n.mask_value
    where
      hidden : (hide : Bool) → let n' : Decision = decision n.node n.mask_condition n.mask_index hide in
          SameSize (nodes_of (harden f (read n' x a i))) (bytes_of (harden f (read n' x a i))) (nodes_of (harden g (read n' x a i))) (bytes_of (harden g (read n' x a i)))
      hidden true =
          let p = same_index n.mask_index i in
          record { nodes_same = omega (arith, p.nodes_same); bytes_same = omega (arith, p.bytes_same) }
      hidden false =
          let p = same_index n.mask_index i in
          record { nodes_same = omega (arith, p.nodes_same); bytes_same = omega (arith, p.bytes_same) }
  any_flag (write n a i e) =
      let p = same_index n.mask_index i in
      record { nodes_same = omega (arith, p.nodes_same); bytes_same = omega (arith, p.bytes_same) }
