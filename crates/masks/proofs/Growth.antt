-- At most 8 nodes come out per node put in, 24 whatever is masked, and what comes out is declared.
use Prim.Native.Nat.{ℕ, ◌+◌, ◌*◌, ◌≤◌, ◌<◌}
use native.Mathlib.Omega.{arith}
use mathlib.Core.Bool.{Bool, true, false, cond}
use mathlib.Core.Option.{none, some}
use mathlib.Core.Path.{◌≡◌, refl}
use Rattle.awhile.specs.Language.{AExp, number, variable, add, subtract, multiply, choice}
use Rattle.awhile.specs.Language.{BExp, constant, equal, less, not, and}
use Rattle.awhile.specs.Language.{Com, skip, assign, sequence, if, while, read, write, map_notes}
use Rattle.awhile.specs.Encoding.{nodes_of_a, nodes_of_b, nodes_of}
use Rattle.awhile.specs.WellFormed.{WithinA, WithinB, Within}
use Rattle.awhile.specs.declared.Labelling.{Labelling}
use Rattle.labels.specs.Labellings.{label_of_b}
use Rattle.labels.specs.Annotation.{Entry}
use Rattle.labels.specs.Sheet.{entry_of}
use Rattle.masks.specs.Decisions.{Decision, decide}
use Rattle.masks.specs.Hardening.{Origin, masked_condition, zero_if_guessing, masked_index, flag_if_true, flag_if_false, mask_value_of, harden}
use Rattle.masks.specs.Growth.{LargeIfMasked, MasksLargeConditions}
use Rattle.masks.proofs.Decisions.{program_for}

-- ---- how many nodes
-- every expression has a node
nodes_of_a_some : (e : AExp) → 0 < nodes_of_a e
unfolding nodes_of_a
nodes_of_a_some (number n) = omega arith
nodes_of_a_some (variable x) = omega arith
nodes_of_a_some (add a b) = omega arith
nodes_of_a_some (subtract a b) = omega arith
nodes_of_a_some (multiply a b) = omega arith
nodes_of_a_some (choice c a b) = omega arith

nodes_of_b_some : (b : BExp) → 0 < nodes_of_b b
unfolding nodes_of_b
nodes_of_b_some (constant b) = omega arith
nodes_of_b_some (equal a b) = omega arith
nodes_of_b_some (less a b) = omega arith
nodes_of_b_some (not b) = omega arith
nodes_of_b_some (and b c) = omega arith

-- a condition stands three times in what comes out of an if or a loop
condition_size : (f : ℕ) (mask : Bool) (b : BExp) → LargeIfMasked mask b → 3 * nodes_of_b (masked_condition f mask b) + 3 ≤ 8 * nodes_of_b b
unfolding masked_condition nodes_of_b
condition_size f true b h = omega (arith, h.large refl)
condition_size f false b h = omega (arith, nodes_of_b_some b)

index_size : (f : ℕ) (mask : Bool) (i : AExp) → nodes_of_a (masked_index f mask i) ≤ nodes_of_a i + 5
unfolding masked_index zero_if_guessing nodes_of_a
index_size f true i = omega arith
index_size f false i = omega arith

-- a masked value adds eight nodes
value_size : (f x : ℕ) (mask : Bool) (c : Com Origin) → nodes_of (cond mask (sequence none c (mask_value_of f x)) c) ≤ nodes_of c + 8
unfolding mask_value_of zero_if_guessing nodes_of nodes_of_a
value_size f x true c = omega arith
value_size f x false c = omega arith

-- at most 8 nodes come out per node put in
pub hardened_size : (f : ℕ) (d : Com Decision) → MasksLargeConditions d → nodes_of (harden f d) ≤ 8 * nodes_of d
unfolding harden nodes_of flag_if_true flag_if_false nodes_of_a
hardened_size f (skip n) h = omega arith
hardened_size f (assign n x e) h = omega arith
hardened_size f (sequence n c d) h = omega (arith, hardened_size f c h.0, hardened_size f d h.1)
hardened_size f (if n b c d) h =
    omega (arith, condition_size f n.mask_condition b h.0, hardened_size f c h.1, hardened_size f d h.2)
hardened_size f (while n b c) h = omega (arith, condition_size f n.mask_condition b h.0, hardened_size f c h.1)
hardened_size f (read n x a i) h =
    omega (
      arith,
      value_size f x n.mask_value (read (some n.node) x a (masked_index f n.mask_index i)),
      index_size f n.mask_index i,
      nodes_of_a_some i,
    )
hardened_size f (write n a i e) h = omega (arith, index_size f n.mask_index i)

-- and at most 24 whatever is masked
test_size : (f : ℕ) (mask : Bool) (b : BExp) → nodes_of_b (masked_condition f mask b) ≤ nodes_of_b b + 4
unfolding masked_condition nodes_of_b
test_size f true b = omega arith
test_size f false b = omega arith

pub hardened_most : (f : ℕ) (d : Com Decision) → nodes_of (harden f d) ≤ 24 * nodes_of d
unfolding harden nodes_of flag_if_true flag_if_false nodes_of_a
hardened_most f (skip n) = omega arith
hardened_most f (assign n x e) = omega arith
hardened_most f (sequence n c d) = omega (arith, hardened_most f c, hardened_most f d)
hardened_most f (if n b c d) = omega (arith, test_size f n.mask_condition b, hardened_most f c, hardened_most f d)
hardened_most f (while n b c) = omega (arith, test_size f n.mask_condition b, hardened_most f c)
hardened_most f (read n x a i) =
    omega (arith, value_size f x n.mask_value (read (some n.node) x a (masked_index f n.mask_index i)), index_size f n.mask_index i)
hardened_most f (write n a i e) = omega (arith, index_size f n.mask_index i)

-- as many nodes whatever the notes
pub nodes_of_mapped : {A B : Type 0} (g : A → B) (c : Com A) → nodes_of (map_notes g c) ≡ nodes_of c
unfolding nodes_of map_notes
nodes_of_mapped g (skip n) = refl
nodes_of_mapped g (assign n x e) = refl
nodes_of_mapped g (sequence n c d) = omega (arith, nodes_of_mapped g c, nodes_of_mapped g d)
nodes_of_mapped g (if n b c d) = omega (arith, nodes_of_mapped g c, nodes_of_mapped g d)
nodes_of_mapped g (while n b c) = omega (arith, nodes_of_mapped g c)
nodes_of_mapped g (read n x a i) = refl
nodes_of_mapped g (write n a i e) = refl

-- a secret condition has at least three nodes
secret_large : (l : Labelling) (b : BExp) → LargeIfMasked (label_of_b l b) b
unfolding label_of_b nodes_of_b
secret_large l (constant b) = record { large = λ e. absurd (let z : ◌≡◌ {A = ℕ} 0 1 = cc in omega arith) }
secret_large l (equal a b) = record { large = λ e. omega (arith, nodes_of_a_some a, nodes_of_a_some b) }
secret_large l (less a b) = record { large = λ e. omega (arith, nodes_of_a_some a, nodes_of_a_some b) }
secret_large l (not b) = record { large = λ e. omega (arith, (secret_large l b).large e) }
secret_large l (and b c) = record { large = λ e. omega (arith, nodes_of_b_some b, nodes_of_b_some c) }

-- the labels mask no smaller one
pub decide_large : (c : Com Entry) → MasksLargeConditions (decide c)
unfolding decide
decide_large (skip e) = tt
decide_large (assign e x a) = tt
decide_large (sequence e c d) = (decide_large c, decide_large d)
decide_large (if e b c d) = (secret_large e.labelling b, decide_large c, decide_large d)
decide_large (while e b c) = (secret_large (entry_of c) b, decide_large c)
decide_large (read e x a i) = tt
decide_large (write e a i v) = tt

-- ---- variables, arrays and numbers
-- what is declared stays so with one more variable
module _ (v : ℕ) where
  mutual
    more_a : (e : AExp) → WithinA v e → WithinA (v + 1) e
    more_a (number n) h = h
    more_a (variable x) h = omega arith
    more_a (add a b) h = (more_a a h.0, more_a b h.1)
    more_a (subtract a b) h = (more_a a h.0, more_a b h.1)
    more_a (multiply a b) h = (more_a a h.0, more_a b h.1)
    more_a (choice c a b) h = (more_b c h.0, more_a a h.1, more_a b h.2)

    more_b : (b : BExp) → WithinB v b → WithinB (v + 1) b
    more_b (constant b) h = tt
    more_b (equal a b) h = (more_a a h.0, more_a b h.1)
    more_b (less a b) h = (more_a a h.0, more_a b h.1)
    more_b (not b) h = more_b b h
    more_b (and b c) h = (more_b b h.0, more_b c h.1)

  condition_within : (mask : Bool) (b : BExp) → WithinB v b → WithinB (v + 1) (masked_condition v mask b)
  unfolding masked_condition
  condition_within true b h = ((omega arith, omega arith), more_b b h)
  condition_within false b h = more_b b h

  zero_within : (e : AExp) → WithinA (v + 1) e → WithinA (v + 1) (zero_if_guessing v e)
  unfolding zero_if_guessing
  zero_within e h = ((omega arith, omega arith), omega arith, h)

  index_within : (mask : Bool) (i : AExp) → WithinA v i → WithinA (v + 1) (masked_index v mask i)
  unfolding masked_index
  index_within true i h = zero_within i (more_a i h)
  index_within false i h = more_a i h

  module _ (arrays : ℕ) where
    value_within : (x : ℕ) (mask : Bool) (c : Com Origin) → x < v → Within (v + 1) arrays c → Within (v + 1) arrays (cond mask (sequence none c (mask_value_of v x)) c)
    unfolding mask_value_of
    value_within x true c small h = (h, (omega arith, zero_within (variable x) (omega arith)))
    value_within x false c small h = h

    -- a hardened program is declared with one variable more than the original
    pub hardened_within : (d : Com Decision) → Within v arrays (program_for d) → Within (v + 1) arrays (harden v d)
    unfolding harden map_notes flag_if_true flag_if_false
    hardened_within (skip n) h = tt
    hardened_within (assign n x e) h = (omega (arith, h.0), more_a e h.1)
    hardened_within (sequence n c d) h = (hardened_within c h.0, hardened_within d h.1)
    hardened_within (if n b c d) h =
        let condition = condition_within n.mask_condition b h.0 in
        (condition, ((omega arith, (condition, omega arith, omega arith)), hardened_within c h.1), ((omega arith, (condition, omega arith, omega arith)), hardened_within d h.2))
    hardened_within (while n b c) h =
        let condition = condition_within n.mask_condition b h.0 in
        ((condition, ((omega arith, (condition, omega arith, omega arith)), hardened_within c h.1)), (omega arith, (condition, omega arith, omega arith)))
    hardened_within (read n x a i) h =
        value_within x n.mask_value (read (some n.node) x a (masked_index v n.mask_index i)) h.0
        (omega (arith, h.0), h.1, index_within n.mask_index i h.2)
    hardened_within (write n a i e) h = (h.0, index_within n.mask_index i h.1, more_a e h.2)
