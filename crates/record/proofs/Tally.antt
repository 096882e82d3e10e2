-- Counts of numbers in a list, kept while the list is walked.
use Prim.Native.Nat.{ℕ, zero, suc, ◌+◌, ◌≤◌, ◌<◌}
use native.Mathlib.Omega.{arith}
use mathlib.Core.Bool.{Bool, true, false, cond}
use mathlib.Core.Path.{◌≡◌, refl, ◌∙◌}
use mathlib.Core.List.{List, [], ◌∷◌, ◌++◌, flat_map}
use lib.ListN.{length, get_or, set, replicate, length-set, length-append}
use lib.Seq.{get_or-set_same, get_or-set_other}
use lib.Dec.{eqb, ltb}
use borrow.Author.Tests.{ltb-true, lt-ltb, eqb-true, eqb-false}
use Rattle.awhile.specs.Lists.{all, occurrences}
use Rattle.awhile.specs.Nodes.{Field, word, constant, variable, array, child, field_in_range, field_children}
use Rattle.record.specs.RecordRead.{tally, all_below, CountsBelow}
use Rattle.awhile.specs.declared.Sort.{Sort}
use Rattle.record.proofs.Sorting.{no_children}
use Rattle.awhile.proofs.Lists.{all_head, all_tail, all_append, all_first, all_second}

-- counts of two lists, one after the other
tally_append : (ms ns counts : List ℕ) → tally counts (ms ++ ns) ≡ tally (tally counts ms) ns
unfolding tally
tally_append [] ns counts = refl
tally_append (m ∷ ms) ns counts = tally_append ms ns (set counts m (get_or counts m 0 + 1))

-- as many counts as before
length_tally : (ns counts : List ℕ) → length (tally counts ns) ≡ length counts
unfolding tally
length_tally [] counts = refl
length_tally (n ∷ ns) counts = length_tally ns (set counts n (get_or counts n 0 + 1)) ∙ length-set counts n (get_or counts n 0 + 1)

-- a count grows by one where its number is counted
count_one : (counts : List ℕ) (n k : ℕ) → n < length counts → get_or (set counts n (get_or counts n 0 + 1)) k 0 ≡ get_or counts k 0 + cond (eqb k n) 1 0
count_one counts n k inside = go (eqb k n) refl
  where
    go : (b : Bool) → eqb k n ≡ b → get_or (set counts n (get_or counts n 0 + 1)) k 0 ≡ get_or counts k 0 + cond b 1 0
    go true e = rw (eqb-true k n e) (get_or-set_same counts n (get_or counts n 0 + 1) 0 inside)
    go false e = get_or-set_other counts n k (get_or counts n 0 + 1) 0 (eqb-false k n e) ∙ omega arith

-- each count grows by how often its number occurs
pub get_or-tally : (ns counts : List ℕ) (k : ℕ) → all_below (length counts) ns ≡ true → get_or (tally counts ns) k 0 ≡ get_or counts k 0 + occurrences k ns
unfolding tally all_below occurrences
get_or-tally [] counts k below = omega arith
get_or-tally (n ∷ ns) counts k below =
    let test : ℕ → Bool = λ m. ltb m (length counts) in
    let next : List ℕ = set counts n (get_or counts n 0 + 1) in
    let rest = get_or-tally ns next k (rw (length-set counts n (get_or counts n 0 + 1)) (all_tail test n ns below)) in
    omega (arith, rest, count_one counts n k (ltb-true n (length counts) (all_head test n ns below)))

-- a number occurs no more often than there are numbers
pub occurrences_most : (k : ℕ) (ns : List ℕ) → occurrences k ns ≤ length ns
unfolding occurrences
occurrences_most k [] = omega arith
occurrences_most k (n ∷ ns) = go (eqb k n) (occurrences_most k ns)
  where
    go : (b : Bool) → occurrences k ns ≤ length ns → cond b 1 0 + occurrences k ns ≤ suc (length ns)
    go true h = omega arith
    go false h = omega arith

-- counts that start at 0 are below 1
pub zeros_below : (length : ℕ) → CountsBelow 1 (replicate length 0)
zeros_below length = record { each = each length }
  where
    each : (length n : ℕ) → get_or (replicate length 0) n 0 < 1
    each zero n = omega arith
    each (suc length) zero = omega arith
    each (suc length) (suc n) = each length n

-- ---- counting field after field
-- a field names one child at most
field_children_lem : (f : Field) → length (field_children f) ≤ 1
unfolding field_children
field_children_lem (word n) = omega arith
field_children_lem (constant n) = omega arith
field_children_lem (variable x) = omega arith
field_children_lem (array a) = omega arith
field_children_lem (child s n) = omega arith

-- there are counts for the children of these fields, and each is below a bound
pub record CountsFor (bound : ℕ) (counts : List ℕ) (fs : List Field) : Type 0 where
  pub below : all_below (length counts) (flat_map field_children fs) ≡ true
  pub small : CountsBelow bound counts

module _ (counts : List ℕ) (f : Field) (fs : List Field) where
  module _ (bound : ℕ) (room : CountsFor bound counts (f ∷ fs)) where
    -- enough for the first field
    pub tally_first : bound ≤ 65535 → (all_below (length counts) (field_children f) ≡ true) × CountsBelow 65535 counts
    unfolding all_below flat_map
    tally_first wide =
        (all_first (λ n. ltb n (length counts)) (field_children f) (flat_map field_children fs) room.below, record { each = λ k. omega (arith, room.small.each k) })

    -- and, once its child is counted, for the others
    pub tally_rest : (next : List ℕ) → next ≡ tally counts (field_children f) → CountsFor (bound + 1) next fs
    unfolding all_below flat_map
    tally_rest next e =
        let children = field_children f in
        let inside = all_first (λ n. ltb n (length counts)) children (flat_map field_children fs) room.below in
        rw e
        (record {
          below = rw (length_tally children counts) (all_second (λ n. ltb n (length counts)) children (flat_map field_children fs) room.below);
          small = record { each = λ k. omega (arith, get_or-tally children counts k inside, room.small.each k, occurrences_most k children, field_children_lem f) };
        })

  -- counting the first field's child and then the others' counts all
  pub tally_fields : (next last : List ℕ) → next ≡ tally counts (field_children f) → last ≡ tally next (flat_map field_children fs)
      → last ≡ tally counts (flat_map field_children (f ∷ fs))
  unfolding flat_map
  tally_fields next last e rest = rw (tally_append (field_children f) (flat_map field_children fs) counts, ← e) rest

-- no fields count nothing
pub tally_no_fields : (counts : List ℕ) → counts ≡ tally counts (flat_map field_children [])
unfolding tally flat_map
tally_no_fields counts = refl

-- nor does a word
pub tally_word : (counts : List ℕ) (n : ℕ) → counts ≡ tally counts (flat_map field_children (word n ∷ []))
unfolding tally flat_map field_children
tally_word counts n = refl

-- the child that a field names has its count
pub child_inside : (bound : ℕ) (s : Sort) (n : ℕ) → all_below bound (field_children (child s n)) ≡ true → n < bound
unfolding all_below field_children
child_inside bound s n h = ltb-true n bound (all_head (λ m. ltb m bound) n [] h)

-- counting the child of a field is one store
pub count_child : (counts : List ℕ) (s : Sort) (n : ℕ) → set counts n (get_or counts n 0 + 1) ≡ tally counts (field_children (child s n))
unfolding tally field_children
count_child counts s n = refl

-- where nothing is counted nothing changes
pub count_none : (counts : List ℕ) → counts ≡ tally counts []
unfolding tally
count_none counts = refl

-- ---- the children of fields
-- fields name no more children than they are
pub fields_children : (fs : List Field) → length (flat_map field_children fs) ≤ length fs
unfolding flat_map
fields_children [] = omega arith
fields_children (f ∷ fs) = rw length-append (omega (arith, field_children_lem f, fields_children fs))

-- children in range are below their parent
module _ (vs arrs parent : ℕ) where
  field_below : (f : Field) → field_in_range vs arrs parent f ≡ true → all_below parent (field_children f) ≡ true
  unfolding field_in_range field_children all_below all
  field_below (word n) r = refl
  field_below (constant n) r = refl
  field_below (variable x) r = refl
  field_below (array a) r = refl
  field_below (child s n) r = rw r

  -- so are those of all fields
  pub fields_below : (fs : List Field) → all (field_in_range vs arrs parent) fs ≡ true → all_below parent (flat_map field_children fs) ≡ true
  unfolding flat_map all_below all
  fields_below [] r = refl
  fields_below (f ∷ fs) r =
      let range = field_in_range vs arrs parent in
      all_append (λ n. ltb n parent) (field_children f) (flat_map field_children fs) (field_below f (all_head range f fs r)) (fields_below fs (all_tail range f fs r))

-- numbers below a bound are below a wider one
pub below_weaken : (bound wider : ℕ) (ns : List ℕ) → bound ≤ wider → all_below bound ns ≡ true → all_below wider ns ≡ true
unfolding all_below all
below_weaken bound wider [] less h = refl
below_weaken bound wider (n ∷ ns) less h =
    let test : ℕ → Bool = λ m. ltb m bound in
    rw (lt-ltb n wider (omega (arith, ltb-true n bound (all_head test n ns h))), below_weaken bound wider ns less (all_tail test n ns h))

-- what counting the child of one field needs
pub ruleset counting = (child_inside, count_child, count_none, no_children)
