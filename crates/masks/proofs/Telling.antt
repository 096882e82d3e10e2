-- Hardened nodes tell the decisions on one program apart, and so do the numbers of these decisions.
use Prim.Native.Nat.{ℕ, ◌+◌}
use native.Mathlib.Omega.{arith}
use mathlib.Core.Bool.{Bool, true, false, true≢false}
use mathlib.Core.Bool.{not as negated}
use mathlib.Core.List.{List, [], ◌∷◌, ◌++◌, map, map-append}
use mathlib.Core.Logic.{◌↔◌}
use mathlib.Core.Path.{◌≡◌, refl, sym, ap, ap₂, ◌∙◌}
use lib.ListN.{length, length-append}
use lib.Dec.{eqb}
use borrow.Author.Tests.{eqb-true, eq-eqb}
use Rattle.awhile.specs.Language.{AExp, BExp, Com, skip, assign, sequence, if, while, read, write, note_of, map_notes}
use Rattle.awhile.specs.Encoding.{number_of, nodes_of_a, nodes_of_b, nodes_of, write_c, numbered_from, numbered}
use Rattle.awhile.specs.Tables.{Table}
use Rattle.awhile.specs.declared.Labelling.{Labelling}
use Rattle.awhile.proofs.Lists.{and_first, and_second, split_front, split_back}
use Rattle.awhile.proofs.Notes.{notes_twice}
use Rattle.awhile.proofs.Writing.{written_root}
use Rattle.labels.specs.Annotation.{annotate, parts}
use Rattle.labels.specs.Masks.{bit}
use Rattle.masks.specs.Decisions.{Decision, decision, decide, mask_digits}
use Rattle.masks.specs.Hardening.{Origin, harden, masked_condition, masked_index, zero_if_guessing, table_of_hardened}
use Rattle.masks.specs.Costs.{masks_of, same_numbers, changes}

-- ---- decisions for one program: they differ in masks alone, and only in those that a command has
pub data OfOne : Com Decision → Com Decision → Type 0 where
  one_skip : {n : ℕ} → OfOne (skip (decision n false false false)) (skip (decision n false false false))
  one_assign : {n x : ℕ} {e : AExp} → OfOne (assign (decision n false false false) x e) (assign (decision n false false false) x e)
  one_sequence : {n : ℕ} {c d c' d' : Com Decision} → OfOne c c' → OfOne d d'
      → OfOne (sequence (decision n false false false) c d) (sequence (decision n false false false) c' d')
  one_if : {n : ℕ} {b : BExp} {c d c' d' : Com Decision} (m m' : Bool) → OfOne c c' → OfOne d d'
      → OfOne (if (decision n m false false) b c d) (if (decision n m' false false) b c' d')
  one_while : {n : ℕ} {b : BExp} {c c' : Com Decision} (m m' : Bool) → OfOne c c'
      → OfOne (while (decision n m false false) b c) (while (decision n m' false false) b c')
  one_read : {n x a : ℕ} {i : AExp} (m m' v v' : Bool) → OfOne (read (decision n false m v) x a i) (read (decision n false m' v') x a i)
  one_write : {n a : ℕ} {i e : AExp} (m m' : Bool) → OfOne (write (decision n false m false) a i e) (write (decision n false m' false) a i e)

-- the decisions of two labellings are for one program
pub decide_one : (c : Com ℕ) (x y : Bool) (l m : Labelling) → OfOne (decide (annotate c x l)) (decide (annotate c y m))
unfolding decide annotate
decide_one (skip n) x y l m = one_skip
decide_one (assign n v e) x y l m = one_assign
decide_one (sequence n c d) x y l m = one_sequence (decide_one c _ _ _ _) (decide_one d _ _ _ _)
decide_one (if n b c d) x y l m = one_if _ _ (decide_one c _ _ _ _) (decide_one d _ _ _ _)
decide_one (while n b c) x y l m = one_while _ _ (decide_one c _ _ _ _)
decide_one (read n v a i) x y l m = one_read _ _ _ _
decide_one (write n a i e) x y l m = one_write _ _

-- ---- a mask shows in what is hardened
condition_tells : (f : ℕ) (b : BExp) (m m' : Bool) → masked_condition f m b ≡ masked_condition f m' b → m ≡ m'
unfolding masked_condition nodes_of_b nodes_of_a
condition_tells f b true true e = refl
condition_tells f b false false e = refl
condition_tells f b true false e = absurd (omega (arith, ap nodes_of_b e))
condition_tells f b false true e = absurd (omega (arith, ap nodes_of_b e))

index_tells : (f : ℕ) (i : AExp) (m m' : Bool) → masked_index f m i ≡ masked_index f m' i → m ≡ m'
unfolding masked_index zero_if_guessing nodes_of_b nodes_of_a
index_tells f i true true e = refl
index_tells f i false false e = refl
index_tells f i true false e = absurd (omega (arith, ap nodes_of_a e))
index_tells f i false true e = absurd (omega (arith, ap nodes_of_a e))

-- constructors told apart, over plain variables
module _ {Note : Type 0} where
  sequence_first : {n m : Note} {c d c' d' : Com Note} → sequence n c d ≡ sequence m c' d' → c ≡ c'
  sequence_first e = cc

  sequence_second : {n m : Note} {c d c' d' : Com Note} → sequence n c d ≡ sequence m c' d' → d ≡ d'
  sequence_second e = cc

  if_test : {n m : Note} {b b' : BExp} {c d c' d' : Com Note} → if n b c d ≡ if m b' c' d' → b ≡ b'
  if_test e = cc

  if_first : {n m : Note} {b b' : BExp} {c d c' d' : Com Note} → if n b c d ≡ if m b' c' d' → c ≡ c'
  if_first e = cc

  if_second : {n m : Note} {b b' : BExp} {c d c' d' : Com Note} → if n b c d ≡ if m b' c' d' → d ≡ d'
  if_second e = cc

  while_test : {n m : Note} {b b' : BExp} {c c' : Com Note} → while n b c ≡ while m b' c' → b ≡ b'
  while_test e = cc

  while_body : {n m : Note} {b b' : BExp} {c c' : Com Note} → while n b c ≡ while m b' c' → c ≡ c'
  while_body e = cc

  read_index : {n m : Note} {x a y b : ℕ} {i j : AExp} → read n x a i ≡ read m y b j → i ≡ j
  read_index e = cc

  write_index : {n m : Note} {a b : ℕ} {i j e k : AExp} → write n a i e ≡ write m b j k → i ≡ j
  write_index e = cc

  never : {n m : Note} {c d : Com Note} {x a : ℕ} {i : AExp} → sequence n c d ≡ read m x a i → ⊥
  never e = let z : ◌≡◌ {A = ℕ} 0 1 = cc in omega arith

abbrev no_note : {Note : Type 0} → Note → Unit {0}
no_note n = tt

module _ (f : ℕ) where
  -- equal hardened programs, whatever their notes are, have equal decisions
  tells : {d e : Com Decision} → OfOne d e → map_notes no_note (harden f d) ≡ map_notes no_note (harden f e) → d ≡ e
  unfolding harden map_notes
  tells one_skip h = refl
  tells one_assign h = refl
  tells (one_sequence {n = n} p q) h = ap₂ (sequence (decision n false false false)) (tells p (sequence_first h)) (tells q (sequence_second h))
  tells (one_if {n = n} {b = b} m m' p q) h =
      let k : m ≡ m' = condition_tells f b m m' (if_test h) in
      let r = tells p (sequence_second (if_first h)) in
      let s = tells q (sequence_second (if_second h)) in
      λ i. if (decision n (k i) false false) b (r i) (s i)
  tells (one_while {n = n} {b = b} m m' p) h =
      let k : m ≡ m' = condition_tells f b m m' (while_test (sequence_first h)) in
      let r = tells p (sequence_second (while_body (sequence_first h))) in
      λ i. while (decision n (k i) false false) b (r i)
  tells (one_read {n = n} {x = x} {a = a} {i = j} m m' true true) h =
      let k : m ≡ m' = index_tells f j m m' (read_index (sequence_first h)) in λ i. read (decision n false (k i) true) x a j
  tells (one_read {n = n} {x = x} {a = a} {i = j} m m' false false) h =
      let k : m ≡ m' = index_tells f j m m' (read_index h) in λ i. read (decision n false (k i) false) x a j
  tells (one_read m m' true false) h = absurd (never h)
  tells (one_read m m' false true) h = absurd (never (sym h))
  tells (one_write {n = n} {a = a} {i = j} {e = v} m m') h =
      let k : m ≡ m' = index_tells f j m m' (write_index h) in λ i. write (decision n false (k i) false) a j v

-- ---- nodes tell programs, whatever their notes are
numbers_dropped : {Note : Type 0} (from : ℕ) (c : Com Note) → map_notes no_note (numbered_from from c) ≡ map_notes no_note c
unfolding map_notes numbered_from
numbers_dropped from (skip n) = refl
numbers_dropped from (assign n x e) = refl
numbers_dropped from (sequence n c d) = ap₂ (sequence tt) (numbers_dropped from c) (numbers_dropped (from + nodes_of c) d)
numbers_dropped from (if n b c d) = ap₂ (if tt b) (numbers_dropped (from + nodes_of_b b) c) (numbers_dropped (from + nodes_of_b b + nodes_of c) d)
numbers_dropped from (while n b c) = ap (while tt b) (numbers_dropped (from + nodes_of_b b) c)
numbers_dropped from (read n x a i) = refl
numbers_dropped from (write n a i e) = refl

without_numbers : {Note : Type 0} (c : Com Note) → map_notes no_note (numbered c) ≡ map_notes no_note c
unfolding numbered
without_numbers c = notes_twice number_of no_note (numbered_from 0 c) ∙ numbers_dropped 0 c

nodes_tell : (t : Table) (p q : Com Origin) → write_c 0 p ≡ write_c 0 q → map_notes no_note p ≡ map_notes no_note q
unfolding table_of_hardened
nodes_tell t p q e =
    sym (without_numbers p)
    ∙ (ap (map_notes no_note) (sym (written_root (table_of_hardened t p) p refl) ∙ written_root (table_of_hardened t p) q e)
    ∙ without_numbers q)

-- THE HARDENED NODES TELL THE DECISIONS of one program
pub nodes_tell_decisions : (t : Table) (f : ℕ) {d e : Com Decision} → OfOne d e → write_c 0 (harden f d) ≡ write_c 0 (harden f e) → d ≡ e
nodes_tell_decisions t f one same = tells f one (nodes_tell t _ _ same)

-- ---- so do their numbers
-- the decision that a number is made from
abbrev decision_from : (node digits : ℕ) → Decision
decision_from n m = decision n (bit m 0) (bit m 1) (bit m 2)

digits_back : (n : ℕ) (c i v : Bool) → decision_from n (mask_digits (decision n c i v)) ≡ decision n c i v
unfolding mask_digits bit
digits_back n true true true = refl
digits_back n true true false = refl
digits_back n true false true = refl
digits_back n true false false = refl
digits_back n false true true = refl
digits_back n false true false = refl
digits_back n false false true = refl
digits_back n false false false = refl

digits_tell : {n : ℕ} {c i v c' i' v' : Bool} → mask_digits (decision n c i v) ≡ mask_digits (decision n c' i' v') → decision n c i v ≡ decision n c' i' v'
digits_tell {n} {c} {i} {v} {c'} {i'} {v'} e = sym (digits_back n c i v) ∙ (ap (decision_from n) e ∙ digits_back n c' i' v')

list_head : {m n : ℕ} {ms ns : List ℕ} → m ∷ ms ≡ n ∷ ns → m ≡ n
list_head e = cc

list_tail : {m n : ℕ} {ms ns : List ℕ} → m ∷ ms ≡ n ∷ ns → ms ≡ ns
list_tail e = cc

-- the numbers of two commands, one after the other
masks_two : (c d : Com Decision) → map (λ (p : Com Decision). mask_digits (note_of p)) (parts c ++ parts d) ≡ masks_of c ++ masks_of d
unfolding masks_of
masks_two c d = map-append (λ (p : Com Decision). mask_digits (note_of p)) (parts c) (parts d)

-- one number for each command, so as many for either
as_many : {d e : Com Decision} → OfOne d e → length (masks_of d) ≡ length (masks_of e)
unfolding masks_of parts
as_many one_skip = refl
as_many one_assign = refl
as_many (one_sequence p q) = simp (map-append, length-append) (omega (arith, as_many p, as_many q))
as_many (one_if m m' p q) = simp (map-append, length-append) (omega (arith, as_many p, as_many q))
as_many (one_while m m' p) = omega (arith, as_many p)
as_many (one_read m m' v v') = refl
as_many (one_write m m') = refl

-- THE NUMBERS TELL THEM, too
pub masks_tell : {d e : Com Decision} → OfOne d e → masks_of d ≡ masks_of e → d ≡ e
unfolding masks_of parts note_of
masks_tell one_skip h = refl
masks_tell one_assign h = refl
masks_tell (one_sequence {n = n} {c = c} {d = d} {c' = c'} {d' = d'} p q) h =
    let two = sym (masks_two c d) ∙ (list_tail h ∙ masks_two c' d') in
    ap₂ (sequence (decision n false false false)) (masks_tell p (split_front (masks_of c) (masks_of c') (masks_of d) (masks_of d') (as_many p) two)) (masks_tell q (split_back (masks_of c) (masks_of c') (masks_of d) (masks_of d') (as_many p) two))
masks_tell (one_if {n = n} {b = b} {c = c} {d = d} {c' = c'} {d' = d'} m m' p q) h =
    let two = sym (masks_two c d) ∙ (list_tail h ∙ masks_two c' d') in
    let k = digits_tell (list_head h) in
    let r = masks_tell p (split_front (masks_of c) (masks_of c') (masks_of d) (masks_of d') (as_many p) two) in
    let s = masks_tell q (split_back (masks_of c) (masks_of c') (masks_of d) (masks_of d') (as_many p) two) in
    λ i. if (k i) b (r i) (s i)
masks_tell (one_while {n = n} {b = b} m m' p) h =
    let k = digits_tell (list_head h) in
    let r = masks_tell p (list_tail h) in
    λ i. while (k i) b (r i)
masks_tell (one_read {x = x} {a = a} {i = j} m m' v v') h = ap (λ k. read k x a j) (digits_tell (list_head h))
masks_tell (one_write {a = a} {i = j} {e = v} m m') h = ap (λ k. write k a j v) (digits_tell (list_head h))

-- ---- the test of two lists
same_refl : (ms : List ℕ) → same_numbers ms ms ≡ true
unfolding same_numbers
same_refl [] = refl
same_refl (m ∷ ms) = rw (eq-eqb m m refl, same_refl ms)

same_told : (ms ns : List ℕ) → same_numbers ms ns ≡ true → ms ≡ ns
unfolding same_numbers
same_told [] [] e = refl
same_told [] (n ∷ ns) e = absurd (true≢false (sym e))
same_told (m ∷ ms) [] e = absurd (true≢false (sym e))
same_told (m ∷ ms) (n ∷ ns) e =
    ap₂ ◌∷◌ (eqb-true m n (and_first (eqb m n) (same_numbers ms ns) e)) (same_told ms ns (and_second (eqb m n) (same_numbers ms ns) e))

-- decisions change nothing where they are the same
pub changes_none : {d e : Com Decision} → d ≡ e → changes d e ≡ false
unfolding changes
changes_none {d} {e} p = rw (p, same_refl (masks_of e))

-- and are the same where they change nothing
pub unchanged_same : {d e : Com Decision} → OfOne d e → changes d e ≡ false → d ≡ e
unfolding changes
unchanged_same {d} {e} one h = masks_tell one (same_told (masks_of d) (masks_of e) (go (same_numbers (masks_of d) (masks_of e)) h))
  where
    go : (b : Bool) → negated b ≡ false → b ≡ true
    go true h = refl
    go false h = absurd (true≢false h)

-- DECISIONS ON ONE PROGRAM CHANGE exactly if the hardened nodes differ
pub changes_tell : (t : Table) (f : ℕ) {d e : Com Decision} → OfOne d e
    → (changes d e ≡ true) ↔ (write_c 0 (harden f d) ≡ write_c 0 (harden f e) → ⊥)
changes_tell t f {d} {e} one = (apart, go (changes d e) refl)
  where
    apart : changes d e ≡ true → write_c 0 (harden f d) ≡ write_c 0 (harden f e) → ⊥
    apart h same = true≢false (sym h ∙ changes_none (nodes_tell_decisions t f one same))

    go : (b : Bool) → changes d e ≡ b → (write_c 0 (harden f d) ≡ write_c 0 (harden f e) → ⊥) → changes d e ≡ true
    go true h differ = h
    go false h differ = absurd (differ (ap (λ x. write_c 0 (harden f x)) (unchanged_same one h)))
