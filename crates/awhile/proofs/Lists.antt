-- Laws of tests, sums, counts and concatenations.
use Prim.Native.Nat.{ℕ, ◌+◌, ◌≤◌, ◌<◌}
use native.Mathlib.Omega.{arith}
use mathlib.Core.Bool.{Bool, true, false, cond, ◌&&◌}
use mathlib.Core.Path.{◌≡◌, refl}
use mathlib.Core.List.{List, [], ◌∷◌, ◌++◌, append_assoc, map, flat_map}
use lib.Dec.{eqb, ltb}
use borrow.Author.Tests.{ltb-true, ltb-false, eqb-true, eqb-false, lt-ltb, le-ltb, ne_eqb}
use lib.ListN.{length, length-append}
use Rattle.awhile.specs.Lists.{sum, occurrences, all}

-- ---- two tests at once
-- both tests pass
pub and_both : (a b : Bool) → a ≡ true → b ≡ true → a && b ≡ true
and_both a b p q = rw (p, q)

-- the first of them
pub and_first : (a b : Bool) → a && b ≡ true → a ≡ true
and_first true b e = refl
and_first false b e = e

-- the second of them
pub and_second : (a b : Bool) → a && b ≡ true → b ≡ true
and_second true b e = e
and_second false b e = cc

-- ---- a test of every element
module _ {A : Type 0} (test : A → Bool) (x : A) (xs : List A) where
  -- the first element passes
  pub all_head : all test (x ∷ xs) ≡ true → test x ≡ true
  unfolding all
  all_head h = and_first (test x) (all test xs) h

  -- the other elements pass
  pub all_tail : all test (x ∷ xs) ≡ true → all test xs ≡ true
  unfolding all
  all_tail h = and_second (test x) (all test xs) h

  -- a first element and the others pass
  pub all_cons : test x ≡ true → all test xs ≡ true → all test (x ∷ xs) ≡ true
  unfolding all
  all_cons p q = and_both (test x) (all test xs) p q

-- the elements of two lists pass
pub all_append : {A : Type 0} (test : A → Bool) (xs ys : List A) → all test xs ≡ true → all test ys ≡ true → all test (xs ++ ys) ≡ true
all_append test [] ys p q = q
all_append test (x ∷ xs) ys p q = all_cons test x (xs ++ ys) (all_head test x xs p) (all_append test xs ys (all_tail test x xs p) q)

-- those of the first of two lists
pub all_first : {A : Type 0} (test : A → Bool) (xs ys : List A) → all test (xs ++ ys) ≡ true → all test xs ≡ true
unfolding all
all_first test [] ys h = refl
all_first test (x ∷ xs) ys h = all_cons test x xs (all_head test x (xs ++ ys) h) (all_first test xs ys (all_tail test x (xs ++ ys) h))

-- those of the second of two lists
pub all_second : {A : Type 0} (test : A → Bool) (xs ys : List A) → all test (xs ++ ys) ≡ true → all test ys ≡ true
all_second test [] ys h = h
all_second test (x ∷ xs) ys h = all_second test xs ys (all_tail test x (xs ++ ys) h)

-- ---- lists put together from parts of one length
module _ {A : Type 0} where
  -- the first parts are the same
  pub split_front : (a c b d : List A) → length a ≡ length c → a ++ b ≡ c ++ d → a ≡ c
  split_front [] [] b d n e = refl
  split_front [] (x ∷ c) b d n e = absurd (omega arith)
  split_front (x ∷ a) [] b d n e = absurd (omega arith)
  split_front (x ∷ a) (y ∷ c) b d n e =
      let p : x ≡ y = cc in
      let r : a ++ b ≡ c ++ d = cc in
      let q = split_front a c b d (omega arith) r in
      λ i. p i ∷ q i

  -- and so are the second
  pub split_back : (a c b d : List A) → length a ≡ length c → a ++ b ≡ c ++ d → b ≡ d
  split_back [] [] b d n e = e
  split_back [] (x ∷ c) b d n e = absurd (omega arith)
  split_back (x ∷ a) [] b d n e = absurd (omega arith)
  split_back (x ∷ a) (y ∷ c) b d n e = let r : a ++ b ≡ c ++ d = cc in split_back a c b d (omega arith) r

-- ---- sums and counts over two lists
-- a sum over two lists is the sum of their sums
pub sum-append : (ms ns : List ℕ) → sum (ms ++ ns) ≡ sum ms + sum ns
unfolding sum
sum-append [] ns = omega arith
sum-append (m ∷ ms) ns = omega (arith, sum-append ms ns)

-- a number stands in two lists as often as in each
pub occurrences_append : (n : ℕ) (ms ns : List ℕ) → occurrences n (ms ++ ns) ≡ occurrences n ms + occurrences n ns
unfolding occurrences
occurrences_append n [] ns = omega arith
occurrences_append n (m ∷ ms) ns = omega (arith, occurrences_append n ms ns)

module _ {A B : Type 0} where
  -- two lists are mapped one after the other
  pub flat_map_append : (f : A → List B) (xs ys : List A) → flat_map f (xs ++ ys) ≡ flat_map f xs ++ flat_map f ys
  unfolding flat_map
  flat_map_append f [] ys = refl
  flat_map_append f (x ∷ xs) ys = rw (flat_map_append f xs ys, append_assoc)

  -- the length of a concatenation is the sum of the lengths
  pub length_flat_map : (f : A → List B) (size : A → ℕ) → ((x : A) → length (f x) ≡ size x) → (xs : List A) → length (flat_map f xs) ≡ sum (map size xs)
  unfolding flat_map sum
  length_flat_map f size each [] = refl
  length_flat_map f size each (x ∷ xs) = rw (length-append, each, length_flat_map f size each xs)

-- ---- counting below a bound
-- 1 for a number below the bound, 0 for another
unfoldable pub count_below : (bound n : ℕ) → ℕ
count_below bound n = cond (ltb n bound) 1 0

-- a number below counts
pub count_below_lem : (bound n : ℕ) → n < bound → count_below bound n ≡ 1
unfolding count_below
count_below_lem bound n below = rw (lt-ltb n bound below)

-- a number not below does not count
pub count_above : (bound n : ℕ) → bound ≤ n → count_below bound n ≡ 0
unfolding count_below
count_above bound n above = rw (le-ltb n bound above)

-- the next bound counts one number more
pub count_next : (bound n : ℕ) → count_below bound n + cond (eqb n bound) 1 0 ≡ count_below (bound + 1) n
unfolding count_below
count_next bound n = go (ltb n bound) (eqb n bound) refl refl
  where
    go : (less same : Bool) → ltb n bound ≡ less → eqb n bound ≡ same → cond (ltb n bound) 1 0 + cond (eqb n bound) 1 0 ≡ cond (ltb n (bound + 1)) 1 0
    go true same p q =
        let apart : eqb n bound ≡ false = ne_eqb n bound (λ e. omega (arith, ltb-true n bound p)) in
        rw (p, apart, lt-ltb n (bound + 1) (omega (arith, ltb-true n bound p)))
    go false true p q = rw (p, q, lt-ltb n (bound + 1) (omega (arith, eqb-true n bound q)))
    go false false p q =
        let other : ¬ (n ≡ bound) = eqb-false n bound q in
        rw (p, q, le-ltb n (bound + 1) (omega (arith, ltb-false n bound p)))
