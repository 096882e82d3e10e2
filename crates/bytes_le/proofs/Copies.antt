-- Bytes copied from one list into another, and what stands in a list where bytes were stored.
use Prim.Native.Nat.{ℕ, zero, suc, ◌+◌, ◌≤◌, ◌<◌}
use native.Mathlib.Numerals.{add-one}
use native.Mathlib.Nat.{zero-add, suc-add}
use native.Mathlib.Omega.{arith}
use mathlib.Core.Path.{◌≡◌, refl, sym, ap, ◌∙◌}
use mathlib.Core.List.{List, [], ◌∷◌, ◌++◌, append-nil, append_assoc}
use borrow.Rule.Slice.PartMut.{put_mid}
use lib.ListN.{length, get_or, set, take, drop, length-drop, drop_of_length-le}
use lib.Seq.{sets, sets-eq, length-take-le, take-suc, drop_at, drop-drop, take-take, take-set-le, take-nil, drop-set-lt, get_or-drop}
use Rattle.bytes_le.proofs.Stores.{sets-append}

-- a part of a list that is written anew: its bytes are stored there
pub part_stored : (l bs : List ℕ) (at n : ℕ) → length bs ≡ length (take n (drop at l)) → at + n ≤ length l → put_mid at n l bs ≡ sets l at bs
part_stored l bs at n kept inside =
    let size : length bs ≡ n = kept ∙ length-take-le n (drop at l) (simp length-drop (omega arith)) in
    let end : at + n ≡ at + length bs = omega arith in
    ap (λ rest. take at l ++ (bs ++ rest)) (drop-drop n at l ∙ ap (λ k. drop k l) end)
    ∙ sym (sets-eq bs l at (omega arith) ∙ append_assoc (take at l) bs (drop (at + length bs) l))

-- one byte more is copied
pub copied_more : (src l : List ℕ) (from at i : ℕ) → from + i < length src
    → set (sets l at (take i (drop from src))) (at + i) (get_or src (from + i) 0) ≡ sets l at (take (i + 1) (drop from src))
copied_more src l from at i inside =
    let s : List ℕ = drop from src in
    let less : i < length s = simp length-drop (omega arith) in
    let size : length (take i s) ≡ i = length-take-le i s (omega arith) in
    sym
    (ap (λ n. sets l at (take n s)) (add-one i)
    ∙ ap (sets l at) (take-suc s i 0 less)
    ∙ sets-append (take i s) (get_or s i 0 ∷ []) l at
    ∙ ap (λ k. set (sets l at (take i s)) (at + k) (get_or s i 0)) size
    ∙ ap (λ b. set (sets l at (take i s)) (at + i) b) (get_or-drop from src i 0))

-- a store below a place changes nothing from there on
pub drop-sets : (bs l : List ℕ) (at k : ℕ) → at + length bs ≤ k → drop k (sets l at bs) ≡ drop k l
drop-sets [] l at k before = refl
drop-sets (b ∷ bs) l at k before = drop-sets bs (set l at b) (suc at) k (omega arith) ∙ drop-set-lt k l at b (omega arith)

-- a store from a place on changes nothing before it
pub take-sets : (bs l : List ℕ) (at k : ℕ) → k ≤ at → take k (sets l at bs) ≡ take k l
take-sets [] l at k before = refl
take-sets (b ∷ bs) l at k before = take-sets bs (set l at b) (suc at) k (omega arith) ∙ take-set-le k l at b before

-- from its place on a list begins with what was stored there
pub sets_there : (bs l : List ℕ) (at : ℕ) → at + length bs ≤ length l → drop at (sets l at bs) ≡ bs ++ drop (at + length bs) l
sets_there bs l at inside =
    let front : length (take at l) ≡ at = length-take-le at l (omega arith) in
    ap (drop at) (sets-eq bs l at inside ∙ append_assoc (take at l) bs (drop (at + length bs) l))
    ∙ drop_at (take at l) (bs ++ drop (at + length bs) l) at front

-- a store of as many bytes as there are replaces them all
pub sets-all : (bs l : List ℕ) → length bs ≡ length l → sets l 0 bs ≡ bs
sets-all bs l same =
    let end : length l ≤ 0 + length bs = omega arith in
    sets-eq bs l 0 (omega arith) ∙ ap (λ rest. bs ++ rest) (drop_of_length-le l end) ∙ append-nil bs

-- a store behind the first of two lists is one in the second
sets_cons : (x : ℕ) (l bs : List ℕ) (at : ℕ) → sets (x ∷ l) (suc at) bs ≡ x ∷ sets l at bs
sets_cons x l [] at = refl
sets_cons x l (b ∷ bs) at = sets_cons x (set l at b) bs (suc at)

pub sets_second : (xs ys bs : List ℕ) (at : ℕ) → sets (xs ++ ys) (length xs + at) bs ≡ xs ++ sets ys at bs
sets_second [] ys bs at = rw zero-add
sets_second (x ∷ xs) ys bs at =
    let next : suc (length xs) + at ≡ suc (length xs + at) = omega arith in
    ap (λ n. sets (x ∷ (xs ++ ys)) n bs) next ∙ sets_cons x (xs ++ ys) bs (length xs + at) ∙ ap (λ l. x ∷ l) (sets_second xs ys bs at)

-- a part of a list stands in each beginning of it that is long enough
pub part_within : (m n k : ℕ) (l : List ℕ) → m + n ≤ k → take n (drop m (take k l)) ≡ take n (drop m l)
part_within zero n k l inside = take-take n k l (omega arith)
part_within (suc m) n zero l inside = absurd (omega arith)
part_within (suc m) n (suc k) [] inside = refl
part_within (suc m) n (suc k) (x ∷ l) inside = part_within m n k l (omega arith)

-- what is left of a beginning
pub drop-take : (m n : ℕ) (l : List ℕ) → drop m (take (m + n) l) ≡ take n (drop m l)
drop-take zero n l = rw zero-add
drop-take (suc m) n [] = rw (suc-add, take-nil n)
drop-take (suc m) n (x ∷ l) = rw suc-add (drop-take m n l)
