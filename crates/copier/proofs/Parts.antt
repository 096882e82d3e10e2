-- Bytes written into a part of a slice, said of the whole slice, and runs of writes one behind the other.
use Prim.Native.Nat.{ℕ, ◌+◌, ◌-◌, ◌≤◌, ◌<◌}
use native.Mathlib.Nat.{zero-add}
use native.Mathlib.Omega.{arith}
use mathlib.Core.Path.{◌≡◌, sym, ap, ◌∙◌}
use mathlib.Core.List.{List, [], ◌∷◌, ◌++◌, append_assoc, append-nil, flat_map}
use lib.ListN.{length, get_or, take, drop, length-drop}
use lib.Seq.{sets, sets-eq, take_all, drop-drop, drop-length}
use Rattle.std.proofs.lemmas.List.{take_more}
use Rattle.bytes_le.proofs.Stores.{sets-append}
use Rattle.awhile.proofs.Lists.{flat_map_append}
use borrow.Rule.Slice.PartMut.{put_mid, mid_of}

-- what was written at the front of the rest of a slice is written there in the slice
pub sets_rest : (l : List ℕ) (at : ℕ) (xs : List ℕ) → at + length xs ≤ length l
    → put_mid at (length l - at) l (sets (mid_of at (length l - at) l) 0 xs) ≡ sets l at xs
sets_rest l at xs fits =
    let all : take (length l - at) (drop at l) ≡ drop at l = take_all (length l - at) (drop at l) (simp length-drop (omega arith)) in
    let room : 0 + length xs ≤ length (drop at l) = simp length-drop (omega arith) in
    let back : at + (length l - at) ≡ length l = omega arith in
    let none : drop (length l - at) (drop at l) ≡ [] = drop-drop (length l - at) at l ∙ ap (λ n. drop n l) back ∙ drop-length l in
    let tail : drop (0 + length xs) (drop at l) ≡ drop (at + length xs) l = rw zero-add (drop-drop (length xs) at l) in
    ap (λ r. take at l ++ (sets r 0 xs ++ drop (length l - at) (drop at l))) all
    ∙ ap (λ r. take at l ++ (sets (drop at l) 0 xs ++ r)) none
    ∙ ap (λ r. take at l ++ r) (append-nil (sets (drop at l) 0 xs) ∙ sets-eq xs (drop at l) 0 room)
    ∙ ap (λ r. take at l ++ (xs ++ r)) tail
    ∙ sym (append_assoc (take at l) xs (drop (at + length xs) l))
    ∙ sym (sets-eq xs l at fits)

-- pieces are stored one behind the other: one more is stored behind those that are
pub stored_more : {A : Type 0} (f : A → List ℕ) (l head : List ℕ) (at : ℕ) (xs : List A) (i : ℕ) (d : A) → i < length xs
    → sets (sets l at (head ++ flat_map f (take i xs))) (at + length (head ++ flat_map f (take i xs))) (f (get_or xs i d))
    ≡ sets l at (head ++ flat_map f (take (i + 1) xs))
unfolding flat_map
stored_more f l head at xs i d inside =
    let before : List ℕ = flat_map f (take i xs) in
    let x = get_or xs i d in
    let next : flat_map f (take (i + 1) xs) ≡ before ++ f x =
    ap (flat_map f) (take_more xs i d inside) ∙ flat_map_append f (take i xs) (x ∷ []) ∙ ap (λ b. before ++ b) (append-nil (f x)) in
    sym (sets-append (head ++ before) (f x) l at) ∙ ap (sets l at) (append_assoc head before (f x) ∙ ap (λ b. head ++ b) (sym next))
