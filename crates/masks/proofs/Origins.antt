-- The nodes of a written program have the origins of its commands.
use Prim.Native.Nat.{ℕ, ◌+◌, ◌<◌}
use native.Mathlib.Nat.{add_assoc, add-zero, zero-add}
use native.Mathlib.Omega.{arith}
use mathlib.Core.Option.{none}
use mathlib.Core.List.{List, [], ◌∷◌, ◌++◌}
use mathlib.Core.Path.{◌≡◌, refl, sym, ap, ◌∙◌}
use lib.ListN.{length, get_or, replicate, length-append, length-replicate, get_or-append}
use lib.Seq.{get_or-append-add}
use Rattle.awhile.specs.Language.{Com, skip, assign, sequence, if, while, read, write, map_notes}
use Rattle.awhile.specs.Encoding.{Numbered, number_of, nodes_of_a, nodes_of_b, nodes_of, numbered_from, numbered}
use Rattle.awhile.proofs.Notes.{notes_twice}
use Rattle.masks.specs.Hardening.{Origin}
use Rattle.masks.specs.ReadBack.{origins, origin_in}

-- one for each node
origins_length : (c : Com Origin) → length (origins c) ≡ nodes_of c
unfolding origins nodes_of
origins_length (skip n) = refl
origins_length (assign n x e) = simp (length-append, length-replicate)
origins_length (sequence n c d) = simp length-append (omega (arith, origins_length c, origins_length d))
origins_length (if n b c d) = simp (length-append, length-replicate) (omega (arith, origins_length c, origins_length d))
origins_length (while n b c) = simp (length-append, length-replicate) (omega (arith, origins_length c))
origins_length (read n x a i) = simp (length-append, length-replicate)
origins_length (write n a i e) = simp (length-append, length-replicate) (omega arith)

module _ (os : List Origin) where
  -- these origins stand at a place of the whole list
  record Stand (at : ℕ) (xs : List Origin) : Type 0 where
    same : (i : ℕ) → i < length xs → get_or os (at + i) none ≡ get_or xs i none

  stand_first : (at : ℕ) (xs ys : List Origin) → Stand at (xs ++ ys) → Stand at xs
  stand_first at xs ys h =
      record { same = λ i below. h.same i (omega (arith, length-append xs ys)) ∙ get_or-append xs ys none i below }

  stand_rest : (at size : ℕ) (xs ys : List Origin) → length xs ≡ size → Stand at (xs ++ ys) → Stand (at + size) ys
  stand_rest at size xs ys e h =
      record {
        same = λ i below.
            ap (λ k. get_or os k none) (add_assoc at size i)
            ∙ (h.same (size + i) (omega (arith, length-append xs ys))
            ∙ (ap (λ k. get_or (xs ++ ys) (k + i) none) (sym e) ∙ get_or-append-add xs ys i none));
      }

  stand_last : (at : ℕ) (n : Origin) → Stand at (n ∷ []) → get_or os at none ≡ n
  stand_last at n h = ap (λ k. get_or os k none) (sym (add-zero at)) ∙ h.same 0 (omega arith)

  -- after the nodes of an expression
  stand_after : (at size : ℕ) (ys : List Origin) → Stand at (replicate size none ++ ys) → Stand (at + size) ys
  stand_after at size ys h = stand_rest at size (replicate size none) ys (length-replicate size none) h

  origin_at : Numbered Origin → Origin
  origin_at k = get_or os k.number none

  origins_found : (c : Com Origin) (from : ℕ) → Stand from (origins c) → map_notes origin_at (numbered_from from c) ≡ c
  unfolding origins map_notes numbered_from origin_at
  origins_found (skip n) from h = ap skip (stand_last from n h)
  origins_found (assign n x e) from h = ap (λ k. assign k x e) (stand_last (from + nodes_of_a e) n (stand_after from (nodes_of_a e) (n ∷ []) h))
  origins_found (sequence n c d) from h =
      let rest = stand_rest from (nodes_of c) (origins c) (origins d ++ (n ∷ [])) (origins_length c) h in
      let last = stand_rest (from + nodes_of c) (nodes_of d) (origins d) (n ∷ []) (origins_length d) rest in
      let first = origins_found c from (stand_first from (origins c) (origins d ++ (n ∷ [])) h) in
      let second = origins_found d (from + nodes_of c) (stand_first (from + nodes_of c) (origins d) (n ∷ []) rest) in
      λ i. sequence (stand_last (from + nodes_of c + nodes_of d) n last i) (first i) (second i)
  origins_found (if n b c d) from h =
      let at : ℕ = from + nodes_of_b b in
      let sides = stand_after from (nodes_of_b b) (origins c ++ (origins d ++ (n ∷ []))) h in
      let rest = stand_rest at (nodes_of c) (origins c) (origins d ++ (n ∷ [])) (origins_length c) sides in
      let last = stand_rest (at + nodes_of c) (nodes_of d) (origins d) (n ∷ []) (origins_length d) rest in
      let first = origins_found c at (stand_first at (origins c) (origins d ++ (n ∷ [])) sides) in
      let second = origins_found d (at + nodes_of c) (stand_first (at + nodes_of c) (origins d) (n ∷ []) rest) in
      λ i. if (stand_last (at + nodes_of c + nodes_of d) n last i) b (first i) (second i)
  origins_found (while n b c) from h =
      let at : ℕ = from + nodes_of_b b in
      let rest = stand_after from (nodes_of_b b) (origins c ++ (n ∷ [])) h in
      let last = stand_rest at (nodes_of c) (origins c) (n ∷ []) (origins_length c) rest in
      let body = origins_found c at (stand_first at (origins c) (n ∷ []) rest) in
      λ i. while (stand_last (at + nodes_of c) n last i) b (body i)
  origins_found (read n x a i) from h = ap (λ k. read k x a i) (stand_last (from + nodes_of_a i) n (stand_after from (nodes_of_a i) (n ∷ []) h))
  origins_found (write n a i e) from h =
      let rest = stand_after from (nodes_of_a i) (replicate (nodes_of_a e) none ++ (n ∷ [])) h in
      ap (λ k. write k a i e) (stand_last (from + nodes_of_a i + nodes_of_a e) n (stand_after (from + nodes_of_a i) (nodes_of_a e) (n ∷ []) rest))

-- a numbered program with the origins of its numbers is the program
pub origins_kept : (c : Com Origin) → map_notes (origin_in c) (numbered c) ≡ c
unfolding numbered origin_in origin_at
origins_kept c =
    notes_twice number_of (origin_in c) (numbered_from 0 c)
    ∙ origins_found (origins c) c 0 (record { same = λ i below. ap (λ k. get_or (origins c) k none) (zero-add i) })
