-- Three runs of bytes stored one behind the other, each read again where it stands.
use Prim.Native.Nat.{ℕ, ◌+◌, ◌≤◌}
use mathlib.Core.Path.{◌≡◌, refl, sym, ap, ◌∙◌}
use mathlib.Core.List.{List, ◌++◌, append_assoc}
use lib.ListN.{length, take, drop}
use lib.Seq.{sets, take_at, drop_at, drop-drop}
use Rattle.bytes_le.proofs.Copies.{sets_there}

module _ (xs ys zs l : List ℕ) (at : ℕ) (inside : at + length (xs ++ (ys ++ zs)) ≤ length l) where
  abbrev stored : List ℕ
  stored = sets l at (xs ++ (ys ++ zs))

  abbrev after : List ℕ
  after = drop (at + length (xs ++ (ys ++ zs))) l

  from_first : drop at stored ≡ xs ++ (ys ++ (zs ++ after))
  from_first = sets_there (xs ++ (ys ++ zs)) l at inside ∙ append_assoc xs (ys ++ zs) after ∙ ap (λ rest. xs ++ rest) (append_assoc ys zs after)

  from_second : drop (at + length xs) stored ≡ ys ++ (zs ++ after)
  from_second = sym (drop-drop (length xs) at stored) ∙ ap (drop (length xs)) from_first ∙ drop_at xs (ys ++ (zs ++ after)) (length xs) refl

  from_third : drop (at + length xs + length ys) stored ≡ zs ++ after
  from_third = sym (drop-drop (length ys) (at + length xs) stored) ∙ ap (drop (length ys)) from_second ∙ drop_at ys (zs ++ after) (length ys) refl

  pub first_there : take (length xs) (drop at (sets l at (xs ++ (ys ++ zs)))) ≡ xs
  first_there = ap (take (length xs)) from_first ∙ take_at xs (ys ++ (zs ++ after)) (length xs) refl

  pub second_there : take (length ys) (drop (at + length xs) (sets l at (xs ++ (ys ++ zs)))) ≡ ys
  second_there = ap (take (length ys)) from_second ∙ take_at ys (zs ++ after) (length ys) refl

  pub third_there : take (length zs) (drop (at + length xs + length ys) (sets l at (xs ++ (ys ++ zs)))) ≡ zs
  third_there = ap (take (length zs)) from_third ∙ take_at zs after (length zs) refl
