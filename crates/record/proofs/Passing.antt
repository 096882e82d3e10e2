-- A record whose frame was tested: refused there, or read on from its fields.
use Prim.Native.Nat.{ℕ}
use native.Mathlib.Omega.{arith}
use mathlib.Core.Bool.{Bool, true, false}
use mathlib.Core.Path.{◌≡◌, refl, ◌∙◌}
use mathlib.Core.List.{List}
use lib.Dec.{ltb}
use borrow.Author.Tests.{lt-ltb, le-ltb}
use Rattle.std.proofs.Common.{Ok, Err}
use Rattle.awhile.specs.Refusals.{Answer, as_result, refused, got, passed, check, and_then}
use Rattle.awhile.specs.Tables.{framed}
use Rattle.awhile.specs.declared.Refusal.{Refusal}

-- what is not 0 is positive
pub some_positive : (n : ℕ) → ¬ (n ≡ 0) → ltb 0 n ≡ true
some_positive n other = lt-ltb 0 n (omega arith)

-- and nought is not
pub none_positive : (n : ℕ) → n ≡ 0 → ltb 0 n ≡ false
none_positive n none = le-ltb 0 n (omega arith)

-- ---- going on where nothing was refused
module _ {A B : Type 0} (f : A → Answer B) where
  pub then_refused : (a : Answer A) (r : Refusal) → as_result a ≡ Err r → and_then a f ≡ refused r
  unfolding as_result and_then
  then_refused (refused q) r e = cc
  then_refused (got x) r e = cc

  pub then_passed : (a : Answer A) (x : A) → as_result a ≡ Ok x → and_then a f ≡ f x
  unfolding as_result and_then
  then_passed (refused q) x e = cc
  then_passed (got y) x e = cc

module _ {A : Type 0} (rest full : Answer A) (a : Answer (Unit {0})) where
  -- a test, and then the others
  pub check_then : (b : Bool) (r : Refusal) → full ≡ and_then a (λ w. rest) → check b r full ≡ and_then (check b r a) (λ w. rest)
  unfolding check and_then
  check_then true r e = e
  check_then false r e = refl

-- a frame, and then the others
pub framed_then : {A : Type 0} (rest full : Answer A) (a : Answer (Unit {0})) (s : List ℕ) (at wanted : ℕ) → full ≡ and_then a (λ w. rest)
    → framed s at wanted full ≡ and_then (framed s at wanted a) (λ w. rest)
unfolding framed
framed_then rest full a s at wanted e = check_then _ _ _ _ _ (check_then _ _ _ _ _ (check_then _ _ _ _ _ e))

module _ {A : Type 0} (s : List ℕ) (at wanted : ℕ) (rest : Answer A) where
  framed_alone : framed s at wanted rest ≡ and_then (framed s at wanted passed) (λ w. rest)
  unfolding and_then
  framed_alone = framed_then rest rest passed s at wanted refl

  -- a record whose frame is refused is refused
  pub framed_refused : (r : Refusal) → as_result (framed s at wanted passed) ≡ Err r → framed s at wanted rest ≡ refused r
  framed_refused r e = framed_alone ∙ then_refused _ _ r e

  -- a record that is whole is read on from its fields
  pub framed_passed_on : as_result (framed s at wanted passed) ≡ Ok tt → framed s at wanted rest ≡ rest
  framed_passed_on e = framed_alone ∙ then_passed _ _ tt e
