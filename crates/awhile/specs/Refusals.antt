-- Document 01's number and place for each refusal ("A refusal's answer: number and place"; the place is 0 from 8 up),
-- and answers that may be refusals.
use Rattle.std.specs.Prelude.{ℕ, Bool, true, false, Result, Ok, Err}
use Rattle.awhile.specs.declared.Refusal.{Refusal}
use Rattle.awhile.specs.declared.Refusal.TheVariants.{Cut, WrongRecord, BeyondLimit, OutOfRange, WrongSort, NotATree, ExtraBytes}
use Rattle.awhile.specs.declared.Refusal.TheVariants.{TooManyNodes, NoFreeVariable, BadDirectives, BadQuestions}
use Rattle.awhile.specs.declared.Refusal.TheVariants.{WrongVariables, WrongCells, ShortPending, ShortBuffer, ShortSaves}

abbrev pub refusal_number : Refusal → ℕ
refusal_number (Cut at) = 1
refusal_number (WrongRecord at) = 2
refusal_number (BeyondLimit at) = 3
refusal_number (OutOfRange at) = 4
refusal_number (WrongSort at) = 5
refusal_number (NotATree at) = 6
refusal_number (ExtraBytes at) = 7
refusal_number TooManyNodes = 8
refusal_number NoFreeVariable = 9
refusal_number BadDirectives = 10
refusal_number BadQuestions = 11
refusal_number WrongVariables = 20
refusal_number WrongCells = 21
refusal_number ShortPending = 22
refusal_number ShortBuffer = 23
refusal_number ShortSaves = 24

abbrev pub refusal_place : Refusal → ℕ
refusal_place (Cut at) = at
refusal_place (WrongRecord at) = at
refusal_place (BeyondLimit at) = at
refusal_place (OutOfRange at) = at
refusal_place (WrongSort at) = at
refusal_place (NotATree at) = at
refusal_place (ExtraBytes at) = at
refusal_place TooManyNodes = 0
refusal_place NoFreeVariable = 0
refusal_place BadDirectives = 0
refusal_place BadQuestions = 0
refusal_place WrongVariables = 0
refusal_place WrongCells = 0
refusal_place ShortPending = 0
refusal_place ShortBuffer = 0
refusal_place ShortSaves = 0

-- a value, or the refusal that stands in its place
pub data Answer (A : Type 0) : Type 0 where
  refused : Refusal → Answer A
  got : A → Answer A

-- no value is asked for: it passes
abbrev pub passed : Answer (Unit {0})
passed = got tt

-- the same as the code answers it
unfoldable pub as_result : {A : Type 0} → Answer A → Result A Refusal
as_result (refused r) = Err r
as_result (got a) = Ok a

-- what is wanted to hold, the refusal where it does not, the answer where it does
unfoldable pub check : {A : Type 0} → Bool → Refusal → Answer A → Answer A
check true r a = a
check false r a = refused r

-- go on with the value; a refusal stays
unfoldable pub and_then : {A B : Type 0} → Answer A → (A → Answer B) → Answer B
and_then (refused r) f = refused r
and_then (got a) f = f a
