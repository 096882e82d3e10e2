-- An entry's answer.
use Rattle.std.specs.Prelude.{ℕ, cond, List, [], ◌∷◌, ◌++◌, length, drop, leb}
use Rattle.bytes_le.specs.Numbers.{le}
use Rattle.awhile.specs.Refusals.{refusal_number, refusal_place}
use Rattle.awhile.specs.declared.Refusal.{Refusal}

-- the answer slice: "the answer's numbers, in the order given here, 8 bytes each; numbers that do not fit whole are dropped";
-- bytes that hold no whole number are as they were
unfoldable pub answered : List ℕ → List ℕ → List ℕ
answered [] slice = slice
answered (n ∷ ns) slice = cond (leb 8 (length slice)) (le 8 n ++ answered ns (drop 8 slice)) slice

-- "A refusal's answer: number and place"
unfoldable pub refusal_numbers : Refusal → List ℕ
refusal_numbers r = refusal_number r ∷ refusal_place r ∷ []
