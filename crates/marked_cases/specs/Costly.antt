-- P8. "which single secret mark, if lifted, would change the hardened program"
use Rattle.std.specs.Prelude.{ℕ, refl, List, [], ◌∷◌}
use Rattle.entries.specs.Writing.{costs_entry}
use Rattle.entries.proofs.Open.{opened}
use Rattle.marked_cases.specs.Claims.{Sized, HardensTo, ListsMarks, Refuses, sized, written}
use Rattle.marked_cases.specs.Hardened.{secret_if}
use Rattle.marked_cases.specs.Labelled.{loop}
use Rattle.marked_cases.specs.Refused.{skip_two}

-- `if x=0 then skip else skip`, x secret: with x public 22 nodes come out for 34 (`secret_if_lem`, `public_if_lem`). And of the chain in a loop it is s, variable 3
pub single_marks : ListsMarks secret_if (0 ∷ 0 ∷ []) × ListsMarks loop (3 ∷ 0 ∷ [])
unfolding opened
single_marks = (written (0 ∷ 0 ∷ []), written (3 ∷ 0 ∷ []))

-- `x0:=a0[x1]` with x0 and x2 secret, of an array that is secret (mask 1) or public (mask 0)
abbrev pub array_read : (arrays : ℕ) → List ℕ
array_read m =
    10 ∷ 0 ∷ 1 ∷ 0 ∷ 1 ∷ 0 ∷ 3 ∷ 1 ∷ 2 ∷ 0  -- header: version 1, V 3, A 1, N 2
    ∷ 10 ∷ 0 ∷ 3 ∷ 0 ∷ 5 ∷ 0 ∷ 0 ∷ 0 ∷ m ∷ 0  -- labels: variable mask 5, array mask m
    ∷ 6 ∷ 0 ∷ 2 ∷ 0 ∷ 4 ∷ 0  -- array: 4 cells
    ∷ 6 ∷ 0 ∷ 17 ∷ 0 ∷ 1 ∷ 0  -- 0: variable x1
    ∷ 10 ∷ 0 ∷ 53 ∷ 0 ∷ 0 ∷ 0 ∷ 0 ∷ 0 ∷ 0 ∷ 0  -- 1: read x0 a0 0
    ∷ []

-- hardened, the array secret: its value may not be known anyway, so nothing is masked; f is variable 3
abbrev secret_read : List ℕ
secret_read =
    10 ∷ 0 ∷ 1 ∷ 0 ∷ 1 ∷ 0 ∷ 4 ∷ 1 ∷ 2 ∷ 0  -- header: version 1, V 4, A 1, N 2
    ∷ 10 ∷ 0 ∷ 3 ∷ 0 ∷ 5 ∷ 0 ∷ 0 ∷ 0 ∷ 1 ∷ 0  -- labels: variable mask 5, array mask 1
    ∷ 6 ∷ 0 ∷ 2 ∷ 0 ∷ 4 ∷ 0  -- array: 4 cells
    ∷ 6 ∷ 0 ∷ 17 ∷ 0 ∷ 1 ∷ 0  -- 0: variable x1
    ∷ 10 ∷ 0 ∷ 53 ∷ 0 ∷ 0 ∷ 0 ∷ 0 ∷ 0 ∷ 0 ∷ 0  -- 1: read x0 a0 0
    ∷ []

-- hardened, the array public: the value is masked
abbrev public_read : List ℕ
public_read =
    10 ∷ 0 ∷ 1 ∷ 0 ∷ 1 ∷ 0 ∷ 4 ∷ 1 ∷ 10 ∷ 0  -- header: version 1, V 4, A 1, N 10
    ∷ 10 ∷ 0 ∷ 3 ∷ 0 ∷ 5 ∷ 0 ∷ 0 ∷ 0 ∷ 0 ∷ 0  -- labels: variable mask 5, array mask 0
    ∷ 6 ∷ 0 ∷ 2 ∷ 0 ∷ 4 ∷ 0  -- array: 4 cells
    ∷ 6 ∷ 0 ∷ 17 ∷ 0 ∷ 1 ∷ 0  -- 0: variable x1
    ∷ 10 ∷ 0 ∷ 53 ∷ 0 ∷ 0 ∷ 0 ∷ 0 ∷ 0 ∷ 0 ∷ 0  -- 1: read x0 a0 0
    ∷ 6 ∷ 0 ∷ 17 ∷ 0 ∷ 3 ∷ 0  -- 2: variable x3
    ∷ 8 ∷ 0 ∷ 16 ∷ 0 ∷ 1 ∷ 0 ∷ 0 ∷ 0  -- 3: number 1
    ∷ 8 ∷ 0 ∷ 33 ∷ 0 ∷ 2 ∷ 0 ∷ 3 ∷ 0  -- 4: equal 2 3
    ∷ 8 ∷ 0 ∷ 16 ∷ 0 ∷ 0 ∷ 0 ∷ 0 ∷ 0  -- 5: number 0
    ∷ 6 ∷ 0 ∷ 17 ∷ 0 ∷ 0 ∷ 0  -- 6: variable x0
    ∷ 10 ∷ 0 ∷ 21 ∷ 0 ∷ 4 ∷ 0 ∷ 5 ∷ 0 ∷ 6 ∷ 0  -- 7: choice 4 5 6
    ∷ 8 ∷ 0 ∷ 49 ∷ 0 ∷ 0 ∷ 0 ∷ 7 ∷ 0  -- 8: assign x0 7
    ∷ 8 ∷ 0 ∷ 50 ∷ 0 ∷ 1 ∷ 0 ∷ 8 ∷ 0  -- 9: sequence 1 8
    ∷ []

-- The array is listed, as 256 plus 0, though lifting it makes the table longer. Lifting x0 or x2 changes the labels record alone: they are not listed.
pub lifting_lengthens :
    ListsMarks (array_read 1) (0 ∷ 1 ∷ []) × HardensTo (array_read 1) secret_read × Sized secret_read 2 42 × HardensTo (array_read 0) public_read × Sized public_read 10 104
    × ListsMarks (array_read 0) []
unfolding opened
lifting_lengthens = (written (0 ∷ 1 ∷ []), written secret_read, sized secret_read, written public_read, sized public_read, written [])

-- `if x+y=0 then skip else skip`, with a mask of what is secret
abbrev pub sum_tested : (variables : ℕ) → List ℕ
sum_tested m =
    10 ∷ 0 ∷ 1 ∷ 0 ∷ 1 ∷ 0 ∷ 2 ∷ 0 ∷ 8 ∷ 0  -- header: version 1, V 2, A 0, N 8
    ∷ 10 ∷ 0 ∷ 3 ∷ 0 ∷ m ∷ 0 ∷ 0 ∷ 0 ∷ 0 ∷ 0  -- labels: variable mask m, array mask 0
    ∷ 6 ∷ 0 ∷ 17 ∷ 0 ∷ 0 ∷ 0  -- 0: variable x0
    ∷ 6 ∷ 0 ∷ 17 ∷ 0 ∷ 1 ∷ 0  -- 1: variable x1
    ∷ 8 ∷ 0 ∷ 18 ∷ 0 ∷ 0 ∷ 0 ∷ 1 ∷ 0  -- 2: add 0 1
    ∷ 8 ∷ 0 ∷ 16 ∷ 0 ∷ 0 ∷ 0 ∷ 0 ∷ 0  -- 3: number 0
    ∷ 8 ∷ 0 ∷ 33 ∷ 0 ∷ 2 ∷ 0 ∷ 3 ∷ 0  -- 4: equal 2 3
    ∷ 4 ∷ 0 ∷ 48 ∷ 0  -- 5: skip
    ∷ 4 ∷ 0 ∷ 48 ∷ 0  -- 6: skip
    ∷ 10 ∷ 0 ∷ 51 ∷ 0 ∷ 4 ∷ 0 ∷ 5 ∷ 0 ∷ 6 ∷ 0  -- 7: if 4 5 6
    ∷ []

-- Two marks hide each other: with both secret neither is listed, as the other keeps the condition secret; with one of them public the other is.
pub marks_hide : ListsMarks (sum_tested 3) [] × ListsMarks (sum_tested 2) (1 ∷ 0 ∷ []) × ListsMarks (sum_tested 1) (0 ∷ 0 ∷ []) × ListsMarks (sum_tested 0) []
unfolding opened
marks_hide = (written [], written (1 ∷ 0 ∷ []), written (0 ∷ 0 ∷ []), written [])

-- `if s=0 then skip else skip; if k=0 then skip else skip; x:=a0[i]; x:=a2[i]`: s, x, i, k are the variables 0 to 3; s, k, a0 and a2 are secret
abbrev pub variables_and_arrays : List ℕ
variables_and_arrays =
    10 ∷ 0 ∷ 1 ∷ 0 ∷ 1 ∷ 0 ∷ 4 ∷ 3 ∷ 19 ∷ 0  -- header: version 1, V 4, A 3, N 19
    ∷ 10 ∷ 0 ∷ 3 ∷ 0 ∷ 9 ∷ 0 ∷ 0 ∷ 0 ∷ 5 ∷ 0  -- labels: variable mask 9, array mask 5
    ∷ 6 ∷ 0 ∷ 2 ∷ 0 ∷ 4 ∷ 0  -- array: 4 cells
    ∷ 6 ∷ 0 ∷ 2 ∷ 0 ∷ 2 ∷ 0  -- array: 2 cells
    ∷ 6 ∷ 0 ∷ 2 ∷ 0 ∷ 3 ∷ 0  -- array: 3 cells
    ∷ 6 ∷ 0 ∷ 17 ∷ 0 ∷ 0 ∷ 0  -- 0: variable x0
    ∷ 8 ∷ 0 ∷ 16 ∷ 0 ∷ 0 ∷ 0 ∷ 0 ∷ 0  -- 1: number 0
    ∷ 8 ∷ 0 ∷ 33 ∷ 0 ∷ 0 ∷ 0 ∷ 1 ∷ 0  -- 2: equal 0 1
    ∷ 4 ∷ 0 ∷ 48 ∷ 0  -- 3: skip
    ∷ 4 ∷ 0 ∷ 48 ∷ 0  -- 4: skip
    ∷ 10 ∷ 0 ∷ 51 ∷ 0 ∷ 2 ∷ 0 ∷ 3 ∷ 0 ∷ 4 ∷ 0  -- 5: if 2 3 4
    ∷ 6 ∷ 0 ∷ 17 ∷ 0 ∷ 3 ∷ 0  -- 6: variable x3
    ∷ 8 ∷ 0 ∷ 16 ∷ 0 ∷ 0 ∷ 0 ∷ 0 ∷ 0  -- 7: number 0
    ∷ 8 ∷ 0 ∷ 33 ∷ 0 ∷ 6 ∷ 0 ∷ 7 ∷ 0  -- 8: equal 6 7
    ∷ 4 ∷ 0 ∷ 48 ∷ 0  -- 9: skip
    ∷ 4 ∷ 0 ∷ 48 ∷ 0  -- 10: skip
    ∷ 10 ∷ 0 ∷ 51 ∷ 0 ∷ 8 ∷ 0 ∷ 9 ∷ 0 ∷ 10 ∷ 0  -- 11: if 8 9 10
    ∷ 6 ∷ 0 ∷ 17 ∷ 0 ∷ 2 ∷ 0  -- 12: variable x2
    ∷ 10 ∷ 0 ∷ 53 ∷ 0 ∷ 1 ∷ 0 ∷ 0 ∷ 0 ∷ 12 ∷ 0  -- 13: read x1 a0 12
    ∷ 6 ∷ 0 ∷ 17 ∷ 0 ∷ 2 ∷ 0  -- 14: variable x2
    ∷ 10 ∷ 0 ∷ 53 ∷ 0 ∷ 1 ∷ 0 ∷ 2 ∷ 0 ∷ 14 ∷ 0  -- 15: read x1 a2 14
    ∷ 8 ∷ 0 ∷ 50 ∷ 0 ∷ 13 ∷ 0 ∷ 15 ∷ 0  -- 16: sequence 13 15
    ∷ 8 ∷ 0 ∷ 50 ∷ 0 ∷ 11 ∷ 0 ∷ 16 ∷ 0  -- 17: sequence 11 16
    ∷ 8 ∷ 0 ∷ 50 ∷ 0 ∷ 5 ∷ 0 ∷ 17 ∷ 0  -- 18: sequence 5 17
    ∷ []

-- "variables by rising number, then arrays as 256 plus their number"
pub variables_then_arrays : ListsMarks variables_and_arrays (0 ∷ 0 ∷ 3 ∷ 0 ∷ 0 ∷ 1 ∷ 2 ∷ 1 ∷ [])
unfolding opened
variables_then_arrays = written (0 ∷ 0 ∷ 3 ∷ 0 ∷ 0 ∷ 1 ∷ 2 ∷ 1 ∷ [])

-- `if x62=0 then skip else skip` with 63 variables, the most that can be hardened, the last one secret
abbrev pub last_tested : List ℕ
last_tested =
    10 ∷ 0 ∷ 1 ∷ 0 ∷ 2 ∷ 0 ∷ 63 ∷ 0 ∷ 6 ∷ 0  -- header: version 2, V 63, A 0, N 6
    ∷ 14 ∷ 0 ∷ 3 ∷ 0 ∷ 0 ∷ 0 ∷ 0 ∷ 0 ∷ 0 ∷ 0 ∷ 0 ∷ 64 ∷ 0 ∷ 0  -- labels: variable mask 2^62, array mask 0
    ∷ 6 ∷ 0 ∷ 17 ∷ 0 ∷ 62 ∷ 0  -- 0: variable x62
    ∷ 8 ∷ 0 ∷ 16 ∷ 0 ∷ 0 ∷ 0 ∷ 0 ∷ 0  -- 1: number 0
    ∷ 8 ∷ 0 ∷ 33 ∷ 0 ∷ 0 ∷ 0 ∷ 1 ∷ 0  -- 2: equal 0 1
    ∷ 4 ∷ 0 ∷ 48 ∷ 0  -- 3: skip
    ∷ 4 ∷ 0 ∷ 48 ∷ 0  -- 4: skip
    ∷ 10 ∷ 0 ∷ 51 ∷ 0 ∷ 2 ∷ 0 ∷ 3 ∷ 0 ∷ 4 ∷ 0  -- 5: if 2 3 4
    ∷ []

-- "Refusals 8 and 9 are given as in hardening": 64 variables are 9
pub last_variable : ListsMarks last_tested (62 ∷ 0 ∷ []) × Refuses costs_entry (skip_two 64) 9 0
unfolding opened
last_variable = (written (62 ∷ 0 ∷ []), λ buffer answer. refl)
