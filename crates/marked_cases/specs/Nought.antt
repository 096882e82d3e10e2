-- P6. Products with the constant 0.
use Rattle.std.specs.Prelude.{ℕ, List, [], ◌∷◌}
use Rattle.entries.proofs.Open.{opened}
use Rattle.marked_cases.specs.Claims.{Sized, HasSheet, GetsAnswers, HardensTo, sized, written}

-- `y:=s*0; skip`: s and y are the variables 0 and 1, both secret
abbrev pub clearing : List ℕ
clearing =
    10 ∷ 0 ∷ 1 ∷ 0 ∷ 1 ∷ 0 ∷ 2 ∷ 0 ∷ 6 ∷ 0  -- header: version 1, V 2, A 0, N 6
    ∷ 10 ∷ 0 ∷ 3 ∷ 0 ∷ 3 ∷ 0 ∷ 0 ∷ 0 ∷ 0 ∷ 0  -- labels: variable mask 3, array mask 0
    ∷ 6 ∷ 0 ∷ 17 ∷ 0 ∷ 0 ∷ 0  -- 0: variable x0
    ∷ 8 ∷ 0 ∷ 16 ∷ 0 ∷ 0 ∷ 0 ∷ 0 ∷ 0  -- 1: number 0
    ∷ 8 ∷ 0 ∷ 20 ∷ 0 ∷ 0 ∷ 0 ∷ 1 ∷ 0  -- 2: multiply 0 1
    ∷ 8 ∷ 0 ∷ 49 ∷ 0 ∷ 1 ∷ 0 ∷ 2 ∷ 0  -- 3: assign x1 2
    ∷ 4 ∷ 0 ∷ 48 ∷ 0  -- 4: skip
    ∷ 8 ∷ 0 ∷ 50 ∷ 0 ∷ 3 ∷ 0 ∷ 4 ∷ 0  -- 5: sequence 3 4
    ∷ []

-- its label sheet
abbrev pub clearing_sheet : List ℕ
clearing_sheet =
    14 ∷ 0 ∷ 128 ∷ 0 ∷ 1 ∷ 0 ∷ 6 ∷ 0 ∷ 1 ∷ 0 ∷ 0 ∷ 0 ∷ 0 ∷ 0  -- sheet: version 1, N 6, final masks 1 and 0
    ∷ 12 ∷ 0 ∷ 129 ∷ 0 ∷ 5 ∷ 0 ∷ 1 ∷ 0 ∷ 0 ∷ 0 ∷ 0 ∷ 0  -- sequence 5: masks 1 and 0 after its first part
    ∷ []

-- The product is public, so y is public after it; s is as it was.
pub clearing_ends : HasSheet clearing clearing_sheet
unfolding opened
clearing_ends = written clearing_sheet

-- is y secret just before `y:=s*0`, node 3, and just before the skip, node 4; and s just before that?
abbrev clearing_questions : List ℕ
clearing_questions = 3 ∷ 0 ∷ 1 ∷ 0 ∷ 4 ∷ 0 ∷ 1 ∷ 0 ∷ 4 ∷ 0 ∷ 0 ∷ 0 ∷ []

pub clearing_answers : GetsAnswers clearing clearing_questions (1 ∷ 0 ∷ 1 ∷ [])
unfolding opened
clearing_answers = written (1 ∷ 0 ∷ 1 ∷ [])

-- `y:=(s*0)*s`: s and y are the variables 0 and 1, s secret
abbrev pub product_times : List ℕ
product_times =
    10 ∷ 0 ∷ 1 ∷ 0 ∷ 1 ∷ 0 ∷ 2 ∷ 0 ∷ 6 ∷ 0  -- header: version 1, V 2, A 0, N 6
    ∷ 10 ∷ 0 ∷ 3 ∷ 0 ∷ 1 ∷ 0 ∷ 0 ∷ 0 ∷ 0 ∷ 0  -- labels: variable mask 1, array mask 0
    ∷ 6 ∷ 0 ∷ 17 ∷ 0 ∷ 0 ∷ 0  -- 0: variable x0
    ∷ 8 ∷ 0 ∷ 16 ∷ 0 ∷ 0 ∷ 0 ∷ 0 ∷ 0  -- 1: number 0
    ∷ 8 ∷ 0 ∷ 20 ∷ 0 ∷ 0 ∷ 0 ∷ 1 ∷ 0  -- 2: multiply 0 1
    ∷ 6 ∷ 0 ∷ 17 ∷ 0 ∷ 0 ∷ 0  -- 3: variable x0
    ∷ 8 ∷ 0 ∷ 20 ∷ 0 ∷ 2 ∷ 0 ∷ 3 ∷ 0  -- 4: multiply 2 3
    ∷ 8 ∷ 0 ∷ 49 ∷ 0 ∷ 1 ∷ 0 ∷ 4 ∷ 0  -- 5: assign x1 4
    ∷ []

-- its label sheet
abbrev pub product_times_sheet : List ℕ
product_times_sheet =
    14 ∷ 0 ∷ 128 ∷ 0 ∷ 1 ∷ 0 ∷ 6 ∷ 0 ∷ 3 ∷ 0 ∷ 0 ∷ 0 ∷ 0 ∷ 0  -- sheet: version 1, N 6, final masks 3 and 0
    ∷ []

-- The operand `s*0` is no number node, so the outer product is secret, and y by it.
pub product_times_ends : HasSheet product_times product_times_sheet
unfolding opened
product_times_ends = written product_times_sheet

-- `if s*0=0 then skip else skip`, s secret
abbrev pub nought_if : List ℕ
nought_if =
    10 ∷ 0 ∷ 1 ∷ 0 ∷ 1 ∷ 0 ∷ 1 ∷ 0 ∷ 8 ∷ 0  -- header: version 1, V 1, A 0, N 8
    ∷ 10 ∷ 0 ∷ 3 ∷ 0 ∷ 1 ∷ 0 ∷ 0 ∷ 0 ∷ 0 ∷ 0  -- labels: variable mask 1, array mask 0
    ∷ 6 ∷ 0 ∷ 17 ∷ 0 ∷ 0 ∷ 0  -- 0: variable x0
    ∷ 8 ∷ 0 ∷ 16 ∷ 0 ∷ 0 ∷ 0 ∷ 0 ∷ 0  -- 1: number 0
    ∷ 8 ∷ 0 ∷ 20 ∷ 0 ∷ 0 ∷ 0 ∷ 1 ∷ 0  -- 2: multiply 0 1
    ∷ 8 ∷ 0 ∷ 16 ∷ 0 ∷ 0 ∷ 0 ∷ 0 ∷ 0  -- 3: number 0
    ∷ 8 ∷ 0 ∷ 33 ∷ 0 ∷ 2 ∷ 0 ∷ 3 ∷ 0  -- 4: equal 2 3
    ∷ 4 ∷ 0 ∷ 48 ∷ 0  -- 5: skip
    ∷ 4 ∷ 0 ∷ 48 ∷ 0  -- 6: skip
    ∷ 10 ∷ 0 ∷ 51 ∷ 0 ∷ 4 ∷ 0 ∷ 5 ∷ 0 ∷ 6 ∷ 0  -- 7: if 4 5 6
    ∷ []

-- its label sheet
abbrev pub nought_if_sheet : List ℕ
nought_if_sheet =
    14 ∷ 0 ∷ 128 ∷ 0 ∷ 1 ∷ 0 ∷ 8 ∷ 0 ∷ 1 ∷ 0 ∷ 0 ∷ 0 ∷ 0 ∷ 0  -- sheet: version 1, N 8, final masks 1 and 0
    ∷ 8 ∷ 0 ∷ 130 ∷ 0 ∷ 7 ∷ 0 ∷ 0 ∷ 0  -- if 7: condition public
    ∷ []

-- hardened, the condition without a mask; f is variable 1
abbrev pub nought_if_hardened : List ℕ
nought_if_hardened =
    10 ∷ 0 ∷ 1 ∷ 0 ∷ 1 ∷ 0 ∷ 2 ∷ 0 ∷ 28 ∷ 0  -- header: version 1, V 2, A 0, N 28
    ∷ 10 ∷ 0 ∷ 3 ∷ 0 ∷ 1 ∷ 0 ∷ 0 ∷ 0 ∷ 0 ∷ 0  -- labels: variable mask 1, array mask 0
    ∷ 6 ∷ 0 ∷ 17 ∷ 0 ∷ 0 ∷ 0  -- 0: variable x0
    ∷ 8 ∷ 0 ∷ 16 ∷ 0 ∷ 0 ∷ 0 ∷ 0 ∷ 0  -- 1: number 0
    ∷ 8 ∷ 0 ∷ 20 ∷ 0 ∷ 0 ∷ 0 ∷ 1 ∷ 0  -- 2: multiply 0 1
    ∷ 8 ∷ 0 ∷ 16 ∷ 0 ∷ 0 ∷ 0 ∷ 0 ∷ 0  -- 3: number 0
    ∷ 8 ∷ 0 ∷ 33 ∷ 0 ∷ 2 ∷ 0 ∷ 3 ∷ 0  -- 4: equal 2 3
    ∷ 6 ∷ 0 ∷ 17 ∷ 0 ∷ 0 ∷ 0  -- 5: variable x0
    ∷ 8 ∷ 0 ∷ 16 ∷ 0 ∷ 0 ∷ 0 ∷ 0 ∷ 0  -- 6: number 0
    ∷ 8 ∷ 0 ∷ 20 ∷ 0 ∷ 5 ∷ 0 ∷ 6 ∷ 0  -- 7: multiply 5 6
    ∷ 8 ∷ 0 ∷ 16 ∷ 0 ∷ 0 ∷ 0 ∷ 0 ∷ 0  -- 8: number 0
    ∷ 8 ∷ 0 ∷ 33 ∷ 0 ∷ 7 ∷ 0 ∷ 8 ∷ 0  -- 9: equal 7 8
    ∷ 6 ∷ 0 ∷ 17 ∷ 0 ∷ 1 ∷ 0  -- 10: variable x1
    ∷ 8 ∷ 0 ∷ 16 ∷ 0 ∷ 1 ∷ 0 ∷ 0 ∷ 0  -- 11: number 1
    ∷ 10 ∷ 0 ∷ 21 ∷ 0 ∷ 9 ∷ 0 ∷ 10 ∷ 0 ∷ 11 ∷ 0  -- 12: choice 9 10 11
    ∷ 8 ∷ 0 ∷ 49 ∷ 0 ∷ 1 ∷ 0 ∷ 12 ∷ 0  -- 13: assign x1 12
    ∷ 4 ∷ 0 ∷ 48 ∷ 0  -- 14: skip
    ∷ 8 ∷ 0 ∷ 50 ∷ 0 ∷ 13 ∷ 0 ∷ 14 ∷ 0  -- 15: sequence 13 14
    ∷ 6 ∷ 0 ∷ 17 ∷ 0 ∷ 0 ∷ 0  -- 16: variable x0
    ∷ 8 ∷ 0 ∷ 16 ∷ 0 ∷ 0 ∷ 0 ∷ 0 ∷ 0  -- 17: number 0
    ∷ 8 ∷ 0 ∷ 20 ∷ 0 ∷ 16 ∷ 0 ∷ 17 ∷ 0  -- 18: multiply 16 17
    ∷ 8 ∷ 0 ∷ 16 ∷ 0 ∷ 0 ∷ 0 ∷ 0 ∷ 0  -- 19: number 0
    ∷ 8 ∷ 0 ∷ 33 ∷ 0 ∷ 18 ∷ 0 ∷ 19 ∷ 0  -- 20: equal 18 19
    ∷ 8 ∷ 0 ∷ 16 ∷ 0 ∷ 1 ∷ 0 ∷ 0 ∷ 0  -- 21: number 1
    ∷ 6 ∷ 0 ∷ 17 ∷ 0 ∷ 1 ∷ 0  -- 22: variable x1
    ∷ 10 ∷ 0 ∷ 21 ∷ 0 ∷ 20 ∷ 0 ∷ 21 ∷ 0 ∷ 22 ∷ 0  -- 23: choice 20 21 22
    ∷ 8 ∷ 0 ∷ 49 ∷ 0 ∷ 1 ∷ 0 ∷ 23 ∷ 0  -- 24: assign x1 23
    ∷ 4 ∷ 0 ∷ 48 ∷ 0  -- 25: skip
    ∷ 8 ∷ 0 ∷ 50 ∷ 0 ∷ 24 ∷ 0 ∷ 25 ∷ 0  -- 26: sequence 24 25
    ∷ 10 ∷ 0 ∷ 51 ∷ 0 ∷ 4 ∷ 0 ∷ 15 ∷ 0 ∷ 26 ∷ 0  -- 27: if 4 15 26
    ∷ []

-- 8 nodes and 76 bytes become 28 nodes and 232 bytes; with `s*1` for `s*0` they become 40 and 322
pub nought_if_lem : HasSheet nought_if nought_if_sheet × Sized nought_if 8 76 × Sized nought_if_hardened 28 232 × HardensTo nought_if nought_if_hardened
unfolding opened
nought_if_lem = (written nought_if_sheet, sized nought_if, sized nought_if_hardened, written nought_if_hardened)
