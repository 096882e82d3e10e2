-- Label sheets of loops, sequences and branches.
use Rattle.std.specs.Prelude.{ℕ, List, [], ◌∷◌}
use Rattle.entries.proofs.Open.{opened}
use Rattle.marked_cases.specs.Claims.{HasSheet, written}

-- `while x<3 do (x:=y; (y:=z; z:=s))`: x, y, z, s are the variables 0 to 3, s secret
abbrev pub loop : List ℕ
loop =
    10 ∷ 0 ∷ 1 ∷ 0 ∷ 1 ∷ 0 ∷ 4 ∷ 0 ∷ 12 ∷ 0  -- header: version 1, V 4, A 0, N 12
    ∷ 10 ∷ 0 ∷ 3 ∷ 0 ∷ 8 ∷ 0 ∷ 0 ∷ 0 ∷ 0 ∷ 0  -- labels: variable mask 8, array mask 0
    ∷ 6 ∷ 0 ∷ 17 ∷ 0 ∷ 0 ∷ 0  -- 0: variable x0
    ∷ 8 ∷ 0 ∷ 16 ∷ 0 ∷ 3 ∷ 0 ∷ 0 ∷ 0  -- 1: number 3
    ∷ 8 ∷ 0 ∷ 34 ∷ 0 ∷ 0 ∷ 0 ∷ 1 ∷ 0  -- 2: less 0 1
    ∷ 6 ∷ 0 ∷ 17 ∷ 0 ∷ 1 ∷ 0  -- 3: variable x1
    ∷ 8 ∷ 0 ∷ 49 ∷ 0 ∷ 0 ∷ 0 ∷ 3 ∷ 0  -- 4: assign x0 3
    ∷ 6 ∷ 0 ∷ 17 ∷ 0 ∷ 2 ∷ 0  -- 5: variable x2
    ∷ 8 ∷ 0 ∷ 49 ∷ 0 ∷ 1 ∷ 0 ∷ 5 ∷ 0  -- 6: assign x1 5
    ∷ 6 ∷ 0 ∷ 17 ∷ 0 ∷ 3 ∷ 0  -- 7: variable x3
    ∷ 8 ∷ 0 ∷ 49 ∷ 0 ∷ 2 ∷ 0 ∷ 7 ∷ 0  -- 8: assign x2 7
    ∷ 8 ∷ 0 ∷ 50 ∷ 0 ∷ 6 ∷ 0 ∷ 8 ∷ 0  -- 9: sequence 6 8
    ∷ 8 ∷ 0 ∷ 50 ∷ 0 ∷ 4 ∷ 0 ∷ 9 ∷ 0  -- 10: sequence 4 9
    ∷ 8 ∷ 0 ∷ 52 ∷ 0 ∷ 2 ∷ 0 ∷ 10 ∷ 0  -- 11: while 2 10
    ∷ []

-- its label sheet
abbrev pub loop_sheet : List ℕ
loop_sheet =
    14 ∷ 0 ∷ 128 ∷ 0 ∷ 1 ∷ 0 ∷ 12 ∷ 0 ∷ 15 ∷ 0 ∷ 0 ∷ 0 ∷ 0 ∷ 0  -- sheet: version 1, N 12, final masks 15 and 0
    ∷ 12 ∷ 0 ∷ 129 ∷ 0 ∷ 9 ∷ 0 ∷ 15 ∷ 0 ∷ 0 ∷ 0 ∷ 0 ∷ 0  -- sequence 9: masks 15 and 0 after its first part
    ∷ 12 ∷ 0 ∷ 129 ∷ 0 ∷ 10 ∷ 0 ∷ 15 ∷ 0 ∷ 0 ∷ 0 ∷ 0 ∷ 0  -- sequence 10: masks 15 and 0 after its first part
    ∷ 14 ∷ 0 ∷ 131 ∷ 0 ∷ 11 ∷ 0 ∷ 1 ∷ 0 ∷ 15 ∷ 0 ∷ 0 ∷ 0 ∷ 0 ∷ 0  -- while 11: condition secret, settled masks 15 and 0
    ∷ []

-- P: variable mask 8 settles as 15, the condition secret
pub loop_ends : HasSheet loop loop_sheet
unfolding opened
loop_ends = written loop_sheet

-- `x:=y; (y:=z; z:=s)`: the same body without the loop
abbrev pub straight : List ℕ
straight =
    10 ∷ 0 ∷ 1 ∷ 0 ∷ 1 ∷ 0 ∷ 4 ∷ 0 ∷ 8 ∷ 0  -- header: version 1, V 4, A 0, N 8
    ∷ 10 ∷ 0 ∷ 3 ∷ 0 ∷ 8 ∷ 0 ∷ 0 ∷ 0 ∷ 0 ∷ 0  -- labels: variable mask 8, array mask 0
    ∷ 6 ∷ 0 ∷ 17 ∷ 0 ∷ 1 ∷ 0  -- 0: variable x1
    ∷ 8 ∷ 0 ∷ 49 ∷ 0 ∷ 0 ∷ 0 ∷ 0 ∷ 0  -- 1: assign x0 0
    ∷ 6 ∷ 0 ∷ 17 ∷ 0 ∷ 2 ∷ 0  -- 2: variable x2
    ∷ 8 ∷ 0 ∷ 49 ∷ 0 ∷ 1 ∷ 0 ∷ 2 ∷ 0  -- 3: assign x1 2
    ∷ 6 ∷ 0 ∷ 17 ∷ 0 ∷ 3 ∷ 0  -- 4: variable x3
    ∷ 8 ∷ 0 ∷ 49 ∷ 0 ∷ 2 ∷ 0 ∷ 4 ∷ 0  -- 5: assign x2 4
    ∷ 8 ∷ 0 ∷ 50 ∷ 0 ∷ 3 ∷ 0 ∷ 5 ∷ 0  -- 6: sequence 3 5
    ∷ 8 ∷ 0 ∷ 50 ∷ 0 ∷ 1 ∷ 0 ∷ 6 ∷ 0  -- 7: sequence 1 6
    ∷ []

-- its label sheet
abbrev pub straight_sheet : List ℕ
straight_sheet =
    14 ∷ 0 ∷ 128 ∷ 0 ∷ 1 ∷ 0 ∷ 8 ∷ 0 ∷ 12 ∷ 0 ∷ 0 ∷ 0 ∷ 0 ∷ 0  -- sheet: version 1, N 8, final masks 12 and 0
    ∷ 12 ∷ 0 ∷ 129 ∷ 0 ∷ 6 ∷ 0 ∷ 8 ∷ 0 ∷ 0 ∷ 0 ∷ 0 ∷ 0  -- sequence 6: masks 8 and 0 after its first part
    ∷ 12 ∷ 0 ∷ 129 ∷ 0 ∷ 7 ∷ 0 ∷ 8 ∷ 0 ∷ 0 ∷ 0 ∷ 0 ∷ 0  -- sequence 7: masks 8 and 0 after its first part
    ∷ []

-- P: without the loop it ends 12
pub straight_ends : HasSheet straight straight_sheet
unfolding opened
straight_ends = written straight_sheet

-- `if s=0 then x:=1 else skip`: s and x are the variables 0 and 1, s secret
abbrev pub branch : List ℕ
branch =
    10 ∷ 0 ∷ 1 ∷ 0 ∷ 1 ∷ 0 ∷ 2 ∷ 0 ∷ 7 ∷ 0  -- header: version 1, V 2, A 0, N 7
    ∷ 10 ∷ 0 ∷ 3 ∷ 0 ∷ 1 ∷ 0 ∷ 0 ∷ 0 ∷ 0 ∷ 0  -- labels: variable mask 1, array mask 0
    ∷ 6 ∷ 0 ∷ 17 ∷ 0 ∷ 0 ∷ 0  -- 0: variable x0
    ∷ 8 ∷ 0 ∷ 16 ∷ 0 ∷ 0 ∷ 0 ∷ 0 ∷ 0  -- 1: number 0
    ∷ 8 ∷ 0 ∷ 33 ∷ 0 ∷ 0 ∷ 0 ∷ 1 ∷ 0  -- 2: equal 0 1
    ∷ 8 ∷ 0 ∷ 16 ∷ 0 ∷ 1 ∷ 0 ∷ 0 ∷ 0  -- 3: number 1
    ∷ 8 ∷ 0 ∷ 49 ∷ 0 ∷ 1 ∷ 0 ∷ 3 ∷ 0  -- 4: assign x1 3
    ∷ 4 ∷ 0 ∷ 48 ∷ 0  -- 5: skip
    ∷ 10 ∷ 0 ∷ 51 ∷ 0 ∷ 2 ∷ 0 ∷ 4 ∷ 0 ∷ 5 ∷ 0  -- 6: if 2 4 5
    ∷ []

-- its label sheet
abbrev pub branch_sheet : List ℕ
branch_sheet =
    14 ∷ 0 ∷ 128 ∷ 0 ∷ 1 ∷ 0 ∷ 7 ∷ 0 ∷ 3 ∷ 0 ∷ 0 ∷ 0 ∷ 0 ∷ 0  -- sheet: version 1, N 7, final masks 3 and 0
    ∷ 8 ∷ 0 ∷ 130 ∷ 0 ∷ 6 ∷ 0 ∷ 1 ∷ 0  -- if 6: condition secret
    ∷ []

-- `(if s=0 then x:=1 else skip); x:=2`
abbrev pub branch_then_assign : List ℕ
branch_then_assign =
    10 ∷ 0 ∷ 1 ∷ 0 ∷ 1 ∷ 0 ∷ 2 ∷ 0 ∷ 10 ∷ 0  -- header: version 1, V 2, A 0, N 10
    ∷ 10 ∷ 0 ∷ 3 ∷ 0 ∷ 1 ∷ 0 ∷ 0 ∷ 0 ∷ 0 ∷ 0  -- labels: variable mask 1, array mask 0
    ∷ 6 ∷ 0 ∷ 17 ∷ 0 ∷ 0 ∷ 0  -- 0: variable x0
    ∷ 8 ∷ 0 ∷ 16 ∷ 0 ∷ 0 ∷ 0 ∷ 0 ∷ 0  -- 1: number 0
    ∷ 8 ∷ 0 ∷ 33 ∷ 0 ∷ 0 ∷ 0 ∷ 1 ∷ 0  -- 2: equal 0 1
    ∷ 8 ∷ 0 ∷ 16 ∷ 0 ∷ 1 ∷ 0 ∷ 0 ∷ 0  -- 3: number 1
    ∷ 8 ∷ 0 ∷ 49 ∷ 0 ∷ 1 ∷ 0 ∷ 3 ∷ 0  -- 4: assign x1 3
    ∷ 4 ∷ 0 ∷ 48 ∷ 0  -- 5: skip
    ∷ 10 ∷ 0 ∷ 51 ∷ 0 ∷ 2 ∷ 0 ∷ 4 ∷ 0 ∷ 5 ∷ 0  -- 6: if 2 4 5
    ∷ 8 ∷ 0 ∷ 16 ∷ 0 ∷ 2 ∷ 0 ∷ 0 ∷ 0  -- 7: number 2
    ∷ 8 ∷ 0 ∷ 49 ∷ 0 ∷ 1 ∷ 0 ∷ 7 ∷ 0  -- 8: assign x1 7
    ∷ 8 ∷ 0 ∷ 50 ∷ 0 ∷ 6 ∷ 0 ∷ 8 ∷ 0  -- 9: sequence 6 8
    ∷ []

-- its label sheet
abbrev pub branch_then_assign_sheet : List ℕ
branch_then_assign_sheet =
    14 ∷ 0 ∷ 128 ∷ 0 ∷ 1 ∷ 0 ∷ 10 ∷ 0 ∷ 1 ∷ 0 ∷ 0 ∷ 0 ∷ 0 ∷ 0  -- sheet: version 1, N 10, final masks 1 and 0
    ∷ 8 ∷ 0 ∷ 130 ∷ 0 ∷ 6 ∷ 0 ∷ 1 ∷ 0  -- if 6: condition secret
    ∷ 12 ∷ 0 ∷ 129 ∷ 0 ∷ 9 ∷ 0 ∷ 3 ∷ 0 ∷ 0 ∷ 0 ∷ 0 ∷ 0  -- sequence 9: masks 3 and 0 after its first part
    ∷ []

-- P: x is secret (the final variable mask is 3, of s and x); followed by `x:=2` it is public (1, of s alone)
pub branch_then_assign_lem : HasSheet branch branch_sheet × HasSheet branch_then_assign branch_then_assign_sheet
unfolding opened
branch_then_assign_lem = (written branch_sheet, written branch_then_assign_sheet)
