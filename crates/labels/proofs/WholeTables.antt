-- Reads, writes and branches in a secret context, what a write is given, and a table of version 2: the label sheets of whole tables, computed from
-- their bytes. In all but the last x0 is s, secret; x1 is x, public; array a0 has two cells, public.
use Prim.Native.Nat.{ℕ}
use mathlib.Core.List.{List, [], ◌∷◌}
use mathlib.Core.Path.{◌≡◌, refl}
use Rattle.awhile.specs.Refusals.{Answer, got, and_then}
use Rattle.awhile.specs.Tables.{read_table}
use Rattle.labels.specs.Sheet.{sheet_bytes}
use Rattle.labels.proofs.Open.{opened}

-- the label sheet of a table's bytes
abbrev sheet_for : List ℕ → Answer (List ℕ)
sheet_for bytes = and_then (read_table bytes) (λ t. got (sheet_bytes t t.labels))

-- a table with these declarations, so many nodes and these bytes of nodes
abbrev table_with : (nodes : ℕ) → List ℕ → List ℕ
table_with n bytes =
    10 ∷ 0 ∷ 1 ∷ 0 ∷ 1 ∷ 0 ∷ 2 ∷ 1 ∷ n ∷ 0  -- header: version 1, V 2, A 1, N n
    ∷ 10 ∷ 0 ∷ 3 ∷ 0 ∷ 1 ∷ 0 ∷ 0 ∷ 0 ∷ 0 ∷ 0  -- labels: variable mask 1, array mask 0
    ∷ 6 ∷ 0 ∷ 2 ∷ 0 ∷ 2 ∷ 0  -- array 0: 2 cells
    ∷ bytes

-- ---- writes: "Write joins into the array's label index, value and context"
-- `if s=0 then a0[1]:=1 else skip`
abbrev pub guarded_write : List ℕ
guarded_write =
    table_with 8
    (6 ∷ 0 ∷ 17 ∷ 0 ∷ 0 ∷ 0  -- 0: variable x0
    ∷ 8 ∷ 0 ∷ 16 ∷ 0 ∷ 0 ∷ 0 ∷ 0 ∷ 0  -- 1: number 0
    ∷ 8 ∷ 0 ∷ 33 ∷ 0 ∷ 0 ∷ 0 ∷ 1 ∷ 0  -- 2: equal 0 1
    ∷ 8 ∷ 0 ∷ 16 ∷ 0 ∷ 1 ∷ 0 ∷ 0 ∷ 0  -- 3: number 1
    ∷ 8 ∷ 0 ∷ 16 ∷ 0 ∷ 1 ∷ 0 ∷ 0 ∷ 0  -- 4: number 1
    ∷ 10 ∷ 0 ∷ 54 ∷ 0 ∷ 0 ∷ 0 ∷ 3 ∷ 0 ∷ 4 ∷ 0  -- 5: write a0 3 4
    ∷ 4 ∷ 0 ∷ 48 ∷ 0  -- 6: skip
    ∷ 10 ∷ 0 ∷ 51 ∷ 0 ∷ 2 ∷ 0 ∷ 5 ∷ 0 ∷ 6 ∷ 0  -- 7: if 2 5 6
    ∷ [])

-- the context makes the array secret; the index label leaves it out
pub context_written :
    sheet_for guarded_write
    ≡ got
    (14 ∷ 0 ∷ 128 ∷ 0 ∷ 1 ∷ 0 ∷ 8 ∷ 0 ∷ 1 ∷ 0 ∷ 0 ∷ 0 ∷ 1 ∷ 0  -- sheet: version 1, N 8, final masks 1 and 1
    ∷ 8 ∷ 0 ∷ 133 ∷ 0 ∷ 5 ∷ 0 ∷ 0 ∷ 0  -- write 5: index public
    ∷ 8 ∷ 0 ∷ 130 ∷ 0 ∷ 7 ∷ 0 ∷ 1 ∷ 0  -- if 7: condition secret
    ∷ [])
unfolding opened
context_written = refl

-- `a0[s]:=1`
abbrev pub secret_index_write : List ℕ
secret_index_write =
    table_with 3
    (6 ∷ 0 ∷ 17 ∷ 0 ∷ 0 ∷ 0  -- 0: variable x0
    ∷ 8 ∷ 0 ∷ 16 ∷ 0 ∷ 1 ∷ 0 ∷ 0 ∷ 0  -- 1: number 1
    ∷ 10 ∷ 0 ∷ 54 ∷ 0 ∷ 0 ∷ 0 ∷ 0 ∷ 0 ∷ 1 ∷ 0  -- 2: write a0 0 1
    ∷ [])

-- the index makes the array secret
pub index_written :
    sheet_for secret_index_write
    ≡ got
    (14 ∷ 0 ∷ 128 ∷ 0 ∷ 1 ∷ 0 ∷ 3 ∷ 0 ∷ 1 ∷ 0 ∷ 0 ∷ 0 ∷ 1 ∷ 0  -- sheet: version 1, N 3, final masks 1 and 1
    ∷ 8 ∷ 0 ∷ 133 ∷ 0 ∷ 2 ∷ 0 ∷ 1 ∷ 0  -- write 2: index secret
    ∷ [])
unfolding opened
index_written = refl

-- `a0[x]:=s`
abbrev pub secret_value_write : List ℕ
secret_value_write =
    table_with 3
    (6 ∷ 0 ∷ 17 ∷ 0 ∷ 1 ∷ 0  -- 0: variable x1
    ∷ 6 ∷ 0 ∷ 17 ∷ 0 ∷ 0 ∷ 0  -- 1: variable x0
    ∷ 10 ∷ 0 ∷ 54 ∷ 0 ∷ 0 ∷ 0 ∷ 0 ∷ 0 ∷ 1 ∷ 0  -- 2: write a0 0 1
    ∷ [])

-- the value makes the array secret; the index stays public
pub value_written :
    sheet_for secret_value_write
    ≡ got
    (14 ∷ 0 ∷ 128 ∷ 0 ∷ 1 ∷ 0 ∷ 3 ∷ 0 ∷ 1 ∷ 0 ∷ 0 ∷ 0 ∷ 1 ∷ 0  -- sheet: version 1, N 3, final masks 1 and 1
    ∷ 8 ∷ 0 ∷ 133 ∷ 0 ∷ 2 ∷ 0 ∷ 0 ∷ 0  -- write 2: index public
    ∷ [])
unfolding opened
value_written = refl

-- ---- reads: "Read gives its variable the join of index, array and context"
-- `if s=0 then x:=a0[1] else skip`
abbrev pub guarded_read : List ℕ
guarded_read =
    table_with 7
    (6 ∷ 0 ∷ 17 ∷ 0 ∷ 0 ∷ 0  -- 0: variable x0
    ∷ 8 ∷ 0 ∷ 16 ∷ 0 ∷ 0 ∷ 0 ∷ 0 ∷ 0  -- 1: number 0
    ∷ 8 ∷ 0 ∷ 33 ∷ 0 ∷ 0 ∷ 0 ∷ 1 ∷ 0  -- 2: equal 0 1
    ∷ 8 ∷ 0 ∷ 16 ∷ 0 ∷ 1 ∷ 0 ∷ 0 ∷ 0  -- 3: number 1
    ∷ 10 ∷ 0 ∷ 53 ∷ 0 ∷ 1 ∷ 0 ∷ 0 ∷ 0 ∷ 3 ∷ 0  -- 4: read x1 a0 3
    ∷ 4 ∷ 0 ∷ 48 ∷ 0  -- 5: skip
    ∷ 10 ∷ 0 ∷ 51 ∷ 0 ∷ 2 ∷ 0 ∷ 4 ∷ 0 ∷ 5 ∷ 0  -- 6: if 2 4 5
    ∷ [])

-- the context makes the variable secret, also as the sheet's label of the read has it
pub context_read :
    sheet_for guarded_read
    ≡ got
    (14 ∷ 0 ∷ 128 ∷ 0 ∷ 1 ∷ 0 ∷ 7 ∷ 0 ∷ 3 ∷ 0 ∷ 0 ∷ 0 ∷ 0 ∷ 0  -- sheet: version 1, N 7, final masks 3 and 0
    ∷ 10 ∷ 0 ∷ 132 ∷ 0 ∷ 4 ∷ 0 ∷ 1 ∷ 0 ∷ 0 ∷ 0  -- read 4: variable secret, index public
    ∷ 8 ∷ 0 ∷ 130 ∷ 0 ∷ 6 ∷ 0 ∷ 1 ∷ 0  -- if 6: condition secret
    ∷ [])
unfolding opened
context_read = refl

-- ---- a public branch inside a secret one: "If analyses both sides with the condition joined to the context"
-- `if s=0 then (if x=0 then x:=1 else skip) else skip`
abbrev pub public_inside : List ℕ
public_inside =
    table_with 12
    (6 ∷ 0 ∷ 17 ∷ 0 ∷ 0 ∷ 0  -- 0: variable x0
    ∷ 8 ∷ 0 ∷ 16 ∷ 0 ∷ 0 ∷ 0 ∷ 0 ∷ 0  -- 1: number 0
    ∷ 8 ∷ 0 ∷ 33 ∷ 0 ∷ 0 ∷ 0 ∷ 1 ∷ 0  -- 2: equal 0 1
    ∷ 6 ∷ 0 ∷ 17 ∷ 0 ∷ 1 ∷ 0  -- 3: variable x1
    ∷ 8 ∷ 0 ∷ 16 ∷ 0 ∷ 0 ∷ 0 ∷ 0 ∷ 0  -- 4: number 0
    ∷ 8 ∷ 0 ∷ 33 ∷ 0 ∷ 3 ∷ 0 ∷ 4 ∷ 0  -- 5: equal 3 4
    ∷ 8 ∷ 0 ∷ 16 ∷ 0 ∷ 1 ∷ 0 ∷ 0 ∷ 0  -- 6: number 1
    ∷ 8 ∷ 0 ∷ 49 ∷ 0 ∷ 1 ∷ 0 ∷ 6 ∷ 0  -- 7: assign x1 6
    ∷ 4 ∷ 0 ∷ 48 ∷ 0  -- 8: skip
    ∷ 10 ∷ 0 ∷ 51 ∷ 0 ∷ 5 ∷ 0 ∷ 7 ∷ 0 ∷ 8 ∷ 0  -- 9: if 5 7 8
    ∷ 4 ∷ 0 ∷ 48 ∷ 0  -- 10: skip
    ∷ 10 ∷ 0 ∷ 51 ∷ 0 ∷ 2 ∷ 0 ∷ 9 ∷ 0 ∷ 10 ∷ 0  -- 11: if 2 9 10
    ∷ [])

-- x is secret after it, though the inner condition is public
pub public_inside_lem :
    sheet_for public_inside
    ≡ got
    (14 ∷ 0 ∷ 128 ∷ 0 ∷ 1 ∷ 0 ∷ 12 ∷ 0 ∷ 3 ∷ 0 ∷ 0 ∷ 0 ∷ 0 ∷ 0  -- sheet: version 1, N 12, final masks 3 and 0
    ∷ 8 ∷ 0 ∷ 130 ∷ 0 ∷ 9 ∷ 0 ∷ 0 ∷ 0  -- if 9: condition public
    ∷ 8 ∷ 0 ∷ 130 ∷ 0 ∷ 11 ∷ 0 ∷ 1 ∷ 0  -- if 11: condition secret
    ∷ [])
unfolding opened
public_inside_lem = refl

-- ---- "Version 2 tables and sheets carry 8-byte variable masks"; "A sheet has its table's version"
-- `x0:=x39; skip` with 40 variables, of which x39 is secret
abbrev pub wide : List ℕ
wide =
    10 ∷ 0 ∷ 1 ∷ 0 ∷ 2 ∷ 0 ∷ 40 ∷ 0 ∷ 4 ∷ 0  -- header: version 2, V 40, A 0, N 4
    ∷ 14 ∷ 0 ∷ 3 ∷ 0 ∷ 0 ∷ 0 ∷ 0 ∷ 0 ∷ 128 ∷ 0 ∷ 0 ∷ 0 ∷ 0 ∷ 0  -- labels: variable mask 2^39, array mask 0
    ∷ 6 ∷ 0 ∷ 17 ∷ 0 ∷ 39 ∷ 0  -- 0: variable x39
    ∷ 8 ∷ 0 ∷ 49 ∷ 0 ∷ 0 ∷ 0 ∷ 0 ∷ 0  -- 1: assign x0 0
    ∷ 4 ∷ 0 ∷ 48 ∷ 0  -- 2: skip
    ∷ 8 ∷ 0 ∷ 50 ∷ 0 ∷ 1 ∷ 0 ∷ 2 ∷ 0  -- 3: sequence 1 2
    ∷ []

pub wide_sheet :
    sheet_for wide
    ≡ got
    (18 ∷ 0 ∷ 128 ∷ 0 ∷ 2 ∷ 0 ∷ 4 ∷ 0 ∷ 1 ∷ 0 ∷ 0 ∷ 0 ∷ 128 ∷ 0 ∷ 0 ∷ 0 ∷ 0 ∷ 0  -- sheet: version 2, N 4, final masks 2^39 + 1 and 0
    ∷ 16 ∷ 0 ∷ 129 ∷ 0 ∷ 3 ∷ 0 ∷ 1 ∷ 0 ∷ 0 ∷ 0 ∷ 128 ∷ 0 ∷ 0 ∷ 0 ∷ 0 ∷ 0  -- sequence 3: masks 2^39 + 1 and 0 after its first part
    ∷ [])
unfolding opened
wide_sheet = refl
