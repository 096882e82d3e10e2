-- Labels that settle only after as many passes as there are variables.
use Rattle.std.specs.Prelude.{ℕ, zero, suc, ◌+◌, ◌-◌, List, [], ◌∷◌, ◌++◌}
use Rattle.entries.proofs.Open.{opened}
use Rattle.marked_cases.specs.Claims.{HasSheet, HardensTo, written}

-- x0:=x1, x1:=x2, .. : two records each, a variable and its assignment, numbered from n on
abbrev assigns : (count n x : ℕ) → List ℕ
assigns zero n x = []
assigns (suc count) n x = 6 ∷ 0 ∷ 17 ∷ 0 ∷ (x + 1) ∷ 0 ∷ 8 ∷ 0 ∷ 49 ∷ 0 ∷ x ∷ 0 ∷ n ∷ 0 ∷ assigns count (n + 2) (x + 1)

-- the sequences that join them, from the last backwards: their first parts stand two nodes apart
abbrev sequences : (count first second : ℕ) → List ℕ
sequences zero first second = []
sequences (suc count) first second = 8 ∷ 0 ∷ 50 ∷ 0 ∷ first ∷ 0 ∷ second ∷ 0 ∷ sequences count (first - 2) (second + 1)

-- what the sheet has of sequences numbered from n on: all 63 variables secret after the first part
abbrev all_secret : (count n : ℕ) → List ℕ
all_secret zero n = []
all_secret (suc count) n = 16 ∷ 0 ∷ 129 ∷ 0 ∷ n ∷ 0 ∷ 255 ∷ 255 ∷ 255 ∷ 255 ∷ 255 ∷ 255 ∷ 255 ∷ 127 ∷ 0 ∷ 0 ∷ all_secret count (n + 1)

-- `(while x0<3 do (x0:=x1; (x1:=x2; .. x61:=x62))); x0:=a0[x0]`, 63 variables, x62 secret
abbrev pub chain : List ℕ
chain =
    10 ∷ 0 ∷ 1 ∷ 0 ∷ 2 ∷ 0 ∷ 63 ∷ 1 ∷ 192 ∷ 0  -- header: version 2, V 63, A 1, N 192
    ∷ 14 ∷ 0 ∷ 3 ∷ 0 ∷ 0 ∷ 0 ∷ 0 ∷ 0 ∷ 0 ∷ 0 ∷ 0 ∷ 64 ∷ 0 ∷ 0  -- labels: variable mask 2^62, array mask 0
    ∷ 6 ∷ 0 ∷ 2 ∷ 0 ∷ 1 ∷ 0  -- array of 1 cells
    ∷ 6 ∷ 0 ∷ 17 ∷ 0 ∷ 0 ∷ 0  -- 0: variable x0
    ∷ 8 ∷ 0 ∷ 16 ∷ 0 ∷ 3 ∷ 0 ∷ 0 ∷ 0  -- 1: number 3
    ∷ 8 ∷ 0 ∷ 34 ∷ 0 ∷ 0 ∷ 0 ∷ 1 ∷ 0  -- 2: less 0 1
    ∷ assigns 62 3 0  -- 3 to 126
    ++ sequences 61 124 126  -- 127 to 187
    ++ 8 ∷ 0 ∷ 52 ∷ 0 ∷ 2 ∷ 0 ∷ 187 ∷ 0  -- 188: while 2 187
    ∷ 6 ∷ 0 ∷ 17 ∷ 0 ∷ 0 ∷ 0  -- 189: variable x0
    ∷ 10 ∷ 0 ∷ 53 ∷ 0 ∷ 0 ∷ 0 ∷ 0 ∷ 0 ∷ 189 ∷ 0  -- 190: read x0 a0 189
    ∷ 8 ∷ 0 ∷ 50 ∷ 0 ∷ 188 ∷ 0 ∷ 190 ∷ 0  -- 191: sequence 188 190
    ∷ []

-- its label sheet
abbrev pub chain_sheet : List ℕ
chain_sheet =
    18 ∷ 0 ∷ 128 ∷ 0 ∷ 2 ∷ 0 ∷ 192 ∷ 0 ∷ 255 ∷ 255 ∷ 255 ∷ 255 ∷ 255 ∷ 255 ∷ 255 ∷ 127 ∷ 0 ∷ 0  -- sheet: version 2, N 192, final masks 2^63 - 1 and 0
    ∷ all_secret 61 127  -- sequences 127 to 187
    ++ 18 ∷ 0 ∷ 131 ∷ 0 ∷ 188 ∷ 0 ∷ 1 ∷ 0 ∷ 255 ∷ 255 ∷ 255 ∷ 255 ∷ 255 ∷ 255 ∷ 255 ∷ 127 ∷ 0 ∷ 0  -- while 188: condition secret, settled masks 2^63 - 1 and 0
    ∷ 10 ∷ 0 ∷ 132 ∷ 0 ∷ 190 ∷ 0 ∷ 1 ∷ 0 ∷ 1 ∷ 0  -- read 190: variable secret, index secret
    ∷ 16 ∷ 0 ∷ 129 ∷ 0 ∷ 191 ∷ 0 ∷ 255 ∷ 255 ∷ 255 ∷ 255 ∷ 255 ∷ 255 ∷ 255 ∷ 127 ∷ 0 ∷ 0  -- sequence 191: masks 2^63 - 1 and 0 after its first part
    ∷ []

-- hardened; f is variable 63
abbrev pub chain_hardened : List ℕ
chain_hardened =
    10 ∷ 0 ∷ 1 ∷ 0 ∷ 2 ∷ 0 ∷ 64 ∷ 1 ∷ 225 ∷ 0  -- header: version 2, V 64, A 1, N 225
    ∷ 14 ∷ 0 ∷ 3 ∷ 0 ∷ 0 ∷ 0 ∷ 0 ∷ 0 ∷ 0 ∷ 0 ∷ 0 ∷ 64 ∷ 0 ∷ 0  -- labels: variable mask 2^62, array mask 0
    ∷ 6 ∷ 0 ∷ 2 ∷ 0 ∷ 1 ∷ 0  -- array of 1 cells
    ∷ 6 ∷ 0 ∷ 17 ∷ 0 ∷ 63 ∷ 0  -- 0: variable x63
    ∷ 8 ∷ 0 ∷ 16 ∷ 0 ∷ 0 ∷ 0 ∷ 0 ∷ 0  -- 1: number 0
    ∷ 8 ∷ 0 ∷ 33 ∷ 0 ∷ 0 ∷ 0 ∷ 1 ∷ 0  -- 2: equal 0 1
    ∷ 6 ∷ 0 ∷ 17 ∷ 0 ∷ 0 ∷ 0  -- 3: variable x0
    ∷ 8 ∷ 0 ∷ 16 ∷ 0 ∷ 3 ∷ 0 ∷ 0 ∷ 0  -- 4: number 3
    ∷ 8 ∷ 0 ∷ 34 ∷ 0 ∷ 3 ∷ 0 ∷ 4 ∷ 0  -- 5: less 3 4
    ∷ 8 ∷ 0 ∷ 36 ∷ 0 ∷ 2 ∷ 0 ∷ 5 ∷ 0  -- 6: and 2 5
    ∷ 6 ∷ 0 ∷ 17 ∷ 0 ∷ 63 ∷ 0  -- 7: variable x63
    ∷ 8 ∷ 0 ∷ 16 ∷ 0 ∷ 0 ∷ 0 ∷ 0 ∷ 0  -- 8: number 0
    ∷ 8 ∷ 0 ∷ 33 ∷ 0 ∷ 7 ∷ 0 ∷ 8 ∷ 0  -- 9: equal 7 8
    ∷ 6 ∷ 0 ∷ 17 ∷ 0 ∷ 0 ∷ 0  -- 10: variable x0
    ∷ 8 ∷ 0 ∷ 16 ∷ 0 ∷ 3 ∷ 0 ∷ 0 ∷ 0  -- 11: number 3
    ∷ 8 ∷ 0 ∷ 34 ∷ 0 ∷ 10 ∷ 0 ∷ 11 ∷ 0  -- 12: less 10 11
    ∷ 8 ∷ 0 ∷ 36 ∷ 0 ∷ 9 ∷ 0 ∷ 12 ∷ 0  -- 13: and 9 12
    ∷ 6 ∷ 0 ∷ 17 ∷ 0 ∷ 63 ∷ 0  -- 14: variable x63
    ∷ 8 ∷ 0 ∷ 16 ∷ 0 ∷ 1 ∷ 0 ∷ 0 ∷ 0  -- 15: number 1
    ∷ 10 ∷ 0 ∷ 21 ∷ 0 ∷ 13 ∷ 0 ∷ 14 ∷ 0 ∷ 15 ∷ 0  -- 16: choice 13 14 15
    ∷ 8 ∷ 0 ∷ 49 ∷ 0 ∷ 63 ∷ 0 ∷ 16 ∷ 0  -- 17: assign x63 16
    ∷ assigns 62 18 0  -- 18 to 141
    ++ sequences 61 139 141  -- 142 to 202
    ++ 8 ∷ 0 ∷ 50 ∷ 0 ∷ 17 ∷ 0 ∷ 202 ∷ 0  -- 203: sequence 17 202
    ∷ 8 ∷ 0 ∷ 52 ∷ 0 ∷ 6 ∷ 0 ∷ 203 ∷ 0  -- 204: while 6 203
    ∷ 6 ∷ 0 ∷ 17 ∷ 0 ∷ 63 ∷ 0  -- 205: variable x63
    ∷ 8 ∷ 0 ∷ 16 ∷ 0 ∷ 0 ∷ 0 ∷ 0 ∷ 0  -- 206: number 0
    ∷ 8 ∷ 0 ∷ 33 ∷ 0 ∷ 205 ∷ 0 ∷ 206 ∷ 0  -- 207: equal 205 206
    ∷ 6 ∷ 0 ∷ 17 ∷ 0 ∷ 0 ∷ 0  -- 208: variable x0
    ∷ 8 ∷ 0 ∷ 16 ∷ 0 ∷ 3 ∷ 0 ∷ 0 ∷ 0  -- 209: number 3
    ∷ 8 ∷ 0 ∷ 34 ∷ 0 ∷ 208 ∷ 0 ∷ 209 ∷ 0  -- 210: less 208 209
    ∷ 8 ∷ 0 ∷ 36 ∷ 0 ∷ 207 ∷ 0 ∷ 210 ∷ 0  -- 211: and 207 210
    ∷ 8 ∷ 0 ∷ 16 ∷ 0 ∷ 1 ∷ 0 ∷ 0 ∷ 0  -- 212: number 1
    ∷ 6 ∷ 0 ∷ 17 ∷ 0 ∷ 63 ∷ 0  -- 213: variable x63
    ∷ 10 ∷ 0 ∷ 21 ∷ 0 ∷ 211 ∷ 0 ∷ 212 ∷ 0 ∷ 213 ∷ 0  -- 214: choice 211 212 213
    ∷ 8 ∷ 0 ∷ 49 ∷ 0 ∷ 63 ∷ 0 ∷ 214 ∷ 0  -- 215: assign x63 214
    ∷ 8 ∷ 0 ∷ 50 ∷ 0 ∷ 204 ∷ 0 ∷ 215 ∷ 0  -- 216: sequence 204 215
    ∷ 6 ∷ 0 ∷ 17 ∷ 0 ∷ 63 ∷ 0  -- 217: variable x63
    ∷ 8 ∷ 0 ∷ 16 ∷ 0 ∷ 1 ∷ 0 ∷ 0 ∷ 0  -- 218: number 1
    ∷ 8 ∷ 0 ∷ 33 ∷ 0 ∷ 217 ∷ 0 ∷ 218 ∷ 0  -- 219: equal 217 218
    ∷ 8 ∷ 0 ∷ 16 ∷ 0 ∷ 0 ∷ 0 ∷ 0 ∷ 0  -- 220: number 0
    ∷ 6 ∷ 0 ∷ 17 ∷ 0 ∷ 0 ∷ 0  -- 221: variable x0
    ∷ 10 ∷ 0 ∷ 21 ∷ 0 ∷ 219 ∷ 0 ∷ 220 ∷ 0 ∷ 221 ∷ 0  -- 222: choice 219 220 221
    ∷ 10 ∷ 0 ∷ 53 ∷ 0 ∷ 0 ∷ 0 ∷ 0 ∷ 0 ∷ 222 ∷ 0  -- 223: read x0 a0 222
    ∷ 8 ∷ 0 ∷ 50 ∷ 0 ∷ 216 ∷ 0 ∷ 223 ∷ 0  -- 224: sequence 216 223
    ∷ []

-- Every label settles: the loop's variable mask is 2^63 - 1, and so is the final one. So the index of the read is secret, and masked: the hardened
-- table reads a0 at (f = 1) ? 0 : x0.
pub chain_settles : HasSheet chain chain_sheet × HardensTo chain chain_hardened
unfolding opened
chain_settles = (written chain_sheet, written chain_hardened)
