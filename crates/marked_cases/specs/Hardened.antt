-- `if x=0 then skip else skip` hardened, with x secret and with x public.
use Rattle.std.specs.Prelude.{ℕ, List, [], ◌∷◌}
use Rattle.entries.proofs.Open.{opened}
use Rattle.marked_cases.specs.Claims.{Sized, HardensTo, sized, written}

-- `if x=0 then skip else skip`, x secret
abbrev pub secret_if : List ℕ
secret_if =
    10 ∷ 0 ∷ 1 ∷ 0 ∷ 1 ∷ 0 ∷ 1 ∷ 0 ∷ 6 ∷ 0  -- header: version 1, V 1, A 0, N 6
    ∷ 10 ∷ 0 ∷ 3 ∷ 0 ∷ 1 ∷ 0 ∷ 0 ∷ 0 ∷ 0 ∷ 0  -- labels: variable mask 1, array mask 0
    ∷ 6 ∷ 0 ∷ 17 ∷ 0 ∷ 0 ∷ 0  -- 0: variable x0
    ∷ 8 ∷ 0 ∷ 16 ∷ 0 ∷ 0 ∷ 0 ∷ 0 ∷ 0  -- 1: number 0
    ∷ 8 ∷ 0 ∷ 33 ∷ 0 ∷ 0 ∷ 0 ∷ 1 ∷ 0  -- 2: equal 0 1
    ∷ 4 ∷ 0 ∷ 48 ∷ 0  -- 3: skip
    ∷ 4 ∷ 0 ∷ 48 ∷ 0  -- 4: skip
    ∷ 10 ∷ 0 ∷ 51 ∷ 0 ∷ 2 ∷ 0 ∷ 3 ∷ 0 ∷ 4 ∷ 0  -- 5: if 2 3 4
    ∷ []

-- hardened; f is variable 1
abbrev pub secret_if_hardened : List ℕ
secret_if_hardened =
    10 ∷ 0 ∷ 1 ∷ 0 ∷ 1 ∷ 0 ∷ 2 ∷ 0 ∷ 34 ∷ 0  -- header: version 1, V 2, A 0, N 34
    ∷ 10 ∷ 0 ∷ 3 ∷ 0 ∷ 1 ∷ 0 ∷ 0 ∷ 0 ∷ 0 ∷ 0  -- labels: variable mask 1, array mask 0
    ∷ 6 ∷ 0 ∷ 17 ∷ 0 ∷ 1 ∷ 0  -- 0: variable x1
    ∷ 8 ∷ 0 ∷ 16 ∷ 0 ∷ 0 ∷ 0 ∷ 0 ∷ 0  -- 1: number 0
    ∷ 8 ∷ 0 ∷ 33 ∷ 0 ∷ 0 ∷ 0 ∷ 1 ∷ 0  -- 2: equal 0 1
    ∷ 6 ∷ 0 ∷ 17 ∷ 0 ∷ 0 ∷ 0  -- 3: variable x0
    ∷ 8 ∷ 0 ∷ 16 ∷ 0 ∷ 0 ∷ 0 ∷ 0 ∷ 0  -- 4: number 0
    ∷ 8 ∷ 0 ∷ 33 ∷ 0 ∷ 3 ∷ 0 ∷ 4 ∷ 0  -- 5: equal 3 4
    ∷ 8 ∷ 0 ∷ 36 ∷ 0 ∷ 2 ∷ 0 ∷ 5 ∷ 0  -- 6: and 2 5
    ∷ 6 ∷ 0 ∷ 17 ∷ 0 ∷ 1 ∷ 0  -- 7: variable x1
    ∷ 8 ∷ 0 ∷ 16 ∷ 0 ∷ 0 ∷ 0 ∷ 0 ∷ 0  -- 8: number 0
    ∷ 8 ∷ 0 ∷ 33 ∷ 0 ∷ 7 ∷ 0 ∷ 8 ∷ 0  -- 9: equal 7 8
    ∷ 6 ∷ 0 ∷ 17 ∷ 0 ∷ 0 ∷ 0  -- 10: variable x0
    ∷ 8 ∷ 0 ∷ 16 ∷ 0 ∷ 0 ∷ 0 ∷ 0 ∷ 0  -- 11: number 0
    ∷ 8 ∷ 0 ∷ 33 ∷ 0 ∷ 10 ∷ 0 ∷ 11 ∷ 0  -- 12: equal 10 11
    ∷ 8 ∷ 0 ∷ 36 ∷ 0 ∷ 9 ∷ 0 ∷ 12 ∷ 0  -- 13: and 9 12
    ∷ 6 ∷ 0 ∷ 17 ∷ 0 ∷ 1 ∷ 0  -- 14: variable x1
    ∷ 8 ∷ 0 ∷ 16 ∷ 0 ∷ 1 ∷ 0 ∷ 0 ∷ 0  -- 15: number 1
    ∷ 10 ∷ 0 ∷ 21 ∷ 0 ∷ 13 ∷ 0 ∷ 14 ∷ 0 ∷ 15 ∷ 0  -- 16: choice 13 14 15
    ∷ 8 ∷ 0 ∷ 49 ∷ 0 ∷ 1 ∷ 0 ∷ 16 ∷ 0  -- 17: assign x1 16
    ∷ 4 ∷ 0 ∷ 48 ∷ 0  -- 18: skip
    ∷ 8 ∷ 0 ∷ 50 ∷ 0 ∷ 17 ∷ 0 ∷ 18 ∷ 0  -- 19: sequence 17 18
    ∷ 6 ∷ 0 ∷ 17 ∷ 0 ∷ 1 ∷ 0  -- 20: variable x1
    ∷ 8 ∷ 0 ∷ 16 ∷ 0 ∷ 0 ∷ 0 ∷ 0 ∷ 0  -- 21: number 0
    ∷ 8 ∷ 0 ∷ 33 ∷ 0 ∷ 20 ∷ 0 ∷ 21 ∷ 0  -- 22: equal 20 21
    ∷ 6 ∷ 0 ∷ 17 ∷ 0 ∷ 0 ∷ 0  -- 23: variable x0
    ∷ 8 ∷ 0 ∷ 16 ∷ 0 ∷ 0 ∷ 0 ∷ 0 ∷ 0  -- 24: number 0
    ∷ 8 ∷ 0 ∷ 33 ∷ 0 ∷ 23 ∷ 0 ∷ 24 ∷ 0  -- 25: equal 23 24
    ∷ 8 ∷ 0 ∷ 36 ∷ 0 ∷ 22 ∷ 0 ∷ 25 ∷ 0  -- 26: and 22 25
    ∷ 8 ∷ 0 ∷ 16 ∷ 0 ∷ 1 ∷ 0 ∷ 0 ∷ 0  -- 27: number 1
    ∷ 6 ∷ 0 ∷ 17 ∷ 0 ∷ 1 ∷ 0  -- 28: variable x1
    ∷ 10 ∷ 0 ∷ 21 ∷ 0 ∷ 26 ∷ 0 ∷ 27 ∷ 0 ∷ 28 ∷ 0  -- 29: choice 26 27 28
    ∷ 8 ∷ 0 ∷ 49 ∷ 0 ∷ 1 ∷ 0 ∷ 29 ∷ 0  -- 30: assign x1 29
    ∷ 4 ∷ 0 ∷ 48 ∷ 0  -- 31: skip
    ∷ 8 ∷ 0 ∷ 50 ∷ 0 ∷ 30 ∷ 0 ∷ 31 ∷ 0  -- 32: sequence 30 31
    ∷ 10 ∷ 0 ∷ 51 ∷ 0 ∷ 6 ∷ 0 ∷ 19 ∷ 0 ∷ 32 ∷ 0  -- 33: if 6 19 32
    ∷ []

-- P: x secret: 6 nodes and 60 bytes become 34 nodes and 274 bytes
pub secret_if_lem : Sized secret_if 6 60 × Sized secret_if_hardened 34 274 × HardensTo secret_if secret_if_hardened
unfolding opened
secret_if_lem = (sized secret_if, sized secret_if_hardened, written secret_if_hardened)

-- `if x=0 then skip else skip`, x public
abbrev pub public_if : List ℕ
public_if =
    10 ∷ 0 ∷ 1 ∷ 0 ∷ 1 ∷ 0 ∷ 1 ∷ 0 ∷ 6 ∷ 0  -- header: version 1, V 1, A 0, N 6
    ∷ 10 ∷ 0 ∷ 3 ∷ 0 ∷ 0 ∷ 0 ∷ 0 ∷ 0 ∷ 0 ∷ 0  -- labels: variable mask 0, array mask 0
    ∷ 6 ∷ 0 ∷ 17 ∷ 0 ∷ 0 ∷ 0  -- 0: variable x0
    ∷ 8 ∷ 0 ∷ 16 ∷ 0 ∷ 0 ∷ 0 ∷ 0 ∷ 0  -- 1: number 0
    ∷ 8 ∷ 0 ∷ 33 ∷ 0 ∷ 0 ∷ 0 ∷ 1 ∷ 0  -- 2: equal 0 1
    ∷ 4 ∷ 0 ∷ 48 ∷ 0  -- 3: skip
    ∷ 4 ∷ 0 ∷ 48 ∷ 0  -- 4: skip
    ∷ 10 ∷ 0 ∷ 51 ∷ 0 ∷ 2 ∷ 0 ∷ 3 ∷ 0 ∷ 4 ∷ 0  -- 5: if 2 3 4
    ∷ []

-- hardened; f is variable 1
abbrev pub public_if_hardened : List ℕ
public_if_hardened =
    10 ∷ 0 ∷ 1 ∷ 0 ∷ 1 ∷ 0 ∷ 2 ∷ 0 ∷ 22 ∷ 0  -- header: version 1, V 2, A 0, N 22
    ∷ 10 ∷ 0 ∷ 3 ∷ 0 ∷ 0 ∷ 0 ∷ 0 ∷ 0 ∷ 0 ∷ 0  -- labels: variable mask 0, array mask 0
    ∷ 6 ∷ 0 ∷ 17 ∷ 0 ∷ 0 ∷ 0  -- 0: variable x0
    ∷ 8 ∷ 0 ∷ 16 ∷ 0 ∷ 0 ∷ 0 ∷ 0 ∷ 0  -- 1: number 0
    ∷ 8 ∷ 0 ∷ 33 ∷ 0 ∷ 0 ∷ 0 ∷ 1 ∷ 0  -- 2: equal 0 1
    ∷ 6 ∷ 0 ∷ 17 ∷ 0 ∷ 0 ∷ 0  -- 3: variable x0
    ∷ 8 ∷ 0 ∷ 16 ∷ 0 ∷ 0 ∷ 0 ∷ 0 ∷ 0  -- 4: number 0
    ∷ 8 ∷ 0 ∷ 33 ∷ 0 ∷ 3 ∷ 0 ∷ 4 ∷ 0  -- 5: equal 3 4
    ∷ 6 ∷ 0 ∷ 17 ∷ 0 ∷ 1 ∷ 0  -- 6: variable x1
    ∷ 8 ∷ 0 ∷ 16 ∷ 0 ∷ 1 ∷ 0 ∷ 0 ∷ 0  -- 7: number 1
    ∷ 10 ∷ 0 ∷ 21 ∷ 0 ∷ 5 ∷ 0 ∷ 6 ∷ 0 ∷ 7 ∷ 0  -- 8: choice 5 6 7
    ∷ 8 ∷ 0 ∷ 49 ∷ 0 ∷ 1 ∷ 0 ∷ 8 ∷ 0  -- 9: assign x1 8
    ∷ 4 ∷ 0 ∷ 48 ∷ 0  -- 10: skip
    ∷ 8 ∷ 0 ∷ 50 ∷ 0 ∷ 9 ∷ 0 ∷ 10 ∷ 0  -- 11: sequence 9 10
    ∷ 6 ∷ 0 ∷ 17 ∷ 0 ∷ 0 ∷ 0  -- 12: variable x0
    ∷ 8 ∷ 0 ∷ 16 ∷ 0 ∷ 0 ∷ 0 ∷ 0 ∷ 0  -- 13: number 0
    ∷ 8 ∷ 0 ∷ 33 ∷ 0 ∷ 12 ∷ 0 ∷ 13 ∷ 0  -- 14: equal 12 13
    ∷ 8 ∷ 0 ∷ 16 ∷ 0 ∷ 1 ∷ 0 ∷ 0 ∷ 0  -- 15: number 1
    ∷ 6 ∷ 0 ∷ 17 ∷ 0 ∷ 1 ∷ 0  -- 16: variable x1
    ∷ 10 ∷ 0 ∷ 21 ∷ 0 ∷ 14 ∷ 0 ∷ 15 ∷ 0 ∷ 16 ∷ 0  -- 17: choice 14 15 16
    ∷ 8 ∷ 0 ∷ 49 ∷ 0 ∷ 1 ∷ 0 ∷ 17 ∷ 0  -- 18: assign x1 17
    ∷ 4 ∷ 0 ∷ 48 ∷ 0  -- 19: skip
    ∷ 8 ∷ 0 ∷ 50 ∷ 0 ∷ 18 ∷ 0 ∷ 19 ∷ 0  -- 20: sequence 18 19
    ∷ 10 ∷ 0 ∷ 51 ∷ 0 ∷ 2 ∷ 0 ∷ 11 ∷ 0 ∷ 20 ∷ 0  -- 21: if 2 11 20
    ∷ []

-- P: x public: 22 nodes
pub public_if_lem : Sized public_if 6 60 × Sized public_if_hardened 22 184 × HardensTo public_if public_if_hardened
unfolding opened
public_if_lem = (sized public_if, sized public_if_hardened, written public_if_hardened)
