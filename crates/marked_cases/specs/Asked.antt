-- P2. "is variable v secret just before command c?", asked of document 01's chain in a loop
use Rattle.std.specs.Prelude.{ℕ, refl, List, [], ◌∷◌, ◌++◌}
use Rattle.entries.specs.Writing.{questions_entry}
use Rattle.entries.proofs.Open.{opened}
use Rattle.marked_cases.specs.Claims.{GetsAnswers, Refuses, written}
use Rattle.marked_cases.specs.Labelled.{loop}

-- pairs of a node and a variable; x, y, z, s are the variables 0 to 3
abbrev x_at_loop : List ℕ
x_at_loop = 11 ∷ 0 ∷ 0 ∷ 0 ∷ []

abbrev s_at_loop : List ℕ
s_at_loop = 11 ∷ 0 ∷ 3 ∷ 0 ∷ []

abbrev x_at_assign : List ℕ
x_at_assign = 4 ∷ 0 ∷ 0 ∷ 0 ∷ []

abbrev z_at_body : List ℕ
z_at_body = 10 ∷ 0 ∷ 2 ∷ 0 ∷ []

-- On entry to the loop, node 11, x is public and s secret; inside it, in the settled pass, x is secret before `x:=y`, node 4, and z before the body, node 10.
pub chain_answers :
    GetsAnswers loop (x_at_loop ++ (s_at_loop ++ (x_at_assign ++ z_at_body))) (0 ∷ 1 ∷ 1 ∷ 1 ∷ [])
    × GetsAnswers loop x_at_loop (0 ∷ []) × GetsAnswers loop s_at_loop (1 ∷ []) × GetsAnswers loop x_at_assign (1 ∷ []) × GetsAnswers loop z_at_body (1 ∷ [])
    × GetsAnswers loop [] []
unfolding opened
chain_answers = (written (0 ∷ 1 ∷ 1 ∷ 1 ∷ []), written (0 ∷ []), written (1 ∷ []), written (1 ∷ []), written (1 ∷ []), written [])

-- refused by 11, whatever the room: a node that is an expression, one that is none, a variable that is not declared, a list that ends inside a pair
pub chain_refuses :
    Refuses (λ t. questions_entry t (2 ∷ 0 ∷ 0 ∷ 0 ∷ [])) loop 11 0 × Refuses (λ t. questions_entry t (12 ∷ 0 ∷ 0 ∷ 0 ∷ [])) loop 11 0
    × Refuses (λ t. questions_entry t (11 ∷ 0 ∷ 4 ∷ 0 ∷ [])) loop 11 0 × Refuses (λ t. questions_entry t (11 ∷ 0 ∷ 0 ∷ 0 ∷ 11 ∷ [])) loop 11 0
unfolding opened
chain_refuses = (λ buffer answer. refl, λ buffer answer. refl, λ buffer answer. refl, λ buffer answer. refl)
