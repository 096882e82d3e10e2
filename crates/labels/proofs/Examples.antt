-- The analysis, computed on small programs.
use Prim.Native.Nat.{ℕ}
use mathlib.Core.Bool.{true, false}
use mathlib.Core.List.{List, [], ◌∷◌, map}
use mathlib.Core.Path.{◌≡◌, refl}
use Rattle.awhile.specs.Language.{AExp, number, variable, add, multiply, constant, less, Com, assign, sequence, while}
use Rattle.awhile.specs.declared.Labelling.{Labelling}
use Rattle.labels.specs.Labellings.{label_of_a}
use Rattle.labels.specs.Analysis.{analyse}
use Rattle.labels.specs.Annotation.{annotate}
use Rattle.labels.specs.Questions.{answer_to}
use Rattle.labels.proofs.Open.{opened}

-- `x:=y; (y:=z; z:=s)`, variables 0 to 3
abbrev copies : Com ℕ
copies = sequence 10 (assign 4 0 (variable 1)) (sequence 9 (assign 6 1 (variable 2)) (assign 8 2 (variable 3)))

-- s alone is secret
abbrev labels : Labelling
labels = record { variables = 8; arrays = 0 }

-- one run of it makes z secret, and x and y stay public
pub copies_once : analyse copies false labels ≡ record { variables = 12; arrays = 0 }
unfolding opened
copies_once = refl

-- the same as the body of `while x<3`
abbrev loop : Com ℕ
loop = while 11 (less (variable 0) (number 3)) copies

-- it makes all of x, y and z secret: one a pass, and passes repeat until one adds no secret
pub copies_settle : analyse loop false labels ≡ record { variables = 15; arrays = 0 }
unfolding opened
copies_settle = refl

-- the answers for the variables 0 to 3, asked at a node
abbrev asked : Com ℕ → (node : ℕ) → List ℕ
asked c n = map (λ x. answer_to (annotate c false labels) (record { node = n; variable = x })) (0 ∷ 1 ∷ 2 ∷ 3 ∷ [])

-- "for a loop itself it is the one on entry": s alone is secret there
pub loop_asked : asked loop 11 ≡ 0 ∷ 0 ∷ 0 ∷ 1 ∷ []
unfolding opened
loop_asked = refl

-- "For a command inside a loop the labelling meant is that of the settled pass"
pub inside_asked : asked loop 4 ≡ 1 ∷ 1 ∷ 1 ∷ 1 ∷ []
unfolding opened
inside_asked = refl

-- `while true do (q:=0; ((while true do (p:=q; q:=s)); x:=p))`: q, p, x and s are the variables 0 to 3, the inner loop is node 9 and the outer one 14
abbrev nested : Com ℕ
nested =
    while 14 (constant true)
    (sequence 13 (assign 2 0 (number 0))
    (sequence 12 (while 9 (constant true) (sequence 8 (assign 5 1 (variable 0)) (assign 7 0 (variable 3)))) (assign 11 2 (variable 1))))

-- A loop inside a loop is asked on entry too, in the settled pass of the outer one: q was just made public, p and x are secret from the pass before.
pub inner_asked : asked nested 9 ≡ 0 ∷ 1 ∷ 1 ∷ 1 ∷ []
unfolding opened
inner_asked = refl

pub outer_asked : asked nested 14 ≡ 0 ∷ 0 ∷ 0 ∷ 1 ∷ []
unfolding opened
outer_asked = refl

-- ---- products with 0; s is variable 3
abbrev s : AExp
s = variable 3

abbrev cleared : AExp
cleared = multiply s (number 0)

-- "A product with a number node of value 0 as either operand is public": `s*0`, `0*s`
pub nought_on_the_right : label_of_a labels cleared ≡ false
unfolding opened
nought_on_the_right = refl

pub nought_on_the_left : label_of_a labels (multiply (number 0) s) ≡ false
unfolding opened
nought_on_the_left = refl

-- The operand itself is the number: in `(s*0)*s` and `s*(0+0)` it is an expression, of value 0, and in `s*1` the number is another.
pub product_no_nought : label_of_a labels (multiply cleared s) ≡ true
unfolding opened
product_no_nought = refl

pub sum_no_nought : label_of_a labels (multiply s (add (number 0) (number 0))) ≡ true
unfolding opened
sum_no_nought = refl

pub one_no_nought : label_of_a labels (multiply s (number 1)) ≡ true
unfolding opened
one_no_nought = refl

-- "a variable's place inside one makes no larger expression secret": `s*0+x`; a place beside it does: `s*0+s`
pub place_inside : label_of_a labels (add cleared (variable 0)) ≡ false
unfolding opened
place_inside = refl

pub place_beside : label_of_a labels (add cleared s) ≡ true
unfolding opened
place_beside = refl

-- `while x<3 do (x:=y; (y:=z*0; z:=s))`
abbrev broken_chain : Com ℕ
broken_chain =
    while 13 (less (variable 0) (number 3))
    (sequence 12 (assign 4 0 (variable 1)) (sequence 11 (assign 8 1 (multiply (variable 2) (number 0))) (assign 10 2 s)))

-- z becomes secret, and x and y stay public
pub broken_chain_settles : analyse broken_chain false labels ≡ record { variables = 12; arrays = 0 }
unfolding opened
broken_chain_settles = refl
