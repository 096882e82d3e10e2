-- The variables of expressions: each arm answers what the definition joins from the children, whose numbers are lower.
use Prim.Native.Nat.{ℕ}
use mathlib.Core.Logic.{◌⊎◌, ⊎_elim}
use mathlib.Core.Path.{◌≡◌, refl, sym, ap, ap₂, ◌∙◌}
use lib.Bits.{bit_or}
use native.Mathlib.Omega.{arith}
use Rattle.awhile.proofs.Versions.{declared_variables}
use Rattle.awhile.specs.Nodes.{sort_of}
use Rattle.awhile.specs.declared.Node.{Node}
use Rattle.awhile.specs.declared.Node.TheVariants.{Add, Subtract, Equal, Less}
use Rattle.awhile.specs.declared.Sort.TheVariants.{Numeric}
use Rattle.reader.specs.Index.{numeric_in, truth_in}
use Rattle.reader.proofs.Admitted.{offsets_in, bytes, indexed, parts}
use Rattle.reader.proofs.Index.{Child, Parts, indexed_well_formed}
use Rattle.variables.specs.Variables.{variables_of_a, variables_of_b}
use Rattle.variables.proofs.Nodes.{call_child, call_pair, call_product, call_choice}
use Rattle.variables.proofs.ExpressionNodes.{number_names_none, constant_names_none}
use Rattle.variables.proofs.expressions.+expressions.Goals as goal
use Rattle.variables.proofs.expressions.+expressions.Goals.{numeric_variables-After-numeric, truth_variables-After-truth}

-- ---- numbers
module _ {t : ℕ} (c : numeric_variables-After-numeric t) where
  numeric-parts : (m : Node) → c.numeric.result ≡ m → Parts c.args.table.now c.args.n m
  numeric-parts = parts c.numeric.ensures.admitted c.requires.inside c.numeric.ensures.value

  numeric-pair : {a b : ℕ} → (c.numeric.result ≡ Add a b) ⊎ (c.numeric.result ≡ Subtract a b)
      → Child c.args.table.now Numeric c.args.n a × Child c.args.table.now Numeric c.args.n b
      × (bit_or (variables_of_a (numeric_in c.args.table.now a)) (variables_of_a (numeric_in c.args.table.now b)) ≡ variables_of_a (numeric_in c.args.table.now c.args.n))
  unfolding variables_of_a
  numeric-pair =
      ⊎_elim (λ e. let p = numeric-parts _ e in (p.0, p.1, sym (ap variables_of_a p.2))) (λ e. let p = numeric-parts _ e in (p.0, p.1, sym (ap variables_of_a p.2)))

-- a declared variable is one of 64
pub numeric_variables-mark-requires : goal.numeric_variables-mark-requires
numeric_variables-mark-requires t c =
    let at = (goal.at.numeric_variables-mark-requires t c).After-numeric in
    let a = c.numeric.ensures.admitted in
    omega (arith, (numeric-parts at _ c.in-Variable.is).0, declared_variables (indexed_well_formed c.args.table.now (offsets_in c.args.table.now) (bytes a) (indexed a)).declared)

pub numeric_variables-both_variables-requires : goal.numeric_variables-both_variables-requires
numeric_variables-both_variables-requires t c =
    call_pair c.decreases (numeric-pair (goal.at.numeric_variables-both_variables-requires t c).After-numeric c.in-Add.is)

pub numeric_variables-product_variables-requires : goal.numeric_variables-product_variables-requires
numeric_variables-product_variables-requires t c =
    call_product c.decreases (numeric-parts (goal.at.numeric_variables-product_variables-requires t c).After-numeric _ c.in-Multiply.is)

pub numeric_variables-choice_variables-requires : goal.numeric_variables-choice_variables-requires
numeric_variables-choice_variables-requires t c =
    call_choice c.decreases (numeric-parts (goal.at.numeric_variables-choice_variables-requires t c).After-numeric _ c.in-Choice.is)

pub numeric_variables-returns-in-Variable : goal.numeric_variables-returns-in-Variable
unfolding variables_of_a
numeric_variables-returns-in-Variable t c =
    let at = (goal.at.numeric_variables-returns-in-Variable t c).After-numeric in
    c.mark.ensures ∙ sym (ap variables_of_a (numeric-parts at _ c.in-Variable.is).1)

pub numeric_variables-returns-in-Add : goal.numeric_variables-returns-in-Add
numeric_variables-returns-in-Add t c =
    let at = (goal.at.numeric_variables-returns-in-Add t c).After-numeric in
    c.both_variables.ensures ∙ (numeric-pair at c.in-Add.is).2

pub numeric_variables-returns-in-Multiply : goal.numeric_variables-returns-in-Multiply
numeric_variables-returns-in-Multiply t c =
    let at = (goal.at.numeric_variables-returns-in-Multiply t c).After-numeric in
    c.product_variables.ensures ∙ sym (ap variables_of_a (numeric-parts at _ c.in-Multiply.is).2)

pub numeric_variables-returns-in-Choice : goal.numeric_variables-returns-in-Choice
unfolding variables_of_a variables_of_b
numeric_variables-returns-in-Choice t c =
    let at = (goal.at.numeric_variables-returns-in-Choice t c).After-numeric in
    c.choice_variables.ensures ∙ sym (ap variables_of_a (numeric-parts at _ c.in-Choice.is).3)

pub numeric_variables-returns-in_default : goal.numeric_variables-returns-in_default
numeric_variables-returns-in_default t c =
    let at = (goal.at.numeric_variables-returns-in_default t c).After-numeric in
    let no = c.in_default in
    number_names_none c.args.table.now c.args.n c.numeric.result
    (ap sort_of c.numeric.ensures.value ∙ c.requires.is_sort) no.not-Variable no.not-Add no.not-Subtract no.not-Multiply no.not-Choice (numeric-parts at c.numeric.result refl)

-- ---- truths
module _ {t : ℕ} (c : truth_variables-After-truth t) where
  truth-parts : (m : Node) → c.truth.result ≡ m → Parts c.args.table.now c.args.n m
  truth-parts = parts c.truth.ensures.admitted c.requires.inside c.truth.ensures.value

  truth-pair : {a b : ℕ} → (c.truth.result ≡ Equal a b) ⊎ (c.truth.result ≡ Less a b)
      → Child c.args.table.now Numeric c.args.n a × Child c.args.table.now Numeric c.args.n b
      × (bit_or (variables_of_a (numeric_in c.args.table.now a)) (variables_of_a (numeric_in c.args.table.now b)) ≡ variables_of_b (truth_in c.args.table.now c.args.n))
  unfolding variables_of_b
  truth-pair =
      ⊎_elim (λ e. let p = truth-parts _ e in (p.0, p.1, sym (ap variables_of_b p.2))) (λ e. let p = truth-parts _ e in (p.0, p.1, sym (ap variables_of_b p.2)))

pub truth_variables-both_variables-requires : goal.truth_variables-both_variables-requires
truth_variables-both_variables-requires t c =
    call_pair c.decreases (truth-pair (goal.at.truth_variables-both_variables-requires t c).After-truth c.in-Equal.is)

pub truth_variables-truth_variables-requires : goal.truth_variables-truth_variables-requires
truth_variables-truth_variables-requires t c =
    call_child c.decreases (truth-parts (goal.at.truth_variables-truth_variables-requires t c).After-truth _ c.in-Not.is).0

pub truth_variables-truth_variables-requires-in-And : goal.truth_variables-truth_variables-requires-in-And
truth_variables-truth_variables-requires-in-And t c =
    call_child c.decreases (truth-parts (goal.at.truth_variables-truth_variables-requires-in-And t c).After-truth _ c.in-And.is).0

pub truth_variables-truth_variables-requires-in-And-2 : goal.truth_variables-truth_variables-requires-in-And-2
truth_variables-truth_variables-requires-in-And-2 t c =
    call_child c.decreases (truth-parts (goal.at.truth_variables-truth_variables-requires-in-And-2 t c).After-truth _ c.in-And.is).1

pub truth_variables-returns-in-Equal : goal.truth_variables-returns-in-Equal
truth_variables-returns-in-Equal t c =
    let at = (goal.at.truth_variables-returns-in-Equal t c).After-truth in
    c.both_variables.ensures ∙ (truth-pair at c.in-Equal.is).2

pub truth_variables-returns-in-Not : goal.truth_variables-returns-in-Not
unfolding variables_of_b
truth_variables-returns-in-Not t c =
    let at = (goal.at.truth_variables-returns-in-Not t c).After-truth in
    c.truth_variables.ensures ∙ sym (ap variables_of_b (truth-parts at _ c.in-Not.is).1)

pub truth_variables-returns-in-And : goal.truth_variables-returns-in-And
unfolding variables_of_b
truth_variables-returns-in-And t c =
    let at = (goal.at.truth_variables-returns-in-And t c).After-truth in
    ap₂ bit_or c.truth_variables-in-And.ensures c.truth_variables-in-And-2.ensures ∙ sym (ap variables_of_b (truth-parts at _ c.in-And.is).2)

pub truth_variables-returns-in_default : goal.truth_variables-returns-in_default
truth_variables-returns-in_default t c =
    let at = (goal.at.truth_variables-returns-in_default t c).After-truth in
    let no = c.in_default in
    constant_names_none c.args.table.now c.args.n c.truth.result
    (ap sort_of c.truth.ensures.value ∙ c.requires.is_sort) no.not-Equal no.not-Less no.not-Not no.not-And (truth-parts at c.truth.result refl)
