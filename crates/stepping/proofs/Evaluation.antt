-- Laws of evaluation over a table's bytes: the value of a node from those of its children.
use Rattle.std.proofs.Common.{◌≡◌, ℕ, ◌+◌, ◌-◌, ◌*◌, ◌%◌, ◌^◌, ◌<◌, max, Bool, cond, not as negated, ◌&&◌, eqb, ltb, List, refl, sym, ap, ◌∙◌, arith}
use Rattle.bytes_le.specs.Numbers.{le_at}
use Rattle.awhile.specs.Language.{AExp, BExp, value_of, truth_of}
use Rattle.reader.specs.Admitted.{Admitted}
use Rattle.reader.specs.Index.{node_in, numeric_in, truth_in, HasSort}
use Rattle.reader.proofs.Admitted.{parts, child}
use Rattle.reader.proofs.Index.{Child, Parts}
use Rattle.awhile.specs.declared.Sort.{Sort}
use Rattle.awhile.specs.declared.Sort.TheVariants.{Numeric, Truth}
use Rattle.awhile.specs.declared.Node.{Node}
use Rattle.awhile.specs.declared.Node.TheVariants.{Number, Variable, Add, Subtract, Multiply, Choice}
use Rattle.awhile.specs.declared.Node.TheVariants.{Constant, Equal, Less, Not, And}
use Rattle.stepping.specs.Evaluation.{variables_in, value_in, holds_in}
use Rattle.stepping.proofs.Words.{word_at}

-- what a node that was looked up says of its fields and its tree
pub asked_parts : {table : List ℕ} {sort : Sort} {n : ℕ} {node : Node} → HasSort table sort n → Admitted table → node ≡ node_in table n → Parts table n node
asked_parts {node = node} asked admitted is = parts admitted asked.inside is node refl

-- calls on a node's children, which are below it: on one, on two of a sort, and on a choice's three
module _ {table : List ℕ} {n t : ℕ} (measure : 2 * n + 1 ≡ t) {rest : Type 0} where
  pub call_child : {wanted : Sort} {k : ℕ} → Child table wanted n k × rest → (2 * k + 2 < t) × HasSort table wanted k
  call_child p = (omega (arith, p.0.below), child p.0)

  pub call_pair : {wanted : Sort} {j k : ℕ} → Child table wanted n j × Child table wanted n k × rest
      → (2 * max j k + 2 < t) × (HasSort table wanted j × HasSort table wanted k)
  call_pair p = (omega (arith, p.0.below, p.1.below), (child p.0, child p.1))

  pub call_choice : {i j k : ℕ} → Child table Truth n i × Child table Numeric n j × Child table Numeric n k × rest
      → (2 * max i (max j k) + 2 < t) × (HasSort table Truth i × HasSort table Numeric j × HasSort table Numeric k)
  call_choice p = (omega (arith, p.0.below, p.1.below, p.2.below), (child p.0, child p.1, child p.2))

module _ (table variables : List ℕ) (n : ℕ) where
  value_tree : {e : AExp} → numeric_in table n ≡ e → value_in table variables n ≡ value_of e (variables_in table variables)
  unfolding value_in
  value_tree is = ap (λ t. value_of t (variables_in table variables)) is

  truth_tree : {e : BExp} → truth_in table n ≡ e → holds_in table variables n ≡ truth_of e (variables_in table variables)
  unfolding holds_in
  truth_tree is = ap (λ t. truth_of t (variables_in table variables)) is

  -- the values of nodes without operands
  pub value_number : {v : ℕ} → Parts table n (Number v) → v ≡ value_in table variables n
  unfolding value_of
  value_number parts = sym (value_tree parts)

  pub value_variable : {x r : ℕ} → Parts table n (Variable x) → r ≡ le_at 4 variables (4 * x) → r ≡ value_in table variables n
  unfolding value_of variables_in
  value_variable {x} parts is = is ∙ sym (value_tree parts.1 ∙ word_at _ variables x parts.0)

  pub truth_constant : {v : ℕ} → Parts table n (Constant v) → eqb v 1 ≡ holds_in table variables n
  unfolding truth_of
  truth_constant parts = sym (truth_tree parts.1)

  -- the values of nodes with two numeric operands
  module _ {a b x y : ℕ} (values : (x ≡ value_in table variables a) × (y ≡ value_in table variables b)) where
    pub value_add : Parts table n (Add a b) → (x + y) % 2 ^ 32 ≡ value_in table variables n
    unfolding value_of value_in
    value_add parts = rw (values.0, values.1) (sym (value_tree parts.2))

    pub value_subtract : y < 2 ^ 32 → Parts table n (Subtract a b) → (x + (2 ^ 32 - y)) % 2 ^ 32 ≡ value_in table variables n
    unfolding value_of value_in
    value_subtract word parts =
        let same : x + (2 ^ 32 - y) ≡ x + 2 ^ 32 - y = omega arith in
        rw (same, values.0, values.1) (sym (value_tree parts.2))

    pub value_multiply : Parts table n (Multiply a b) → (x * y) % 2 ^ 32 ≡ value_in table variables n
    unfolding value_of value_in
    value_multiply parts = rw (values.0, values.1) (sym (value_tree parts.2))

    pub truth_equal : Parts table n (Equal a b) → eqb x y ≡ holds_in table variables n
    unfolding truth_of value_in
    truth_equal parts = rw (values.0, values.1) (sym (truth_tree parts.2))

    pub truth_less : Parts table n (Less a b) → ltb x y ≡ holds_in table variables n
    unfolding truth_of value_in
    truth_less parts = rw (values.0, values.1) (sym (truth_tree parts.2))

  -- the values of nodes over truths
  pub value_choice : {c a b r : ℕ} → Parts table n (Choice c a b)
      → r ≡ cond (holds_in table variables c) (value_in table variables a) (value_in table variables b) → r ≡ value_in table variables n
  unfolding value_of value_in holds_in
  value_choice parts is = is ∙ sym (value_tree parts.3)

  pub truth_not : {a : ℕ} {r : Bool} → Parts table n (Not a) → r ≡ negated (holds_in table variables a) → r ≡ holds_in table variables n
  unfolding truth_of holds_in
  truth_not parts is = is ∙ sym (truth_tree parts.1)

  pub truth_and : {a b : ℕ} {r : Bool} → Parts table n (And a b) → r ≡ (holds_in table variables a && holds_in table variables b) → r ≡ holds_in table variables n
  unfolding truth_of holds_in
  truth_and parts is = is ∙ sym (truth_tree parts.2)
