-- `name_command` stores the variables of the one or two expressions that a command holds.
use mathlib.Core.Logic.{◌⊎◌, ⊎_elim}
use mathlib.Core.Path.{◌≡◌, refl, sym, ap, ◌∙◌}
use mathlib.Core.List.{[], ◌∷◌, flat_map}
use native.Mathlib.Omega.{arith}
use Prim.Native.Nat.{ℕ, ◌<◌}
use lib.ListN.{length, length-set}
use Rattle.awhile.specs.Nodes.{form, sort_of}
use Rattle.awhile.specs.declared.Node.{Node}
use Rattle.awhile.specs.declared.Node.TheVariants.{If, While}
use Rattle.awhile.specs.declared.Sort.{Sort}
use Rattle.awhile.specs.declared.Sort.TheVariants.{Truth}
use Rattle.reader.specs.Index.{node_in}
use Rattle.reader.proofs.Admitted.{child, parts}
use Rattle.reader.proofs.Index.{Child, Parts}
use Rattle.variables.specs.Named.{expression_of, field_expressions, expressions_of}
use Rattle.variables.proofs.Naming.{numeric_stored, truth_stored, names_none, names_one, names_two, none_held}
use Rattle.variables.proofs.collecting.name_command.Goals as goal
use Rattle.variables.proofs.collecting.name_command.Goals.{After-command}

module _ (c : After-command) where
  held : (m : Node) → c.command.result ≡ m → Parts c.args.table.now c.args.n m
  held = parts c.command.ensures.admitted c.requires.0.inside c.command.ensures.value

  inside : {s : Sort} {e : ℕ} → Child c.args.table.now s c.args.n e → e < length c.args.named.now
  inside h = omega (arith, h.inside, c.requires.1)

  -- the expressions of a command of this kind
  holds : (m : Node) → c.command.result ≡ m → expressions_of (node_in c.args.table.now c.args.n) ≡ expressions_of m
  holds m is = ap expressions_of (sym c.command.ensures.value ∙ is)

  -- the condition of an if or a loop is its one expression
  tested : {b : ℕ} → ((d : ℕ) × (e : ℕ) × (c.command.result ≡ If b d e)) ⊎ ((d : ℕ) × (c.command.result ≡ While b d))
      → Child c.args.table.now Truth c.args.n b × (expressions_of (node_in c.args.table.now c.args.n) ≡ b ∷ [])
  unfolding expressions_of field_expressions expression_of form flat_map
  tested = ⊎_elim (λ p. ((held _ p.2).0, holds _ p.2)) (λ p. ((held _ p.1).0, holds _ p.1))

pub numeric_variables-requires : goal.numeric_variables-requires
numeric_variables-requires c = child (held (goal.at.numeric_variables-requires c).After-command _ c.in-Assign.is).1

pub offset_bounds-named-value : goal.offset_bounds-named-value
offset_bounds-named-value c =
    let at = (goal.at.offset_bounds-named-value c).After-command in
    omega (arith, inside at (held at _ c.in-Assign.is).1)

pub bounds-named-value : goal.bounds-named-value
bounds-named-value c =
    let at = (goal.at.bounds-named-value c).After-command in inside at (held at _ c.in-Assign.is).1

pub returns-in-Assign : goal.returns-in-Assign
unfolding expressions_of field_expressions expression_of form flat_map
returns-in-Assign c =
    let at = (goal.at.returns-in-Assign c).After-command in
    let p = (held at _ c.in-Assign.is).1 in
    names_one _ _ _ _ (holds at _ c.in-Assign.is) (inside at p) (numeric_stored c.command.ensures.admitted _ (child p) c.numeric_variables.ensures)

pub truth_variables-requires : goal.truth_variables-requires
truth_variables-requires c = child (tested (goal.at.truth_variables-requires c).After-command c.in-If.is).0

pub offset_bounds-named-condition : goal.offset_bounds-named-condition
offset_bounds-named-condition c =
    let at = (goal.at.offset_bounds-named-condition c).After-command in
    omega (arith, inside at (tested at c.in-If.is).0)

pub bounds-named-condition : goal.bounds-named-condition
bounds-named-condition c =
    let at = (goal.at.bounds-named-condition c).After-command in inside at (tested at c.in-If.is).0

pub returns-in-If : goal.returns-in-If
returns-in-If c =
    let at = (goal.at.returns-in-If c).After-command in
    let p = tested at c.in-If.is in
    names_one _ _ _ _ p.1 (inside at p.0) (truth_stored c.command.ensures.admitted _ (child p.0) c.truth_variables.ensures)

pub numeric_variables-requires-in-Read : goal.numeric_variables-requires-in-Read
numeric_variables-requires-in-Read c = child (held (goal.at.numeric_variables-requires-in-Read c).After-command _ c.in-Read.is).2

pub offset_bounds-named-index : goal.offset_bounds-named-index
offset_bounds-named-index c =
    let at = (goal.at.offset_bounds-named-index c).After-command in
    omega (arith, inside at (held at _ c.in-Read.is).2)

pub bounds-named-index : goal.bounds-named-index
bounds-named-index c =
    let at = (goal.at.bounds-named-index c).After-command in inside at (held at _ c.in-Read.is).2

pub returns-in-Read : goal.returns-in-Read
unfolding expressions_of field_expressions expression_of form flat_map
returns-in-Read c =
    let at = (goal.at.returns-in-Read c).After-command in
    let p = (held at _ c.in-Read.is).2 in
    names_one _ _ _ _ (holds at _ c.in-Read.is) (inside at p) (numeric_stored c.command.ensures.admitted _ (child p) c.numeric_variables-in-Read.ensures)

pub numeric_variables-requires-in-Write : goal.numeric_variables-requires-in-Write
numeric_variables-requires-in-Write c = child (held (goal.at.numeric_variables-requires-in-Write c).After-command _ c.in-Write.is).1

pub offset_bounds-named-index-in-Write : goal.offset_bounds-named-index-in-Write
offset_bounds-named-index-in-Write c =
    let at = (goal.at.offset_bounds-named-index-in-Write c).After-command in
    omega (arith, inside at (held at _ c.in-Write.is).1)

pub bounds-named-index-in-Write : goal.bounds-named-index-in-Write
bounds-named-index-in-Write c =
    let at = (goal.at.bounds-named-index-in-Write c).After-command in inside at (held at _ c.in-Write.is).1

pub numeric_variables-requires-in-Write-2 : goal.numeric_variables-requires-in-Write-2
numeric_variables-requires-in-Write-2 c = child (held (goal.at.numeric_variables-requires-in-Write-2 c).After-command _ c.in-Write.is).2

pub offset_bounds-named-value-in-Write : goal.offset_bounds-named-value-in-Write
offset_bounds-named-value-in-Write c =
    let at = (goal.at.offset_bounds-named-value-in-Write c).After-command in
    omega (arith, inside at (held at _ c.in-Write.is).2)

pub bounds-named-value-in-Write : goal.bounds-named-value-in-Write
bounds-named-value-in-Write c =
    let at = (goal.at.bounds-named-value-in-Write c).After-command in
    let there = inside at (held at _ c.in-Write.is).2 in simp length-set there

pub returns-in-Write : goal.returns-in-Write
unfolding expressions_of field_expressions expression_of form flat_map
returns-in-Write c =
    let at = (goal.at.returns-in-Write c).After-command in
    let p = held at _ c.in-Write.is in
    let a = c.command.ensures.admitted in
    names_two _ _ _ _ _ (holds at _ c.in-Write.is) (inside at p.1) (inside at p.2)
    (numeric_stored a _ (child p.1) c.numeric_variables-in-Write.ensures) (numeric_stored a _ (child p.2) c.numeric_variables-in-Write-2.ensures)

pub returns-in_default : goal.returns-in_default
returns-in_default c =
    let at = (goal.at.returns-in_default c).After-command in
    let no = c.in_default in
    names_none _ _ _
    (holds at _ refl
    ∙ none_held _ (ap sort_of c.command.ensures.value ∙ c.requires.0.is_sort) no.not-Assign no.not-If no.not-While no.not-Read no.not-Write)
