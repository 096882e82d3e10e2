-- `node_size` answers the total of a node by its kind, from those of its parts, whose numbers are lower.
use Prim.Native.Nat.{ℕ}
use native.Mathlib.Omega.{arith}
use mathlib.Core.Path.{◌≡◌, refl, sym, ◌∙◌}
use Rattle.awhile.specs.Nodes.{form, sort_of}
use Rattle.awhile.specs.declared.Node.{Node}
use Rattle.awhile.specs.declared.Sort.{Sort}
use Rattle.reader.specs.Index.{node_in}
use Rattle.reader.proofs.Index.{Child, Parts}
use Rattle.reader.proofs.Admitted.{parts}
use Rattle.copier.specs.Totals.{HasTotal}
use Rattle.copier.proofs.NodeTotals.{total_number, total_choice, numeric_as, total_not, truth_as}
use Rattle.hardener.proofs.CommandWrites.{own}
use Rattle.hardener.proofs.PartSizes.{added_small, each_one, each_two, each_three, part_a, part_b, holds, expressions_held, expressions_sized, single_sized, numeric_sized, truth_sized, command_sized}
use Rattle.hardener.proofs.PartSizes.{skip_sized, assign_sized, sequence_sized, if_sized, while_sized, read_sized, write_sized}
use Rattle.hardener.proofs.sizes.node_size.Goals as goal
use Rattle.hardener.proofs.sizes.node_size.Goals.{After-node}

-- the node, its parts and their totals
module _ (c : After-node) where
  is : {m : Node} → c.node.result ≡ m → node_in c.args.table.now c.args.n ≡ m
  is e = sym c.node.ensures.value ∙ e

  of : (m : Node) → c.node.result ≡ m → Parts c.args.table.now c.args.n m
  of = parts c.node.ensures.admitted c.requires.1 c.node.ensures.value

  held : {s : Sort} {e : ℕ} → Child c.args.table.now s c.args.n e → HasTotal c.args.totals.now e
  held = holds c.requires.2 c.node.ensures.admitted c.requires.0

pub over-requires-in-Add : goal.over-requires-in-Add
over-requires-in-Add c = (omega arith, (omega arith, expressions_held c.requires.2 c.node.ensures.value (of (goal.at.over-requires-in-Add c).After-node) c.node.ensures.admitted c.requires.0 c.in-Add.is))

pub returns-in-Add : goal.returns-in-Add
returns-in-Add c = expressions_sized c.requires.2 c.node.ensures.value (of (goal.at.returns-in-Add c).After-node) c.in-Add.is c.over-in-Add.ensures

pub returns-in-Variable : goal.returns-in-Variable
returns-in-Variable c = single_sized c.requires.2 c.node.ensures.value (of (goal.at.returns-in-Variable c).After-node) c.in-Variable.is

pub returns-in-If : goal.returns-in-If
unfolding sort_of form
returns-in-If c = let at = (goal.at.returns-in-If c).After-node in command_sized (is at c.in-If.is) refl (if_sized c.requires.2 _ _ _ (of at _ c.in-If.is) c.guarded_size.ensures)

pub guarded_size-requires : goal.guarded_size-requires
guarded_size-requires c =
    let at = (goal.at.guarded_size-requires c).After-node in
    let p = of at _ c.in-If.is in
    (omega arith, (omega arith, (held at p.0, each_two (held at p.1) (held at p.2))))

pub over-requires : goal.over-requires
over-requires c = let at = (goal.at.over-requires c).After-node in (omega arith, (omega arith, each_one (held at (of at _ c.in-Not.is).0)))

pub over-requires-in-Sequence : goal.over-requires-in-Sequence
over-requires-in-Sequence c =
    let at = (goal.at.over-requires-in-Sequence c).After-node in
    let p = of at _ c.in-Sequence.is in
    (omega arith, (omega arith, each_two (held at p.0) (held at p.1)))

pub over-requires-in-Choice : goal.over-requires-in-Choice
over-requires-in-Choice c =
    let at = (goal.at.over-requires-in-Choice c).After-node in
    let p = of at _ c.in-Choice.is in
    (omega arith, (omega arith, each_three (held at p.0) (held at p.1) (held at p.2)))

pub offset_bounds-totals-value : goal.offset_bounds-totals-value
offset_bounds-totals-value c = let at = (goal.at.offset_bounds-totals-value c).After-node in
    let p = (of at _ c.in-Assign.is).1 in omega (arith, p.inside, c.requires.0.few)

pub bounds-totals-value : goal.bounds-totals-value
bounds-totals-value c = let at = (goal.at.bounds-totals-value c).After-node in (held at (of at _ c.in-Assign.is).1).inside

pub more-requires : goal.more-requires
more-requires c = let at = (goal.at.more-requires c).After-node in omega (arith, (held at (of at _ c.in-Assign.is).1).small)

pub guarded_size-requires-in-While : goal.guarded_size-requires-in-While
guarded_size-requires-in-While c =
    let at = (goal.at.guarded_size-requires-in-While c).After-node in
    let p = of at _ c.in-While.is in
    (omega arith, (omega arith, (held at p.0, each_one (held at p.1))))

pub access_size-requires : goal.access_size-requires
access_size-requires c =
    let at = (goal.at.access_size-requires c).After-node in
    (held at (of at _ c.in-Read.is).2, omega (arith, c.added.ensures, added_small (own c.args.decisions.now c.args.n).value 524350))

pub offset_bounds-totals-value-in-Write : goal.offset_bounds-totals-value-in-Write
offset_bounds-totals-value-in-Write c = let at = (goal.at.offset_bounds-totals-value-in-Write c).After-node in
    let p = (of at _ c.in-Write.is).2 in omega (arith, p.inside, c.requires.0.few)

pub bounds-totals-value-in-Write : goal.bounds-totals-value-in-Write
bounds-totals-value-in-Write c = let at = (goal.at.bounds-totals-value-in-Write c).After-node in (held at (of at _ c.in-Write.is).2).inside

pub access_size-requires-in-Write : goal.access_size-requires-in-Write
access_size-requires-in-Write c =
    let at = (goal.at.access_size-requires-in-Write c).After-node in
    let p = of at _ c.in-Write.is in
    (held at p.1, (held at p.2).small)

pub returns-in-Number : goal.returns-in-Number
unfolding sort_of form
returns-in-Number c = let at = (goal.at.returns-in-Number c).After-node in numeric_sized (is at c.in-Number.is) refl (numeric_as (of at _ c.in-Number.is) (total_number _))

pub returns-in-Not : goal.returns-in-Not
unfolding sort_of form
returns-in-Not c =
    let at = (goal.at.returns-in-Not c).After-node in
    let p = of at _ c.in-Not.is in
    truth_sized (is at c.in-Not.is) refl (truth_as p.1 (total_not (part_b c.requires.2 p.0) c.over.ensures))

pub returns-in-Choice : goal.returns-in-Choice
unfolding sort_of form
returns-in-Choice c =
    let at = (goal.at.returns-in-Choice c).After-node in
    let p = of at _ c.in-Choice.is in
    numeric_sized (is at c.in-Choice.is) refl (numeric_as p.3 (total_choice (part_b c.requires.2 p.0) (part_a c.requires.2 p.1) (part_a c.requires.2 p.2) c.over-in-Choice.ensures))

pub returns-in-Skip : goal.returns-in-Skip
unfolding sort_of form
returns-in-Skip c = let at = (goal.at.returns-in-Skip c).After-node in command_sized (is at c.in-Skip.is) refl (skip_sized _ _ _ (of at _ c.in-Skip.is))

pub returns-in-Assign : goal.returns-in-Assign
unfolding sort_of form
returns-in-Assign c = let at = (goal.at.returns-in-Assign c).After-node in command_sized (is at c.in-Assign.is) refl (assign_sized c.requires.2 _ _ (of at _ c.in-Assign.is) c.more.ensures)

pub returns-in-Sequence : goal.returns-in-Sequence
unfolding sort_of form
returns-in-Sequence c = let at = (goal.at.returns-in-Sequence c).After-node in command_sized (is at c.in-Sequence.is) refl (sequence_sized c.requires.2 _ _ (of at _ c.in-Sequence.is) c.over-in-Sequence.ensures)

pub returns-in-While : goal.returns-in-While
unfolding sort_of form
returns-in-While c = let at = (goal.at.returns-in-While c).After-node in command_sized (is at c.in-While.is) refl (while_sized c.requires.2 _ _ (of at _ c.in-While.is) c.guarded_size-in-While.ensures)

pub returns-in-Read : goal.returns-in-Read
unfolding sort_of form
returns-in-Read c =
    let at = (goal.at.returns-in-Read c).After-node in
    command_sized (is at c.in-Read.is) refl (read_sized c.requires.2 _ _ _ (of at _ c.in-Read.is) (omega (arith, c.added.ensures, c.access_size.ensures)))

pub returns-in-Write : goal.returns-in-Write
unfolding sort_of form
returns-in-Write c = let at = (goal.at.returns-in-Write c).After-node in command_sized (is at c.in-Write.is) refl (write_sized c.requires.2 _ _ _ (of at _ c.in-Write.is) c.access_size-in-Write.ensures)
