-- `check_child` tests the sort of a child, whose record is found by the index.
use native.Mathlib.Omega.{arith}
use mathlib.Core.Path.{ap}
use Rattle.record.specs.RecordRead.{field_of}
use Rattle.record.proofs.Sorting.{none_sorted, child_tested}
use Rattle.record.proofs.node.check_child.Goals as goal

pub returns-in_default : goal.returns-in_default
returns-in_default c = none_sorted _ _ c.args.field c.in_default.not-Child

pub offset_bounds-index-node : goal.offset_bounds-index-node
offset_bounds-index-node c = let there = c.requires.there _ _ (ap field_of c.in-Child.is) in omega (arith, there.0)

pub bounds-index-node : goal.bounds-index-node
bounds-index-node c = (c.requires.there _ _ (ap field_of c.in-Child.is)).0

pub returns : goal.returns
returns c = rw c.in-Child.is (child_tested _ _ _ _ _ _ _ (rw c.from.ensures at c.sort_at.ensures) c.check_sort.ensures)
