-- `check_sorts`: the fields that are left decide.
use Rattle.std.proofs.Common.{Bool, map, drop}
use Rattle.record.specs.RecordRead.{field_of, AllThere, SortedBy}
use Rattle.record.proofs.node.check_sorts.Given as goal

abbrev pub invariant-loop-field : goal.invariant-loop-field
invariant-loop-field g l =
    AllThere l.table l.index (map field_of (drop l.field-index l.field-items))
    × ((r : Bool) → SortedBy l.table l.index (map field_of (drop l.field-index l.field-items)) r → SortedBy l.table l.index (map field_of l.field-items) r)
