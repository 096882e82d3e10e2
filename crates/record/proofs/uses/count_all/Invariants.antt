-- `count_all`: what is counted so far, and that there is room for the fields that are left.
use Rattle.std.proofs.Common.{◌≡◌, ◌+◌, map, drop}
use mathlib.Core.List.{flat_map}
use Rattle.awhile.specs.Nodes.{field_children}
use Rattle.record.specs.RecordRead.{field_of, tally}
use Rattle.record.proofs.Tally.{CountsFor}
use Rattle.record.proofs.uses.count_all.Given as goal

abbrev pub invariant-loop-field : goal.invariant-loop-field
invariant-loop-field g l =
    CountsFor (65533 + l.field-index) l.uses (map field_of (drop l.field-index l.field-items))
    × (tally l.uses (flat_map field_children (map field_of (drop l.field-index l.field-items))) ≡ tally l.fn.uses (flat_map field_children (map field_of l.field-items)))
