-- `count_all` counts the children of one field after the other.
use native.Mathlib.Omega.{arith}
use mathlib.Core.Path.{refl, ◌∙◌}
use Rattle.std.proofs.Common.{◌≡◌, ◌+◌}
use Rattle.record.proofs.RecordForms.{fields_next, fields_end}
use Rattle.record.proofs.Tally.{tally_first, tally_rest, tally_fields, tally_no_fields}
use Rattle.record.proofs.uses.count_all.Goals as goal

pub count_field-requires : goal.count_field-requires
count_field-requires g c =
    let next = fields_next c.args.fields c.loop-field.field-index (omega arith) in
    tally_first _ _ _ _ (rw next at c.loop-field.invariant.0) (omega arith)

pub loop-field-preserved : goal.loop-field-preserved
loop-field-preserved g c =
    let next = fields_next c.args.fields c.loop-field.field-index (omega arith) in
    let sum : 65533 + (c.loop-field.field-index + 1) ≡ 65533 + c.loop-field.field-index + 1 = omega arith in (
      rw sum (tally_rest _ _ _ _ (rw next at c.loop-field.invariant.0) _ c.count_field.ensures),
      tally_fields _ _ _ _ _ c.count_field.ensures refl ∙ rw next at c.loop-field.invariant.1,
    )

pub returns : goal.returns
returns g c =
    let none = fields_end c.args.fields c.loop-field.field-index (omega arith) in
    tally_no_fields _ ∙ rw none at c.loop-field.invariant.1
