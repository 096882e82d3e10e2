-- `put_fields` stores one field behind the other.
use native.Mathlib.Omega.{arith}
use mathlib.Core.Path.{◌≡◌, refl, sym, ap, ◌∙◌}
use lib.ListN.{length, length-append}
use lib.Seq.{sets}
use Rattle.sheets.proofs.FieldLengths.{bytes_before, with_next, next_within, none_before, all_before}
use Rattle.sheets.proofs.Stored.{stored_then}
use Rattle.sheets.proofs.records.put_fields.Goals as goal

pub loop-field-init : goal.loop-field-init
loop-field-init c = rw (none_before c.args.version c.args.fields.now) (omega arith, refl)

pub put_field-requires : goal.put_field-requires
put_field-requires c =
    let fits = next_within c.args.version c.args.fields.now c.loop-field-test.true in
    omega (arith, fits, c.requires, c.loop-field.invariant.0, c.loop-field.auto.out)

pub overflow_add-next : goal.overflow_add-next
overflow_add-next c =
    let fits = next_within c.args.version c.args.fields.now c.loop-field-test.true in
    omega (arith, fits, c.requires, c.loop-field.invariant.0, c.size-next.ensures.0)

pub loop-field-preserved : goal.loop-field-preserved
loop-field-preserved c =
    let v = c.args.version in
    let fs = c.args.fields.now in
    let inv = c.loop-field.invariant in
    let more = with_next v fs c.loop-field-test.true in (
      rw more (rw length-append (omega (arith, inv.0, c.size-next.ensures.0))),
      stored_then (bytes_before v fs c.loop-field.field-index) _ c.args.out.now c.args.at c.loop-field.next (sym inv.0) inv.1 c.put_field.ensures
          ∙ ap (sets c.args.out.now c.args.at) (sym more),
    )

pub returns : goal.returns
returns c =
    let all : c.loop-field.field-index ≡ length c.args.fields.now = omega (arith, c.loop-field-test.false, c.loop-field.auto.field-index-end) in
    c.loop-field.invariant.1 ∙ ap (sets c.args.out.now c.args.at) (ap (bytes_before c.args.version c.args.fields.now) all ∙ all_before c.args.version c.args.fields.now)
