-- `put_numbered` stores a length, a kind and the fields, where they fit.
use Prim.Native.Nat.{◌+◌}
use native.Mathlib.Omega.{arith}
use mathlib.Core.List.{◌++◌, map}
use mathlib.Core.Path.{refl, ap, ◌∙◌}
use Rattle.bytes_le.specs.Numbers.{le}
use Rattle.labels.specs.Sheet.{fields_bytes}
use Rattle.sheets.specs.Rows.{field_of}
use Rattle.sheets.proofs.FieldLengths.{sized, size_short, record_stored, record_beyond}
use Rattle.sheets.proofs.Stored.{stored_then}
use Rattle.sheets.proofs.records.put_numbered.Goals as goal

pub overflow_add-size : goal.overflow_add-size
overflow_add-size c =
    let size = c.fields_size-size.ensures ∙ sized c.args.version c.args.fields.now in
    omega (arith, size, size_short c.args.version c.args.fields.now c.requires.0)

pub overflow_add-end : goal.overflow_add-end
overflow_add-end c =
    let size = c.fields_size-size.ensures ∙ sized c.args.version c.args.fields.now in
    omega (arith, size, c.requires.1)

pub put_fields-requires : goal.put_fields-requires
put_fields-requires c =
    let size = c.fields_size-size.ensures ∙ sized c.args.version c.args.fields.now in
    omega (arith, size, c.if-end-out.true, c.put16.auto.out, c.put16-then-end-out.auto.out)

pub returns-then-end-out : goal.returns-then-end-out
unfolding le
returns-then-end-out c =
    let args = c.args in
    let size = c.fields_size-size.ensures ∙ sized args.version args.fields.now in
    let fields = fields_bytes args.version (map field_of args.fields.now) in
    record_stored args.version args.number (map field_of args.fields.now) args.out.now args.at (ap (λ k. 4 + k) size)
    (stored_then (le 2 (4 + c.fields_size-size.result)) (le 2 args.number ++ fields) args.out.now args.at (args.at + 2) refl c.put16.ensures
    (stored_then (le 2 args.number) fields c.put16.new.out (args.at + 2) (args.at + 4) (omega arith) c.put16-then-end-out.ensures c.put_fields.ensures))

pub returns-else-end-out : goal.returns-else-end-out
returns-else-end-out c =
    let args = c.args in
    let size = c.fields_size-size.ensures ∙ sized args.version args.fields.now in
    record_beyond args.version args.number (map field_of args.fields.now) args.out.now args.at (ap (λ k. 4 + k) size) c.if-end-out.false
