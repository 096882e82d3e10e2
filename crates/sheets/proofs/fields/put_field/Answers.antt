-- `put_field` stores a field by what it holds.
use native.Mathlib.Omega.{arith}
use Rattle.sheets.proofs.FieldLengths.{number_length, label_length}
use Rattle.sheets.proofs.fields.put_field.Goals as goal

pub put16-requires : goal.put16-requires
put16-requires c = omega (arith, rw c.in-Number.is at c.requires, number_length c.args.version c.in-Number.number)

pub put16-requires-in-Label : goal.put16-requires-in-Label
put16-requires-in-Label c = omega (arith, rw c.in-Label.is at c.requires, label_length c.args.version c.in-Label.secret)
