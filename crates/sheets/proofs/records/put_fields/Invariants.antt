-- `put_fields` stores one field behind the other.
use Prim.Native.Nat.{◌+◌}
use mathlib.Core.Path.{◌≡◌}
use lib.ListN.{length}
use lib.Seq.{sets}
use Rattle.sheets.proofs.FieldLengths.{bytes_before}
use Rattle.sheets.proofs.records.put_fields.Given as goal

abbrev pub invariant-loop-field : goal.invariant-loop-field
invariant-loop-field l =
    let before = bytes_before l.version l.fields l.field-index in (l.next ≡ l.at + length before) × (l.out ≡ sets l.initial.out l.at before)
