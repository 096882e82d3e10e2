-- The head is stored, and the fields up to the index.
use Rattle.std.proofs.Common.{◌≡◌, ◌++◌, take}
use mathlib.Core.List.{flat_map}
use Rattle.std.proofs.lemmas.List.Edits.{sets}
use Rattle.bytes_le.specs.Numbers.{le}
use Rattle.copier.proofs.records.put_record.Given as goal

abbrev pub invariant-loop-i : goal.invariant-loop-i
invariant-loop-i g l = l.out ≡ sets l.fn.out 0 ((le 2 l.size ++ le 2 l.fn.record.kind) ++ flat_map (le 2) (take l.i l.field-items))
