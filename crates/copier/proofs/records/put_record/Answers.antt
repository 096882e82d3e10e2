-- `put_record` stores the head and the fields, one behind the other.
use native.Mathlib.Omega.{arith}
use mathlib.Core.Path.{ap, ◌∙◌}
use mathlib.Core.List.{flat_map}
use lib.Seq.{sets}
use Rattle.bytes_le.specs.Numbers.{le}
use Rattle.copier.proofs.NodeRecords.{field_stored, record_stored}
use Rattle.copier.proofs.records.put_record.Goals as goal

pub loop-i-init : goal.loop-i-init
unfolding le flat_map
loop-i-init g c = c.put16-2.ensures ∙ ap (λ l. sets l 2 (le 2 c.args.record.kind)) c.put16.ensures

pub loop-i-preserved : goal.loop-i-preserved
loop-i-preserved g c = field_stored c.args.out.now _ c.args.record.kind c.args.record.fields c.loop-i.i (omega arith) c.loop-i.invariant c.put16-in-loop-i.ensures

pub returns : goal.returns
returns g c = (record_stored c.args.out.now c.args.record.kind c.args.record.fields (omega arith) (omega arith) c.loop-i.invariant, omega arith)
