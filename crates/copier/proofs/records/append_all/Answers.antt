-- `append_all` appends one node after the other.
use native.Mathlib.Omega.{arith}
use mathlib.Core.Path.{refl}
use mathlib.Core.List.{flat_map}
use Rattle.copier.proofs.Writers.{appended_more, room_next}
use Rattle.copier.proofs.records.append_all.Goals as goal

pub append-size-requires : goal.append-size-requires
append-size-requires g c = room_next c.args.nodes c.loop-node.node-index _ (omega arith) (omega arith) c.requires c.loop-node.invariant

pub loop-node-init : goal.loop-node-init
unfolding flat_map
loop-node-init g c = record { stored = refl; nodes_counted = omega arith; bytes_counted = omega arith }

pub loop-node-preserved : goal.loop-node-preserved
loop-node-preserved g c = appended_more c.args.nodes c.loop-node.node-index _ (omega arith) c.loop-node.invariant c.append-size.ensures
