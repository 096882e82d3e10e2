-- The nodes up to the index stand behind what was written.
use Rattle.std.proofs.Common.{take}
use Rattle.copier.specs.Written.{AppendedAll}
use Rattle.copier.proofs.records.append_all.Given as goal

abbrev pub invariant-loop-node : goal.invariant-loop-node
invariant-loop-node g l = AppendedAll l.fn.so_far (take l.node-index l.node-items) l.fn.out l.out l.size
