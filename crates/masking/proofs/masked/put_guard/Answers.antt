-- `put_guard` writes a test of the flag and a zero.
use native.Mathlib.Omega.{arith}
use Rattle.awhile.specs.Lists.{sum}
use Rattle.awhile.specs.Nodes.{size_of, form, field_size}
use Rattle.masking.specs.InMemory.{guard_nodes}
use Rattle.copier.proofs.Writers.{wrote_parent, room_parent}
use Rattle.masking.proofs.Masking.{counted_test}
use Rattle.masking.proofs.masked.put_guard.Goals as goal

pub append-requires : goal.append-requires
unfolding size_of form field_size sum
append-requires c = room_parent 8 c.put_test-test.ensures (counted_test _ _ _) c.requires (omega arith) (omega arith)

pub returns : goal.returns
unfolding guard_nodes
returns c = wrote_parent c.put_test-test.ensures c.append.ensures
