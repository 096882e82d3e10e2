-- `harden_assign` writes the value and the assignment behind it.
use native.Mathlib.Omega.{arith}
use Rattle.awhile.specs.Lists.{sum}
use Rattle.awhile.specs.Nodes.{size_of, form, field_size}
use Rattle.awhile.specs.Encoding.{nodes_of, write_c}
use Rattle.awhile.specs.declared.Node.TheVariants.{Assign}
use Rattle.copier.specs.Sizes.{bytes_of}
use Rattle.copier.proofs.Lengths.{counted_a, some_a}
use Rattle.copier.proofs.Writers.{room_first, room_parent}
use Rattle.copier.proofs.Joins.{one_parent, one_last}
use Rattle.hardener.specs.Forms.{assign_in}
use Rattle.hardener.proofs.commands.harden_assign.Goals as goal

pub copy_numeric-part-requires-clause-space_for : goal.copy_numeric-part-requires-clause-space_for
unfolding assign_in nodes_of bytes_of
copy_numeric-part-requires-clause-space_for c = room_first c.requires.space_for (omega arith) (omega arith)

pub last-requires : goal.last-requires
unfolding assign_in nodes_of bytes_of
last-requires c = one_last c.args.from c.copy_numeric-part.ensures (counted_a c.args.from _) c.requires.space_for (omega arith) (some_a _)

pub append-requires : goal.append-requires
unfolding assign_in nodes_of bytes_of size_of form field_size sum
append-requires c = room_parent 8 c.copy_numeric-part.ensures (counted_a c.args.from _) c.requires.space_for (omega arith) (omega arith)

pub returns : goal.returns
unfolding assign_in write_c
returns c = one_parent c.args.from (Assign c.args.variable) c.copy_numeric-part.ensures (counted_a c.args.from _) c.last.ensures c.append.ensures
