-- `append_sequence` appends the sequence of the two last nodes.
use native.Mathlib.Omega.{arith}
use Rattle.awhile.specs.Lists.{sum}
use Rattle.awhile.specs.Nodes.{size_of, form, field_size}
use Rattle.copier.proofs.Joins.{appended_pair}
use Rattle.masking.proofs.accesses.append_sequence.Goals as goal

pub append-requires : goal.append-requires
unfolding size_of form field_size sum
append-requires c =
    let size = c.both-parts.ensures in
    record { fits = omega (arith, size.bytes_add, c.requires.bytes_in_bounds); countable = omega (arith, size.nodes_add, c.requires.few.0.few_nodes) }

pub returns : goal.returns
returns c = appended_pair c.both-parts.ensures c.append.ensures
