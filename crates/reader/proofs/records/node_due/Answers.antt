-- `node_due` reads a node's record, and keeps its offset and what it counts.
use native.Mathlib.Omega.{arith}
use mathlib.Core.Path.{refl}
use Rattle.std.proofs.lemmas.Result.{err_from_is_err_and}
use Rattle.bytes_le.proofs.Numbers.{slice_bytes}
use Rattle.reader.specs.Walk.{node_due, node_refused, node_read}
use Rattle.reader.proofs.Walking.{offset_small, heads_before, uses_small, nodes_stop, children_inside, nodes_more}
use Rattle.reader.proofs.records.node_due.Goals as goal

pub read_node-requires : goal.read_node-requires
read_node-requires c =
    let k = c.requires in
    (omega (arith, offset_small _ _ _ _ _ _ k.left), heads_before _ _ _ _ _ _ k.left (omega (arith, k.more, k.long_index)))

pub overflow_cast-index : goal.overflow_cast-index
overflow_cast-index c = omega (arith, offset_small _ _ _ _ _ _ c.requires.left)

pub count_fields-requires : goal.count_fields-requires
count_fields-requires c =
    let k = c.requires in (
      children_inside _ _ _ _ _ _ k.left k.more (slice_bytes _ c.shared_slice_known-1.given) _ (rw c.in_ok-fields.was at c.read_node.ensures) _ (omega arith),
      uses_small _ _ _ _ _ _ k.left k.few.0,
    )

pub returns-in_err-fields : goal.returns-in_err-fields
returns-in_err-fields c =
    let k = c.requires in
    let p = err_from_is_err_and c.from_residual.result c.from_residual.ensures.1 in
    rw (p.1, p.2) (node_refused _ (nodes_stop _ _ _ _ _ _ k.left k.more _ (rw c.in_err-fields.was at c.read_node.ensures)) refl)

pub returns : goal.returns
unfolding node_due
returns c =
    let k = c.requires in
    node_read c.record_size.result refl
    (rw c.count_fields.ensures
    (nodes_more _ _ _ _ _ _ k.left k.more (slice_bytes _ c.shared_slice_known-1.given) _ (rw c.in_ok-fields.was at c.read_node.ensures)
    (omega arith) (omega arith) _ c.record_size.ensures))
