-- `body_at` reads an array or a node, or finishes.
use native.Mathlib.Omega.{arith}
use Rattle.std.proofs.lemmas.Result.{err_from_is_err_and}
use Rattle.reader.specs.Walk.{end_due}
use Rattle.reader.proofs.Turns.{array_ready, after_arrays, array_small, array_turn, node_turn, end_heads, ended, end_turn, body_limits, node_ready}
use Rattle.reader.proofs.records.body_at.Goals as goal

pub overflow_add-nodes : goal.overflow_add-nodes
overflow_add-nodes c = let b = c.requires in omega (arith, (body_limits _ _ _ _ _ b.some b.walking b.is_body).nodes_fit)

pub array_due-requires : goal.array_due-requires
array_due-requires c =
    let b = c.requires in
    let k = array_ready _ _ _ _ _ b.some b.walking b.is_body c.if-nodes-left.true in
    (omega (arith, array_small _ _ _ _ _ b.some k), k.counts.few, b.some)

pub returns-then-nodes-left : goal.returns-then-nodes-left
returns-then-nodes-left c =
    let b = c.requires in
    array_turn _ _ _ _ _ b.some (array_ready _ _ _ _ _ b.some b.walking b.is_body c.if-nodes-left.true) _ c.array_due.ensures

pub overflow_add-nodes-then-left-gt1 : goal.overflow_add-nodes-then-left-gt1
overflow_add-nodes-then-left-gt1 c = let b = c.requires in omega (arith, (body_limits _ _ _ _ _ b.some b.walking b.is_body).nodes_fit)

pub node_due-requires : goal.node_due-requires
node_due-requires c =
    node_ready _ _ _ _ _ c.requires.some c.requires c.if-nodes-left.false c.if-left-gt1.true

pub returns-then-left-gt1 : goal.returns-then-left-gt1
returns-then-left-gt1 c =
    let b = c.requires in
    let k = after_arrays _ _ _ _ _ b.some b.walking b.is_body c.if-nodes-left.false in
    node_turn _ _ _ _ _ _ _ b.some k _ (omega arith) c.node_due.auto.index c.node_due.auto.uses _ c.node_due.ensures

pub finish-requires : goal.finish-requires
finish-requires c =
    let b = c.requires in
    let f = body_limits _ _ _ _ _ b.some b.walking b.is_body in
    let k = after_arrays _ _ _ _ _ b.some b.walking b.is_body c.if-nodes-left.false in
    (f.has_nodes, end_heads _ _ _ _ _ b.some k c.if-left-gt1.false, k.long.long_uses.holds _ k.counted.declared.is_header)

pub returns-in_err-finish : goal.returns-in_err-finish
returns-in_err-finish c =
    let b = c.requires in
    let k = after_arrays _ _ _ _ _ b.some b.walking b.is_body c.if-nodes-left.false in
    let p = err_from_is_err_and c.from_residual.result c.from_residual.ensures.1 in
    rw (p.1, p.2) (ended _ _ _ _ _ b.some k c.if-left-gt1.false _ (rw c.in_err-finish.was at c.finish.ensures))

pub returns : goal.returns
unfolding end_due
returns c =
    let b = c.requires in
    let k = after_arrays _ _ _ _ _ b.some b.walking b.is_body c.if-nodes-left.false in
    end_turn _ _ _ _ _ b.some k (ended _ _ _ _ _ b.some k c.if-left-gt1.false _ (rw c.in_ok-finish.was at c.finish.ensures))
