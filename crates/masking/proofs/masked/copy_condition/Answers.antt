-- `copy_condition` copies the condition, behind a test of the flag where it is masked.
use Prim.Native.Nat.{ℕ}
use native.Mathlib.Omega.{arith}
use Rattle.awhile.specs.Language.{number, variable, equal}
use Rattle.awhile.specs.Encoding.{write_b}
use Rattle.awhile.specs.Lists.{sum}
use Rattle.awhile.specs.Nodes.{size_of, form, field_size}
use Rattle.copier.specs.Written.{Wrote}
use Rattle.copier.proofs.ExpressionWrites.{wrote_b, room_b}
use Rattle.masking.proofs.TwoParts.{rest_number, rest_begins, rest_room, both_few, parent_room}
use Rattle.masking.proofs.Masking.{condition_plain, TestWritten, test_room, test_written, wrote_condition}
use Rattle.reader.specs.Index.{truth_in}
use Rattle.masking.proofs.masked.copy_condition.Goals as goal
use Rattle.masking.proofs.masked.copy_condition.Goals.{After-put_test-test}

-- the test is written, whatever the flag is compared with
module _ (c : After-put_test-test) (v : ℕ)
    (w : Wrote (write_b c.args.from (equal (variable c.args.flag) (number v))) c.args.out.now c.put_test-test.new.out c.put_test-test.result) where
  tested : TestWritten c.args.from c.args.flag v (truth_in c.args.table.now c.args.condition.node) c.args.out.now c.put_test-test.new.out c.put_test-test.result
  tested = test_written c.args.table.now c.args.flag c.args.condition c.if-condition.true c.requires.space_for v w

pub put_test-test-requires : goal.put_test-test-requires
put_test-test-requires c = test_room c.args.table.now c.args.flag c.args.condition c.if-condition.true c.requires.space_for

pub overflow_add-from : goal.overflow_add-from
overflow_add-from c = rest_number (tested (goal.at.overflow_add-from c).After-put_test-test _ c.put_test-test.ensures)

pub slice_bounds-copy_truth-count : goal.slice_bounds-copy_truth-count
slice_bounds-copy_truth-count c = rest_begins (tested (goal.at.slice_bounds-copy_truth-count c).After-put_test-test _ c.put_test-test.ensures)

pub slice_bounds-copy_truth-start : goal.slice_bounds-copy_truth-start
slice_bounds-copy_truth-start c = rest_begins (tested (goal.at.slice_bounds-copy_truth-start c).After-put_test-test _ c.put_test-test.ensures)

pub copy_truth-part-requires-clause-space_for : goal.copy_truth-part-requires-clause-space_for
copy_truth-part-requires-clause-space_for c = rest_room (tested (goal.at.copy_truth-part-requires-clause-space_for c).After-put_test-test _ c.put_test-test.ensures)

pub both-parts-requires : goal.both-parts-requires
both-parts-requires c = both_few (tested (goal.at.both-parts-requires c).After-put_test-test _ c.put_test-test.ensures) c.copy_truth-part.ensures

pub append-requires : goal.append-requires
unfolding size_of form field_size sum
append-requires c = parent_room (tested (goal.at.append-requires c).After-put_test-test _ c.put_test-test.ensures) c.copy_truth-part.ensures c.both-parts.ensures (omega arith)

pub copy_truth-requires-clause-space_for : goal.copy_truth-requires-clause-space_for
copy_truth-requires-clause-space_for c = room_b (condition_plain c.args.table.now c.args.flag c.args.condition c.if-condition.false) c.requires.space_for

pub returns-then-condition : goal.returns-then-condition
returns-then-condition c =
    wrote_condition c.args.table.now c.args.flag c.args.condition c.if-condition.true c.requires.space_for c.put_test-test.ensures c.copy_truth-part.ensures c.both-parts.ensures c.append.ensures

pub returns-else-condition : goal.returns-else-condition
returns-else-condition c = wrote_b c.args.from (condition_plain c.args.table.now c.args.flag c.args.condition c.if-condition.false) c.copy_truth.ensures
