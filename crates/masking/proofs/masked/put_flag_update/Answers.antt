-- `put_flag_update` writes the condition, and behind it the two numbers, their choice and the assignment.
use native.Mathlib.Omega.{arith}
use Rattle.masking.proofs.Masking.{update_test_room, test_last, update_fits, wrote_update}
use Rattle.masking.proofs.masked.put_flag_update.Goals as goal

pub copy_condition-test-requires-clause-space_for : goal.copy_condition-test-requires-clause-space_for
copy_condition-test-requires-clause-space_for c = update_test_room c.args.taken c.args.flag _ c.requires.space_for

pub last-at-requires : goal.last-at-requires
last-at-requires c = let last = test_last c.args.taken c.args.flag _ c.requires.space_for c.copy_condition-test.ensures in (last.0, omega (arith, last.1))

pub overflow_add-nodes : goal.overflow_add-nodes
overflow_add-nodes c = omega (arith, c.last-at.ensures, test_last c.args.taken c.args.flag _ c.requires.space_for c.copy_condition-test.ensures)

pub overflow_add-nodes-2 : goal.overflow_add-nodes-2
overflow_add-nodes-2 c = omega (arith, c.last-at.ensures, test_last c.args.taken c.args.flag _ c.requires.space_for c.copy_condition-test.ensures)

pub overflow_add-nodes-3 : goal.overflow_add-nodes-3
overflow_add-nodes-3 c = omega (arith, c.last-at.ensures, test_last c.args.taken c.args.flag _ c.requires.space_for c.copy_condition-test.ensures)

pub append_all-requires : goal.append_all-requires
append_all-requires c =
    (omega arith, update_fits c.args.taken c.args.flag _ c.requires.space_for c.copy_condition-test.ensures c.kept_or_one.ensures c.kept_or_one-2.ensures c.last-at.result)

pub returns : goal.returns
returns c =
    wrote_update c.args.taken c.args.flag _ c.requires.space_for c.copy_condition-test.ensures c.kept_or_one.ensures c.kept_or_one-2.ensures
    c.last-at.ensures c.append_all.ensures
