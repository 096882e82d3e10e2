-- `run_read` makes the tests 10 and 20 to 24 in their order, and runs what passes them.
use Rattle.std.proofs.lemmas.Result.{err_from_is_err_and}
use Rattle.run_entries.proofs.Runs.{ready_small, bad_list, wrong_lengths, run_asked, run_done}
use Rattle.run_entries.proofs.tables.run_read.Goals as goal

pub returns-then-not-reads-clause-done : goal.returns-then-not-reads-clause-done
returns-then-not-reads-clause-done c = bad_list c.if-not-reads.ensures

pub lengths_for-requires : goal.lengths_for-requires
lengths_for-requires c = ready_small c.args.task.now.directives.now c.declared.ensures.admitted c.declared.ensures.value

pub returns-in_err-lengths_for-clause-done : goal.returns-in_err-lengths_for-clause-done
returns-in_err-lengths_for-clause-done c =
    let p = err_from_is_err_and c.from_residual.result c.from_residual.ensures.1 in
    rw (p.1, p.2) (wrong_lengths _ c.declared.ensures.admitted c.declared.ensures.value _ _ _ _ _ _ _ c.if-not-reads.ensures c.lengths_for.ensures _ c.in_err-lengths_for.was)

pub run-requires : goal.run-requires
run-requires c =
    run_asked _ c.declared.ensures.admitted c.declared.ensures.value c.args.task.now.board c.args.task.now.budget _ _ _ c.args.lent.now.observations.now _ c.if-not-reads.ensures c.lengths_for.ensures c.in_ok-lengths_for.was

pub returns-clause-done : goal.returns-clause-done
returns-clause-done c =
    run_done _ c.declared.ensures.admitted c.declared.ensures.value _ _ _ _ _ _ _ c.if-not-reads.ensures c.lengths_for.ensures c.in_ok-lengths_for.was _ _ _ _ _ _ c.run.ensures.leaves
