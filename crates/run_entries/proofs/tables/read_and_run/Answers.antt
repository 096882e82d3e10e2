-- `read_and_run` runs a table that is accepted, and hands on the reader's refusal of any other.
use Rattle.std.proofs.lemmas.Result.{err_from_is_err_and}
use Rattle.run_entries.proofs.Runs.{read_refused, read_done}
use Rattle.run_entries.proofs.tables.read_and_run.Goals as goal

pub returns-in_err-accepted-clause-done : goal.returns-in_err-accepted-clause-done
returns-in_err-accepted-clause-done c =
    let p = err_from_is_err_and c.from_residual.result c.from_residual.ensures.1 in
    rw (p.1, p.2) (read_refused c.accept.ensures c.in_err-accepted.was)

pub returns-clause-done : goal.returns-clause-done
returns-clause-done c = read_done c.accept.ensures c.in_ok-accepted.was c.run_read.ensures.done
