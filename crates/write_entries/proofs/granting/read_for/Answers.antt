-- `read_for` hands the reader's refusal on, and else asks whether the job is granted.
use mathlib.Core.Path.{sym, ◌∙◌}
use Rattle.std.proofs.lemmas.Result.{err_from_is_err_and}
use Rattle.reader.proofs.Answering.{reader_ready, refusing}
use Rattle.write_entries.proofs.Jobs.{reader_refuses, job_refuses, job_grants}
use Rattle.write_entries.proofs.granting.read_for.Goals as goal

pub new-accepted-requires : goal.new-accepted-requires
new-accepted-requires c = reader_ready (rw c.in_ok-declared.was at c.walk.ensures)

pub returns-in_err-declared : goal.returns-in_err-declared
returns-in_err-declared c =
    let p = err_from_is_err_and c.from_residual.result c.from_residual.ensures.1 in
    record {
      answers = rw (p.1, p.2) (reader_refuses c.args.job c.args.list.now c.args.table.now _ (refusing (rw c.in_err-declared.was at c.walk.ensures)));
      indexes = c.walk.ensures.indexes;
    }

pub returns-in_err-grant : goal.returns-in_err-grant
returns-in_err-grant c =
    let p = err_from_is_err_and c.from_residual-in_err-grant.result c.from_residual-in_err-grant.ensures.1 in
    let ready = reader_ready (rw c.in_ok-declared.was at c.walk.ensures) in
    record {
      answers = rw (p.1, p.2) (job_refuses c.args.job c.args.list.now c.args.table.now ready.indexed.reads _ (rw c.new-accepted.ensures at (sym c.in_err-grant.was ∙ c.grant.ensures)));
      indexes = c.walk.ensures.indexes;
    }

pub returns : goal.returns
returns c =
    let ready = reader_ready (rw c.in_ok-declared.was at c.walk.ensures) in
    record {
      answers = rw (← ready.declares) (job_grants c.args.job c.args.list.now c.args.table.now ready.indexed.reads _ (rw c.new-accepted.ensures at (sym c.in_ok-grant.was ∙ c.grant.ensures)));
      indexes = c.walk.ensures.indexes;
    }
