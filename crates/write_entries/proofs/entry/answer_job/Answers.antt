-- `answer_job` answers what the job came to.
use mathlib.Core.Path.{refl}
use Rattle.write_entries.proofs.Doing.{done_answered}
use Rattle.write_entries.proofs.entry.answer_job.Goals as goal

pub returns-in-Err : goal.returns-in-Err
returns-in-Err c =
    let told = c.answer_refusal.ensures in
    done_answered c.args.answer.now c.done_in.ensures c.in-Err.is told.0 told.1

pub returns-in-Ok : goal.returns-in-Ok
returns-in-Ok c = done_answered c.args.answer.now c.done_in.ensures c.in-Ok.is refl c.answer_numbers.ensures
