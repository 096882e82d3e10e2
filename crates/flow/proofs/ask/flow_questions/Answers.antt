-- `flow_questions` is the job of the answers.
use Rattle.bytes_le.proofs.Numbers.{slice_bytes}
use Rattle.write_entries.proofs.Promises.{answers_promised}
use Rattle.flow.proofs.ask.flow_questions.Goals as goal

pub returns : goal.returns
returns c =
    let args = c.args in
    let table = args.table.now in
    answers_promised table args.questions.now args.labels.now args.answer.now (slice_bytes table c.shared_slice_known-1.given) c.answer_job.ensures
