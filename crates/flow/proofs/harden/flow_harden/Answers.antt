-- `flow_harden` is the job of the hardened form.
use Rattle.bytes_le.proofs.Numbers.{slice_bytes}
use Rattle.write_entries.proofs.Promises.{hardened_promised}
use Rattle.flow.proofs.harden.flow_harden.Goals as goal

pub returns : goal.returns
returns c =
    let args = c.args in
    let table = args.table.now in
    hardened_promised table _ args.out.now args.answer.now (slice_bytes table c.shared_slice_known-1.given) c.answer_job.ensures
