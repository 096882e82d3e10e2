-- `put_refusal` stores four numbers one behind the other.
use Rattle.program.proofs.ProgramAnswers.{refusal_stored}
use Rattle.program.proofs.input.put_refusal.Goals as goal

pub returns : goal.returns
returns c = refusal_stored c.args.out.now c.args.refusal c.args.place c.put16.ensures c.put16-2.ensures c.put16-3.ensures c.put32.ensures
