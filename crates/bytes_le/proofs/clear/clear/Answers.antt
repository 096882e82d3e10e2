-- `clear` stores bytes that are 0.
use native.Mathlib.Omega.{arith}
use Rattle.bytes_le.proofs.Zeros.{part_cleared}
use Rattle.bytes_le.proofs.clear.clear.Goals as goal

pub returns : goal.returns
returns c = part_cleared c.args.bytes.now c.fill.new.self c.args.from c.args.to (omega arith) (c.fill.ensures.after (λ y same. same)) (omega arith)
