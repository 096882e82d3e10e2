-- `walk` starts at the header, and ends where no record is left.
use native.Mathlib.Omega.{arith}
use mathlib.Core.Path.{refl}
use Rattle.std.proofs.lemmas.Result.{err_from_is_err_and}
use Rattle.reader.specs.Walk.{begun, at_header}
use Rattle.reader.proofs.Answering.{refuses, accepts}
use Rattle.reader.proofs.Turns.{walked_ready}
use Rattle.reader.proofs.reader.walk.Goals as goal

pub loop-progress-init : goal.loop-progress-init
unfolding begun
loop-progress-init c = (refl, at_header refl refl c.requires)

-- a record that is refused refuses the table
pub returns-in_err-progress : goal.returns-in_err-progress
returns-in_err-progress c =
    let p = err_from_is_err_and c.from_residual.result c.from_residual.ensures.1 in
    rw (p.1, p.2) (refuses _ _ _ (rw c.loop-progress.invariant.0 at (rw c.in_err-progress.was at c.record.ensures)))

pub returns : goal.returns
returns c = accepts (walked_ready _ _ _ _ _ c.loop-progress.invariant.1 (omega arith))
