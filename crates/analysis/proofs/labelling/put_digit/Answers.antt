-- `put_digit` joins in a power of two, and takes it away again to clear the digit.
use native.Mathlib.Omega.{arith}
use Rattle.labels.proofs.Masks.{put_true, put_false, put_difference, shifted_one}
use Rattle.analysis.proofs.labelling.put_digit.Goals as goal

pub overflow_sub-result : goal.overflow_sub-result
overflow_sub-result c =
    let mask = c.args.mask in
    let n = c.args.n in
    rw (shifted_one n 64 c.requires) (omega (arith, put_true mask n, put_difference mask n))

pub returns-then-secret : goal.returns-then-secret
returns-then-secret c = rw (c.if-secret.true, shifted_one c.args.n 64 c.requires, put_true)

pub returns-else-secret : goal.returns-else-secret
returns-else-secret c = rw (c.if-secret.false, shifted_one c.args.n 64 c.requires, put_false)
