-- `put_mask` stores four bytes or eight.
use native.Mathlib.Omega.{arith}
use mathlib.Core.Path.{ap, ◌∙◌}
use lib.Seq.{sets}
use Rattle.awhile.proofs.Versions.{mask_one, mask_other}
use Rattle.bytes_le.proofs.Stores.{le_four}
use Rattle.record.proofs.mask.put_mask.Goals as goal

pub put32-requires : goal.put32-requires
put32-requires c =
    omega (arith, c.requires, mask_one c.args.version c.if-version-eq1.true)

pub put64-requires : goal.put64-requires
put64-requires c =
    omega (arith, c.requires, mask_other c.args.version c.if-version-eq1.false)

pub returns-then-version-eq1 : goal.returns-then-version-eq1
returns-then-version-eq1 c =
    let args = c.args in
    rw (mask_one args.version c.if-version-eq1.true)
    (c.put32.ensures ∙ ap (sets args.out.now args.at) (le_four args.mask))

pub returns-else-version-eq1 : goal.returns-else-version-eq1
returns-else-version-eq1 c =
    let args = c.args in
    rw (mask_other args.version c.if-version-eq1.false) c.put64.ensures
