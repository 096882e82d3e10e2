-- `digit` shifts a mask; from 64 up no digit is set.
use mathlib.Core.Path.{sym, ◌∙◌}
use native.Mathlib.Omega.{arith}
use Rattle.labels.proofs.Masks.{bit_shift, bit_above}
use borrow.Author.Rules.{rules}
use borrow.Author.Tests.{le-ltb}
use Rattle.analysis.proofs.labelling.digit.Goals as goal

pub returns-then-n-lt64 : goal.returns-then-n-lt64
returns-then-n-lt64 c = sym (bit_shift c.args.mask c.args.n)

pub returns-else-n-lt64 : goal.returns-else-n-lt64
returns-else-n-lt64 c = le-ltb _ _ c.if-n-lt64.false ∙ sym (bit_above 64 c.args.mask c.args.n (search rules) (omega arith))
