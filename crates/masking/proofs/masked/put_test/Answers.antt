-- `put_test` writes the flag, a number and their comparison.
use native.Mathlib.Omega.{arith}
use Rattle.copier.proofs.Writers.{wrote_as, wrote_front}
use Rattle.masking.proofs.Masking.{test_nodes, test_fits}
use Rattle.masking.proofs.masked.put_test.Goals as goal

pub append_all-requires : goal.append_all-requires
append_all-requires c = (omega arith, test_fits c.args.from c.args.flag c.args.value c.requires)

pub returns : goal.returns
returns c = wrote_as (wrote_front c.append_all.ensures) (test_nodes c.args.from c.args.flag c.args.value)
