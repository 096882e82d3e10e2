-- `put_value_mask` writes the guard, the variable, their choice and the assignment.
use native.Mathlib.Omega.{arith}
use Rattle.copier.proofs.Writers.{wrote_as, wrote_all}
use Rattle.masking.proofs.Masking.{value_nodes, value_fits}
use Rattle.masking.proofs.masked.put_value_mask.Goals as goal

pub append_all-requires : goal.append_all-requires
append_all-requires c = (omega arith, value_fits c.args.from c.args.flag c.args.variable c.requires c.put_guard-guard.ensures)

pub returns : goal.returns
returns c = wrote_as (wrote_all c.put_guard-guard.ensures c.append_all.ensures) (value_nodes c.args.from c.args.flag c.args.variable)
