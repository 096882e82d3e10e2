-- `run_rolling` promises what `rollback_entry` defines: the table is read and run under the directives, and the open saves are left.
use Rattle.run_entries.proofs.Promises.{rollback_promise}
use mathlib.Core.Path.{refl}
use borrow.Author.Rules.{rules}
use Rattle.run_entries.proofs.machines.run_rolling.Goals as goal

pub returns : goal.returns
returns c = rollback_promise c.run_on.ensures.ran (search rules) (search rules) (search rules) (search rules) refl (search rules)
