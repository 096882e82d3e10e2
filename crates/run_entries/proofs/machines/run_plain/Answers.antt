-- `run_plain` promises what `run_entry` defines: the table is read and run without directives.
use Rattle.run_entries.proofs.Promises.{run_promise}
use mathlib.Core.Path.{refl}
use borrow.Author.Rules.{rules}
use Rattle.run_entries.proofs.machines.run_plain.Goals as goal

pub returns : goal.returns
returns c = run_promise c.run_on.ensures.ran (search rules) (search rules) (search rules) (search rules) refl refl
