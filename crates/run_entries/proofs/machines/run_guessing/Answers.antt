-- `run_guessing` promises what `guess_entry` defines: the table is read and run under the directives.
use Rattle.run_entries.proofs.Promises.{guess_promise}
use mathlib.Core.Path.{refl}
use borrow.Author.Rules.{rules}
use Rattle.run_entries.proofs.machines.run_guessing.Goals as goal

pub returns : goal.returns
returns c = guess_promise c.run_on.ensures.ran (search rules) (search rules) (search rules) (search rules) refl
