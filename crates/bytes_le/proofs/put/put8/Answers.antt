-- What a number has above its lowest bytes does not count.
use mathlib.Core.Path.{ap, ◌∙◌}
use lib.Seq.{sets}
use Rattle.bytes_le.proofs.Stores.{le_low}
use Rattle.bytes_le.proofs.put.put8.Goals as goal

pub returns : goal.returns
returns c = c.store.ensures ∙ ap (sets c.args.out.now c.args.at) (le_low 1 c.args.v)
