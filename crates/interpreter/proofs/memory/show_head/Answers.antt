-- `show_head` writes a record's length and kind.
use mathlib.Core.Path.{refl, ◌∙◌}
use Rattle.interpreter.proofs.Effects.{stored_then}
use Rattle.interpreter.proofs.memory.show_head.Goals as goal

pub returns : goal.returns
returns c = (rw c.number.ensures at c.put16-2.ensures) ∙ stored_then 2 c.args.size _ _ _ _ _ refl c.put16.ensures
