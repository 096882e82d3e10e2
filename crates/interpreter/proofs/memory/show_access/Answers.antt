-- `show_access` writes a read's or a write's record.
use Rattle.interpreter.proofs.Effects.{stored_access}
use Rattle.interpreter.proofs.memory.show_access.Goals as goal

pub returns : goal.returns
returns c = stored_access _ _ _ _ _ _ _ _ c.show_head.ensures c.put16.ensures c.put32.ensures
