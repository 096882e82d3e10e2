-- `save` copies the three parts of a state, one behind the other.
use Rattle.saves.proofs.Copying.{saved_parts}
use Rattle.saves.proofs.place.save.Goals as goal

pub returns : goal.returns
returns c =
    saved_parts c.args.variables.now c.args.cells.now c.args.pending.now c.args.at c.args.height c.args.saves.now _ _ _
    c.copy.ensures c.copy-2.ensures c.copy-3.ensures
