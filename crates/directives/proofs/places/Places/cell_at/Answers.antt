-- The method `cell_at` asks by the starts that it keeps, which are its table's.
use Rattle.directives.proofs.places.Places.cell_at.Goals as goal

pub returns : goal.returns
returns c = rw (← c.self.view_is) (c.cell_at.ensures _ c.self.invariant.0)
