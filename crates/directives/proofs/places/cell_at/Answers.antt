-- `cell_at` finds the place of a cell where the index is below the array's count.
use Rattle.directives.proofs.CellPlaces.{cell_undeclared, cell_found, cell_missing}
use Rattle.directives.proofs.places.cell_at.Goals as goal

pub returns-then-array-ge-MAX_ARRAYS : goal.returns-then-array-ge-MAX_ARRAYS
returns-then-array-ge-MAX_ARRAYS c = λ counts at. cell_undeclared counts _ at _ _ c.if-array-ge-MAX_ARRAYS.true

pub returns-then-place-from : goal.returns-then-place-from
returns-then-place-from c = λ counts at.
    rw c.from.ensures (cell_found counts _ at _ _ c.if-array-ge-MAX_ARRAYS.false (rw (c.from.ensures, c.from-2.ensures) at c.if-place-from.true))

pub returns-else-place-from : goal.returns-else-place-from
returns-else-place-from c = λ counts at.
    cell_missing counts _ at _ _ c.if-array-ge-MAX_ARRAYS.false (rw (c.from.ensures, c.from-2.ensures) at c.if-place-from.false)
