-- `find_starts`: at every turn the starts noted so far are the sums of the counts before them.
use Rattle.std.proofs.Common.{◌≡◌, take}
use Rattle.awhile.specs.Lists.{sum as total}
use Rattle.reader.specs.Index.{table_of}
use Rattle.directives.proofs.CellPlaces.{StartsTo}
use Rattle.directives.proofs.places.find_starts.Given as goal

abbrev pub invariant-loop-a : goal.invariant-loop-a
invariant-loop-a l = (l.sum ≡ total (take l.a (table_of l.table).counts)) × StartsTo (table_of l.table).counts l.starts l.a
