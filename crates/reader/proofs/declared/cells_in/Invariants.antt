-- `cells_in`: at every turn the counts before this array's are added up.
use Prim.Native.Nat.{◌*◌, ◌≤◌}
use mathlib.Core.Path.{◌≡◌}
use lib.ListN.{take}
use Rattle.awhile.specs.Lists.{sum as total}
use Rattle.reader.specs.Index.{table_of}
use Rattle.reader.proofs.declared.cells_in.Given as goal

abbrev pub invariant-loop-a : goal.invariant-loop-a
invariant-loop-a l = (l.cells ≡ total (take l.a (table_of l.table).counts)) × (l.cells ≤ 65535 * l.a)
