-- `put_counts` stores the array records that are done so far.
use mathlib.Core.List.{flat_map}
use mathlib.Core.Path.{◌≡◌}
use lib.ListN.{take}
use lib.Seq.{sets}
use Rattle.awhile.specs.Encoding.{count_bytes}
use Rattle.awhile.specs.Tables.{counts_start}
use Rattle.reader.specs.Index.{table_of}
use Rattle.hardener.proofs.tables.put_counts.Given as goal

abbrev pub invariant-loop-a : goal.invariant-loop-a
invariant-loop-a l = l.out ≡ sets l.initial.out (counts_start l.to) (flat_map count_bytes (take l.a (table_of l.table).counts))
