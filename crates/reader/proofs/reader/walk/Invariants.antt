-- `walk`: at every turn the reader stands in the table, and what was read so far is known.
use Rattle.std.proofs.Common.{◌≡◌}
use Rattle.reader.specs.Walk.{Walking}
use Rattle.reader.proofs.reader.walk.Given as goal

abbrev pub invariant-loop-progress : goal.invariant-loop-progress
invariant-loop-progress l =
    (l.reader.table.now ≡ l.table) × Walking l.table l.reader.at l.progress l.index l.uses

abbrev pub decreases-loop-progress : goal.decreases-loop-progress
decreases-loop-progress l = l.progress.left
