-- The measure: how many classes are larger.
use Rattle.reader.specs.Classes.{larger_classes}
use Rattle.write_entries.proofs.memory.+done_in.Given as goal

abbrev pub decreases-done_in : goal.decreases-done_in
decreases-done_in l = larger_classes l.class
