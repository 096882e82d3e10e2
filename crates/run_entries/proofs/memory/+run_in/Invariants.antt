-- The measure: how many classes are larger.
use Rattle.reader.specs.Classes.{larger_classes}
use Rattle.run_entries.proofs.memory.+run_in.Given as goal

abbrev pub decreases-run_in : goal.decreases-run_in
decreases-run_in l = larger_classes l.class
