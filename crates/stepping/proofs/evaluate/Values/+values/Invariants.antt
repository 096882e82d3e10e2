-- The measures: twice a node's number leaves room between a node and its children for the call that has them evaluated.
use Rattle.std.proofs.Common.{◌+◌, ◌*◌, max}
use Rattle.stepping.proofs.evaluate.Values.+values.Given as goal

abbrev pub decreases-both_true : goal.decreases-both_true
decreases-both_true l = 2 * max l.left l.right + 2

abbrev pub decreases-both_values : goal.decreases-both_values
decreases-both_values l = 2 * max l.left l.right + 2

abbrev pub decreases-chosen : goal.decreases-chosen
decreases-chosen l = 2 * max l.condition (max l.yes l.no) + 2

abbrev pub decreases-is_false : goal.decreases-is_false
decreases-is_false l = 2 * l.part + 2

abbrev pub decreases-truth : goal.decreases-truth
decreases-truth l = 2 * l.n + 1

abbrev pub decreases-value : goal.decreases-value
decreases-value l = 2 * l.n + 1
