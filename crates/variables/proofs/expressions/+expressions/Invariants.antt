-- The measures: three times a node's number leaves room between a node and its children for the one or two calls that have them labelled.
use Rattle.std.proofs.Common.{◌+◌, ◌*◌, max}
use Rattle.variables.proofs.expressions.+expressions.Given as goal

abbrev pub decreases-choice_variables : goal.decreases-choice_variables
decreases-choice_variables l = 3 * max l.condition (max l.yes l.no) + 3

abbrev pub decreases-both_variables : goal.decreases-both_variables
decreases-both_variables l = 3 * max l.left l.right + 2

abbrev pub decreases-numeric_variables : goal.decreases-numeric_variables
decreases-numeric_variables l = 3 * l.n + 1

abbrev pub decreases-product_variables : goal.decreases-product_variables
decreases-product_variables l = 3 * max l.left l.right + 3

abbrev pub decreases-truth_variables : goal.decreases-truth_variables
decreases-truth_variables l = 3 * l.n + 1
