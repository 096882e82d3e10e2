-- The measures: a call on a child falls by 3, and one on the same children by 1.
use Rattle.std.proofs.Common.{◌+◌, ◌*◌, max}
use Rattle.copier.proofs.copies.+copies.Given as goal

abbrev pub decreases-copy_and : goal.decreases-copy_and
decreases-copy_and l = 3 * max l.left l.right + 2

abbrev pub decreases-copy_binary : goal.decreases-copy_binary
decreases-copy_binary l = 3 * max l.left l.right + 2

abbrev pub decreases-copy_choice : goal.decreases-copy_choice
decreases-copy_choice l = 3 * max l.condition (max l.yes l.no) + 2

abbrev pub decreases-copy_numeric : goal.decreases-copy_numeric
decreases-copy_numeric l = 3 * l.n

abbrev pub decreases-copy_pair : goal.decreases-copy_pair
decreases-copy_pair l = 3 * max l.left l.right + 1

abbrev pub decreases-copy_truth : goal.decreases-copy_truth
decreases-copy_truth l = 3 * l.n
