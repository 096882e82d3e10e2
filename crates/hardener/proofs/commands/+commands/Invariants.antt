-- The measures: four times a node's number leaves room between a node and its children for the calls that have them hardened.
use Rattle.std.proofs.Common.{◌+◌, ◌*◌, max}
use Rattle.hardener.proofs.commands.+commands.Given as goal

abbrev pub decreases-harden_command : goal.decreases-harden_command
decreases-harden_command l = 4 * l.n + 1

abbrev pub decreases-harden_if : goal.decreases-harden_if
decreases-harden_if l = 4 * max l.first l.second + 4

abbrev pub decreases-harden_loop : goal.decreases-harden_loop
decreases-harden_loop l = 4 * l.body + 3

abbrev pub decreases-harden_sequence : goal.decreases-harden_sequence
decreases-harden_sequence l = 4 * max l.first l.second + 4

abbrev pub decreases-harden_side : goal.decreases-harden_side
decreases-harden_side l = 4 * l.side + 2

abbrev pub decreases-harden_sides : goal.decreases-harden_sides
decreases-harden_sides l = 4 * max l.first l.second + 3

abbrev pub decreases-harden_while : goal.decreases-harden_while
decreases-harden_while l = 4 * l.body + 4
