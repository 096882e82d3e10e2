-- `guide` gives a step as the program has it on the plain board, and what the list has on the others.
use Rattle.std.proofs.Common.{sym}
use denote.Enum.Bare.{same_true, same_false}
use Rattle.machine.specs.contracts.Board.{the_type}
use Rattle.directives.proofs.Guides.{goes_plainly, guided_elsewhere}
use Rattle.directives.proofs.guide.guide.Goals as goal

pub returns-then-eq : goal.returns-then-eq
returns-then-eq c = goes_plainly _ _ c.requires _ (same_true the_type tt _ _ (sym c.if-eq.ensures))

pub returns : goal.returns
returns c = guided_elsewhere _ _ _ _ (same_false the_type _ _ (sym c.if-eq.ensures)) c.next_listed.ensures
