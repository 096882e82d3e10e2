-- `rollback_next` tells a rollback by its kind.
use Rattle.std.proofs.Common.{sym}
use denote.Enum.Bare.{same_true, same_false}
use Rattle.machine.specs.contracts.Board.{the_type}
use Rattle.directives.proofs.Guides.{rolls_elsewhere, rolls_by_kind}
use Rattle.directives.proofs.guide.rollback_next.Goals as goal

pub returns-then-eq : goal.returns-then-eq
returns-then-eq c = rolls_by_kind _ _ c.requires _ (same_true the_type tt _ _ (sym c.if-eq.ensures)) _ c.u16_at.ensures.0

pub returns-else-eq : goal.returns-else-eq
returns-else-eq c = rw c.if-eq.false (rolls_elsewhere _ _ c.requires _ (same_false the_type _ _ (sym c.if-eq.ensures)))
