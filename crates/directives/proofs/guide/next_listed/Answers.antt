-- `next_listed` gives the next directive, or says that there is none left.
use Rattle.std.proofs.lemmas.List.{take_rest}
use Rattle.directives.proofs.Guides.{runs_out, goes_by}
use Rattle.directives.proofs.guide.next_listed.Goals as goal

pub returns-in_err-directive : goal.returns-in_err-directive
returns-in_err-directive c = rw c.from_residual.ensures (runs_out _ _ c.requires (rw take_rest at c.in_err-directive.ensures))

pub returns : goal.returns
returns c = goes_by _ _ c.requires _ (rw take_rest at c.in_ok-directive.ensures) _ c.size_of-size.ensures
