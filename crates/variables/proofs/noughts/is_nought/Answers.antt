-- `is_nought` looks at the node itself.
use mathlib.Core.Path.{refl, sym, ap, ◌∙◌}
use Rattle.awhile.specs.Nodes.{sort_of}
use Rattle.labels.specs.Labellings.{is_nought}
use Rattle.reader.proofs.Admitted.{parts}
use Rattle.variables.proofs.ExpressionNodes.{no_nought}
use Rattle.variables.proofs.noughts.is_nought.Goals as goal

pub returns-in-Number : goal.returns-in-Number
unfolding is_nought
returns-in-Number c = sym (ap is_nought (parts c.numeric.ensures.admitted c.requires.inside c.numeric.ensures.value _ c.in-Number.is))

pub returns-in_default : goal.returns-in_default
returns-in_default c =
    no_nought c.args.table.now c.args.n c.numeric.result (ap sort_of c.numeric.ensures.value ∙ c.requires.is_sort) c.in_default.not-Number
    (parts c.numeric.ensures.admitted c.requires.inside c.numeric.ensures.value c.numeric.result refl)
