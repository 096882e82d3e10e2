-- Setting a mark's label puts one digit of its mask; that of the arrays stays within its 16.
use mathlib.Core.Path.{ap, ◌∙◌}
use Rattle.labels.specs.Labellings.{set_label}
use Rattle.labels.specs.Masks.{put_bit}
use Rattle.labels.proofs.Masks.{put_lt}
use borrow.Author.Rules.{rules}
use Rattle.analysis.proofs.labelling.Mark.set.Goals as goal

pub overflow_cast-labels : goal.overflow_cast-labels
overflow_cast-labels c =
    rw (c.put_digit.ensures, c.from.ensures)
    (record { fits = put_lt c.args.secret 16 c.args.labels.now.arrays c.in-Array.n (rw c.in-Array.is at c.requires) (search rules) })

pub returns-in-Variable : goal.returns-in-Variable
unfolding set_label
returns-in-Variable c =
    rw c.in-Variable.is (λ i. record { variables = c.put_digit-labels.ensures i; arrays = c.args.labels.now.arrays })

pub returns-in-Array : goal.returns-in-Array
unfolding set_label
returns-in-Array c =
    let put = c.put_digit.ensures ∙ ap (λ m. put_bit m c.in-Array.n c.args.secret) c.from.ensures in
    rw c.in-Array.is (λ i. record { variables = c.args.labels.now.variables; arrays = put i })
