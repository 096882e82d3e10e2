-- `name_all` notes the expressions of one command after the other, and passes what is no command.
use native.Mathlib.Omega.{arith}
use mathlib.Core.Bool.{true≢false}
use mathlib.Core.Path.{sym, ap, subst, ◌∙◌}
use Rattle.awhile.specs.Nodes.{sort_of, same_sort}
use Rattle.awhile.specs.declared.Sort.TheVariants.{Command}
use Rattle.awhile.proofs.Children.{same_sort_true}
use Rattle.reader.specs.Index.{node_in}
use Rattle.variables.specs.Named.{NamedBelow}
use Rattle.variables.proofs.Naming.{names_next, names_skip}
use Rattle.variables.proofs.collecting.name_all.Goals as goal
use Rattle.variables.proofs.collecting.name_all.Goals.{then-is_command, else-is_command}

pub loop-n-init : goal.loop-n-init
loop-n-init c = record { at = λ k e less sort m. absurd (omega arith) }

pub name_command-requires : goal.name_command-requires
name_command-requires c = (
  record {
    inside = omega (arith, c.loop-n-test.true, c.count-n-end.ensures.value);
    is_sort = same_sort_true (sort_of (node_in c.args.table.now c.loop-n.n)) Command (sym c.is_command.ensures.value ∙ c.if-is_command.true);
  },
  omega (arith, c.requires, c.loop-n.auto.named),
)

pub loop-n-preserved : goal.loop-n-preserved
unfolding same_sort
loop-n-preserved c =
    let below = c.loop-n.invariant in
    elim c.if-is_command.branch [
      | then-is_command w ↦ rw w.named-is (names_next below w.name_command.ensures)
      | else-is_command w ↦
          rw w.named-is
          (names_skip below (λ e. true≢false (ap (λ s. same_sort s Command) (sym e) ∙ sym c.is_command.ensures.value ∙ w.if-is_command.false)))
    ]

pub returns-clause-names : goal.returns-clause-names
returns-clause-names c =
    record {
      room = omega (arith, c.requires, c.loop-n.auto.named);
      all = subst (NamedBelow c.args.table.now c.loop-n.named) (omega (arith, c.count-n-end.ensures.value, c.loop-n-test.false, c.loop-n.auto.n-end)) c.loop-n.invariant;
    }
