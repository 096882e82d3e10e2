-- `version_for` makes two tests.
use mathlib.Core.Logic.{inl, inr}
use borrow.Author.Tests.{eq-eqb, ne_eqb}
use Rattle.masks.specs.Hardening.{version_for}
use Rattle.hardener.proofs.tables.version_for.Goals as goal

pub returns-then-variables-eq33 : goal.returns-then-variables-eq33
unfolding version_for
returns-then-variables-eq33 c =
    elim c.if-variables-eq33.either [
      | inl e ↦ rw (eq-eqb _ 2 e)
      | inr e ↦ rw (ne_eqb _ 2 e.0, eq-eqb _ 33 e.1)
    ]

pub returns-else-variables-eq33 : goal.returns-else-variables-eq33
unfolding version_for
returns-else-variables-eq33 c = let none = c.if-variables-eq33.false in rw (ne_eqb _ 2 none.0, ne_eqb _ 33 none.1)
