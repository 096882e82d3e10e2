-- `reads`: at every turn the rest of the list reads exactly when the whole list does.
use Rattle.std.proofs.Common.{◌≤◌, length, sym, ◌∙◌, arith, length-drop, eqb-true, pos_of_ne-zero}
use borrow.Author.Tests.{eqb-false}
use Rattle.std.proofs.lemmas.List.{take_rest}
use Rattle.directives.proofs.DirectiveLists.{size_some, size_within}
use Rattle.directives.proofs.Boards.{on_end, on_next, on_refused}
use Rattle.directives.proofs.list.reads.Goals as goal

pub returns-in_default : goal.returns-in_default
returns-in_default c = sym (on_refused c.args.board _ (pos_of_ne-zero (eqb-false _ 0 (sym c.loop-rest-test.ensures))) c.in_default.ensures) ∙ c.loop-rest.invariant

pub returns-then-not-takes : goal.returns-then-not-takes
returns-then-not-takes c = sym (on_next c.args.board _ _ c.in-Some.ensures ∙ rw (← c.takes.ensures, c.if-not-takes.true)) ∙ c.loop-rest.invariant

pub slice_bounds-rest-count : goal.slice_bounds-rest-count
slice_bounds-rest-count c = omega (arith, c.size_of.ensures, size_within _ _ c.in-Some.ensures)

pub slice_bounds-rest-start : goal.slice_bounds-rest-start
slice_bounds-rest-start c = let within : c.size_of.result ≤ length c.loop-rest.rest.now = omega (arith, c.size_of.ensures, size_within _ _ c.in-Some.ensures) in omega arith

pub loop-rest-smaller : goal.loop-rest-smaller
loop-rest-smaller c =
    let within : c.size_of.result ≤ length c.loop-rest.rest.now = omega (arith, c.size_of.ensures, size_within _ _ c.in-Some.ensures) in
    rw take_rest (omega (arith, length-drop c.size_of.result c.loop-rest.rest.now, c.size_of.ensures, size_some c.in-Some.directive))

pub loop-rest-preserved : goal.loop-rest-preserved
loop-rest-preserved c =
    rw (take_rest, c.size_of.ensures) (sym (on_next c.args.board _ _ c.in-Some.ensures ∙ rw (← c.takes.ensures, c.if-not-takes.false)) ∙ c.loop-rest.invariant)

pub returns : goal.returns
returns c = sym (on_end c.args.board _ (eqb-true _ 0 (sym c.loop-rest-test.ensures))) ∙ c.loop-rest.invariant
