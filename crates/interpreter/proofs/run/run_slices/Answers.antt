-- A run begins at the root, goes on to its end, and leaves the pending list with zeros behind it and the open saves in their places.
use mathlib.Core.Path.{refl}
use borrow.Author.Rules.{rules}
use native.Mathlib.Omega.{arith}
use Rattle.bytes_le.proofs.Numbers.{slice_bytes}
use Rattle.interpreter.proofs.WholeRuns.{root_below, size_asked, places_asked, begun_at_root, pending_within, next_within, leave_asked, saves_kept, run_leaves}
use Rattle.interpreter.proofs.run.run_slices.Goals as goal

pub overflow_sub-nodes : goal.overflow_sub-nodes
overflow_sub-nodes c = (root_below c.count-nodes.ensures.admitted c.count-nodes.ensures.value c.requires).0

pub overflow_cast-nodes : goal.overflow_cast-nodes
overflow_cast-nodes c = record { fits = (root_below c.count-nodes.ensures.admitted c.count-nodes.ensures.value c.requires).1 }

pub put32-requires : goal.put32-requires
put32-requires c = (root_below c.count-nodes.ensures.admitted c.count-nodes.ensures.value c.requires).2

pub overflow_add-places : goal.overflow_add-places
overflow_add-places c = omega (arith, (size_asked c.count-nodes.ensures.admitted c.count-nodes.ensures.value c.requires refl).1)

pub go_on-stopped-requires : goal.go_on-stopped-requires
go_on-stopped-requires c = rw c.new.ensures (
  begun_at_root c.count-nodes.ensures.admitted c.count-nodes.ensures.value c.requires c.put32.ensures (omega arith),
  places_asked c.count-nodes.ensures.admitted c.count-nodes.ensures.value c.requires refl refl,
  refl,
)

pub next_word-next-requires : goal.next_word-next-requires
next_word-next-requires c = next_within c.count-nodes.ensures.admitted c.count-nodes.ensures.value c.requires c.put32.ensures (rw c.new.ensures at c.go_on-stopped.ensures.stopped) (search rules)

pub clear-requires : goal.clear-requires
clear-requires c = pending_within c.count-nodes.ensures.admitted c.count-nodes.ensures.value c.requires c.put32.ensures (rw c.new.ensures at c.go_on-stopped.ensures.stopped) (search rules)

pub leave_saves-requires : goal.leave_saves-requires
leave_saves-requires c =
    λ rolling. leave_asked c.count-nodes.ensures.admitted c.count-nodes.ensures.value c.requires c.put32.ensures (rw c.new.ensures at c.go_on-stopped.ensures.stopped) (search rules) (slice_bytes _ c.slice_known-11-1.given) rolling refl

pub returns : goal.returns
returns c =
    run_leaves c.count-nodes.ensures.admitted c.count-nodes.ensures.value c.requires c.put32.ensures (rw c.new.ensures at c.go_on-stopped.ensures.stopped) (search rules) (search rules) (search rules)
    (slice_bytes _ c.type_inv.variables) (slice_bytes _ c.type_inv.cells) (slice_bytes _ c.slice_known-9-1.given)
    (λ rolling. saves_kept c.count-nodes.ensures.admitted c.count-nodes.ensures.value c.requires c.put32.ensures (rw c.new.ensures at c.go_on-stopped.ensures.stopped) (search rules) (slice_bytes _ c.slice_known-11-1.given) rolling refl (c.leave_saves.ensures rolling))
    c.clear.ensures c.next_word-next.ensures c.numbers_of.ensures
