-- The analysis of commands: the answer and the notes of each are built from those of its parts, and a loop's passes settle.
use mathlib.Core.Bool.{◌||◌}
use mathlib.Core.Path.{◌≡◌, sym, ap, ◌∙◌}
use native.Mathlib.Omega.{arith}
use lib.ListN.{length, get_or, set}
use borrow.Author.Rules.{rules}
use Rattle.awhile.specs.Nodes.{sort_of}
use Rattle.reader.specs.Index.{nodes_in, truth_in, command_in, Single}
use Rattle.labels.specs.Labellings.{label_of_b, join, same}
use Rattle.labels.specs.Rules.{LabelsWithin}
use Rattle.analysis.specs.Notes.{blank, labels_of, note_in}
use Rattle.labels.specs.Annotation.{entered}
use Rattle.analysis.specs.Warm.{kept_in}
use Rattle.analysis.specs.Conditions.{label_at}
use Rattle.analysis.proofs.CommandNotes.{NotedAt}
use Rattle.analysis.proofs.CommandCases.{entry_noted, single_fits, single_answers, single_analysed}
use Rattle.analysis.proofs.CommandCases.{sequence_first, sequence_second, sequence_left, if_named, if_first, if_second, if_left}
use Rattle.analysis.proofs.CommandCases.{body_below, body_room, loop_settleable, loop_settled, loop_remembered, parts_of, command_note}
use Rattle.analysis.proofs.Settling.{passing_starts, passing_next, passing_falls, passing_ends, warm_answer}
use Prim.Native.Nat.{ℕ, ◌+◌, ◌*◌, ◌<◌}
use Rattle.analysis.proofs.commands.+commands.Goals as goal
use Rattle.analysis.proofs.commands.+commands.Goals.{analyse_if-After-new-entered, analyse_if-After-guarded-inner, analyse_loop-After-new-entered, analyse_sequence-After-new, settle-After-join-masks, settle-After-join-next}

-- a part is below the whole
below : {n k t : ℕ} → 3 * n + 1 ≡ t → k < n → 3 * k + 2 < t
below e h = omega arith

pub analyse-follow_single-requires : goal.analyse-follow_single-requires
analyse-follow_single-requires t c =
    let e = c.args.expressions.now in single_fits e.admitted e.names c.requires c.command-node.result c.command-node.ensures.value

-- a command without parts
pub analyse-returns-in_default : goal.analyse-returns-in_default
analyse-returns-in_default t c =
    let e = c.args.expressions.now in
    let node = c.command-node.result in
    let is = sym c.command-node.ensures.value in
    let sort = ap sort_of c.command-node.ensures.value ∙ c.requires.node.is_sort in
    let no = c.in_default in
    let other : Single node = record { no_sequence = no.not-Sequence; no_if = no.not-If; no_while = no.not-While } in
    single_analysed e.admitted e.names c.requires (entry_noted c.requires (ap (set _ _) c.new-entered.ensures)) node is sort other
    (single_answers e.admitted e.names c.requires node is sort other c.follow_single.ensures)

module _ {t : ℕ} (c : analyse_if-After-new-entered t) where
  if-noted : NotedAt c.args.n c.args.context c.args.labels.now c.args.notes.now (set c.args.notes.now c.args.n c.new-entered.result)
  if-noted = entry_noted c.requires.0 (ap (set _ _) c.new-entered.ensures)

  if-inside : c.args.condition < nodes_in c.args.expressions.now.table.now
  if-inside = let e = c.args.expressions.now in if_named e.admitted e.names c.requires.0 c.requires.1

pub analyse_if-guarded-inner-requires : goal.analyse_if-guarded-inner-requires
analyse_if-guarded-inner-requires t c = if-inside c

module _ {t : ℕ} (c : analyse_if-After-guarded-inner t) where
  if-guard : c.guarded-inner.result ≡ (label_at c.args.expressions.now.named.now c.args.labels.now c.args.condition || c.args.context)
  if-guard = rw c.new-entered.ensures at c.guarded-inner.ensures

pub analyse_if-analyse-requires : goal.analyse_if-analyse-requires
analyse_if-analyse-requires t c =
    let at = goal.at.analyse_if-analyse-requires t c in
    let e = c.args.expressions.now in let pre = c.requires in
    (below c.decreases (parts_of e.admitted e.names pre.0 _ pre.1).1.below, if_first e.admitted e.names pre.0 pre.1 (if-guard at.After-guarded-inner) (if-noted at.After-new-entered))

pub analyse_if-analyse-requires-2 : goal.analyse_if-analyse-requires-2
analyse_if-analyse-requires-2 t c =
    let at = goal.at.analyse_if-analyse-requires-2 t c in
    let e = c.args.expressions.now in let pre = c.requires in
    (below c.decreases (parts_of e.admitted e.names pre.0 _ pre.1).2.below, if_second e.admitted e.names pre.0 pre.1 (if-guard at.After-guarded-inner) (if-noted at.After-new-entered) c.analyse.ensures c.analyse.auto.notes)

pub analyse_if-returns : goal.analyse_if-returns
analyse_if-returns t c =
    let at = goal.at.analyse_if-returns t c in
    let e = c.args.expressions.now in let pre = c.requires in
    if_left e.admitted e.names pre.0 pre.1 (if-guard at.After-guarded-inner) (if-noted at.After-new-entered) c.analyse.ensures c.analyse-2.ensures c.join.ensures

module _ {t : ℕ} (c : analyse_loop-After-new-entered t) where
  loop-noted : NotedAt c.args.n c.args.context c.args.labels.now c.args.notes.now (set c.args.notes.now c.args.n c.new-entered.result)
  loop-noted = entry_noted c.requires.0 (ap (set _ _) c.new-entered.ensures)

  loop-inside : c.args.body < length c.args.notes.now
  loop-inside = let e = c.args.expressions.now in body_room e.admitted e.names c.requires.0 c.requires.1

pub analyse_loop-offset_bounds-notes-body : goal.analyse_loop-offset_bounds-notes-body
analyse_loop-offset_bounds-notes-body t c =
    let inside = loop-inside (goal.at.analyse_loop-offset_bounds-notes-body t c).After-new-entered in
    omega (arith, inside)

pub analyse_loop-slice_copy_out-labels : goal.analyse_loop-slice_copy_out-labels
analyse_loop-slice_copy_out-labels t c = loop-inside (goal.at.analyse_loop-slice_copy_out-labels t c).After-new-entered

pub analyse_loop-returns-then-eq : goal.analyse_loop-returns-then-eq
unfolding note_in
analyse_loop-returns-then-eq t c =
    let e = c.args.expressions.now in
    let equal : get_or c.args.notes.now c.args.n blank ≡ c.new-entered.result = search rules in
    loop_remembered e.admitted e.names c.requires.0 c.requires.1 (ap (λ m. entered c.args.n m.context (labels_of m)) (equal ∙ c.new-entered.ensures)) c.labels.ensures

pub analyse_loop-settle-requires : goal.analyse_loop-settle-requires
analyse_loop-settle-requires t c =
    let at = (goal.at.analyse_loop-settle-requires t c).After-new-entered in
    let e = c.args.expressions.now in
    let low = body_below e.admitted e.names c.requires.0 c.requires.1 in
    (omega (arith, c.decreases, low), loop_settleable e.admitted e.names c.requires.0 c.requires.1 (loop-noted at))

pub analyse_loop-returns : goal.analyse_loop-returns
analyse_loop-returns t c =
    let at = (goal.at.analyse_loop-returns t c).After-new-entered in
    let e = c.args.expressions.now in
    loop_settled e.admitted e.names c.requires.0 c.requires.1 (loop-noted at) c.settle.ensures

module _ {t : ℕ} (c : analyse_sequence-After-new t) where
  sequence-noted : NotedAt c.args.n c.args.context c.args.labels.now c.args.notes.now (set c.args.notes.now c.args.n c.new.result)
  sequence-noted = entry_noted c.requires.0 (ap (set _ _) c.new.ensures)

pub analyse_sequence-analyse-requires : goal.analyse_sequence-analyse-requires
analyse_sequence-analyse-requires t c =
    let at = (goal.at.analyse_sequence-analyse-requires t c).After-new in
    let e = c.args.expressions.now in let pre = c.requires in
    (below c.decreases (parts_of e.admitted e.names pre.0 _ pre.1).0.below, sequence_first e.admitted e.names pre.0 pre.1 (sequence-noted at))

pub analyse_sequence-analyse-requires-2 : goal.analyse_sequence-analyse-requires-2
analyse_sequence-analyse-requires-2 t c =
    let at = (goal.at.analyse_sequence-analyse-requires-2 t c).After-new in
    let e = c.args.expressions.now in let pre = c.requires in
    (below c.decreases (parts_of e.admitted e.names pre.0 _ pre.1).1.below, sequence_second e.admitted e.names pre.0 pre.1 (sequence-noted at) c.analyse.ensures c.analyse.auto.notes)

pub analyse_sequence-returns : goal.analyse_sequence-returns
analyse_sequence-returns t c =
    let at = (goal.at.analyse_sequence-returns t c).After-new in
    let e = c.args.expressions.now in
    sequence_left e.admitted e.names c.requires.0 c.requires.1 (sequence-noted at) c.analyse.ensures c.analyse-2.ensures

module _ {t : ℕ} (c : settle-After-join-masks t) where
  starts-warm : c.join-masks.result ≡ join c.args.labels.now (kept_in c.args.notes.now (command_in c.args.expressions.now.table.now c.args.body))
  unfolding kept_in note_in
  starts-warm =
      let own = command_note c.args.expressions.now.admitted c.requires.node in
      c.join-masks.ensures ∙ ap (join c.args.labels.now) (c.labels-kept.ensures ∙ ap (λ k. (note_in c.args.notes.now k).labelling) (sym own))

pub settle-loop-next-init : goal.settle-loop-next-init
settle-loop-next-init t c =
    passing_starts _ _ _ _ _ c.requires.kept (starts-warm c)
    (record { variable_mask = omega (arith, c.join-masks.type_inv); array_mask = omega (arith, c.join-masks.type_inv) }) c.requires.in_order

module _ {t : ℕ} (c : settle-After-join-next t) where
  pass-context : c.guarded-inner.result ≡ (label_of_b c.loop-next.masks (truth_in c.args.expressions.now.table.now c.args.condition) || c.args.context)
  pass-context = rw c.new.ensures at c.guarded-inner.ensures ∙ ap (λ b. b || c.args.context) (c.requires.test c.loop-next.masks)

  pass-within : LabelsWithin 64 16 c.join-next.result
  pass-within = record { variable_mask = omega (arith, c.join-next.type_inv); array_mask = omega (arith, c.join-next.type_inv) }

pub settle-loop-next-smaller : goal.settle-loop-next-smaller
unfolding same
settle-loop-next-smaller t c =
    let at = (goal.at.settle-loop-next-smaller t c).After-join-next in
    passing_falls _ _ _ c.loop-next.invariant (pass-context at) c.analyse.ensures c.join-next.ensures (pass-within at) (sym c.eq.ensures ∙ c.if-eq.false)

pub settle-loop-next-preserved : goal.settle-loop-next-preserved
settle-loop-next-preserved t c =
    let at = (goal.at.settle-loop-next-preserved t c).After-join-next in
    passing_next _ _ _ c.loop-next.invariant (pass-context at) c.analyse.ensures c.join-next.ensures (pass-within at) c.analyse.auto.notes

-- what a pass leaves as it was is the answer
pub settle-returns : goal.settle-returns
unfolding same
settle-returns t c =
    let at = goal.at.settle-returns t c in
    passing_ends _ _ _ c.loop-next.invariant (pass-context at.After-join-next) c.analyse.ensures c.join-next.ensures
    (warm_answer _ _ _ _ _ c.requires.kept (starts-warm at.After-join-masks)) (sym c.eq.ensures ∙ c.if-eq.true)
