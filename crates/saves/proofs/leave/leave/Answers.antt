-- `leave`: at every turn the places passed so far are cleared, and the others as they were.
use Prim.Native.Nat.{◌+◌, ◌≤◌}
use native.Mathlib.Omega.{arith}
use mathlib.Core.Path.{ap, ◌∙◌}
use lib.ListN.{length}
use Rattle.saves.proofs.Leaving.{eight_places, kept_few, length_left, left_none, left_more}
use Rattle.saves.proofs.leave.leave.Goals as goal

pub loop-k-init : goal.loop-k-init
loop-k-init c =
    let d = c.args in
    left_none d.heights.now d.count d.before d.nodes d.saves.now

pub overflow_add-from : goal.overflow_add-from
overflow_add-from c =
    let d = c.args in
    let keep : c.kept-keep.result ≤ d.before + d.nodes = rw c.kept-keep.ensures (kept_few d.heights.now d.count d.before d.nodes c.requires.few c.loop-k.k) in
    let within = eight_places (d.before + d.nodes) c.loop-k.k (length d.saves.now) c.loop-k-test.true c.requires.within in
    omega (arith, c.well_formed.0.0)

pub clear-requires : goal.clear-requires
clear-requires c =
    let d = c.args in
    let keep : c.kept-keep.result ≤ d.before + d.nodes = rw c.kept-keep.ensures (kept_few d.heights.now d.count d.before d.nodes c.requires.few c.loop-k.k) in
    let within = eight_places (d.before + d.nodes) c.loop-k.k (length d.saves.now) c.loop-k-test.true c.requires.within in
    let same = ap length c.loop-k.invariant ∙ length_left d.heights.now d.count d.before d.nodes c.loop-k.k d.saves.now in
    (omega arith, omega arith)

pub loop-k-preserved : goal.loop-k-preserved
loop-k-preserved c =
    let d = c.args in
    left_more d.heights.now d.count d.before d.nodes c.loop-k.k d.saves.now c.loop-k.saves _ c.kept-keep.result c.kept-keep.ensures c.loop-k.invariant c.clear.ensures
