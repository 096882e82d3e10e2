-- `copy`: at every turn the bytes passed so far stand in their place, and the others are as they were.
use Prim.Native.Nat.{◌+◌, ◌<◌}
use native.Mathlib.Omega.{arith}
use mathlib.Core.Path.{◌≡◌, refl, ap, ◌∙◌}
use lib.ListN.{length, take, drop}
use lib.Seq.{length-sets}
use Rattle.bytes_le.proofs.Copies.{copied_more}
use Rattle.bytes_le.proofs.copy.copy.Goals as goal

pub loop-i-init : goal.loop-i-init
loop-i-init c = refl

pub loop-i-preserved : goal.loop-i-preserved
loop-i-preserved c =
    let d = c.args in
    let i = c.loop-i.i in
    let inside : d.from + i < length d.src.now = omega arith in
    rw c.loop-i.invariant (copied_more d.src.now d.dst.now d.from d.to i inside)

pub returns : goal.returns
returns c =
    let end : c.loop-i.i ≡ c.args.n = omega arith in
    rw (← end) c.loop-i.invariant
