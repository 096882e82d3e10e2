-- `cut_off` reads the last bytes and 0 for the others.
use Prim.Native.Nat.{◌+◌, ◌<◌}
use native.Mathlib.Omega.{arith}
use mathlib.Core.Path.{◌≡◌, sym, ◌∙◌}
use lib.ListN.{length, get_or, length-set, get_or-eq_default}
use Rattle.std.proofs.Common.{◌≢◌, below_more, get_or-set_other, get_or-set_same}
use Rattle.bytes_le.proofs.Padded.{le_at_front}
use Rattle.bytes_le.proofs.get.cut_off.Goals as goal
use Rattle.bytes_le.proofs.get.cut_off.Goals.{then-i-left, else-i-left}

pub loop-i-preserved : goal.loop-i-preserved
loop-i-preserved g c =
    let s = c.args.s.now in
    let i = c.loop-i.i in
    let so = c.loop-i.invariant in
    let sizes = g.met.T.LittleEndian.sizes in
    let room : i < length c.loop-i.bytes = omega (arith, sizes.1, c.loop-i-test.true, c.WIDTH-i-end.ensures, so.0) in
    let byte : c.if-i-left.byte ≡ get_or s (c.args.at + i) 0 =
    elim c.if-i-left.branch [
      | then-i-left w ↦ w.byte-is
      | else-i-left w ↦ w.byte-is ∙ sym (get_or-eq_default s 0 {n = c.args.at + i} (omega arith))
    ]
    in (
      rw length-set so.0,
      below_more _ _ (λ k h. let other : k ≢ i = omega arith in rw get_or-set_other (so.1 k h)) (rw get_or-set_same byte),
    )

pub returns : goal.returns
returns g c =
    c.load.ensures
    ∙ le_at_front g.T.LittleEndian.WIDTH c.loop-i.bytes c.args.s.now c.args.at (λ k h. c.loop-i.invariant.1 k (omega arith))
