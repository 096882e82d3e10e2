-- `put_bytes` stores the bytes of an array.
use Prim.Native.Nat.{◌+◌, ◌-◌}
use native.Mathlib.Omega.{arith}
use mathlib.Core.Path.{ap, ◌∙◌}
use lib.Seq.{sets}
use Rattle.bytes_le.proofs.Copies.{part_stored}
use Rattle.bytes_le.proofs.little_endian.put_bytes.Goals as goal

pub returns : goal.returns
returns g c =
    let d = c.args in
    let copied = c.copy_from_slice.ensures in
    part_stored d.out.now c.copy_from_slice.new.self d.at (d.at + g.row.N - d.at) copied.len (omega arith) ∙ ap (sets d.out.now d.at) copied.after
