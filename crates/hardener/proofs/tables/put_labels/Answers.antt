-- `put_labels` stores the fields, one behind the other.
use Prim.Native.Nat.{◌+◌}
use mathlib.Core.Path.{ap, ◌∙◌}
use lib.Seq.{sets}
use Rattle.bytes_le.specs.Numbers.{le}
use Rattle.hardener.proofs.TableWrites.{labels_stored}
use Rattle.hardener.proofs.tables.put_labels.Goals as goal

pub returns : goal.returns
returns c =
    let args = c.args in
    let arrays = ap (λ k. sets c.put_mask.new.out (args.at + 4 + c.mask_bytes.result) (le 2 k)) c.from.ensures in
    labels_stored args.labels args.version _ _ args.at args.out.now c.labels_bytes.ensures.0 c.mask_bytes.ensures.0
    c.put16.ensures c.put16-2.ensures c.put_mask.ensures (c.put16-3.ensures ∙ arrays)
