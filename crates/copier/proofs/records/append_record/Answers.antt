-- `append_record` stores a record in the rest of the slice.
use Prim.Native.Nat.{◌+◌, ◌-◌, ◌≤◌}
use native.Mathlib.Omega.{arith}
use mathlib.Core.Path.{ap, ◌∙◌}
use lib.ListN.{length}
use borrow.Rule.Slice.PartMut.{put_mid}
use Rattle.copier.specs.Records.{record_bytes}
use Rattle.copier.proofs.NodeRecords.{record_length}
use Rattle.copier.proofs.Parts.{sets_rest}
use Rattle.copier.proofs.records.append_record.Goals as goal

pub returns : goal.returns
returns g c =
    let l = c.args.out.now in
    let at = c.args.so_far.bytes in
    let bytes = record_bytes c.args.record.kind c.args.record.fields in
    let room : at + length bytes ≤ length l = omega (arith, c.requires.fits, record_length c.args.record.kind c.args.record.fields) in
    record {
      stored = ap (put_mid at (length l - at) l) c.put_record-bytes.ensures.0 ∙ sets_rest l at bytes room;
      nodes_counted = c.add.ensures.0;
      bytes_counted = omega (arith, c.add.ensures.1, c.put_record-bytes.ensures.1);
    }
