-- `put_masks` stores two masks.
use Prim.Native.Nat.{◌+◌}
use mathlib.Core.Path.{sym, ap, ◌∙◌}
use lib.Seq.{sets}
use Rattle.bytes_le.specs.Numbers.{le}
use Rattle.bytes_le.proofs.Numbers.{length_le}
use Rattle.awhile.specs.Tables.{mask_bytes}
use Rattle.labels.specs.Sheet.{field_bytes}
use Rattle.sheets.proofs.Stored.{stored_then}
use Rattle.sheets.proofs.fields.put_masks.Goals as goal

pub returns : goal.returns
unfolding field_bytes
returns c =
    let args = c.args in
    let wide = c.mask_bytes.ensures.0 in
    stored_then (le (mask_bytes args.version) args.labels.variables) (le 2 args.labels.arrays) args.out.now args.at (args.at + c.mask_bytes.result)
    (ap (λ k. args.at + k) (length_le (mask_bytes args.version) args.labels.variables ∙ sym wide))
    c.put_mask.ensures (c.put16.ensures ∙ ap (λ k. sets c.put_mask.new.out (args.at + c.mask_bytes.result) (le 2 k)) c.from-arrays.ensures)
