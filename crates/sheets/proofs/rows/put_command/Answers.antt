-- `put_command` writes the record of each kind of command.
use native.Mathlib.Omega.{arith}
use Rattle.sheets.proofs.FieldLengths.{masks_short, label_short, labels_short, label_masks_short}
use Rattle.sheets.proofs.SheetNodes.{sequence_row, if_row, while_row, read_row, write_row, no_row, one_put, none_put}
use Rattle.sheets.proofs.rows.put_command.Goals as goal

pub put_record-requires : goal.put_record-requires
put_record-requires c = (omega arith, let short = masks_short c.version_of-version.result c.args.n c.labels.result in omega (arith, short, c.requires.1))

pub put_record-requires-in-If : goal.put_record-requires-in-If
put_record-requires-in-If c = (omega arith, let short = label_short c.version_of-version.result c.args.n c.label.result in omega (arith, short, c.requires.1))

pub put_record-requires-in-While : goal.put_record-requires-in-While
put_record-requires-in-While c =
    (omega arith, let short = label_masks_short c.version_of-version.result c.args.n c.label-in-While.result c.labels-in-While.result in omega (arith, short, c.requires.1))

pub put_record-requires-in-Read : goal.put_record-requires-in-Read
put_record-requires-in-Read c =
    (omega arith, let short = labels_short c.version_of-version.result c.args.n c.read_label.result c.label-in-Read.result in omega (arith, short, c.requires.1))

pub put_record-requires-in-Write : goal.put_record-requires-in-Write
put_record-requires-in-Write c = (omega arith, let short = label_short c.version_of-version.result c.args.n c.label-in-Write.result in omega (arith, short, c.requires.1))

pub returns-in-Sequence : goal.returns-in-Sequence
returns-in-Sequence c =
    let of = c.args.labelled.now.expressions in
    one_put _ _ _ c.version_of-version.ensures
    (sequence_row c.args.labelled.now.notes.now of.admitted of.names c.requires.0 c.in-Sequence.ensures.value c.labels.ensures) c.put_record.ensures

pub returns-in-If : goal.returns-in-If
returns-in-If c =
    let of = c.args.labelled.now.expressions in
    one_put _ _ _ c.version_of-version.ensures
    (if_row c.args.labelled.now.notes.now of.admitted of.names c.requires.0 c.in-If.ensures.value c.label.ensures) c.put_record-in-If.ensures

pub returns-in-While : goal.returns-in-While
returns-in-While c =
    let of = c.args.labelled.now.expressions in
    one_put _ _ _ c.version_of-version.ensures
    (while_row c.args.labelled.now.notes.now of.admitted of.names c.requires.0 c.in-While.ensures.value c.label-in-While.ensures c.labels-in-While.ensures)
    c.put_record-in-While.ensures

pub returns-in-Read : goal.returns-in-Read
returns-in-Read c =
    let of = c.args.labelled.now.expressions in
    one_put _ _ _ c.version_of-version.ensures
    (read_row c.args.labelled.now.notes.now of.admitted of.names c.requires.0 c.in-Read.ensures.value c.read_label.ensures c.label-in-Read.ensures)
    c.put_record-in-Read.ensures

pub returns-in-Write : goal.returns-in-Write
returns-in-Write c =
    let of = c.args.labelled.now.expressions in
    one_put _ _ _ c.version_of-version.ensures
    (write_row c.args.labelled.now.notes.now of.admitted of.names c.requires.0 c.in-Write.ensures.value c.label-in-Write.ensures)
    c.put_record-in-Write.ensures

pub returns-in_default : goal.returns-in_default
returns-in_default c =
    let of = c.args.labelled.now.expressions in
    none_put _ _ _
    (no_row c.args.labelled.now.notes.now of.admitted of.names c.requires.0 c.command.ensures.value
    (c.in_default.not-Sequence, c.in_default.not-If, c.in_default.not-While, c.in_default.not-Read, c.in_default.not-Write))
