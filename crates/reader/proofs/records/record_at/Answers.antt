-- `record_at` reads the record that is due.
use Rattle.awhile.proofs.Accepted.{header_fits}
use Rattle.awhile.proofs.Versions.{variables_most}
use Rattle.reader.proofs.Turns.{header_ready, labels_ready, header_turn, labels_turn}
use Rattle.reader.proofs.records.record_at.Goals as goal

pub labels_due-requires : goal.labels_due-requires
labels_due-requires c =
    let k = labels_ready _ _ _ _ _ c.requires.1 c.requires.0 c.in-Labels.is in
    let f = header_fits _ c.args.progress.declared.header k.is_header in
    (k.here, variables_most _ _ f.variables_fit, f.arrays_fit, c.requires.1)

pub returns-in-Header : goal.returns-in-Header
returns-in-Header c =
    let w = c.requires in
    header_turn _ _ _ _ _ w.1 (header_ready _ _ _ _ _ w.1 w.0 c.in-Header.is) _ c.header_due.ensures

pub returns-in-Labels : goal.returns-in-Labels
returns-in-Labels c =
    let w = c.requires in
    labels_turn _ _ _ _ _ w.1 (labels_ready _ _ _ _ _ w.1 w.0 c.in-Labels.is) _ c.labels_due.ensures
