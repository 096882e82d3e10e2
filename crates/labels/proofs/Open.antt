-- A theorem that says `unfolding opened` computes with every definition of this crate and of the crates below it.
use Rattle.awhile.proofs.Open.{opened as opened-below}
use Rattle.labels.specs.Masks.{bit, put_bit}
use Rattle.labels.specs.Labellings.{label_of, set_label, join, same, is_nought, times_nought, label_of_a, label_of_b}
use Rattle.labels.specs.Analysis.{settle, read_label, write_label, targets, analyse}
use Rattle.labels.specs.Annotation.{annotate, parts}
use Rattle.labels.specs.Sheet.{field_bytes, fields_bytes, record_bytes, entry_of, command_records, records_at, records_below, head_record, sheet_records, sheet_of, annotated, final_labels, sheet_bytes}
use Rattle.labels.specs.Questions.{question_at, is_command, askable, all_askable, answerable, entering, answer_to, answers_to, answer_bytes}

unfoldable pub opened : Unit {0}
unfolding opened-below bit put_bit label_of set_label join same is_nought times_nought label_of_a label_of_b settle read_label write_label targets analyse annotate parts field_bytes fields_bytes record_bytes entry_of command_records records_at records_below head_record sheet_records sheet_of annotated final_labels sheet_bytes question_at is_command askable all_askable answerable entering answer_to answers_to answer_bytes
opened = tt
