-- A theorem that says `unfolding opened` computes with every definition of this crate and of the crates below it.
use Rattle.labels.proofs.Open.{opened as opened-labels}
use Rattle.machine.proofs.Open.{opened as opened-machine}
use Rattle.masks.specs.Decisions.{decide, mask_digits}
use Rattle.masks.specs.Hardening.{masked_condition, zero_if_guessing, masked_index, flag_if_true, flag_if_false, mask_value_of, harden, hardened_program, version_for, table_of_hardened, hardened_table}
use Rattle.masks.specs.SameRun.{plain_run, next_note}
use Rattle.masks.specs.Security.{shown_on, plainly_shown}
use Rattle.masks.specs.ReadBack.{origins, origin_in}
use Rattle.masks.specs.Costs.{lifted, masks_of, same_numbers, changes, costs, marks_below, marks_of, costing, mark_number, marks_bytes, cost_bytes}

unfoldable pub opened : Unit {0}
unfolding opened-labels opened-machine decide mask_digits masked_condition zero_if_guessing masked_index flag_if_true flag_if_false mask_value_of harden hardened_program version_for table_of_hardened hardened_table plain_run next_note shown_on plainly_shown origins origin_in lifted masks_of same_numbers changes costs marks_below marks_of costing mark_number marks_bytes cost_bytes
opened = tt
