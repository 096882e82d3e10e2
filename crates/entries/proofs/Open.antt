-- A theorem that says `unfolding opened` computes with every definition of this crate and of the crates below it.
use Rattle.masks.proofs.Open.{opened as opened-below}
use Rattle.entries.specs.Answers.{answered, refusal_numbers}
use Rattle.entries.specs.Writing.{not_written, written_all, writing, sheet_entry, asked_in, questions_entry, hardened_in, harden_entry, costs_in, costs_entry}
use Rattle.entries.specs.Running.{not_run, lent_for, ran_all, run_in, running, run_entry, guess_with, guess_entry}
use Rattle.entries.specs.Rolling.{save_size, saving_for, not_run_saving, ran_saving, saving_run, rollback_with, rollback_entry}

unfoldable pub opened : Unit {0}
unfolding opened-below answered refusal_numbers not_written written_all writing sheet_entry asked_in questions_entry hardened_in harden_entry costs_in costs_entry not_run lent_for ran_all run_in running run_entry guess_with guess_entry save_size saving_for not_run_saving ran_saving saving_run rollback_with rollback_entry
opened = tt
