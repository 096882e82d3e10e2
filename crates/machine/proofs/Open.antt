-- A theorem that says `unfolding opened` computes with every definition of this crate and of the crates below it.
use Rattle.awhile.proofs.Open.{opened as opened-below}
use Rattle.machine.specs.Observations.{observation_bytes, shown_bytes}
use Rattle.machine.specs.Directives.{directive_bytes, directive_size, directive_of, whole_directive, first_directive, before, directives_in, read_rolling_directives, is_rollback, has_rollback, forces_in, without_rollback, read_directives, directives_bytes}
use Rattle.machine.specs.Look.{look}
use Rattle.machine.specs.Steps.{inside, cell_place, only_if, cell_at, cell_used, quietly, turned, loaded, stored, onward, at_fork, at_get, at_put}
use Rattle.machine.specs.Runs.{end_number, holds, rollback_next, moved, if_room, stacked, stacked_if, shown_if, shown_step, step_of, next_of, back_to, next_by, next, end_without, run, started}
use Rattle.machine.specs.Memory.{pending_words, pending_after, save_words, saves_after, written_over, next_node, run_numbers}

unfoldable pub opened : Unit {0}
unfolding opened-below observation_bytes shown_bytes directive_bytes directive_size directive_of whole_directive first_directive before directives_in read_rolling_directives is_rollback has_rollback forces_in without_rollback read_directives directives_bytes look inside cell_place only_if cell_at cell_used quietly turned loaded stored onward at_fork at_get at_put end_number holds rollback_next moved if_room stacked stacked_if shown_if shown_step step_of next_of back_to next_by next end_without run started pending_words pending_after save_words saves_after written_over next_node run_numbers
opened = tt
