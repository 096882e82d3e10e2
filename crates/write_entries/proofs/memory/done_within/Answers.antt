-- `done_within` has memory for as many nodes as the table declares.
use mathlib.Core.Path.{sym, ◌∙◌}
use Rattle.std.proofs.lemmas.Result.{err_from_is_err_and}
use Rattle.bytes_le.proofs.Numbers.{slice_bytes}
use Rattle.reader.proofs.Rooms.{fresh_memory}
use Rattle.write_entries.proofs.Doing.{done_refused, done_same}
use Rattle.write_entries.proofs.Jobs.{asked_read, by_refused, granted_for}
use Rattle.write_entries.proofs.Labelled.{room_nodes}
use Rattle.write_entries.proofs.memory.done_within.Goals as goal

pub read_for-requires : goal.read_for-requires
read_for-requires g c = fresh_memory _ c.requires.room

pub new-accepted-requires : goal.new-accepted-requires
new-accepted-requires g c =
    let told = granted_for c.args.job c.args.list.now c.args.table.now (sym c.in_ok-declared.was ∙ c.read_for.ensures.answers) in
    record { indexed = c.read_for.ensures.indexes _ told.1; declares = sym told.0 }

pub written_within-requires : goal.written_within-requires
written_within-requires g c =
    let told = granted_for c.args.job c.args.list.now c.args.table.now (sym c.in_ok-declared.was ∙ c.read_for.ensures.answers) in
    rw c.new-accepted.ensures
    (record {
      room = room_nodes (slice_bytes c.args.table.now c.type_inv.table) told.1 c.requires.room;
      nodes = c.requires.nodes;
      decisions = c.requires.decisions;
      granted = told.2;
    })

pub returns-in_err-declared : goal.returns-in_err-declared
returns-in_err-declared g c =
    let p = err_from_is_err_and c.from_residual.result c.from_residual.ensures.1 in
    rw (p.1, p.2) (done_refused c.args.out.now _ (by_refused _ _ (sym c.in_err-declared.was ∙ c.read_for.ensures.answers)))

pub returns : goal.returns
returns g c =
    let told = granted_for c.args.job c.args.list.now c.args.table.now (sym c.in_ok-declared.was ∙ c.read_for.ensures.answers) in
    done_same (asked_read c.args.job c.args.list.now c.args.table.now told.1) (rw c.new-accepted.ensures at c.written_within.ensures)
