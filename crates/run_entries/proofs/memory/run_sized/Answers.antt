-- `run_sized` lends memory that was just made.
use Rattle.reader.proofs.Rooms.{fresh_memory}
use Rattle.run_entries.proofs.memory.run_sized.Goals as goal

pub read_and_run-requires : goal.read_and_run-requires
read_and_run-requires g c = fresh_memory g.row.NODES c.requires.0
