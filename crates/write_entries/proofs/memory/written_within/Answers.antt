-- `written_within` has memory for as many nodes as the table has.
use native.Mathlib.Omega.{arith}
use Rattle.write_entries.proofs.Labelled.{made_memory}
use Rattle.write_entries.proofs.memory.written_within.Goals as goal

pub put_labelled-requires : goal.put_labelled-requires
put_labelled-requires g c = (
  made_memory g.row.N g.row.N _ c.requires.room (omega (arith, c.requires.room)) (λ few. omega (arith, few, c.requires.room, c.requires.decisions)),
  c.requires.granted,
)
