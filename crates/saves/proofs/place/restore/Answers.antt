-- `restore` copies the three parts of a state back, the first two whole.
use Prim.Native.Nat.{◌+◌, ◌*◌, ◌≤◌}
use native.Mathlib.Omega.{arith}
use lib.ListN.{length}
use Rattle.saves.proofs.Copying.{restored_all}
use Rattle.saves.proofs.place.restore.Goals as goal

pub returns-clause-restored : goal.returns-clause-restored
returns-clause-restored c =
    let m = c.args.memory.now in
    let inside : c.args.at + length m.variables.now + length m.cells.now + 4 * c.args.height ≤ length c.args.saves.now = c.requires.1 in
    record {
      is_variables = restored_all m.variables.now c.args.saves.now c.args.at _ (omega arith) c.copy.ensures;
      is_cells = restored_all m.cells.now c.args.saves.now (c.args.at + length m.variables.now) _ (omega arith) c.copy-2.ensures;
      is_pending = c.copy-3.ensures;
    }
