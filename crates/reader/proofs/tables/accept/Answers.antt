-- `accept` keeps a table that was read with its index, and hands a refusal on.
use mathlib.Core.Path.{sym}
use Rattle.std.proofs.lemmas.Result.{err_from_is_err_and}
use Rattle.reader.proofs.Answering.{reader_ready, refusing, accepts_not}
use Rattle.reader.proofs.tables.accept.Goals as goal

pub new-requires : goal.new-requires
new-requires c = reader_ready (rw c.in_ok-declared.was at c.walk.ensures)

pub returns-in_err-declared : goal.returns-in_err-declared
returns-in_err-declared c =
    let p = err_from_is_err_and c.from_residual.result c.from_residual.ensures.1 in
    rw (p.1, p.2) (sym (accepts_not _ _ (refusing (rw c.in_err-declared.was at c.walk.ensures))))
