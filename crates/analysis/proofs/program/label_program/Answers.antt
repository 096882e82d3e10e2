-- `label_program` analyses the root, which is the last node.
use native.Mathlib.Omega.{arith}
use Rattle.reader.proofs.Admitted.{offsets_in, bytes, indexed}
use Rattle.reader.proofs.Index.{indexed_some}
use Rattle.analysis.proofs.WholeProgram.{root_analysable, root_answer, root_labelled}
use Rattle.analysis.proofs.program.label_program.Goals as goal

pub overflow_sub-root : goal.overflow_sub-root
overflow_sub-root c =
    let table = c.args.expressions.now.table.now in
    let a = c.args.expressions.now.admitted in
    omega (arith, c.count-root.ensures.value, indexed_some table (offsets_in table) (bytes a) (indexed a))

pub analyse-requires : goal.analyse-requires
analyse-requires c = rw c.count-root.ensures.value (root_analysable c.args.expressions.now.admitted c.requires c.args.labels)

pub returns : goal.returns
returns c =
    let left = rw c.count-root.ensures.value at c.analyse.ensures in
    let a = c.args.expressions.now.admitted in
    (root_answer a c.requires left, root_labelled a c.requires left c.analyse.auto.notes)
