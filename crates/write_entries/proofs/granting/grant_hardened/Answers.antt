-- `grant_hardened` refuses too many nodes, and then a table without a free variable number.
use native.Mathlib.Omega.{arith}
use mathlib.Core.Path.{ap}
use Rattle.awhile.specs.declared.Declarations.{Declarations}
use Rattle.reader.specs.Index.{table_of}
use Rattle.write_entries.proofs.Jobs.{many_refused, none_free_refused, hardened_granted}
use Rattle.write_entries.proofs.granting.grant_hardened.Goals as goal

pub returns-then-header-gt-MAX_HARDENED : goal.returns-then-header-gt-MAX_HARDENED
returns-then-header-gt-MAX_HARDENED c =
    let nodes = ap (λ (d : Declarations). d.header.nodes) c.declared.ensures.value in
    many_refused c.args.list.now (table_of c.args.table.now) (omega (arith, nodes))

pub returns-then-header-ge-MAX_VARIABLES : goal.returns-then-header-ge-MAX_VARIABLES
returns-then-header-ge-MAX_VARIABLES c =
    let nodes = ap (λ (d : Declarations). d.header.nodes) c.declared.ensures.value in
    let variables = ap (λ (d : Declarations). d.header.variables) c.declared.ensures.value in
    none_free_refused c.args.list.now (table_of c.args.table.now) (omega (arith, nodes)) (omega (arith, variables))

pub returns : goal.returns
returns c =
    let nodes = ap (λ (d : Declarations). d.header.nodes) c.declared.ensures.value in
    let variables = ap (λ (d : Declarations). d.header.variables) c.declared.ensures.value in
    hardened_granted c.args.list.now (table_of c.args.table.now) (omega (arith, nodes)) (omega (arith, variables))
