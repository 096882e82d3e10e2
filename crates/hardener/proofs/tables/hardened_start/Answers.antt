-- `hardened_start` reads off the header.
use native.Mathlib.Omega.{arith}
use mathlib.Core.Path.{ap, ◌∙◌}
use Rattle.awhile.specs.declared.Header.{Header}
use Rattle.awhile.specs.Tables.{nodes_start}
use Rattle.hardener.specs.Output.{hardened_header}
use Rattle.hardener.proofs.TableWrites.{measured_arrays, measured_variables}
use Rattle.hardener.proofs.tables.hardened_start.Goals as goal

pub hardened_header-requires : goal.hardened_header-requires
hardened_header-requires c = measured_variables c.declared.ensures.admitted c.declared.ensures.value

pub nodes_start-requires : goal.nodes_start-requires
nodes_start-requires c =
    omega (arith, measured_arrays c.declared.ensures.admitted c.declared.ensures.value, ap (λ (x : Header). x.arrays) c.hardened_header.ensures)

pub returns-clause-start : goal.returns-clause-start
returns-clause-start c =
    c.nodes_start.ensures ∙ ap nodes_start c.hardened_header.ensures ∙ ap (λ d. nodes_start (hardened_header d.header 0)) c.declared.ensures.value
