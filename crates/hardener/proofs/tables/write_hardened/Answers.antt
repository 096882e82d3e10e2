-- `write_hardened` writes the declarations, one record behind the other, the nodes into the rest, and the header in front of them.
use Prim.Native.Nat.{◌≤◌}
use native.Mathlib.Omega.{arith}
use mathlib.Core.Path.{◌≡◌, ap, ◌∙◌}
use lib.ListN.{length}
use Rattle.awhile.specs.Tables.{nodes_start}
use Rattle.awhile.specs.declared.Declarations.{Declarations}
use Rattle.awhile.specs.declared.Header.{Header}
use Rattle.copier.proofs.Writers.{wrote_sized}
use Rattle.copier.proofs.Lengths.{counted_c}
use Rattle.hardener.specs.Output.{hardened_header}
use Rattle.hardener.proofs.TableWrites.{measured_some, measured_arrays, measured_variables, root_command, whole_fits, nodes_room, header_room, whole_written}
use Rattle.hardener.proofs.tables.write_hardened.Goals as goal
use Rattle.hardener.proofs.tables.write_hardened.Goals.{After-hardened_header-to, After-nodes_start-at}

module _ (c : After-hardened_header-to) where
  -- the nodes start where the header says, and with them the whole fits
  start : nodes_start c.hardened_header-to.result ≡ nodes_start (hardened_header c.declared-declared.result.header 0)
  start = ap nodes_start c.hardened_header-to.ensures

  arrays : c.hardened_header-to.result.arrays ≡ c.declared-declared.result.header.arrays
  arrays = ap (λ (x : Header). x.arrays) c.hardened_header-to.ensures

  fits : nodes_start c.hardened_header-to.result ≤ length c.args.out.now
  fits = omega (arith, start, whole_fits c.declared-declared.ensures.admitted c.declared-declared.ensures.value c.requires)

module _ (c : After-nodes_start-at) where
  here : c.nodes_start-at.result ≡ nodes_start (hardened_header c.declared-declared.result.header 0)
  here = c.nodes_start-at.ensures ∙ ap nodes_start c.hardened_header-to.ensures

  as_long : length c.put_counts.new.out ≡ length c.args.out.now
  as_long = omega (arith, c.put_counts.auto.out, c.put_labels.auto.out)

  begins : c.nodes_start-at.result ≤ length c.put_counts.new.out
  begins = omega (arith, here, as_long, whole_fits c.declared-declared.ensures.admitted c.declared-declared.ensures.value c.requires)

pub hardened_header-to-requires : goal.hardened_header-to-requires
hardened_header-to-requires c = measured_variables c.declared-declared.ensures.admitted c.declared-declared.ensures.value

pub put_labels-requires : goal.put_labels-requires
put_labels-requires c = omega (arith, fits (goal.at.put_labels-requires c).After-hardened_header-to)

pub put_counts-requires : goal.put_counts-requires
put_counts-requires c =
    let at = (goal.at.put_counts-requires c).After-hardened_header-to in
    (arrays at ∙ ap (λ (d : Declarations). d.header.arrays) c.declared-declared.ensures.value, omega (arith, fits at, c.put_labels.auto.out))

pub nodes_start-at-requires : goal.nodes_start-at-requires
nodes_start-at-requires c =
    omega (arith, measured_arrays c.declared-declared.ensures.admitted c.declared-declared.ensures.value, arrays (goal.at.nodes_start-at-requires c).After-hardened_header-to)

pub overflow_sub-header : goal.overflow_sub-header
overflow_sub-header c = measured_some c.declared-declared.ensures.admitted c.declared-declared.ensures.value

pub slice_bounds-harden_command-count : goal.slice_bounds-harden_command-count
slice_bounds-harden_command-count c = begins (goal.at.slice_bounds-harden_command-count c).After-nodes_start-at

pub slice_bounds-harden_command-start : goal.slice_bounds-harden_command-start
slice_bounds-harden_command-start c = begins (goal.at.slice_bounds-harden_command-start c).After-nodes_start-at

pub harden_command-size-requires : goal.harden_command-size-requires
harden_command-size-requires c =
    let told = c.declared-declared.ensures in
    let at = (goal.at.harden_command-size-requires c).After-nodes_start-at in
    record { of_sort = root_command told.admitted told.value; space_for = nodes_room told.admitted told.value c.requires _ (here at) c.put_counts.new.out (as_long at) }

pub hardened_header-requires : goal.hardened_header-requires
hardened_header-requires c = measured_variables c.declared-declared.ensures.admitted c.declared-declared.ensures.value

pub put_header-requires : goal.put_header-requires
put_header-requires c =
    let told = c.declared-declared.ensures in
    let at = (goal.at.put_header-requires c).After-nodes_start-at in
    header_room told.admitted told.value c.requires _ (here at) c.put_counts.new.out (as_long at) c.harden_command-size.ensures

pub overflow_add-result : goal.overflow_add-result
overflow_add-result c =
    let told = c.declared-declared.ensures in
    omega (
      arith,
      c.well_formed,
      whole_fits told.admitted told.value c.requires,
      here (goal.at.overflow_add-result c).After-nodes_start-at,
      (wrote_sized c.harden_command-size.ensures (counted_c 0 _)).bytes_counted,
    )

pub returns : goal.returns
returns c =
    let told = c.declared-declared.ensures in
    whole_written told.admitted told.value c.requires _ (here (goal.at.returns c).After-nodes_start-at)
    (rw c.hardened_header-to.ensures at c.put_labels.ensures)
    (rw c.hardened_header-to.ensures at c.put_counts.ensures)
    c.harden_command-size.ensures
    (rw c.hardened_header.ensures at c.put_header.ensures)
