-- What a table that was read declares, number by number.
use Prim.Native.Nat.{ℕ, ◌+◌, ◌≤◌, ◌<◌}
use native.Mathlib.Omega.{arith}
use mathlib.Core.Path.{◌≡◌, sym, ap, ◌∙◌}
use mathlib.Core.List.{List}
use lib.ListN.{length, get_or}
use Rattle.bytes_le.specs.Numbers.{le_at}
use Rattle.bytes_le.proofs.Numbers.{Below}
use Rattle.awhile.specs.Lists.{sum}
use Rattle.awhile.specs.Tables.{max_arrays, count_start}
use Rattle.awhile.proofs.Accepted.{accepted_well_formed}
use Rattle.awhile.proofs.Counts.{count_at}
use Rattle.reader.specs.Index.{table_of, version_in, nodes_in, Ready, HasHeader}
use Rattle.awhile.specs.declared.Declarations.{Declarations}
use Rattle.awhile.specs.declared.Header.{Header}

module _ {table : List ℕ} {header : Header} (has : HasHeader table header) where
  pub header_version : header.version ≡ version_in table
  unfolding version_in
  header_version = sym (ap (λ (h : Header). h.version) has.is_header)

  pub header_variables : header.variables ≡ (table_of table).variables
  header_variables = sym (ap (λ (h : Header). h.variables) has.is_header)

  pub header_arrays : header.arrays ≡ length (table_of table).counts
  header_arrays = sym (ap (λ (h : Header). h.arrays) has.is_header)

  pub header_nodes : header.nodes ≡ nodes_in table
  unfolding nodes_in
  header_nodes = sym (ap (λ (h : Header). h.nodes) has.is_header)

  -- no more arrays than a table may have
  pub header_few_arrays : Below 256 table → header.arrays ≤ max_arrays
  header_few_arrays bytes = omega (arith, header_arrays, (accepted_well_formed table bytes (table_of table) has.reads).declared.arrays_fit)

  -- the cell count of an array stands in its record
  pub header_count : Below 256 table → (a : ℕ) → a < header.arrays → get_or (table_of table).counts a 0 ≡ le_at 2 table (count_start header a + 4)
  header_count bytes a less =
      count_at table bytes (table_of table) has.reads a (omega (arith, header_arrays)) ∙ ap (λ (h : Header). le_at 2 table (count_start h a + 4)) has.is_header

module _ {table index : List ℕ} {declared : Declarations} (ready : Ready table index declared) where
  pub ready_header : HasHeader table declared.header
  ready_header = record { reads = ready.indexed.reads; is_header = ap (λ (d : Declarations). d.header) ready.declares }

  pub ready_version : declared.header.version ≡ version_in table
  ready_version = header_version ready_header

  pub ready_variables : declared.header.variables ≡ (table_of table).variables
  ready_variables = header_variables ready_header

  pub ready_nodes : declared.header.nodes ≡ nodes_in table
  ready_nodes = header_nodes ready_header

  pub ready_cells : declared.cells ≡ sum (table_of table).counts
  ready_cells = sym (ap (λ (d : Declarations). d.cells) ready.declares)

  pub ready_labels : declared.labels ≡ (table_of table).labels
  ready_labels = sym (ap (λ (d : Declarations). d.labels) ready.declares)
