-- A theorem that says `unfolding opened` computes with every definition of this crate and of the crates below it.
use mathlib.Core.List.{flat_map}
use Rattle.bytes_le.proofs.Open.{opened as opened-below}
use Rattle.awhile.specs.Language.{note_of, map_notes, value_of, truth_of}
use Rattle.awhile.specs.Lists.{sum, occurrences, all}
use Rattle.awhile.specs.Refusals.{check, and_then}
use Rattle.awhile.specs.Nodes.{form, sort_of, field_bytes, field_size, size_of, node_bytes, node_of, decode_at, field_in_range, in_range, same_sort, field_sorted, sorted, field_children, children_of}
use Rattle.awhile.specs.Tables.{known_version, mask_bytes, offset_of, framed, length_of_kind, read_header, read_labels, read_count, read_counts, read_node, read_nodes, read_records, uses_of, in_order, all_in_order, first_broken, check_whole, read_table}
use Rattle.awhile.specs.Trees.{as_numeric, as_truth, as_command, tree_of, tree_at, grow_trees, trees, root_of}
use Rattle.awhile.specs.Encoding.{nodes_of_a, nodes_of_b, nodes_of, binary, ternary, write_a, write_b, write_c, numbered_from, numbered, header_bytes, labels_bytes, count_bytes, table_bytes}

unfoldable pub opened : Unit {0}
unfolding opened-below flat_map note_of map_notes value_of truth_of sum occurrences all check and_then form sort_of field_bytes field_size size_of node_bytes node_of decode_at field_in_range in_range same_sort field_sorted sorted field_children children_of known_version mask_bytes offset_of framed length_of_kind read_header read_labels read_count read_counts read_node read_nodes read_records uses_of in_order all_in_order first_broken check_whole read_table as_numeric as_truth as_command tree_of tree_at grow_trees trees root_of nodes_of_a nodes_of_b nodes_of binary ternary write_a write_b write_c numbered_from numbered header_bytes labels_bytes count_bytes table_bytes
opened = tt
