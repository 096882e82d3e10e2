-- A program written as a table is well-formed, reads back, and its root is the program noted with its node numbers.
use Prim.Native.Nat.{ℕ, suc, ◌+◌, ◌-◌, ◌≤◌, ◌<◌}
use native.Mathlib.Omega.{arith}
use mathlib.Core.Bool.{Bool, true, false}
use mathlib.Core.Path.{◌≡◌, refl, ap, ◌∙◌}
use mathlib.Core.List.{List, []}
use lib.ListN.{length, get_or}
use lib.Dec.{eqb}
use borrow.Author.Tests.{eq-eqb, eqb-true, eqb-false}
use Rattle.awhile.specs.Language.{Com}
use Rattle.awhile.specs.Lists.{all}
use Rattle.awhile.specs.Nodes.{sort_of}
use Rattle.awhile.specs.Refusals.{got}
use Rattle.awhile.specs.Tables.{Table, max_nodes, uses_of, in_order, read_table}
use Rattle.awhile.specs.Trees.{command, as_command, trees, root_of}
use Rattle.awhile.specs.Encoding.{nodes_of, write_c, numbered, table_bytes}
use Rattle.awhile.specs.WellFormed.{Declared, WellFormed, Within}
use Rattle.awhile.proofs.Lists.{count_below_lem, count_above}
use Rattle.awhile.proofs.Cases.{in_order_last, in_order_child, all_in_order_lem}
use Rattle.awhile.proofs.Children.{same_sort_refl}
use Rattle.awhile.proofs.Fitting.{fit_by_number}
use Rattle.awhile.proofs.Reading.{read_back}
use Rattle.awhile.proofs.Trees.{tree_sort}
use Rattle.awhile.proofs.PostOrder.{PostOrder, postorder_c, order_some}
use Rattle.awhile.proofs.OwnFields.{own_fields_fit, own_c}
use Rattle.awhile.proofs.Orders.{order_length, order_sort, order_tree, order_uses, order_fit}
use Rattle.awhile.specs.declared.Sort.TheVariants.{Command}
use Rattle.awhile.specs.declared.Node.{Node}
use Rattle.awhile.specs.declared.Node.TheVariants.{Skip}

-- nodes in post-order for a command are in order: each but the last is a child exactly once, the last is a command
pub order_in_order : {k : ℕ} {ns : List Node} {c : Com ℕ} → PostOrder 0 ns k (command c) → (i : ℕ) → i < k → in_order ns i ≡ true
unfolding tree_sort
order_in_order {k = k} {ns = ns} {c = c} p i below = go (eqb (suc i) k) refl
  where
    go : (last : Bool) → eqb (suc i) k ≡ last → in_order ns i ≡ true
    go true e =
        let here : k - 1 ≡ i = omega (arith, eqb-true (suc i) k e) in
        let is_command : sort_of (get_or ns i Skip) ≡ Command = rw here at (order_sort p) in
        in_order_last ns i (omega (arith, order_length p, eqb-true (suc i) k e)) ∙ rw is_command (same_sort_refl Command)
    go false e =
        let apart : ¬ (suc i ≡ k) = eqb-false (suc i) k e in
        let once : uses_of ns i ≡ 1 = omega (arith, order_uses p i (k - 1) (omega arith), count_above 0 i (omega arith), count_below_lem (k - 1) i (omega arith)) in
        in_order_child ns i (omega (arith, order_length p)) ∙ eq-eqb (uses_of ns i) 1 once

-- ---- the table of a program
module _ {Note : Type 0} (t : Table) (c : Com Note) (e : t.nodes ≡ write_c 0 c) where
  -- the nodes of a written program
  written_order : PostOrder 0 t.nodes (nodes_of c) (command (numbered c))
  unfolding numbered
  written_order = rw e (postorder_c c 0)

  -- as many as the program has
  pub written_length : length t.nodes ≡ nodes_of c
  written_length = order_length written_order

  -- the root is the program, noted with its node numbers
  pub written_root : root_of t ≡ numbered c
  unfolding root_of trees as_command
  written_root =
      let last : length t.nodes - 1 + 1 ≡ 0 + nodes_of c = omega (arith, written_length, order_some written_order) in
      ap as_command (order_tree written_order [] (length t.nodes - 1) refl last)

  module _ (declared : Declared t.version t.variables t.labels t.counts) (within : Within t.variables (length t.counts) c) (few : nodes_of c ≤ max_nodes) where
    -- the table is well-formed
    pub written_well_formed : WellFormed t
    written_well_formed =
        let vs : ℕ = t.variables in
        let arrs : ℕ = length t.counts in
        let own : all (own_fields_fit vs arrs) t.nodes ≡ true = rw e (own_c vs arrs c 0 within).each in
        record {
          declared = declared;
          has_nodes = omega (arith, written_length, order_some written_order);
          nodes_fit = omega (arith, written_length);
          each_fits = fit_by_number vs arrs t.nodes [] (order_fit vs arrs written_order own [] refl);
          one_tree = all_in_order_lem t.nodes (length t.nodes) (λ i below. order_in_order written_order i (omega (arith, written_length)));
        }

    -- its bytes are read and accepted as the table
    pub written_reads_back : read_table (table_bytes t) ≡ got t
    written_reads_back = read_back t written_well_formed
