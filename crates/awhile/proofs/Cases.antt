-- The definitions of reading, one law for each case.
use Prim.Native.Nat.{ℕ, zero, suc, ◌+◌, ◌<◌}
use native.Mathlib.Omega.{arith}
use mathlib.Core.Bool.{Bool, true, false}
use mathlib.Core.Path.{◌≡◌, refl}
use mathlib.Core.List.{List, [], ◌∷◌, ◌++◌}
use lib.ListN.{length, get_or}
use lib.Dec.{eqb}
use borrow.Author.Tests.{eq-eqb, ne_eqb, eqb-true, eqb-false}
use Rattle.awhile.specs.Lists.{sum}
use Rattle.awhile.specs.Refusals.{refused, got, check, and_then}
use Rattle.awhile.specs.Nodes.{size_of, sort_of, same_sort, decode_at, in_range, sorted}
use Rattle.awhile.specs.Tables.{Table, array_size, framed, read_count, read_counts, read_node, read_nodes, read_records}
use Rattle.awhile.specs.Tables.{uses_of, in_order, all_in_order}
use Rattle.awhile.specs.Tables.{check_whole, read_table}
use Rattle.awhile.proofs.Lists.{and_both, and_first, and_second}
use Rattle.awhile.specs.declared.Sort.TheVariants.{Command}
use Rattle.awhile.specs.declared.Header.{Header}
use Rattle.awhile.specs.declared.Node.{Node}
use Rattle.awhile.specs.declared.Node.TheVariants.{Skip}
use Rattle.std.proofs.Common.{Option, Some, None}
use Rattle.awhile.specs.declared.Refusal.{Refusal}
use Rattle.awhile.specs.declared.Refusal.TheVariants.{OutOfRange, WrongSort}

-- ---- what was decoded
-- one record is one node
pub decoded_same : (d : Option Node) (m n : Node) → d ≡ Some m → d ≡ Some n → m ≡ n
decoded_same d m n p q = cc

module _ (s : List ℕ) (at : ℕ) where
  -- ---- array records
  -- the next count is read, and reading goes on behind it
  pub counts_next : (left : ℕ) (before : List ℕ) (n : ℕ) → read_count s at (sum before) ≡ got n
      → read_counts (suc left) s at before ≡ read_counts left s (at + array_size) (before ++ (n ∷ []))
  unfolding read_counts
  counts_next left before n e = rw (e, read_counts)

  -- a refused array record refuses the table
  pub counts_refused : (left : ℕ) (before : List ℕ) (r : Refusal) → read_count s at (sum before) ≡ refused r → read_counts (suc left) s at before ≡ refused r
  unfolding read_counts
  counts_refused left before r e = rw (e, read_counts)

  -- ---- node records
  module _ (h : Header) (before : List Node) where
    -- a record of a known kind is framed by its size, then its references and its children's sorts are checked
    pub node_known : (n : Node) → decode_at s at ≡ Some n
        → read_node h s at before
        ≡ framed s at (size_of n) (check (in_range h.variables h.arrays (length before) n) (OutOfRange at) (check (sorted before n) (WrongSort at) (got n)))
    unfolding read_node
    node_known n e = rw (e, read_node)

    -- a record of no known kind is refused by its frame
    pub node_unknown : decode_at s at ≡ None → read_node h s at before ≡ framed s at 0 (got Skip)
    unfolding read_node
    node_unknown e = rw (e, read_node)

    -- the next node is read, and reading goes on behind it
    pub nodes_next : (left : ℕ) (n : Node) → read_node h s at before ≡ got n
        → read_nodes (suc left) h s at before ≡ read_nodes left h s (at + size_of n) (before ++ (n ∷ []))
    unfolding read_nodes
    nodes_next left n e = rw (e, read_nodes)

    -- a refused node record refuses the table
    pub nodes_refused : (left : ℕ) (r : Refusal) → read_node h s at before ≡ refused r → read_nodes (suc left) h s at before ≡ refused r
    unfolding read_nodes
    nodes_refused left r e = rw (e, read_nodes)

-- ---- the whole table
module _ (s : List ℕ) where
  -- where the records were read, the table as a whole decides
  pub table_read : (t : Table) → read_records s ≡ got t → read_table s ≡ check_whole s t
  unfolding read_table and_then
  table_read t e = rw e

  -- where a record was refused, the table is
  pub table_refused : (r : Refusal) → read_records s ≡ refused r → read_table s ≡ refused r
  unfolding read_table and_then
  table_refused r e = rw e

-- ---- the nodes as one tree
module _ (ns : List Node) where
  -- the last node is in order if it is a command
  pub in_order_last : (i : ℕ) → suc i ≡ length ns → in_order ns i ≡ same_sort (sort_of (get_or ns i Skip)) Command
  unfolding in_order
  in_order_last i e = rw (eq-eqb (suc i) (length ns) e)

  -- another node is in order if it is a child exactly once
  pub in_order_child : (i : ℕ) → ¬ (suc i ≡ length ns) → in_order ns i ≡ eqb (uses_of ns i) 1
  unfolding in_order
  in_order_child i apart = rw (ne_eqb (suc i) (length ns) apart)

  -- all are in order if each is
  pub all_in_order_lem : (count : ℕ) → ((i : ℕ) → i < count → in_order ns i ≡ true) → all_in_order ns count ≡ true
  unfolding all_in_order
  all_in_order_lem zero each = refl
  all_in_order_lem (suc count) each = and_both (in_order ns count) (all_in_order ns count) (each count (omega arith)) (all_in_order_lem count (λ i below. each i (omega arith)))

  -- each is in order if all are
  pub each_in_order : (count : ℕ) → all_in_order ns count ≡ true → (i : ℕ) → i < count → in_order ns i ≡ true
  unfolding all_in_order
  each_in_order zero e i below = absurd (omega arith)
  each_in_order (suc count) e i below =
      go (eqb i count) refl (each_in_order count (and_second (in_order ns count) (all_in_order ns count) e) i)
    where
      go : (same : Bool) → eqb i count ≡ same → (i < count → in_order ns i ≡ true) → in_order ns i ≡ true
      go true s rest = rw (eqb-true i count s) (and_first (in_order ns count) (all_in_order ns count) e)
      go false s rest =
          let apart : ¬ (i ≡ count) = eqb-false i count s in
          rest (omega arith)
