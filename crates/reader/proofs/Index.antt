-- What an index of an accepted table is worth: every node is decoded where the index says, and stands for what its children stand for.
use Prim.Native.Nat.{ℕ, ◌+◌, ◌-◌, ◌≤◌, ◌<◌}
use native.Mathlib.Omega.{arith}
use mathlib.Core.Bool.{true}
use mathlib.Core.Path.{◌≡◌, refl, sym, ap, subst, ◌∙◌}
use mathlib.Core.List.{List, [], ◌∷◌}
use lib.ListN.{length, get_or, take}
use lib.Seq.{length-take-le, get_or-take}
use lib.Dec.{eqb}
use borrow.Author.Tests.{ltb-true, leb-true}
use Rattle.bytes_le.proofs.Numbers.{Below}
use Rattle.awhile.specs.Language.{number, variable, add, subtract, multiply, choice}
use Rattle.awhile.specs.Language.{constant, equal, less, not, and}
use Rattle.awhile.specs.Language.{skip, assign, sequence, if, while, read, write, note_of}
use Rattle.awhile.specs.Encoding.{nodes_of_a, nodes_of_b, nodes_of}
use Rattle.awhile.specs.Lists.{all}
use Rattle.awhile.specs.Nodes.{Field, form, sort_of, field_in_range, in_range, field_sorted, sorted}
use Rattle.awhile.specs.Nodes.{word as word_field, constant as constant_field, variable as variable_field, array as array_field, child as child_field}
use Rattle.awhile.specs.Tables.{max_nodes}
use Rattle.awhile.specs.Trees.{numeric, truth, as_numeric, as_truth, as_command, tree_of, root_of}
use Rattle.awhile.specs.WellFormed.{WellFormed}
use Rattle.reader.specs.Index.{table_of, nodes_in, node_in, tree_in, numeric_in, truth_in, command_in, Indexed, OfSort}
use Rattle.awhile.proofs.Lists.{all_head, all_tail}
use Rattle.awhile.proofs.Records.{NodeAt}
use Rattle.awhile.proofs.Children.{same_sort_true}
use Rattle.awhile.proofs.Cases.{each_in_order, in_order_last}
use Rattle.awhile.proofs.Size.{tree_size, tree_size_lem}
use Rattle.awhile.proofs.Trees.{tree_of_node, tree_sort_lem, tree_note, numeric_tree, truth_tree, command_tree}
use Rattle.awhile.proofs.Accepted.{accepted_well_formed, accepted_read, node_there}
use Rattle.awhile.specs.declared.Sort.{Sort}
use Rattle.awhile.specs.declared.Sort.TheVariants.{Numeric, Truth, Command}
use Rattle.awhile.specs.declared.Node.{Node}
use Rattle.awhile.specs.declared.Node.TheVariants.{Number, Variable, Add, Subtract, Multiply, Choice}
use Rattle.awhile.specs.declared.Node.TheVariants.{Constant, Equal, Less, Not, And}
use Rattle.awhile.specs.declared.Node.TheVariants.{Skip, Assign, Sequence, If, While, Read, Write}

module _ (table : List ℕ) where
  -- a child that its parent may name: before it, and of the wanted sort
  pub record Child (sort : Sort) (parent node : ℕ) : Type 0 where
    pub below : node < parent
    pub inside : node < nodes_in table
    pub is_sort : sort_of (node_in table node) ≡ sort

  -- what a node's fields and its tree are, by its kind
  abbrev pub Parts : (n : ℕ) → Node → Type 0
  Parts n (Number v) = numeric_in table n ≡ number v
  Parts n (Variable x) = (x < (table_of table).variables) × (numeric_in table n ≡ variable x)
  Parts n (Add a b) = Child Numeric n a × Child Numeric n b × (numeric_in table n ≡ add (numeric_in table a) (numeric_in table b))
  Parts n (Subtract a b) = Child Numeric n a × Child Numeric n b × (numeric_in table n ≡ subtract (numeric_in table a) (numeric_in table b))
  Parts n (Multiply a b) = Child Numeric n a × Child Numeric n b × (numeric_in table n ≡ multiply (numeric_in table a) (numeric_in table b))
  Parts n (Choice c a b) =
      Child Truth n c × Child Numeric n a × Child Numeric n b × (numeric_in table n ≡ choice (truth_in table c) (numeric_in table a) (numeric_in table b))
  Parts n (Constant v) = (v ≤ 1) × (truth_in table n ≡ constant (eqb v 1))
  Parts n (Equal a b) = Child Numeric n a × Child Numeric n b × (truth_in table n ≡ equal (numeric_in table a) (numeric_in table b))
  Parts n (Less a b) = Child Numeric n a × Child Numeric n b × (truth_in table n ≡ less (numeric_in table a) (numeric_in table b))
  Parts n (Not a) = Child Truth n a × (truth_in table n ≡ not (truth_in table a))
  Parts n (And a b) = Child Truth n a × Child Truth n b × (truth_in table n ≡ and (truth_in table a) (truth_in table b))
  Parts n Skip = command_in table n ≡ skip n
  Parts n (Assign x e) = (x < (table_of table).variables) × Child Numeric n e × (command_in table n ≡ assign n x (numeric_in table e))
  Parts n (Sequence c d) = Child Command n c × Child Command n d × (command_in table n ≡ sequence n (command_in table c) (command_in table d))
  Parts n (If b c d) =
      Child Truth n b × Child Command n c × Child Command n d × (command_in table n ≡ if n (truth_in table b) (command_in table c) (command_in table d))
  Parts n (While b c) = Child Truth n b × Child Command n c × (command_in table n ≡ while n (truth_in table b) (command_in table c))
  Parts n (Read x a i) =
      (x < (table_of table).variables) × (a < length (table_of table).counts) × Child Numeric n i × (command_in table n ≡ read n x a (numeric_in table i))
  Parts n (Write a i e) =
      (a < length (table_of table).counts) × Child Numeric n i × Child Numeric n e × (command_in table n ≡ write n a (numeric_in table i) (numeric_in table e))

  -- what holds of a field of node n
  abbrev FieldHolds : (n : ℕ) → Field → Type 0
  FieldHolds n (word_field w) = Unit
  FieldHolds n (constant_field v) = v ≤ 1
  FieldHolds n (variable_field x) = x < (table_of table).variables
  FieldHolds n (array_field a) = a < length (table_of table).counts
  FieldHolds n (child_field s c) = Child s n c

  abbrev FieldsHold : (n : ℕ) → List Field → Type 0
  FieldsHold n [] = Unit
  FieldsHold n (f ∷ fs) = FieldHolds n f × FieldsHold n fs

  field_holds : (n : ℕ) → n ≤ nodes_in table → (f : Field)
      → field_in_range (table_of table).variables (length (table_of table).counts) n f ≡ true
      → field_sorted (take n (table_of table).nodes) f ≡ true → FieldHolds n f
  unfolding field_in_range field_sorted nodes_in node_in
  field_holds n inside (word_field w) r s = tt
  field_holds n inside (constant_field v) r s = leb-true v 1 r
  field_holds n inside (variable_field x) r s = ltb-true x (table_of table).variables r
  field_holds n inside (array_field a) r s = ltb-true a (length (table_of table).counts) r
  field_holds n inside (child_field wanted c) r s =
      let lower = ltb-true c n r in
      record {
        below = lower;
        inside = omega arith;
        is_sort = rw get_or-take at (same_sort_true (sort_of (get_or (take n (table_of table).nodes) c Skip)) wanted s);
      }

  fields_hold : (n : ℕ) → n ≤ nodes_in table → (fs : List Field)
      → all (field_in_range (table_of table).variables (length (table_of table).counts) n) fs ≡ true
      → all (field_sorted (take n (table_of table).nodes)) fs ≡ true → FieldsHold n fs
  unfolding all
  fields_hold n inside [] r s = tt
  fields_hold n inside (f ∷ fs) r s =
      let range = field_in_range (table_of table).variables (length (table_of table).counts) n in
      let sort = field_sorted (take n (table_of table).nodes) in
      (field_holds n inside f (all_head range f fs r) (all_head sort f fs s), fields_hold n inside fs (all_tail range f fs r) (all_tail sort f fs s))

module _ (table index : List ℕ) (bytes : Below 256 table) (indexed : Indexed table index) where
  -- the table is well-formed
  pub indexed_well_formed : WellFormed (table_of table)
  indexed_well_formed = accepted_well_formed table bytes (table_of table) indexed.reads

  -- a node's record stands where the index says, and decodes to the node
  pub indexed_node : (n : ℕ) → n < nodes_in table → NodeAt table (get_or index n 0) (node_in table n)
  unfolding nodes_in node_in
  indexed_node n inside =
      rw (indexed.offsets n inside) (node_there table bytes (table_of table) (accepted_read table bytes (table_of table) indexed.reads) n inside)

  -- a node's tree is built from its children's trees
  indexed_tree : (n : ℕ) → n < nodes_in table → tree_in table n ≡ tree_of (tree_in table) n (node_in table n)
  unfolding nodes_in node_in tree_in
  indexed_tree n inside =
      tree_of_node (table_of table).nodes (table_of table).variables (length (table_of table).counts) n inside (indexed_well_formed.each_fits n inside)

  indexed_fields : (n : ℕ) → n < nodes_in table → FieldsHold table n (form (node_in table n)).fields
  unfolding nodes_in node_in in_range sorted
  indexed_fields n inside =
      let fits = indexed_well_formed.each_fits n inside in
      fields_hold table n (omega arith) (form (node_in table n)).fields (rw (length-take-le n (table_of table).nodes (omega arith)) at fits.ranged) fits.well_sorted

  -- what the fields and the tree of a node of a kind are
  pub indexed_parts : (n : ℕ) → n < nodes_in table → (m : Node) → node_in table n ≡ m → Parts table n m
  unfolding form tree_of as_numeric as_truth as_command
  indexed_parts n inside m e = go m (rw e at (indexed_fields n inside)) (rw e at (indexed_tree n inside))
    where
      go : (m : Node) → FieldsHold table n (form m).fields → tree_in table n ≡ tree_of (tree_in table) n m → Parts table n m
      go (Number v) f t = ap as_numeric t
      go (Variable x) f t = (f.0, ap as_numeric t)
      go (Add a b) f t = (f.0, f.1.0, ap as_numeric t)
      go (Subtract a b) f t = (f.0, f.1.0, ap as_numeric t)
      go (Multiply a b) f t = (f.0, f.1.0, ap as_numeric t)
      go (Choice c a b) f t = (f.0, f.1.0, f.1.1.0, ap as_numeric t)
      go (Constant v) f t = (f.0, ap as_truth t)
      go (Equal a b) f t = (f.0, f.1.0, ap as_truth t)
      go (Less a b) f t = (f.0, f.1.0, ap as_truth t)
      go (Not a) f t = (f.0, ap as_truth t)
      go (And a b) f t = (f.0, f.1.0, ap as_truth t)
      go Skip f t = ap as_command t
      go (Assign x e) f t = (f.0, f.1.0, ap as_command t)
      go (Sequence c d) f t = (f.0, f.1.0, ap as_command t)
      go (If b c d) f t = (f.0, f.1.0, f.1.1.0, ap as_command t)
      go (While b c) f t = (f.0, f.1.0, ap as_command t)
      go (Read x a i) f t = (f.0, f.1.0, f.1.1.0, ap as_command t)
      go (Write a i e) f t = (f.0, f.1.0, f.1.1.0, ap as_command t)

  -- the tree of a node of a sort
  pub indexed_numeric : (n : ℕ) → n < nodes_in table → sort_of (node_in table n) ≡ Numeric → tree_in table n ≡ numeric (numeric_in table n)
  unfolding nodes_in node_in tree_in
  indexed_numeric n inside e = numeric_tree (tree_in table n) (tree_sort_lem (table_of table).nodes n inside ∙ e)

  -- a truth
  pub indexed_truth : (n : ℕ) → n < nodes_in table → sort_of (node_in table n) ≡ Truth → tree_in table n ≡ truth (truth_in table n)
  unfolding nodes_in node_in tree_in
  indexed_truth n inside e = truth_tree (tree_in table n) (tree_sort_lem (table_of table).nodes n inside ∙ e)

  -- a command is noted with its node number
  pub indexed_note : (n : ℕ) → n < nodes_in table → sort_of (node_in table n) ≡ Command → note_of (command_in table n) ≡ n
  unfolding nodes_in node_in tree_in
  indexed_note n inside e = tree_note (table_of table).nodes n inside e

  -- there are nodes, and no more than the limit
  pub indexed_some : 0 < nodes_in table
  unfolding nodes_in
  indexed_some = indexed_well_formed.has_nodes

  -- no more than the limit
  pub indexed_few : nodes_in table ≤ max_nodes
  unfolding nodes_in
  indexed_few = indexed_well_formed.nodes_fit

  -- the tree of node n has at most n + 1 nodes
  indexed_size : (n : ℕ) → n < nodes_in table → tree_size (tree_in table n) ≤ n + 1
  unfolding nodes_in tree_in
  indexed_size n inside = tree_size_lem (table_of table) indexed_well_formed n inside

  -- a number
  pub numeric_size : (n : ℕ) → n < nodes_in table → sort_of (node_in table n) ≡ Numeric → nodes_of_a (numeric_in table n) ≤ n + 1
  unfolding tree_size
  numeric_size n inside e = subst (λ t. tree_size t ≤ n + 1) (indexed_numeric n inside e) (indexed_size n inside)

  -- a truth
  pub truth_size : (n : ℕ) → n < nodes_in table → sort_of (node_in table n) ≡ Truth → nodes_of_b (truth_in table n) ≤ n + 1
  unfolding tree_size
  truth_size n inside e = subst (λ t. tree_size t ≤ n + 1) (indexed_truth n inside e) (indexed_size n inside)

  -- a command
  pub command_size : (n : ℕ) → n < nodes_in table → sort_of (node_in table n) ≡ Command → nodes_of (command_in table n) ≤ n + 1
  unfolding nodes_in node_in tree_in tree_size
  command_size n inside e =
      subst (λ t. tree_size t ≤ n + 1) (command_tree (tree_in table n) (tree_sort_lem (table_of table).nodes n inside ∙ e)) (indexed_size n inside)

  -- the last node is a command, the root
  pub indexed_root : root_of (table_of table) ≡ command_in table (nodes_in table - 1)
  unfolding root_of nodes_in tree_in
  indexed_root = refl

  -- it is of the sort of commands
  pub indexed_root_sort : sort_of (node_in table (nodes_in table - 1)) ≡ Command
  unfolding nodes_in node_in
  indexed_root_sort =
      let ns : List Node = (table_of table).nodes in
      let last : ℕ = length ns - 1 in
      let some = indexed_well_formed.has_nodes in
      same_sort_true (sort_of (get_or ns last Skip)) Command
      (sym (in_order_last ns last (omega arith)) ∙ each_in_order ns (length ns) indexed_well_formed.one_tree last (omega arith))

-- a child of an indexed table's node
pub child_of_sort : {table index : List ℕ} {s : Sort} {n k : ℕ} → Indexed table index → Child table s n k → OfSort table index s k
child_of_sort i c = record { indexed = i; inside = c.inside; is_sort = c.is_sort }
