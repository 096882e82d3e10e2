-- The record of each node of a labelled table, by the node's kind.
use Prim.Native.Nat.{ℕ, zero, suc, ◌-◌, ◌<◌}
use native.Mathlib.Omega.{arith}
use mathlib.Core.Bool.{Bool, true, false, cond, true≢false, ◌||◌}
use mathlib.Core.Path.{◌≡◌, refl, sym, ap, subst, ◌∙◌}
use mathlib.Core.List.{List, [], ◌∷◌, flat_map, append-nil, Memᴰ}
use lib.ListN.{length, get_or}
use borrow.Author.Tests.{lt-ltb}
use Rattle.reader.specs.Admitted.{Admitted}
use Rattle.reader.specs.Index.{table_of, version_in, nodes_in, node_in, numeric_in, truth_in, command_in, HasSort}
use Rattle.reader.proofs.Admitted.{offsets_in, bytes, indexed, parts, child}
use Rattle.awhile.specs.Language.{map_notes}
use Rattle.awhile.specs.Nodes.{form, sort_of, same_sort}
use Rattle.awhile.specs.Standing.{standing}
use Rattle.awhile.specs.Trees.{as_command, root_of}
use Rattle.awhile.proofs.Standing.{root_standing}
use Rattle.awhile.specs.declared.Labelling.{Labelling}
use Rattle.awhile.specs.declared.Sort.{Sort}
use Rattle.awhile.specs.declared.Sort.TheVariants.{Numeric, Truth, Command}
use Rattle.awhile.specs.declared.Node.{Node}
use Rattle.awhile.specs.declared.Node.TheVariants.{Sequence, If, While, Read, Write}
use Rattle.reader.proofs.Index.{Child, Parts, indexed_well_formed, indexed_parts, indexed_note, indexed_numeric, indexed_truth, indexed_some, indexed_root, indexed_root_sort}
use Rattle.awhile.proofs.Notes.{note_mapped}
use Rattle.awhile.proofs.Children.{same_sort_true}
use Rattle.labels.specs.Labellings.{array_mark, label_of, label_of_a, label_of_b}
use Rattle.labels.specs.Analysis.{read_label}
use Rattle.labels.specs.Annotation.{Entry}
use Rattle.labels.specs.Sheet.{SheetRecord, sheet_record, number, label, masks, record_bytes, command_records, records_at, entry_of}
use Rattle.variables.specs.Named.{expression_of, field_expressions, expressions_of, Named}
use Rattle.variables.proofs.Naming.{numeric_label, truth_label}
use Rattle.reader.proofs.NodeKinds.{command_kinds}
use Rattle.analysis.specs.Notes.{blank, labels_of, note_in, noted_program}
use Rattle.analysis.specs.declared.noting.Note.{Note}
use Rattle.analysis.specs.Conditions.{label_at}
use Rattle.sheets.specs.Rows.{records_in, row_in, RowPut}
use Rattle.sheets.proofs.SheetRecords.{copies, Located, records_copied}

-- a node that has no record: neither a sequence nor an if, a while, a read or a write
abbrev pub Silent : Node → Type 0
Silent m =
    ((c d : ℕ) → m ≡ Sequence c d → ⊥) × ((b c d : ℕ) → m ≡ If b c d → ⊥) × ((b c : ℕ) → m ≡ While b c → ⊥)
    × ((v a i : ℕ) → m ≡ Read v a i → ⊥) × ((a i v : ℕ) → m ≡ Write a i v → ⊥)

module _ {table : List ℕ} (admitted : Admitted table) where
  -- ---- the commands of a command are those of their numbers
  module _ (n : ℕ) (below : (k : ℕ) → k < n → k < nodes_in table → sort_of (node_in table k) ≡ Command → Located table (command_in table k)) where
    part_located : (k : ℕ) → Child table Command n k → Located table (command_in table k)
    part_located k c = below k c.below c.inside c.is_sort

    located_parts : (m : Node) → sort_of m ≡ Command → Parts table n m → Located table (command_in table n)
    located_parts =
        command_kinds (λ m. Parts table n m → Located table (command_in table n))
        (λ p. subst (Located table) (sym p) (sym p))
        (λ v e p. subst (Located table) (sym p.2) (sym p.2))
        (λ c d p. subst (Located table) (sym p.2) (sym p.2, part_located c p.0, part_located d p.1))
        (λ b c d p. subst (Located table) (sym p.3) (sym p.3, part_located c p.1, part_located d p.2))
        (λ b c p. subst (Located table) (sym p.2) (sym p.2, part_located c p.1))
        (λ v a i p. subst (Located table) (sym p.3) (sym p.3))
        (λ a i e p. subst (Located table) (sym p.3) (sym p.3))

  located : (bound n : ℕ) → n < bound → n < nodes_in table → sort_of (node_in table n) ≡ Command → Located table (command_in table n)
  located zero n h inside s = absurd (omega arith)
  located (suc bound) n h inside s =
      located_parts n (λ k lower. located bound k (omega arith)) (node_in table n) s (indexed_parts table (offsets_in table) (bytes admitted) (indexed admitted) n inside (node_in table n) refl)

  root_located : Located table (root_of (table_of table))
  root_located =
      let some = indexed_some table (offsets_in table) (bytes admitted) (indexed admitted) in
      rw (indexed_root table (offsets_in table) (bytes admitted) (indexed admitted))
      (located (nodes_in table) (nodes_in table - 1) (omega arith) (omega arith) (indexed_root_sort table (offsets_in table) (bytes admitted) (indexed admitted)))

  -- ---- whether a node stands in the root
  stands_once : (n : ℕ) → n < nodes_in table → standing n (root_of (table_of table)) ≡ cond (same_sort (sort_of (node_in table n)) Command) 1 0
  unfolding nodes_in node_in
  stands_once n inside =
      root_standing n (table_of table) (indexed_well_formed table (offsets_in table) (bytes admitted) (indexed admitted))
      ∙ ap (λ b. cond b (cond (same_sort (sort_of (node_in table n)) Command) 1 0) 0) (lt-ltb n (length (table_of table).nodes) inside)

  -- a node that is no command has no record
  pub no_command : (ns : List Note) (n : ℕ) → n < nodes_in table → (s : Sort) → sort_of (node_in table n) ≡ s → (same_sort s Command ≡ true → ⊥) → records_in table ns n ≡ []
  unfolding records_in command_records map_notes as_command same_sort
  no_command ns n inside Numeric e f = rw (indexed_numeric table (offsets_in table) (bytes admitted) (indexed admitted) n inside e)
  no_command ns n inside Truth e f = rw (indexed_truth table (offsets_in table) (bytes admitted) (indexed admitted) n inside e)
  no_command ns n inside Command e f = absurd (f refl)

  -- the records of a node in the noted program
  pub records_at_lem : (ns : List Note) (n : ℕ) → n < nodes_in table → records_at (noted_program table ns) n ≡ records_in table ns n
  unfolding noted_program copies same_sort
  records_at_lem ns n inside =
      records_copied table ns n (root_of (table_of table)) root_located
      ∙ ap (λ k. copies k (records_in table ns n)) (stands_once n inside)
      ∙ go (sort_of (node_in table n)) refl
    where
      go : (s : Sort) → sort_of (node_in table n) ≡ s → copies (cond (same_sort s Command) 1 0) (records_in table ns n) ≡ records_in table ns n
      go Numeric e = sym (no_command ns n inside Numeric e (λ h. true≢false (sym h)))
      go Truth e = sym (no_command ns n inside Truth e (λ h. true≢false (sym h)))
      go Command e = append-nil (records_in table ns n)

-- ---- what a command's record is made from stands in the table
module _ {table : List ℕ} (admitted : Admitted table) {n : ℕ} (command : HasSort table Command n) where
  parts_of : (m : Node) → m ≡ node_in table n → Parts table n m
  parts_of m is = parts admitted command.inside is m refl

  pub sequence_inside : {c d : ℕ} → Sequence c d ≡ node_in table n → d < nodes_in table
  sequence_inside is = (parts_of _ is).1.inside

  pub if_inside : {b c d : ℕ} → If b c d ≡ node_in table n → (n < nodes_in table) × (b < nodes_in table)
  if_inside is = (command.inside, (parts_of _ is).0.inside)

  pub while_inside : {b c : ℕ} → While b c ≡ node_in table n → (c < nodes_in table) × (b < nodes_in table)
  while_inside is = let p = parts_of _ is in (p.1.inside, p.0.inside)

  pub read_inside : {v a i : ℕ} → Read v a i ≡ node_in table n → (n < nodes_in table) × (i < nodes_in table)
  read_inside is = (command.inside, (parts_of _ is).2.inside)

  pub write_inside : {a i v : ℕ} → Write a i v ≡ node_in table n → (n < nodes_in table) × (i < nodes_in table)
  write_inside is = (command.inside, (parts_of _ is).1.inside)

-- ---- a command's record, by its kind
module _ {table named : List ℕ} (ns : List Note) (admitted : Admitted table) (names : Named table named) {n : ℕ} (command : HasSort table Command n) where
  abbrev noted : ℕ → Labelling
  noted k = (note_in ns k).labelling

  -- what enters a child
  child_entry : {k : ℕ} → Child table Command n k → entry_of (map_notes (note_in ns) (command_in table k)) ≡ noted k
  unfolding entry_of
  child_entry {k} h =
      ap (λ (e : Entry). e.labelling)
      (note_mapped (note_in ns) (command_in table k) ∙ ap (note_in ns) (indexed_note table (offsets_in table) (bytes admitted) (indexed admitted) k h.inside h.is_sort))

  module _ (k : Labelling) {m : Node} (is : m ≡ node_in table n) {e : ℕ} (held : Memᴰ e (expressions_of m)) where
    numeric_is : Child table Numeric n e → label_at named k e ≡ label_of_a k (numeric_in table e)
    numeric_is c = numeric_label admitted names command k (rw (← is) held) (child c)

    truth_is : Child table Truth n e → label_at named k e ≡ label_of_b k (truth_in table e)
    truth_is c = truth_label admitted names command k (rw (← is) held) (child c)

  -- 129: the masks after a sequence's first part are what enters its second
  pub sequence_row : {c d : ℕ} → Sequence c d ≡ node_in table n → {l : Labelling} → l ≡ labels_of (get_or ns d blank)
      → sheet_record 129 (number n ∷ masks l ∷ []) ∷ [] ≡ records_in table ns n
  unfolding records_in command_records map_notes note_in
  sequence_row {c} {d} e q = let p = parts_of admitted command (Sequence c d) e in rw (p.2, child_entry p.1, q)

  -- 130: the label of an if's condition
  pub if_row : {b c d : ℕ} → If b c d ≡ node_in table n → {x : Bool} → x ≡ label_at named (noted n) b
      → sheet_record 130 (number n ∷ label x ∷ []) ∷ [] ≡ records_in table ns n
  unfolding records_in command_records map_notes note_in expressions_of field_expressions expression_of form flat_map
  if_row {b} {c} {d} e s = let p = parts_of admitted command (If b c d) e in rw (p.3, s, truth_is (noted n) e (Memᴰ.head refl) p.0)

  -- 131: the settled masks of a while are what enters its body, and label its condition
  pub while_row : {b c : ℕ} → While b c ≡ node_in table n → {x : Bool} {l : Labelling} → x ≡ label_at named (noted c) b → l ≡ labels_of (get_or ns c blank)
      → sheet_record 131 (number n ∷ label x ∷ masks l ∷ []) ∷ [] ≡ records_in table ns n
  unfolding records_in command_records map_notes note_in expressions_of field_expressions expression_of form flat_map
  while_row {b} {c} e s q = let p = parts_of admitted command (While b c) e in rw (p.2, child_entry p.1, s, truth_is (noted c) e (Memᴰ.head refl) p.0, q)

  -- 132: the labels of a read's variable and index
  pub read_row : {v a i : ℕ} → Read v a i ≡ node_in table n → {y z : Bool}
      → y ≡ (label_at named (noted n) i || (label_of (noted n) (array_mark a) || (note_in ns n).context)) → z ≡ label_at named (noted n) i
      → sheet_record 132 (number n ∷ label y ∷ label z ∷ []) ∷ [] ≡ records_in table ns n
  unfolding records_in command_records map_notes note_in read_label expressions_of field_expressions expression_of form flat_map
  read_row {v} {a} {i} e s t = let p = parts_of admitted command (Read v a i) e in rw (p.3, s, t, numeric_is (noted n) e (Memᴰ.head refl) p.2)

  -- 133: the label of a write's index
  pub write_row : {a i v : ℕ} → Write a i v ≡ node_in table n → {x : Bool} → x ≡ label_at named (noted n) i
      → sheet_record 133 (number n ∷ label x ∷ []) ∷ [] ≡ records_in table ns n
  unfolding records_in command_records map_notes note_in expressions_of field_expressions expression_of form flat_map
  write_row {a} {i} {v} e s = let p = parts_of admitted command (Write a i v) e in rw (p.3, s, numeric_is (noted n) e (Memᴰ.head refl) p.1)

  -- no other command has one
  pub no_row : {m : Node} → m ≡ node_in table n → Silent m → records_in table ns n ≡ []
  unfolding records_in command_records map_notes
  no_row is silent =
      command_kinds (λ m. Silent m → Parts table n m → records_in table ns n ≡ [])
      (λ s p. rw p refl)
      (λ v e s p. rw p.2 refl)
      (λ c d s p. absurd (s.0 c d refl))
      (λ b c d s p. absurd (s.1 b c d refl))
      (λ b c s p. absurd (s.2 b c refl))
      (λ v a i s p. absurd (s.3 v a i refl))
      (λ a i v s p. absurd (s.4 a i v refl))
      (node_in table n) command.is_sort (subst Silent is silent) (parts_of admitted command _ refl)

-- ---- its bytes
module _ (table : List ℕ) (ns : List Note) (n : ℕ) {out : List ℕ} {at : ℕ} where
  -- of the one record
  pub one_put : {v : ℕ} → v ≡ version_in table → {r : SheetRecord} → r ∷ [] ≡ records_in table ns n → {out' : List ℕ} {end : ℕ}
      → RowPut out at (record_bytes v r) out' end → RowPut out at (row_in table ns n) out' end
  unfolding row_in flat_map
  one_put {v} e {r} is {out'} {end} p =
      subst (λ bs. RowPut out at bs out' end)
      (ap (λ w. record_bytes w r) e ∙ sym (append-nil (record_bytes (version_in table) r)) ∙ ap (flat_map (record_bytes (version_in table))) is) p

  -- where there is none, none are written
  pub none_put : records_in table ns n ≡ [] → RowPut out at (row_in table ns n) out at
  unfolding row_in flat_map
  none_put e = rw e (record { ends = omega arith; stored = λ h. refl })

-- a node that was found to be a command is one, and what was found to be none has no record
pub found_command : {table : List ℕ} {n : ℕ} {b : Bool} → n < nodes_in table → b ≡ same_sort (sort_of (node_in table n)) Command → b ≡ true → HasSort table Command n
found_command {table} {n} inside e f = record { inside = inside; is_sort = same_sort_true (sort_of (node_in table n)) Command (sym e ∙ f) }

pub found_none : {table : List ℕ} (ns : List Note) {n : ℕ} {b : Bool} → Admitted table → n < nodes_in table → b ≡ same_sort (sort_of (node_in table n)) Command → b ≡ false
    → records_in table ns n ≡ []
found_none {table} ns {n} admitted inside e f = no_command admitted ns n inside (sort_of (node_in table n)) refl (λ h. true≢false (sym h ∙ sym e ∙ f))

-- what is looked at for the record of a node
pub ruleset looked_at = (sequence_inside, if_inside, while_inside, read_inside, write_inside, found_command)
