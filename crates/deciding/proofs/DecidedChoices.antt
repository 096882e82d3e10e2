-- Decisions in memory: three choices tell the decision that they were made from, each kind of command has its choices from the labels noted, and
-- the choices on all nodes are the decisions of the program.
use Prim.Native.Nat.{ℕ, zero, suc, ◌+◌, ◌-◌, ◌≤◌, ◌<◌}
use native.Mathlib.Omega.{arith}
use mathlib.Core.Bool.{Bool, true, false, ◌||◌, true≢false}
use mathlib.Core.Bool.{not as negated}
use mathlib.Core.List.{List, flat_map, Memᴰ}
use mathlib.Core.Path.{◌≡◌, refl, sym, ap, subst, ◌∙◌}
use borrow.Author.Count.{below_more}
use lib.ListN.{length, get_or, set}
use lib.Seq.{get_or-set_same, get_or-set_other}
use Rattle.awhile.specs.Language.{Com, skip, assign, sequence, if, while, read, write, note_of, map_notes}
use Rattle.awhile.specs.Nodes.{form, sort_of, same_sort}
use Rattle.awhile.specs.declared.Labelling.{Labelling}
use Rattle.awhile.specs.declared.Node.{Node}
use Rattle.awhile.specs.declared.Node.TheVariants.{If, While, Read, Write}
use Rattle.awhile.specs.declared.Sort.TheVariants.{Numeric, Truth, Command}
use Rattle.awhile.proofs.Notes.{note_mapped}
use Rattle.awhile.proofs.Children.{same_sort_true}
use Rattle.reader.specs.Admitted.{Admitted}
use Rattle.reader.specs.Index.{table_of, nodes_in, node_in, numeric_in, truth_in, command_in, HasSort}
use Rattle.reader.proofs.Admitted.{offsets_in, bytes, indexed, parts, child}
use Rattle.reader.proofs.Index.{Child, Parts, indexed_parts, indexed_note, indexed_some, indexed_root, indexed_root_sort}
use Rattle.labels.specs.Analysis.{read_label}
use Rattle.labels.specs.Annotation.{Entry}
use Rattle.labels.specs.Labellings.{array_mark, label_of, label_of_a, label_of_b}
use Rattle.labels.specs.Sheet.{entry_of, annotated}
use Rattle.variables.specs.Named.{expression_of, field_expressions, expressions_of, Named}
use Rattle.variables.proofs.Naming.{numeric_label, truth_label}
use Rattle.analysis.specs.Conditions.{label_at, Labelled}
use Rattle.analysis.specs.declared.noting.Note.{Note}
use Rattle.analysis.specs.Notes.{note_in, noted_program}
use Rattle.reader.proofs.NodeKinds.{command_kinds}
use Rattle.analysis.proofs.NotedPrograms.{labelled_program}
use Rattle.masks.specs.Decisions.{Decision, decide}
use Rattle.deciding.specs.Deciding.{none, choices, decision_in, decided_in, Decides, annotated_in, choices_in, DecidedBelow}
use Rattle.deciding.specs.declared.decisions.Decision.{Decision as Choices}

-- ---- the choices tell their decision
decision_told : (ds : List Choices) (d : Decision) → get_or ds d.node none ≡ choices d → decision_in ds d.node ≡ d
unfolding decision_in
decision_told ds d e = rw e refl

-- the same choices, the same decision
same_choices : (ds es : List Choices) (n : ℕ) → get_or ds n none ≡ get_or es n none → decision_in ds n ≡ decision_in es n
unfolding decision_in
same_choices ds es n e = rw e refl

-- a decision has the number of its command
decided_node : (c : Com Entry) → (note_of (decide c)).node ≡ (note_of c).node
unfolding decide note_of
decided_node (skip e) = refl
decided_node (assign e x a) = refl
decided_node (sequence e c d) = refl
decided_node (if e b c d) = refl
decided_node (while e b c) = refl
decided_node (read e x a i) = refl
decided_node (write e a i v) = refl

-- ---- the choices on a command, by its kind
-- neither an if nor a loop, a read or a write
abbrev pub Unmasked : Node → Type 0
Unmasked m =
    ((b c d : ℕ) → m ≡ If b c d → ⊥) × ((b c : ℕ) → m ≡ While b c → ⊥) × ((x a i : ℕ) → m ≡ Read x a i → ⊥) × ((a i e : ℕ) → m ≡ Write a i e → ⊥)

module _ {table : List ℕ} (admitted : Admitted table) {n : ℕ} (command : HasSort table Command n) where
  parts_of : (m : Node) → m ≡ node_in table n → Parts table n m
  parts_of m is = parts admitted command.inside is m refl

  -- an expression that it holds, and the command whose note tells its label
  pub if_looks : {b c d : ℕ} → If b c d ≡ node_in table n → (b < nodes_in table) × (n < nodes_in table)
  if_looks is = ((parts_of _ is).0.inside, command.inside)

  pub while_looks : {b c : ℕ} → While b c ≡ node_in table n → (b < nodes_in table) × (c < nodes_in table)
  while_looks is = let p = parts_of _ is in (p.0.inside, p.1.inside)

  pub read_looks : {x a i : ℕ} → Read x a i ≡ node_in table n → (i < nodes_in table) × (n < nodes_in table)
  read_looks is = ((parts_of _ is).2.inside, command.inside)

  pub write_looks : {a i v : ℕ} → Write a i v ≡ node_in table n → (i < nodes_in table) × (n < nodes_in table)
  write_looks is = ((parts_of _ is).1.inside, command.inside)

module _ {table named : List ℕ} (ns : List Note) (admitted : Admitted table) (names : Named table named) {n : ℕ} (command : HasSort table Command n) where
  module _ (l : Labelling) {m : Node} (is : m ≡ node_in table n) {e : ℕ} (held : Memᴰ e (expressions_of m)) where
    numeric_is : Child table Numeric n e → label_at named l e ≡ label_of_a l (numeric_in table e)
    numeric_is c = numeric_label admitted names command l (rw (← is) held) (child c)

    truth_is : Child table Truth n e → label_at named l e ≡ label_of_b l (truth_in table e)
    truth_is c = truth_label admitted names command l (rw (← is) held) (child c)

  pub if_choices : {b c d : ℕ} {told : Bool} → If b c d ≡ node_in table n → told ≡ label_at named (note_in ns n).labelling b
      → record { condition = told; index = false; value = false } ≡ choices_in table ns n
  unfolding annotated_in decide map_notes note_of note_in expressions_of field_expressions expression_of form flat_map
  if_choices {b} {c} {d} is e =
      let p = parts_of admitted command (If b c d) is in
      let told = e ∙ truth_is (note_in ns n).labelling is (Memᴰ.head refl) p.0 in
      rw (p.3, ← told) refl

  -- a loop's condition is labelled by what enters its body
  pub while_choices : {b c : ℕ} {told : Bool} → While b c ≡ node_in table n → told ≡ label_at named (note_in ns c).labelling b
      → record { condition = told; index = false; value = false } ≡ choices_in table ns n
  unfolding annotated_in decide map_notes note_of note_in entry_of expressions_of field_expressions expression_of form flat_map
  while_choices {b} {c} is e =
      let p = parts_of admitted command (While b c) is in
      let noted = indexed_note table (offsets_in table) (bytes admitted) (indexed admitted) c p.1.inside p.1.is_sort in
      let entry : note_of (map_notes (note_in ns) (command_in table c)) ≡ note_in ns c = note_mapped (note_in ns) (command_in table c) ∙ ap (note_in ns) noted in
      let told = e ∙ truth_is (note_in ns c).labelling is (Memᴰ.head refl) p.0 ∙ ap (λ x. label_of_b x.labelling (truth_in table b)) (sym entry) in
      rw (p.2, ← told) refl

  pub read_choices : {x a i : ℕ} {told hidden : Bool} → Read x a i ≡ node_in table n → told ≡ label_at named (note_in ns n).labelling i
      → hidden ≡ negated ((label_at named (note_in ns n).labelling i || (label_of (note_in ns n).labelling (array_mark a) || (note_in ns n).context)) || label_at named (note_in ns n).labelling i)
      → record { condition = false; index = told; value = hidden } ≡ choices_in table ns n
  unfolding annotated_in decide map_notes note_of note_in read_label expressions_of field_expressions expression_of form flat_map
  read_choices {x} {a} {i} is e g =
      let p = parts_of admitted command (Read x a i) is in
      let l = (note_in ns n).labelling in
      let index_is = numeric_is l is (Memᴰ.head refl) p.2 in
      let told = e ∙ index_is in
      let hidden = g ∙ ap (λ b. negated ((b || (label_of l (array_mark a) || (note_in ns n).context)) || b)) index_is in
      rw (p.3, ← hidden, ← told) refl

  pub write_choices : {a i v : ℕ} {told : Bool} → Write a i v ≡ node_in table n → told ≡ label_at named (note_in ns n).labelling i
      → record { condition = false; index = told; value = false } ≡ choices_in table ns n
  unfolding annotated_in decide map_notes note_of note_in expressions_of field_expressions expression_of form flat_map
  write_choices {a} {i} {v} is e =
      let p = parts_of admitted command (Write a i v) is in
      let told = e ∙ numeric_is (note_in ns n).labelling is (Memᴰ.head refl) p.1 in
      rw (p.3, ← told) refl

  -- the other commands have no mask
  pub other_choices : {m : Node} → m ≡ node_in table n → Unmasked m → none ≡ choices_in table ns n
  unfolding annotated_in decide map_notes note_of note_in
  other_choices is unmasked =
      command_kinds (λ m. Unmasked m → Parts table n m → none ≡ choices_in table ns n)
      (λ u p. rw p refl)
      (λ x e u p. rw p.2 refl)
      (λ c d u p. rw p.2 refl)
      (λ b c d u p. absurd (u.0 b c d refl))
      (λ b c u p. absurd (u.1 b c refl))
      (λ x a i u p. absurd (u.2 x a i refl))
      (λ a i e u p. absurd (u.3 a i e refl))
      (node_in table n) command.is_sort (subst Unmasked is unmasked) (parts_of admitted command _ refl)

-- what is looked at for each kind, and the choices made
pub ruleset by_kind = (if_looks, while_looks, read_looks, write_looks, if_choices, while_choices, read_choices, write_choices, other_choices)

module _ {table : List ℕ} (admitted : Admitted table) where
  -- ---- one more command is decided
  command_numbered : (ns : List Note) (n : ℕ) → n < nodes_in table → sort_of (node_in table n) ≡ Command → (note_of (decide (annotated_in table ns n))).node ≡ n
  unfolding annotated_in note_in
  command_numbered ns n inside s =
      decided_node (map_notes (note_in ns) (command_in table n))
      ∙ ap (λ (e : Entry). e.node) (note_mapped (note_in ns) (command_in table n))
      ∙ indexed_note table (offsets_in table) (bytes admitted) (indexed admitted) n inside s

  command_told : (ns : List Note) (ds : List Choices) (n : ℕ) → n < nodes_in table → sort_of (node_in table n) ≡ Command → get_or ds n none ≡ choices_in table ns n
      → decision_in ds n ≡ note_of (decide (annotated_in table ns n))
  command_told ns ds n inside s e =
      let d : Decision = note_of (decide (annotated_in table ns n)) in
      let number : d.node ≡ n = command_numbered ns n inside s in
      ap (decision_in ds) (sym number) ∙ decision_told ds d (ap (λ k. get_or ds k none) number ∙ e)

  module _ {ns : List Note} {ds : List Choices} {n : ℕ} (below : DecidedBelow table ns ds n) where
    abbrev Told : List Choices → ℕ → Type 0
    Told es k = sort_of (node_in table k) ≡ Command → decision_in es k ≡ note_of (decide (annotated_in table ns k))

    stored : n < nodes_in table → n < length ds → (b : Choices) → b ≡ choices_in table ns n → DecidedBelow table ns (set ds n b) (n + 1)
    stored inside room b e =
        record {
          each =
              below_more (Told (set ds n b)) n (λ k h s. same_choices (set ds n b) ds k (get_or-set_other ds n k b none (λ p. omega arith)) ∙ below.each k h s)
              (λ s. command_told ns (set ds n b) n inside s (get_or-set_same ds n b none room ∙ e));
        }

    pub next_decided : n < nodes_in table → n < length ds → {b : Choices} → b ≡ choices_in table ns n → {es : List Choices} → es ≡ set ds n b → DecidedBelow table ns es (n + 1)
    next_decided inside room {b} e p = rw p (stored inside room b e)

    -- where it is no command there is nothing to decide
    pub next_passed : same_sort (sort_of (node_in table n)) Command ≡ false → {es : List Choices} → es ≡ ds → DecidedBelow table ns es (n + 1)
    unfolding same_sort
    next_passed e p =
        rw p (record { each = below_more (Told ds) n below.each (λ s. absurd (true≢false (ap (λ t. same_sort t Command) (sym s) ∙ e))) })

  -- ---- the decisions of all nodes are those of the program
  module _ {ns : List Note} {ds : List Choices} (all : DecidedBelow table ns ds (nodes_in table)) where
    module _ (n : ℕ) (inside : n < nodes_in table) (s : sort_of (node_in table n) ≡ Command)
        (lower : (k : ℕ) → Child table Command n k → decided_in table ds k ≡ decide (annotated_in table ns k)) where
      parts_decided : (m : Node) → sort_of m ≡ Command → Parts table n m → decided_in table ds n ≡ decide (annotated_in table ns n)
      unfolding decided_in annotated_in decide map_notes note_of
      parts_decided =
          let own : decision_in ds n ≡ note_of (decide (annotated_in table ns n)) = all.each n inside s in
          command_kinds (λ m. Parts table n m → decided_in table ds n ≡ decide (annotated_in table ns n))
          (λ p. rw p (ap skip (rw p at own)))
          (λ x e p. rw p.2 (ap (λ d. assign d x (numeric_in table e)) (rw p.2 at own)))
          (λ c d p. let head = rw p.2 at own in rw p.2 (λ i. sequence (head i) (lower c p.0 i) (lower d p.1 i)))
          (λ b c d p. let head = rw p.3 at own in rw p.3 (λ i. if (head i) (truth_in table b) (lower c p.1 i) (lower d p.2 i)))
          (λ b c p. let head = rw p.2 at own in rw p.2 (λ i. while (head i) (truth_in table b) (lower c p.1 i)))
          (λ x a i p. rw p.3 (ap (λ d. read d x a (numeric_in table i)) (rw p.3 at own)))
          (λ a i e p. rw p.3 (ap (λ d. write d a (numeric_in table i) (numeric_in table e)) (rw p.3 at own)))

    node_decided : (bound n : ℕ) → n < bound → n < nodes_in table → sort_of (node_in table n) ≡ Command → decided_in table ds n ≡ decide (annotated_in table ns n)
    node_decided zero n h inside s = absurd (omega arith)
    node_decided (suc bound) n h inside s =
        parts_decided n inside s (λ k c. node_decided bound k (omega (arith, c.below)) c.inside c.is_sort) (node_in table n) s (indexed_parts table (offsets_in table) (bytes admitted) (indexed admitted) n inside (node_in table n) refl)

    root_decided : Labelled table ns (table_of table).labels → decided_in table ds (nodes_in table - 1) ≡ decide (annotated (table_of table) (table_of table).labels)
    unfolding annotated_in noted_program
    root_decided labelled =
        let some = indexed_some table (offsets_in table) (bytes admitted) (indexed admitted) in
        node_decided (nodes_in table) (nodes_in table - 1) (omega arith) (omega arith) (indexed_root_sort table (offsets_in table) (bytes admitted) (indexed admitted))
        ∙ ap (λ c. decide (map_notes (note_in ns) c)) (sym (indexed_root table (offsets_in table) (bytes admitted) (indexed admitted)))
        ∙ ap decide (labelled_program labelled)

    pub all_decided : nodes_in table ≤ length ds → Labelled table ns (table_of table).labels → Decides table ds
    all_decided room labelled = record { room = room; program = root_decided labelled }

-- a node that was found to be a command is one
pub found_command : {table : List ℕ} {n : ℕ} {b : Bool} → n < nodes_in table → b ≡ same_sort (sort_of (node_in table n)) Command → b ≡ true → HasSort table Command n
found_command {table} {n} inside e f = record { inside = inside; is_sort = same_sort_true (sort_of (node_in table n)) Command (sym e ∙ f) }

-- a loop over the nodes decides on one more
pub ruleset one_more = (found_command, next_decided, next_passed)
