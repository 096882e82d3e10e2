-- The analysis in code, by the kind of a node: what its parts require, and what it leaves.
use Prim.Native.Nat.{ℕ, ◌+◌, ◌≤◌, ◌<◌}
use mathlib.Core.Bool.{Bool, cond, ◌||◌}
use mathlib.Core.List.{List, flat_map, Memᴰ}
use mathlib.Core.Path.{◌≡◌, refl, sym, ap, ap₂, subst, ◌∙◌}
use native.Mathlib.Omega.{arith}
use lib.Dec.{eqb}
use lib.ListN.{length, set}
use Rattle.awhile.proofs.Versions.{declared_variables}
use Rattle.reader.specs.Index.{table_of, nodes_in, node_in, numeric_in, truth_in, command_in, HasSort, Single}
use Rattle.awhile.specs.Language.{note_of, skip, assign, sequence, if, while, read, write}
use Rattle.awhile.specs.Nodes.{form, sort_of}
use Rattle.awhile.specs.WellFormed.{Declared}
use Rattle.awhile.specs.declared.Labelling.{Labelling}
use Rattle.awhile.specs.declared.Sort.TheVariants.{Numeric, Truth, Command}
use Rattle.awhile.specs.declared.Node.{Node}
use Rattle.awhile.specs.declared.Node.TheVariants.{Skip, Assign, Sequence, If, While, Read, Write}
use Rattle.reader.specs.Admitted.{Admitted}
use Rattle.reader.proofs.Admitted.{offsets_in, bytes, indexed, parts, child}
use Rattle.reader.proofs.Index.{Child, Parts, indexed_note, indexed_well_formed}
use Rattle.variables.specs.Named.{Named}
use Rattle.labels.specs.Labellings.{variable_mark, array_mark, label_of, label_of_a, label_of_b, set_label, join}
use Rattle.labels.specs.Analysis.{read_label, write_label, analyse}
use Rattle.labels.specs.Annotation.{entered, annotate}
use Rattle.variables.specs.Named.{expression_of, field_expressions, expressions_of}
use Rattle.variables.proofs.Naming.{numeric_label, truth_label}
use Rattle.reader.proofs.NodeKinds.{command_kinds}
use Rattle.analysis.specs.declared.noting.Note.{Note}
use Rattle.analysis.specs.Notes.{noted, note_in}
use Rattle.awhile.specs.Standing.{standing, Distinct}
use Rattle.analysis.specs.Warm.{InOrder}
use Rattle.analysis.specs.Conditions.{label_at, SingleFits, SingleAfter, NoteRoom, Analysable, Analysed, Settleable, SettledLoop}
use Rattle.analysis.proofs.CommandNotes.{NotedAt, note_stored, distinct_part, alone_analysed}
use Rattle.analysis.proofs.CommandNotes.{first_in_order, second_in_order, sequence_analysed, if_analysed, loop_ready, while_analysed, while_remembered}

-- the same room, in a slice as long
pub same_room : {table : List ℕ} {ns ns' : List Note} → NoteRoom table ns → length ns' ≡ length ns → NoteRoom table ns'
same_room r e = record { room = omega (arith, r.room) }

-- a command's own number is its node's
pub command_note : {table : List ℕ} {n : ℕ} → Admitted table → HasSort table Command n → note_of (command_in table n) ≡ n
command_note {table} {n} admitted h = indexed_note table (offsets_in table) (bytes admitted) (indexed admitted) n h.inside h.is_sort

-- ---- a command that may be analysed: there is room for its note, and what the code stores on entry is the note
pub entry_noted : {table : List ℕ} {ns ns' : List Note} {n : ℕ} {x : Bool} {l : Labelling} → Analysable table ns n x l → ns' ≡ set ns n (noted x l) → NotedAt n x l ns ns'
entry_noted {ns = ns} {n = n} {x = x} {l = l} pre e = note_stored n x l ns (omega (arith, pre.node.inside, pre.notes_fit.room)) e

module _ {table named : List ℕ} {ns : List Note} {n : ℕ} {x : Bool} {l : Labelling} (admitted : Admitted table) (names : Named table named) (pre : Analysable table ns n x l) where
  pub parts_of : (m : Node) → node_in table n ≡ m → Parts table n m
  parts_of m e = parts admitted pre.node.inside refl m e

  -- the labels of the expressions that it holds
  module _ (k : Labelling) {m : Node} (is : node_in table n ≡ m) {e : ℕ} (held : Memᴰ e (expressions_of m)) where
    numeric_is : Child table Numeric n e → label_at named k e ≡ label_of_a k (numeric_in table e)
    numeric_is c = numeric_label admitted names pre.node k (rw is held) (child c)

    truth_is : Child table Truth n e → label_at named k e ≡ label_of_b k (truth_in table e)
    truth_is c = truth_label admitted names pre.node k (rw is held) (child c)

  -- ---- without parts
  declared : Declared (table_of table).version (table_of table).variables (table_of table).labels (table_of table).counts
  declared = (indexed_well_formed table (offsets_in table) (bytes admitted) (indexed admitted)).declared

  pub single_fits : (m : Node) → m ≡ node_in table n → SingleFits (nodes_in table) m
  single_fits m e =
      record {
        assign = λ v i is. let p = parts_of (Assign v i) (sym e ∙ is) in (omega (arith, p.0, declared_variables declared), p.1.inside);
        read = λ v a i is. let p = parts_of (Read v a i) (sym e ∙ is) in (omega (arith, p.0, declared_variables declared), p.2.inside);
        write = λ a i v is. let p = parts_of (Write a i v) (sym e ∙ is) in (omega (arith, p.0, declared.arrays_fit), p.1.inside, p.2.inside);
      }

  -- its function answers what the analysis does
  pub single_answers : (m : Node) → node_in table n ≡ m → sort_of m ≡ Command → Single m → {r : Labelling}
      → SingleAfter named m x l r → r ≡ analyse (command_in table n) x l
  unfolding analyse read_label write_label expressions_of field_expressions expression_of form flat_map
  single_answers m is sort o {r} a =
      command_kinds (λ m. node_in table n ≡ m → Single m → SingleAfter named m x l r → r ≡ analyse (command_in table n) x l)
      (λ is o a. rw (parts_of Skip is) (a.skip refl))
      (λ v e is o a. let p = parts_of (Assign v e) is in
      rw p.2 (a.assign v e refl ∙ ap (λ b. set_label l (variable_mark v) (b || x)) (numeric_is l is (Memᴰ.head refl) p.1)))
      (λ c d is o a. absurd (o.no_sequence c d refl))
      (λ b c d is o a. absurd (o.no_if b c d refl))
      (λ b c is o a. absurd (o.no_while b c refl))
      (λ v y i is o a. let p = parts_of (Read v y i) is in
      rw p.3 (a.read v y i refl ∙ ap (λ b. set_label l (variable_mark v) (b || (label_of l (array_mark y) || x))) (numeric_is l is (Memᴰ.head refl) p.2)))
      (λ y i e is o a. let p = parts_of (Write y i e) is in
      rw p.3
      (a.write y i e refl
      ∙ ap₂ (λ b c. set_label l (array_mark y) (label_of l (array_mark y) || (b || (c || x))))
      (numeric_is l is (Memᴰ.head refl) p.1) (numeric_is l is (Memᴰ.tail (Memᴰ.head refl)) p.2)))
      m sort is o a

  -- and it leaves its own note
  pub single_analysed : {ns' : List Note} → NotedAt n x l ns ns' → (m : Node) → node_in table n ≡ m → sort_of m ≡ Command → Single m
      → {r : Labelling} → r ≡ analyse (command_in table n) x l → Analysed (command_in table n) x l ns ns' r
  unfolding annotate standing
  single_analysed {ns'} w m is sort o {r} q =
      command_kinds (λ m. node_in table n ≡ m → Single m → Analysed (command_in table n) x l ns ns' r)
      (λ is o. let p = parts_of Skip is in rw p (alone_analysed w (skip n) (λ k. refl) w.here (rw p at q)))
      (λ v e is o. let p = parts_of (Assign v e) is in rw p.2 (alone_analysed w (assign n v (numeric_in table e)) (λ k. refl) w.here (rw p.2 at q)))
      (λ c d is o. absurd (o.no_sequence c d refl))
      (λ b c d is o. absurd (o.no_if b c d refl))
      (λ b c is o. absurd (o.no_while b c refl))
      (λ v a i is o. let p = parts_of (Read v a i) is in rw p.3 (alone_analysed w (read n v a (numeric_in table i)) (λ k. refl) w.here (rw p.3 at q)))
      (λ a i e is o. let p = parts_of (Write a i e) is in
      rw p.3 (alone_analysed w (write n a (numeric_in table i) (numeric_in table e)) (λ k. refl) w.here (rw p.3 at q)))
      m sort is o

  -- ---- two parts, analysed one after the other
  module _ {s1 : List Note} (w : NotedAt n x l ns s1) (c d : ℕ)
      (once : (k : ℕ) → cond (eqb k n) 1 0 + standing k (command_in table c) + standing k (command_in table d) ≤ 1)
      (p : Child table Command n c) (q : Child table Command n d) where
    first_ready : (y : Bool) (m : Labelling) → InOrder ns (command_in table c) y m → Analysable table s1 c y m
    first_ready y m h =
        record {
          node = child p;
          distinct = record { once = λ k. omega (arith, once k) };
          notes_fit = same_room pre.notes_fit w.long;
          in_order = first_in_order w (command_in table c) (command_in table d) once y m h;
        }

    second_ready : {y : Bool} {m r : Labelling} {s2 : List Note} → Analysed (command_in table c) y m s1 s2 r → length s2 ≡ length s1 → (z : Bool) (k : Labelling)
        → InOrder ns (command_in table d) z k → Analysable table s2 d z k
    second_ready f e z k h =
        record {
          node = child q;
          distinct = record { once = λ k. omega (arith, once k) };
          notes_fit = same_room pre.notes_fit (e ∙ w.long);
          in_order = second_in_order w (command_in table c) (command_in table d) once f z k h;
        }

  module _ {c d : ℕ} (is : node_in table n ≡ Sequence c d) where
    sequence_parts : Parts table n (Sequence c d)
    sequence_parts = parts_of (Sequence c d) is

    sequence_distinct : Distinct (sequence n (command_in table c) (command_in table d))
    sequence_distinct = rw sequence_parts.2 at pre.distinct

    sequence_once : (k : ℕ) → cond (eqb k n) 1 0 + standing k (command_in table c) + standing k (command_in table d) ≤ 1
    unfolding standing
    sequence_once k = sequence_distinct.once k

    sequence_in_order : InOrder ns (sequence n (command_in table c) (command_in table d)) x l
    sequence_in_order = subst (λ m. InOrder ns m x l) sequence_parts.2 pre.in_order

    module _ {s1 : List Note} (w : NotedAt n x l ns s1) where
      -- what a sequence's first part requires is there
      pub sequence_first : Analysable table s1 c x l
      sequence_first = first_ready w c d sequence_once sequence_parts.0 sequence_parts.1 x l sequence_in_order.0

      module _ {s2 : List Note} {r : Labelling} (f : Analysed (command_in table c) x l s1 s2 r) where
        -- and what its second part requires, entered with what the first leaves
        pub sequence_second : length s2 ≡ length s1 → Analysable table s2 d x r
        sequence_second e =
            second_ready w c d sequence_once sequence_parts.0 sequence_parts.1 f e x r
            (subst (InOrder ns (command_in table d) x) (sym f.answers) sequence_in_order.1)

        pub sequence_left : {s3 : List Note} {s : Labelling} → Analysed (command_in table d) x r s2 s3 s → Analysed (command_in table n) x l ns s3 s
        sequence_left g = rw sequence_parts.2 (sequence_analysed w (command_in table c) (command_in table d) sequence_once f g)

  module _ {b c d : ℕ} (is : node_in table n ≡ If b c d) where
    if_parts : Parts table n (If b c d)
    if_parts = parts_of (If b c d) is

    if_distinct : Distinct (if n (truth_in table b) (command_in table c) (command_in table d))
    if_distinct = rw if_parts.3 at pre.distinct

    if_once : (k : ℕ) → cond (eqb k n) 1 0 + standing k (command_in table c) + standing k (command_in table d) ≤ 1
    unfolding standing
    if_once k = if_distinct.once k

    if_in_order : InOrder ns (if n (truth_in table b) (command_in table c) (command_in table d)) x l
    if_in_order = subst (λ m. InOrder ns m x l) if_parts.3 pre.in_order

    pub if_named : b < nodes_in table
    if_named = if_parts.0.inside

    -- the context of its sides
    module _ {y : Bool} (guard : y ≡ (label_at named l b || x)) where
      guard_is : y ≡ (label_of_b l (truth_in table b) || x)
      unfolding expressions_of field_expressions expression_of form flat_map
      guard_is = guard ∙ ap (λ z. z || x) (truth_is l is (Memᴰ.head refl) if_parts.0)

      module _ {s1 : List Note} (w : NotedAt n x l ns s1) where
        -- what an if's first side requires is there
        pub if_first : Analysable table s1 c y l
        if_first =
            first_ready w c d if_once if_parts.1 if_parts.2 y l (subst (λ z. InOrder ns (command_in table c) z l) (sym guard_is) if_in_order.0)

        module _ {s2 : List Note} {r : Labelling} (f : Analysed (command_in table c) y l s1 s2 r) where
          -- and what its second side requires
          pub if_second : length s2 ≡ length s1 → Analysable table s2 d y l
          if_second e =
              second_ready w c d if_once if_parts.1 if_parts.2 f e y l (subst (λ z. InOrder ns (command_in table d) z l) (sym guard_is) if_in_order.1)

          pub if_left : {s3 : List Note} {s t : Labelling} → Analysed (command_in table d) y l s2 s3 s → t ≡ join r s → Analysed (command_in table n) x l ns s3 t
          if_left g j = rw if_parts.3 (if_analysed w (truth_in table b) (command_in table c) (command_in table d) if_once guard_is f g j)

  module _ {b c : ℕ} (is : node_in table n ≡ While b c) where
    loop_parts : Parts table n (While b c)
    loop_parts = parts_of (While b c) is

    loop_distinct : Distinct (while n (truth_in table b) (command_in table c))
    loop_distinct = rw loop_parts.2 at pre.distinct

    loop_once : (k : ℕ) → cond (eqb k n) 1 0 + standing k (command_in table c) ≤ 1
    unfolding standing
    loop_once k = loop_distinct.once k

    loop_in_order : InOrder ns (while n (truth_in table b) (command_in table c)) x l
    loop_in_order = subst (λ m. InOrder ns m x l) loop_parts.2 pre.in_order

    pub body_below : c < n
    body_below = loop_parts.1.below

    pub body_room : c < length ns
    body_room = omega (arith, loop_parts.1.inside, pre.notes_fit.room)

    module _ {s1 : List Note} (w : NotedAt n x l ns s1) where
      -- what settling a loop requires is there
      pub loop_settleable : Settleable table named s1 b c x l
      unfolding standing expressions_of field_expressions expression_of form flat_map
      loop_settleable =
          let ready = loop_ready n (truth_in table b) (command_in table c) loop_once w loop_in_order in
          record {
            test = λ m. truth_is m is (Memᴰ.head refl) loop_parts.0;
            inside = loop_parts.0.inside;
            node = child loop_parts.1;
            distinct = distinct_part {c = while n (truth_in table b) (command_in table c)} (λ k. omega arith) loop_distinct;
            notes_fit = same_room pre.notes_fit w.long;
            kept = ready.0;
            in_order = ready.1;
          }

      -- the settled loop leaves what the while does
      pub loop_settled : {s2 : List Note} {r : Labelling} → SettledLoop (truth_in table b) (command_in table c) x l s1 s2 r → Analysed (command_in table n) x l ns s2 r
      loop_settled f = rw loop_parts.2 (while_analysed n (truth_in table b) (command_in table c) loop_once w f)

    -- a loop that is entered as it last was is analysed already
    pub loop_remembered : note_in ns n ≡ entered n x l → {r : Labelling} → r ≡ (note_in ns c).labelling → Analysed (command_in table n) x l ns ns r
    loop_remembered e q =
        let own = command_note admitted (child loop_parts.1) in
        rw loop_parts.2
        (while_remembered n (truth_in table b) (command_in table c) loop_once loop_in_order e (q ∙ ap (λ k. (note_in ns k).labelling) (sym own)))

-- ---- the answers of `follow_single`, by the kind of its node
module _ {named : List ℕ} {m : Node} {x : Bool} {l r : Labelling} where
  pub assign_after : {v e : ℕ} → m ≡ Assign v e → r ≡ set_label l (variable_mark v) (label_at named l e || x) → SingleAfter named m x l r
  assign_after {v} {e} is q =
      record {
        skip = λ f. cc;
        assign = λ w d f. let a : v ≡ w = cc in let b : e ≡ d = cc in rw (a, b) at q;
        read = λ w y i f. cc;
        write = λ y i d f. cc;
      }

  pub read_after : {v a i : ℕ} → m ≡ Read v a i → r ≡ set_label l (variable_mark v) (label_at named l i || (label_of l (array_mark a) || x)) → SingleAfter named m x l r
  read_after {v} {a} {i} is q =
      record {
        skip = λ f. cc;
        assign = λ w d f. cc;
        read = λ w y j f. let b : v ≡ w = cc in let c : a ≡ y = cc in let d : i ≡ j = cc in rw (b, c, d) at q;
        write = λ y j d f. cc;
      }

  pub write_after : {a i e : ℕ} → m ≡ Write a i e
      → r ≡ set_label l (array_mark a) (label_of l (array_mark a) || (label_at named l i || (label_at named l e || x))) → SingleAfter named m x l r
  write_after {a} {i} {e} is q =
      record {
        skip = λ f. cc;
        assign = λ w d f. cc;
        read = λ w y j f. cc;
        write = λ y j d f. let b : a ≡ y = cc in let c : i ≡ j = cc in let g : e ≡ d = cc in rw (b, c, g) at q;
      }

-- a command that is none of these leaves the labelling as it is
pub unnamed_after : {named : List ℕ} {m : Node} {x : Bool} {l : Labelling} → ((v e : ℕ) → m ≡ Assign v e → ⊥) → ((v a i : ℕ) → m ≡ Read v a i → ⊥)
    → ((a i e : ℕ) → m ≡ Write a i e → ⊥) → SingleAfter named m x l l
unnamed_after no_assign no_read no_write =
    record {
      skip = λ e. refl;
      assign = λ v i e. absurd (no_assign v i e);
      read = λ v a i e. absurd (no_read v a i e);
      write = λ a i v e. absurd (no_write a i v e);
    }
