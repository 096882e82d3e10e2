-- The analysis of a whole program: what it requires is there where the notes are all blank, and it leaves the notes of the annotated program.
use Prim.Native.Nat.{ℕ, zero, suc, ◌-◌, ◌≤◌}
use mathlib.Core.Bool.{false}
use mathlib.Core.List.{List}
use mathlib.Core.Path.{◌≡◌, refl, sym, ap, ◌∙◌}
use native.Mathlib.Omega.{arith}
use lib.ListN.{length, get_or, replicate, length-replicate}
use Rattle.reader.specs.Admitted.{Admitted}
use Rattle.reader.proofs.Admitted.{offsets_in, bytes, indexed}
use Rattle.reader.specs.Index.{table_of, nodes_in, command_in}
use Rattle.awhile.specs.Trees.{root_of}
use Rattle.awhile.proofs.Standing.{root_distinct}
use Rattle.awhile.specs.declared.Labelling.{Labelling}
use Rattle.reader.proofs.Index.{indexed_well_formed, indexed_some, indexed_root, indexed_root_sort}
use Rattle.labels.specs.Analysis.{analyse}
use Rattle.analysis.specs.declared.noting.Note.{Note}
use Rattle.analysis.specs.Notes.{blank, note_in}
use Rattle.labels.specs.Annotation.{entered}
use Rattle.labels.specs.Sheet.{annotated, final_labels}
use Rattle.analysis.specs.Conditions.{Analysable, Analysed, Fresh, LabelReady, Labelled}
use Rattle.analysis.proofs.AllPublic.{nothing}
use Rattle.analysis.proofs.CommandCases.{same_room}
use Rattle.analysis.proofs.Warm.{fresh_in_order}

module _ {table : List ℕ} {ns : List Note} (admitted : Admitted table) (h : Fresh table ns) where
  -- notes that are all blank say: entered with nothing secret, in a public context
  fresh_notes : (p : ℕ) → note_in ns p ≡ entered p false nothing
  unfolding note_in
  fresh_notes p = rw (h.blanks p) refl

  -- the root can be analysed
  pub root_analysable : (l : Labelling) → Analysable table ns (nodes_in table - 1) false l
  root_analysable l =
      let some = indexed_some table (offsets_in table) (bytes admitted) (indexed admitted) in
      let root : root_of (table_of table) ≡ command_in table (nodes_in table - 1) = indexed_root table (offsets_in table) (bytes admitted) (indexed admitted) in
      record {
        node = record { inside = omega arith; is_sort = indexed_root_sort table (offsets_in table) (bytes admitted) (indexed admitted) };
        distinct = rw root at (root_distinct (table_of table) (indexed_well_formed table (offsets_in table) (bytes admitted) (indexed admitted)));
        notes_fit = h.notes_fit;
        in_order = fresh_in_order ns fresh_notes (command_in table (nodes_in table - 1)) false l;
      }

  module _ {ns' : List Note} {l r : Labelling} (a : Analysed (command_in table (nodes_in table - 1)) false l ns ns' r) where
    -- its analysis answers the labelling after the program
    pub root_answer : r ≡ final_labels (table_of table) l
    unfolding final_labels
    root_answer = a.answers ∙ ap (λ c. analyse c false l) (sym (indexed_root table (offsets_in table) (bytes admitted) (indexed admitted)))

    -- and leaves the notes of its commands
    pub root_labelled : length ns' ≡ length ns → Labelled table ns' l
    unfolding annotated
    root_labelled e =
        record { notes_fit = same_room h.notes_fit e; notes = rw (indexed_root table (offsets_in table) (bytes admitted) (indexed admitted)) a.notes }

-- every note of blank notes is blank
blank_at : (room p : ℕ) → get_or (replicate room blank) p blank ≡ blank
blank_at zero p = refl
blank_at (suc room) zero = refl
blank_at (suc room) (suc p) = blank_at room p

-- memory that was just made is ready for labelling
pub label_ready : {table : List ℕ} (room notes : ℕ) → nodes_in table ≤ room → nodes_in table ≤ notes → LabelReady table (replicate room 0) (replicate notes blank)
label_ready room notes h k =
    record {
      named_fit = rw (length-replicate {A = ℕ} room 0) h;
      fresh = record { notes_fit = record { room = rw (length-replicate {A = Note} notes blank) k }; blanks = blank_at notes };
    }
