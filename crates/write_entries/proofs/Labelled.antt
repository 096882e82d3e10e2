-- What each job writes of a table that is labelled is what it wants.
use Prim.Native.Nat.{ℕ, ◌≤◌}
use mathlib.Core.List.{List}
use mathlib.Core.Path.{◌≡◌, sym, ap, ◌∙◌}
use lib.ListN.{replicate, length-replicate}
use Rattle.awhile.specs.Encoding.{table_bytes}
use Rattle.awhile.specs.Refusals.{got}
use Rattle.awhile.specs.WellFormed.{WellFormed}
use Rattle.awhile.specs.declared.Labelling.{Labelling}
use Rattle.awhile.specs.Tables.{header_of, read_table}
use Rattle.awhile.proofs.Accepted.{check_got, accepted_read, heads_read}
use Rattle.labels.specs.Sheet.{final_labels}
use Rattle.labels.specs.Questions.{pairs_in}
use Rattle.masks.specs.Hardening.{hardened_table, max_hardened}
use Rattle.bytes_le.proofs.Numbers.{Below}
use Rattle.reader.specs.Classes.{RoomFor}
use Rattle.reader.specs.Index.{table_of, nodes_in}
use Rattle.analysis.specs.Conditions.{Labelled}
use Rattle.analysis.specs.Notes.{blank}
use Rattle.analysis.specs.declared.noting.Note.{Note}
use Rattle.analysis.proofs.WholeProgram.{label_ready}
use Rattle.deciding.specs.Deciding.{none}
use Rattle.deciding.specs.declared.decisions.Decision.{Decision}
use Rattle.sheets.specs.Rows.{sheet_in}
use Rattle.sheets.proofs.LabelledSheets.{labelled_sheet}
use Rattle.questions.specs.Noted.{noted_answers, NotesReach}
use Rattle.questions.proofs.NotedAnswers.{list_answers, list_noted}
use Rattle.entries.specs.Writing.{asked_in, hardened_in}
use Rattle.write_entries.specs.Jobs.{wanted, Granted}
use Rattle.write_entries.specs.Memory.{LabelMemory}
use Rattle.write_entries.specs.declared.Job.TheVariants.{Sheet, Answers, Hardened}
use Rattle.write_entries.proofs.Jobs.{granted_answerable}

-- a table has no more nodes than there is room for by its header
pub room_nodes : {table : List ℕ} {room : ℕ} → Below 256 table → read_table table ≡ got (table_of table) → RoomFor table room → nodes_in table ≤ room
unfolding nodes_in
room_nodes {table} bytes reads room = room.holds (header_of (table_of table)) (heads_read table bytes (table_of table) (accepted_read table bytes (table_of table) reads)).header

-- memory that was just made, with room for names, for notes and for decisions
pub made_memory : {table : List ℕ} (names notes decisions : ℕ) → nodes_in table ≤ names → nodes_in table ≤ notes
    → (nodes_in table ≤ max_hardened → nodes_in table ≤ decisions)
    → LabelMemory table (replicate names 0) (replicate notes blank) (replicate decisions none)
made_memory names notes decisions named noted few =
    record { labelling = label_ready names notes named noted; room = rw (length-replicate {A = Decision} decisions none) few }

module _ (table list : List ℕ) where
  -- a hardened form is there where it is granted
  pub hardened_wanted : Granted Hardened list (table_of table) → got (table_bytes (hardened_table (table_of table))) ≡ wanted Hardened list (table_of table)
  unfolding wanted hardened_in
  hardened_wanted g = (check_got _ _ _ _ (check_got _ _ _ _ g.is_wanted).1).1 ∙ sym g.is_wanted

  module _ {ns : List Note} (labelled : Labelled table ns (table_of table).labels) where
    pub sheet_wanted : {final : Labelling} → final ≡ final_labels (table_of table) (table_of table).labels → got (sheet_in table ns final) ≡ wanted Sheet list (table_of table)
    unfolding wanted
    sheet_wanted e = ap got (labelled_sheet labelled e)

    module _ (w : WellFormed (table_of table)) (g : Granted Answers list (table_of table)) where
      pub answers_noted : NotesReach ns list (pairs_in list)
      answers_noted = list_noted w labelled list (granted_answerable list (table_of table) g)

      pub answers_wanted : got (noted_answers ns list (pairs_in list)) ≡ wanted Answers list (table_of table)
      unfolding wanted asked_in
      answers_wanted =
          ap got (list_answers w labelled list (granted_answerable list (table_of table) g)) ∙ (check_got _ _ _ _ g.is_wanted).1 ∙ sym g.is_wanted
