-- `put_labelled` labels the table, and hands the job what its writer wants.
use Prim.Native.Nat.{ℕ, ◌≤◌}
use mathlib.Core.List.{List}
use mathlib.Core.Path.{◌≡◌, sym, ap, subst, ◌∙◌}
use lib.ListN.{length}
use Rattle.awhile.specs.Tables.{declarations_of}
use Rattle.awhile.specs.declared.Declarations.{Declarations}
use Rattle.awhile.specs.WellFormed.{WellFormed}
use Rattle.labels.specs.Sheet.{final_labels}
use Rattle.masks.specs.Hardening.{max_hardened}
use Rattle.reader.specs.Index.{table_of, nodes_in}
use Rattle.reader.proofs.Index.{indexed_well_formed}
use Rattle.reader.proofs.Admitted.{offsets_in, bytes, indexed}
use Rattle.analysis.specs.Conditions.{Labelled}
use Rattle.write_entries.specs.Jobs.{wanted, Granted}
use Rattle.write_entries.specs.declared.Job.{Job}
use Rattle.write_entries.proofs.Doing.{done_same}
use Rattle.write_entries.proofs.Jobs.{granted_as, granted_few}
use Rattle.write_entries.proofs.Labelled.{sheet_wanted, answers_noted, answers_wanted, hardened_wanted}
use Rattle.write_entries.proofs.writing.put_labelled.Goals as goal
use Rattle.write_entries.proofs.writing.put_labelled.Goals.{After-label_program-masks}

module _ (c : After-label_program-masks) where
  -- the table of the expressions is the table: what it declares, and what is granted and wanted of it
  abbrev table : List ℕ
  table = c.new-expressions.result.table.now

  told : c.declared.result ≡ declarations_of (table_of table)
  told = c.declared.ensures.value ∙ ap (λ x. declarations_of (table_of x)) (sym c.new-expressions.ensures)

  granted : (job : Job) → c.args.job ≡ job → Granted job c.args.list.now (table_of table)
  granted job is = subst (λ x. Granted job c.args.list.now (table_of x)) (sym c.new-expressions.ensures) (granted_as is c.requires.1)

  same : (job : Job) → wanted job c.args.list.now (table_of table) ≡ wanted job c.args.list.now (table_of c.args.table.now)
  same job = ap (λ x. wanted job c.args.list.now (table_of x)) c.new-expressions.ensures

  -- it is labelled from its own labels
  labelled : Labelled table c.label_program-masks.new.notes (table_of table).labels
  labelled = subst (λ (d : Declarations). Labelled table c.label_program-masks.new.notes d.labels) told c.label_program-masks.ensures.1

  final : c.label_program-masks.result ≡ final_labels (table_of table) (table_of table).labels
  final = c.label_program-masks.ensures.0 ∙ ap (λ (d : Declarations). final_labels (table_of table) d.labels) told

  well-formed : WellFormed (table_of table)
  well-formed = let a = c.new-expressions.result.admitted in indexed_well_formed table (offsets_in table) (bytes a) (indexed a)

pub put_answers-requires : goal.put_answers-requires
put_answers-requires c =
    let at = (goal.at.put_answers-requires c).After-label_program-masks in
    answers_noted (table at) c.args.list.now (labelled at) (well-formed at) (granted at _ c.in-Answers.is)

pub put_hardened-requires : goal.put_hardened-requires
unfolding nodes_in
put_hardened-requires c =
    let at = (goal.at.put_hardened-requires c).After-label_program-masks in
    let few = granted_few c.args.list.now _ (granted at _ c.in-Hardened.is) in
    record {
      room = subst (λ x. nodes_in x ≤ length c.args.decisions.now) (sym c.new-expressions.ensures) (c.requires.0.room (subst (λ x. nodes_in x ≤ max_hardened) c.new-expressions.ensures few));
      labelled = labelled at;
      few = few;
    }

pub returns-in-Sheet : goal.returns-in-Sheet
returns-in-Sheet c =
    let at = (goal.at.returns-in-Sheet c).After-label_program-masks in
    rw c.in-Sheet.is (done_same (sheet_wanted (table at) c.args.list.now (labelled at) (final at) ∙ same at _) c.put_sheet.ensures)

pub returns-in-Answers : goal.returns-in-Answers
returns-in-Answers c =
    let at = (goal.at.returns-in-Answers c).After-label_program-masks in
    rw c.in-Answers.is
    (done_same (answers_wanted (table at) c.args.list.now (labelled at) (well-formed at) (granted at _ c.in-Answers.is) ∙ same at _) c.put_answers.ensures)

pub returns-in-Hardened : goal.returns-in-Hardened
returns-in-Hardened c =
    let at = (goal.at.returns-in-Hardened c).After-label_program-masks in
    rw c.in-Hardened.is (done_same (hardened_wanted (table at) c.args.list.now (granted at _ c.in-Hardened.is) ∙ same at _) c.put_hardened.ensures)
