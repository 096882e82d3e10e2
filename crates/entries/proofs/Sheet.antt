-- Where the sheet entry answers 0, what stands in the buffer is the sheet of the least labels.
use Prim.Native.Nat.{ℕ}
use mathlib.Core.Bool.{false}
use mathlib.Core.Path.{◌≡◌, refl, sym, ap, subst, ◌∙◌}
use mathlib.Core.List.{List}
use lib.ListN.{length}
use Rattle.awhile.specs.Refusals.{got, and_then}
use Rattle.awhile.specs.Tables.{Table, read_table}
use Rattle.awhile.proofs.Accepted.{then_got}
use Rattle.awhile.specs.Trees.{root_of}
use Rattle.labels.specs.Sheet.{annotated, final_labels, sheet_bytes}
use Rattle.labels.proofs.Rules.{analysis_is_least}
use Rattle.entries.specs.Writing.{written_all, sheet_entry}
use Rattle.awhile.proofs.VersionOne.{reads_as_before}
use Rattle.entries.specs.Promises.{written_at, SheetInto, Sheets}
use Rattle.entries.proofs.Written.{front, writing_zero, answers_zero}

-- the sheet in the buffer
written_into : (s : List ℕ) (t : Table) → read_table s ≡ got t → (buffer answer : List ℕ) → SheetInto s answer (written_all (sheet_bytes t t.labels) buffer answer)
unfolding written_all annotated final_labels sheet_bytes
written_into s t reads buffer answer =
    record {
      original = t;
      reads = reads;
      annotation = annotated t t.labels;
      final = final_labels t t.labels;
      labels = analysis_is_least (root_of t) false t.labels;
      size = length (sheet_bytes t t.labels);
      answers = refl;
      sheet = front (sheet_bytes t t.labels) buffer answer;
    }

-- where the entry answers 0, the table was accepted and its sheet written
sheet_into : (s buffer answer : List ℕ) → (sheet_entry s buffer answer).result ≡ 0 → SheetInto s answer (sheet_entry s buffer answer)
unfolding sheet_entry
sheet_into s buffer answer zero =
    let Q : Type 0 = SheetInto s answer (sheet_entry s buffer answer) in
    writing_zero Q (and_then (read_table s) (λ t. got (sheet_bytes t t.labels))) buffer answer zero
    (λ out got-out wrote.
    then_got Q (read_table s) (λ t. got (sheet_bytes t t.labels)) out got-out
    (λ t reads is.
    let same : sheet_bytes t t.labels ≡ out = cc in
    subst (SheetInto s answer) (ap (λ bs. written_all bs buffer answer) same ∙ sym wrote) (written_into s t reads buffer answer)))

-- THE PROMISE of the sheet entry: an entry that writes as it is defined to leaves the least labels where it answers 0
pub entry_sheets : {s buffer answer buffer' answer' : List ℕ} {k : ℕ} → written_at k buffer' answer' ≡ sheet_entry s buffer answer → Sheets s buffer answer k buffer' answer'
entry_sheets {s} {buffer} {answer} w =
    record { older = reads_as_before s; writes = w; labels = λ e. subst (SheetInto s answer) (sym w) (sheet_into s buffer answer (answers_zero w e)) }
