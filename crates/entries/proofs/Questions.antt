-- Where the questions entry answers 0, each byte tells a label, and each pair gets the byte that it gets alone.
use Prim.Native.Nat.{ℕ, ◌+◌, ◌*◌, ◌/◌, ◌<◌, ◌≤◌}
use native.Mathlib.Omega.{arith}
use mathlib.Core.Bool.{true, false}
use mathlib.Core.Path.{◌≡◌, sym, ap, subst, ◌∙◌}
use mathlib.Core.List.{List, [], ◌∷◌}
use lib.ListN.{length, get_or, drop, length-take, length-drop, get_or-append}
use borrow.Author.Tests.{le-leb}
use Rattle.bytes_le.proofs.Numbers.{Below}
use Rattle.awhile.specs.Refusals.{got, check, and_then}
use Rattle.awhile.specs.Tables.{Table, read_table}
use Rattle.awhile.specs.Trees.{root_of}
use Rattle.awhile.specs.declared.Refusal.TheVariants.{BadQuestions}
use Rattle.awhile.proofs.Accepted.{check_got, then_got, accepted_well_formed}
use Rattle.labels.specs.Sheet.{annotated, final_labels}
use Rattle.labels.specs.Questions.{pairs_in, pair_at, question_at, askable, all_askable, answerable, answer_to, answers_to, answer_bytes, TellsLabel}
use Rattle.labels.proofs.Questions.{answerable_list, length_answers, answer_at, askable_at, pair_alone, answer_tells}
use Rattle.labels.proofs.Rules.{analysis_is_least}
use Rattle.machine.specs.Memory.{written_over}
use Rattle.entries.specs.Answers.{answered}
use Rattle.entries.specs.Writing.{written_all, writing, asked_in, questions_entry}
use Rattle.awhile.proofs.VersionOne.{reads_as_before}
use Rattle.entries.specs.Promises.{written_at, AnswersInto, AnswersQuestions}
use Rattle.entries.proofs.Written.{writing_zero, answers_zero}

-- ---- one pair alone
module _ (table : List ℕ) (t : Table) (reads : read_table table ≡ got t) (s : List ℕ) (i : ℕ) (inside : 4 * i + 4 ≤ length s) where
  pair_length : length (pair_at s i) ≡ 4
  pair_length = simp (length-take, length-drop) (omega arith)

  module _ (can : askable t (question_at s i) ≡ true) where
    alone_answerable : answerable t (pair_at s i) ≡ true
    unfolding answerable all_askable
    alone_answerable = rw (pair_length, pair_alone s i, can)

    alone_bytes : answer_bytes t t.labels (pair_at s i) ≡ answer_to (annotated t t.labels) (question_at s i) ∷ []
    unfolding answer_bytes answers_to
    alone_bytes = rw (pair_length, pair_alone s i)

    -- it is accepted, and its answer is written
    alone_written : (buffer answer : List ℕ) → 1 ≤ length buffer
        → questions_entry table (pair_at s i) buffer answer ≡ written_all (answer_to (annotated t t.labels) (question_at s i) ∷ []) buffer answer
    unfolding questions_entry and_then asked_in check writing
    alone_written buffer answer room = rw (reads, alone_answerable, alone_bytes, le-leb 1 (length buffer) room)

-- ---- the answers in the buffer
written_into : (table : List ℕ) (t : Table) → Below 256 table → read_table table ≡ got t → (s : List ℕ) → answerable t s ≡ true
    → (buffer answer : List ℕ) → AnswersInto table s answer (written_all (answer_bytes t t.labels s) buffer answer)
unfolding written_all written_over answer_bytes annotated final_labels
written_into table t bytes reads s ok buffer answer =
    let list = answerable_list t s ok in
    let a = annotated t t.labels in
    let count : length (answers_to a s (pairs_in s)) ≡ pairs_in s = length_answers a s (pairs_in s) in
    let pairs : length s ≡ 4 * (length s / 4) = omega (arith, list.whole) in
    let at : (i : ℕ) → i < pairs_in s → get_or (written_over (answers_to a s (pairs_in s)) buffer) i 0 ≡ answer_to a (question_at s i) =
    λ i h. get_or-append (answers_to a s (pairs_in s)) (drop (length (answers_to a s (pairs_in s))) buffer) 0 i (omega arith) ∙ answer_at a s (pairs_in s) i h in
    let can : (i : ℕ) → i < pairs_in s → askable t (question_at s i) ≡ true = λ i h. askable_at t s (pairs_in s) i list.all h in
    record {
      original = t;
      reads = reads;
      annotation = a;
      final = final_labels t t.labels;
      labels = analysis_is_least (root_of t) false t.labels;
      pairs = pairs_in s;
      few = omega (arith, list.few);
      whole = pairs;
      answers = ap (λ (k : ℕ). answered (0 ∷ k ∷ []) answer) count;
      tells =
          λ i h.
          subst (TellsLabel a (question_at s i)) (sym (at i h)) (answer_tells t t.labels (question_at s i) (accepted_well_formed table bytes t reads) (can i h));
      alone =
          λ i h buffer' slice room.
          alone_written table t reads s i (omega (arith, pairs)) (can i h) buffer' slice room ∙ ap (λ (b : ℕ). written_all (b ∷ []) buffer' slice) (sym (at i h));
    }

-- where the entry answers 0, the table and the list were accepted and the answers written
answers_into : (table s buffer answer : List ℕ) → Below 256 table → (questions_entry table s buffer answer).result ≡ 0
    → AnswersInto table s answer (questions_entry table s buffer answer)
unfolding questions_entry asked_in
answers_into table s buffer answer bytes zero =
    let Q : Type 0 = AnswersInto table s answer (questions_entry table s buffer answer) in
    writing_zero Q (and_then (read_table table) (asked_in s)) buffer answer zero
    (λ out got-out wrote.
    then_got Q (read_table table) (asked_in s) out got-out
    (λ t reads asked.
    let ok = check_got (answerable t s) BadQuestions (got (answer_bytes t t.labels s)) out asked in
    let same : answer_bytes t t.labels s ≡ out = cc ok.1 in
    subst (AnswersInto table s answer) (ap (λ bs. written_all bs buffer answer) same ∙ sym wrote) (written_into table t bytes reads s ok.0 buffer answer)))

-- THE PROMISE of the questions entry: an entry that writes as it is defined to tells the labels where it answers 0
pub entry_answers : {table s buffer answer buffer' answer' : List ℕ} {k : ℕ} → Below 256 table
    → written_at k buffer' answer' ≡ questions_entry table s buffer answer → AnswersQuestions table s buffer answer k buffer' answer'
entry_answers {table} {s} {buffer} {answer} bytes w =
    record { older = reads_as_before table; writes = w; tells = λ e. subst (AnswersInto table s answer) (sym w) (answers_into table s buffer answer bytes (answers_zero w e)) }
