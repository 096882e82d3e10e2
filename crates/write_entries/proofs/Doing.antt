-- What a call that does a job comes to: refused, written or short of room.
use Prim.Native.Nat.{ℕ, ◌≤◌, ◌<◌}
use mathlib.Core.List.{List}
use mathlib.Core.Path.{◌≡◌, subst, ◌∙◌}
use lib.ListN.{length}
use lib.Seq.{sets}
use borrow.Author.Tests.{le-leb, lt-leb}
use Rattle.awhile.specs.Refusals.{Answer, refused, got}
use Rattle.awhile.specs.declared.Refusal.{Refusal}
use Rattle.awhile.specs.declared.Refusal.TheVariants.{ShortBuffer}
use Rattle.entries.specs.Answers.{answered}
use Rattle.entries.specs.Promises.{written_at}
use Rattle.entries.specs.Writing.{writing, not_written, written_all}
use Rattle.entries.proofs.Written.{written_front}
use Rattle.write_entries.specs.Jobs.{DoneAs, result_of, numbers_of}
use Rattle.std.specs.Prelude.{Result, Ok, Err}

pub done_refused : {a : Answer (List ℕ)} (buffer : List ℕ) (r : Refusal) → a ≡ refused r → DoneAs a buffer buffer (Err r)
unfolding writing not_written
done_refused buffer r e = record { writes = λ answer. rw e }

module _ (bytes buffer : List ℕ) where
  -- bytes that fit are written from the buffer's front
  pub done_written : {buffer' : List ℕ} {size : ℕ} → length bytes ≤ length buffer → buffer' ≡ sets buffer 0 bytes → size ≡ length bytes
      → DoneAs (got bytes) buffer buffer' (Ok size)
  unfolding writing written_all
  done_written h e f = record { writes = λ answer. rw (le-leb (length bytes) (length buffer) h, e ∙ written_front bytes buffer h, f) }

  -- bytes that do not are refused by 23
  pub done_short : length buffer < length bytes → DoneAs (got bytes) buffer buffer (Err ShortBuffer)
  unfolding writing not_written
  done_short h = record { writes = λ answer. rw (lt-leb (length bytes) (length buffer) h) }

-- what is the same comes to the same
pub done_same : {a b : Answer (List ℕ)} {buffer buffer' : List ℕ} {done : Result ℕ Refusal} → a ≡ b → DoneAs a buffer buffer' done → DoneAs b buffer buffer' done
done_same {buffer = buffer} {buffer'} {done} e h = subst (λ (a : Answer (List ℕ)). DoneAs a buffer buffer' done) e h

-- its answer is the entry's
pub done_answered : {a : Answer (List ℕ)} {buffer buffer' answer' : List ℕ} (answer : List ℕ) {done d : Result ℕ Refusal} {k : ℕ} → DoneAs a buffer buffer' done → done ≡ d
    → k ≡ result_of d → answer' ≡ answered (numbers_of d) answer → written_at k buffer' answer' ≡ writing a buffer answer
done_answered answer h is p q = rw (p, q, ← is) (h.writes answer)
