-- An entry that writes into a buffer, where it answers 0: its bytes were got, and they stand at the front of the buffer.
use Prim.Native.Nat.{ℕ, ◌≤◌}
use native.Mathlib.Nat.{zero-add}
use native.Mathlib.Omega.{arith}
use mathlib.Core.Bool.{Bool, true, false}
use mathlib.Core.Path.{◌≡◌, refl, sym, ap, ◌∙◌}
use mathlib.Core.List.{List}
use lib.ListN.{length, take, drop}
use lib.Seq.{sets, sets-eq, take_at}
use lib.Dec.{leb}
use Rattle.awhile.specs.Refusals.{Answer, refused, got}
use Rattle.awhile.specs.declared.Refusal.TheVariants.{ShortBuffer}
use Rattle.machine.specs.Memory.{written_over}
use Rattle.entries.specs.Writing.{Written, not_written, written_all, writing}
use Rattle.entries.proofs.Accepted.{refusal_not_zero}

-- bytes stored from the front on are written over what was there
pub written_front : (bytes buffer : List ℕ) → length bytes ≤ length buffer → sets buffer 0 bytes ≡ written_over bytes buffer
unfolding written_over
written_front bytes buffer h = sets-eq bytes buffer 0 (omega arith) ∙ rw zero-add

-- bytes that are written stand at the front of the buffer
pub front : (bytes buffer answer : List ℕ) → take (length bytes) (written_all bytes buffer answer).buffer ≡ bytes
unfolding written_all written_over
front bytes buffer answer = take_at bytes (drop (length bytes) buffer) (length bytes) refl

-- ---- where an entry answers 0
-- its bytes were got and written
pub writing_zero : (Q : Type 0) (a : Answer (List ℕ)) (buffer answer : List ℕ) → (writing a buffer answer).result ≡ 0
    → ((out : List ℕ) → a ≡ got out → writing a buffer answer ≡ written_all out buffer answer → Q) → Q
unfolding writing not_written
writing_zero Q (refused r) buffer answer zero next = absurd (refusal_not_zero r zero)
writing_zero Q (got out) buffer answer zero next = go (leb (length out) (length buffer)) refl
  where
    go : (b : Bool) → leb (length out) (length buffer) ≡ b → Q
    go true e = next out refl (rw e)
    go false e = absurd (refusal_not_zero ShortBuffer (rw e at zero))

-- an entry that writes as it is defined to answers 0 where its definition does
pub answers_zero : {exit w : Written} → exit ≡ w → exit.result ≡ 0 → w.result ≡ 0
answers_zero e zero = sym (ap (λ (x : Written). x.result) e) ∙ zero
