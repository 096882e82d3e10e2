-- The program's answer, from what the hardening entry leaves.
use Prim.Native.Nat.{ℕ, ◌+◌, ◌≤◌, ◌<◌}
use native.Mathlib.Omega.{arith}
use mathlib.Core.List.{List, [], ◌∷◌, ◌++◌}
use mathlib.Core.Path.{◌≡◌, refl, sym, ap, ap₂, ◌∙◌}
use lib.ListN.{length, take, drop, replicate, length-append}
use lib.Seq.{sets, take_at}
use lib.Dec.{leb, ltb}
use borrow.Author.Tests.{le-leb, leb-true, ltb-true}
use Rattle.bytes_le.specs.Numbers.{le, from_le, le_at}
use Rattle.bytes_le.proofs.Numbers.{Below, length_le, bytes_le, from_le_le, le_from_le}
use Rattle.awhile.specs.Encoding.{table_bytes}
use Rattle.awhile.specs.Refusals.{Answer, refused, got, and_then, refusal_number, refusal_place}
use Rattle.awhile.specs.Tables.{Table, read_table, max_variables, longest_table}
use Rattle.awhile.specs.declared.Refusal.{Refusal}
use Rattle.awhile.specs.declared.Refusal.TheVariants.{TooManyNodes, NoFreeVariable}
use Rattle.awhile.proofs.Accepted.{accepted_well_formed, check_got, then_got}
use Rattle.machine.specs.Memory.{written_over}
use Rattle.awhile.proofs.Versions.{mask_most}
use Rattle.masks.specs.Hardening.{hardened_table, max_hardened, version_for, table_of_hardened}
use Rattle.masks.proofs.Demands.{demands_met}
use Rattle.entries.specs.Answers.{answered, refusal_numbers}
use Rattle.entries.specs.Promises.{written_at}
use Rattle.entries.specs.Writing.{Written, not_written, written_all, writing, hardened_in, harden_entry}
use Rattle.program.specs.Program.{refusal_bytes, refusal_record, hardened_input, AnswersRead}
use Rattle.entries.proofs.Accepted.{refusal_not_zero}
use Rattle.program.proofs.Program.{answers_read}
use Rattle.entries.proofs.Written.{written_front}

-- ---- the second number of an answer, read again
-- its four lower bytes
second_read : (n k : ℕ) → le_at 4 (answered (n ∷ k ∷ []) (replicate 16 0)) 8 ≡ from_le (le 4 k)
unfolding answered le_at le
second_read n k = refl

-- as bytes they are kept
place_kept : (n k : ℕ) → le 4 (le_at 4 (answered (n ∷ k ∷ []) (replicate 16 0)) 8) ≡ le 4 k
place_kept n k =
    let four : le (length (le 4 k)) (from_le (le 4 k)) ≡ le 4 k = le_from_le (le 4 k) (bytes_le 4 k) in
    ap (le 4) (second_read n k) ∙ rw (length_le 4 k) at four

-- as a number too, where it fits
size_kept : (n k : ℕ) → k ≤ longest_table → le_at 4 (answered (n ∷ k ∷ []) (replicate 16 0)) 8 ≡ k
size_kept n k h = second_read n k ∙ from_le_le 4 k (omega arith)

-- ---- the record of a refusal
length_refusal : (n place : ℕ) → length (refusal_bytes n place) ≡ 10
unfolding refusal_bytes le
length_refusal n place = refl

-- of a place only the four lower bytes matter
same_refusal : (n k : ℕ) → refusal_bytes n (le_at 4 (answered (n ∷ k ∷ []) (replicate 16 0)) 8) ≡ refusal_bytes n k
unfolding refusal_bytes
same_refusal n k = ap (λ (l : List ℕ). le 2 10 ++ (le 2 240 ++ (le 2 n ++ l))) (place_kept n k)

-- four numbers stored one behind the other
pub refusal_stored : (k : List ℕ) (n place : ℕ) {l m o p : List ℕ} → l ≡ sets k 0 (le 2 10) → m ≡ sets l 2 (le 2 240) → o ≡ sets m 4 (le 2 n) → p ≡ sets o 6 (le 4 place)
    → p ≡ sets k 0 (refusal_bytes n place)
unfolding refusal_bytes le
refusal_stored k n place a b c d =
    d ∙ ap (λ x. sets x 6 (le 4 place)) (c ∙ ap (λ x. sets x 4 (le 2 n)) (b ∙ ap (λ x. sets x 2 (le 2 240)) a))

-- ---- what the entry leaves in a buffer that has the room
-- no hardened table is longer than the longest table
hardened_short : (s : List ℕ) (t : Table) → Below 256 s → read_table s ≡ got t → length t.nodes ≤ max_hardened → t.variables < max_variables
    → length (table_bytes (hardened_table t)) ≤ longest_table
unfolding table_of_hardened
hardened_short s t bytes reads small free =
    omega (arith, (demands_met s t bytes reads small free).room, (accepted_well_formed s bytes t reads).declared.arrays_fit, mask_most (version_for t.version (t.variables + 1)))

data Leaves (s out answer : List ℕ) : Type 0 where
  refuses : (r : Refusal) → hardened_input s ≡ refusal_record r → harden_entry s out answer ≡ not_written r out answer → Leaves s out answer
  writes_hardened : length (hardened_input s) ≤ longest_table → harden_entry s out answer ≡ written_all (hardened_input s) out answer → Leaves s out answer

module _ (s out answer : List ℕ) where
  input_is : (a : Answer (List ℕ)) → and_then (read_table s) hardened_in ≡ a
      → hardened_input s ≡ elim a as (λ _. List ℕ) [ refused r ↦ refusal_record r | got bytes ↦ bytes ]
  unfolding hardened_input
  input_is a e = ap (λ (x : Answer (List ℕ)). elim x as (λ _. List ℕ) [ refused r ↦ refusal_record r | got bytes ↦ bytes ]) e

  entry_is : (a : Answer (List ℕ)) → and_then (read_table s) hardened_in ≡ a → harden_entry s out answer ≡ writing a out answer
  unfolding harden_entry
  entry_is a e = ap (λ (x : Answer (List ℕ)). writing x out answer) e

  refuses_all : (r : Refusal) → and_then (read_table s) hardened_in ≡ refused r → Leaves s out answer
  unfolding writing
  refuses_all r e = refuses r (input_is (refused r) e) (entry_is (refused r) e)

  hardens_all : (bytes : List ℕ) → length bytes ≤ longest_table → longest_table ≤ length out → and_then (read_table s) hardened_in ≡ got bytes → Leaves s out answer
  unfolding writing
  hardens_all bytes short room e =
      let is : hardened_input s ≡ bytes = input_is (got bytes) e in
      let fits : writing (got bytes) out answer ≡ written_all bytes out answer = rw (le-leb (length bytes) (length out) (omega arith)) in
      writes_hardened (rw is short) (rw is (entry_is (got bytes) e ∙ fits))

  leaves : Below 256 s → longest_table ≤ length out → Leaves s out answer
  unfolding hardened_in
  leaves below room = go (and_then (read_table s) hardened_in) refl
    where
      go : (a : Answer (List ℕ)) → and_then (read_table s) hardened_in ≡ a → Leaves s out answer
      go (refused r) e = refuses_all r e
      go (got bytes) e =
          then_got (Leaves s out answer) (read_table s) hardened_in bytes e
          (λ t reads hardened.
          let small = check_got (leb (length t.nodes) max_hardened) TooManyNodes _ bytes hardened in
          let free = check_got (ltb t.variables max_variables) NoFreeVariable _ bytes small.1 in
          let same : table_bytes (hardened_table t) ≡ bytes = cc free.1 in
          let short = hardened_short s t below reads (leb-true (length t.nodes) max_hardened small.0) (ltb-true t.variables max_variables free.0) in
          hardens_all bytes (rw same at short) room e)

-- ---- what the program makes of it
module _ (buffer : List ℕ) (count : ℕ) (out : List ℕ) {out' answer' : List ℕ} {n : ℕ} (below : Below 256 (take count buffer)) (more : longest_table < length buffer)
    (room : longest_table ≤ length out) (w : written_at n out' answer' ≡ harden_entry (take count buffer) out (replicate 16 0)) where
  -- what was read
  abbrev s : List ℕ
  s = take count buffer

  -- where the entry answers 0, the hardened table stands in the buffer
  pub hardened_answered : n ≡ 0 → {size : ℕ} → size ≡ le_at 4 answer' 8 → AnswersRead buffer count out' size
  unfolding not_written written_all written_over
  hardened_answered zero {size} e = go (leaves s out (replicate 16 0) below room)
    where
      go : Leaves s out (replicate 16 0) → AnswersRead buffer count out' size
      go (refuses r i x) = absurd (refusal_not_zero r (sym (ap (λ (v : Written). v.result) (w ∙ x)) ∙ zero))
      go (writes_hardened short x) =
          let bytes : List ℕ = hardened_input s in
          let wrote : out' ≡ bytes ++ drop (length bytes) out = ap (λ (v : Written). v.buffer) (w ∙ x) in
          let said : answer' ≡ answered (0 ∷ length bytes ∷ []) (replicate 16 0) = ap (λ (v : Written). v.answer) (w ∙ x) in
          let is : size ≡ length bytes = e ∙ ap (λ (l : List ℕ). le_at 4 l 8) said ∙ size_kept 0 (length bytes) short in
          answers_read more (omega (arith, ap length wrote, length-append bytes (drop (length bytes) out)))
          (ap₂ (λ (k : ℕ) (l : List ℕ). take k l) is wrote ∙ take_at bytes (drop (length bytes) out) (length bytes) refl)

  -- where it refuses, the record of the refusal is put over the front
  pub refused_answered : (n ≡ 0 → ⊥) → {k : ℕ} {out'' : List ℕ} → k ≡ le_at 4 answer' 8 → out'' ≡ sets out' 0 (refusal_bytes n k) → AnswersRead buffer count out'' 10
  unfolding not_written written_all written_over refusal_numbers refusal_record
  refused_answered some {k} {out''} second e = go (leaves s out (replicate 16 0) below room)
    where
      go : Leaves s out (replicate 16 0) → AnswersRead buffer count out'' 10
      go (refuses r i x) =
          let number : n ≡ refusal_number r = ap (λ (v : Written). v.result) (w ∙ x) in
          let kept : out' ≡ out = ap (λ (v : Written). v.buffer) (w ∙ x) in
          let said : answer' ≡ answered (refusal_number r ∷ refusal_place r ∷ []) (replicate 16 0) = ap (λ (v : Written). v.answer) (w ∙ x) in
          let record_is : refusal_bytes n k ≡ refusal_record r =
          ap (refusal_bytes n) second ∙ ap₂ (λ (m : ℕ) (l : List ℕ). refusal_bytes m (le_at 4 l 8)) number said ∙ same_refusal (refusal_number r) (refusal_place r) in
          let ten : length (refusal_record r) ≡ 10 = length_refusal (refusal_number r) (refusal_place r) in
          let wrote : out'' ≡ refusal_record r ++ drop (length (refusal_record r)) out =
          e ∙ ap₂ (λ (l b : List ℕ). sets l 0 b) kept record_is ∙ written_front (refusal_record r) out (omega arith) in
          answers_read more (omega (arith, ap length wrote, length-append (refusal_record r) (drop (length (refusal_record r)) out)))
          (ap (take 10) wrote ∙ take_at (refusal_record r) (drop (length (refusal_record r)) out) 10 ten ∙ sym i)
      go (writes_hardened short x) = absurd (some (ap (λ (v : Written). v.result) (w ∙ x)))
