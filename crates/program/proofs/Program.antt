-- Input of any length: what follows the longest table does not matter.
use Prim.Native.Nat.{ℕ, ◌≤◌, ◌<◌}
use mathlib.Core.List.{List}
use mathlib.Core.Path.{◌≡◌, sym, ap, ◌∙◌}
use lib.ListN.{length, take}
use lib.Seq.{length-take-le}
use Rattle.bytes_le.proofs.Numbers.{Below}
use Rattle.awhile.specs.Refusals.{Answer, refused, got, and_then}
use Rattle.awhile.specs.Tables.{Table, longest_table}
use Rattle.awhile.proofs.LongInput.{long_input}
use Rattle.entries.specs.Writing.{hardened_in}
use Rattle.program.specs.Program.{refusal_record, hardened_input, AnswersRead}

-- An input and its first bytes, one more than the longest table has or still more, get the same answer.
pub input_long : (s : List ℕ) → Below 256 s → (k : ℕ) → longest_table < k → hardened_input (take k s) ≡ hardened_input s
unfolding hardened_input
input_long s bytes k more =
    ap (λ (a : Answer Table). elim (and_then a hardened_in) as (λ _. List ℕ) [ refused r ↦ refusal_record r | got out ↦ out ]) (long_input s bytes k more)

-- what was read, all of an input or as much as the buffer holds, is answered
pub answers_read : {buffer output : List ℕ} {count size : ℕ} → longest_table < length buffer → size ≤ length output → take size output ≡ hardened_input (take count buffer)
    → AnswersRead buffer count output size
answers_read {buffer} {output} {count} {size} more fits own =
    record {
      fits = fits;
      counted = sym (length-take-le size output fits);
      writes = λ input bytes e. own ∙ ap hardened_input e ∙ input_long input bytes (length buffer) more;
    }
