-- "A program reads a table on standard input and writes the hardened one, or kind 240 (refusal, place in 4 bytes; length 10)."
use Rattle.std.specs.Prelude.{ℕ, ◌≤◌, List, ◌++◌, ◌≡◌, length, take, ⊤, None, Some}
use Rattle.std.specs.Io.KnownBytes.{Appends}
use Rattle.std.specs.declared.option.Option.{Option}
use Rattle.bytes_le.specs.Numbers.{le}
use Rattle.bytes_le.proofs.Numbers.{Below}
use Rattle.awhile.specs.Refusals.{refused, got, and_then, refusal_number, refusal_place}
use Rattle.awhile.specs.Tables.{read_table}
use Rattle.awhile.specs.declared.Refusal.{Refusal}
use Rattle.entries.specs.Writing.{hardened_in}

-- kind 240
unfoldable pub refusal_bytes : (refusal place : ℕ) → List ℕ
refusal_bytes n place = le 2 10 ++ (le 2 240 ++ (le 2 n ++ le 4 place))

unfoldable pub refusal_record : Refusal → List ℕ
refusal_record r = refusal_bytes (refusal_number r) (refusal_place r)

-- what the program writes for an input
unfoldable pub hardened_input : List ℕ → List ℕ
hardened_input s =
    elim (and_then (read_table s) hardened_in) [
      | refused r ↦ refusal_record r
      | got out ↦ out
    ]

-- What the program's work leaves. The first bytes of a buffer, so many, are what was read: all of an input, or as much of it as the buffer
-- holds. Whichever input that was, so many bytes at the front of the output at exit are what the program writes for it.
pub record AnswersRead (buffer : List ℕ) (count : ℕ) (output : List ℕ) (size : ℕ) : Type 0 where
  pub fits : size ≤ length output
  pub counted : size ≡ length (take size output)
  pub writes : (input : List ℕ) → Below 256 input → take count buffer ≡ take (length buffer) input → take size output ≡ hardened_input input

-- What the program leaves of an output, of which these bytes are known before and after: what it writes for the input stands behind what was there.
-- (An input of which nothing is known, as that of a process, says nothing of the output.)
abbrev pub AppendsHardened : (input before after : Option (List ℕ)) → Type 0
AppendsHardened None before after = ⊤
AppendsHardened (Some input) before after = Below 256 input → Appends before after (hardened_input input)
