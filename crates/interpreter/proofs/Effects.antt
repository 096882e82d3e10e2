-- What a step does to lent bytes, put together from single stores.
use Prim.Native.Nat.{ℕ, ◌+◌}
use native.Mathlib.Omega.{arith}
use mathlib.Core.Path.{◌≡◌, sym, ap, ◌∙◌}
use mathlib.Core.List.{List, ◌++◌, append_assoc}
use lib.ListN.{length, length-append}
use lib.Seq.{sets}
use Rattle.bytes_le.specs.Numbers.{le}
use Rattle.bytes_le.proofs.Numbers.{length_le}
use Rattle.bytes_le.proofs.Stores.{sets-append}

-- a number stored, then what follows behind it
pub stored_then : (width n : ℕ) (more l m : List ℕ) (at next : ℕ) → at + width ≡ next → m ≡ sets l at (le width n) → sets m next more ≡ sets l at (le width n ++ more)
stored_then width n more l m at next e is =
    rw (is, ← e)
    (sym (sets-append (le width n) more l at ∙ ap (λ k. sets (sets l at (le width n)) (at + k) more) (length_le width n)))

-- a record's length and kind stored, then its fields
pub stored_record : (size kind at : ℕ) (fields l m n : List ℕ) → m ≡ sets l at (le 2 size ++ le 2 kind) → n ≡ sets m (at + 4) fields
    → n ≡ sets l at (le 2 size ++ (le 2 kind ++ fields))
stored_record size kind at fields l m n head rest =
    let long : length (le 2 size ++ le 2 kind) ≡ 4 = simp (length-append, length_le) in
    rest ∙ rw (head, ← append_assoc) (ap (λ k. sets (sets l at (le 2 size ++ le 2 kind)) (at + k) fields) (sym long) ∙ sym (sets-append (le 2 size ++ le 2 kind) fields l at))

-- the record of a read or a write, field by field
pub stored_access : (kind array index at : ℕ) (l m n o : List ℕ) → m ≡ sets l at (le 2 10 ++ le 2 kind) → n ≡ sets m (at + 4) (le 2 array) → o ≡ sets n (at + 6) (le 4 index)
    → o ≡ sets l at (le 2 10 ++ (le 2 kind ++ (le 2 array ++ le 4 index)))
stored_access kind array index at l m n o head first second =
    let e : at + 4 + 2 ≡ at + 6 = omega arith in
    stored_record 10 kind at (le 2 array ++ le 4 index) l m o head (second ∙ stored_then 2 array (le 4 index) m n (at + 4) (at + 6) e first)
