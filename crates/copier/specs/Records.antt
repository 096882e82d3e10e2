-- A record as the code writes it: a kind and 2-byte fields, which are read off a node's form. `node_bytes_lem` and `node_size` of
-- proofs/NodeRecords say that its bytes and its length are the node's.
use Rattle.std.specs.Prelude.{ℕ, ◌+◌, ◌*◌, ◌/◌, ◌%◌, List, [], ◌∷◌, ◌++◌, length}
use mathlib.Core.List.{flat_map}
use Rattle.bytes_le.specs.Numbers.{le}
use Rattle.record.specs.declared.forms.Field.{Field}
use Rattle.record.specs.declared.forms.Field.TheVariants.{Constant, Variable, Array, Child}
use Rattle.record.specs.declared.forms.Fields.{Fields}
use Rattle.record.specs.declared.forms.Fields.TheVariants.{Nothing, Word, One, Two, Three}

-- the number that a 2-byte field holds
abbrev pub number_of : Field → ℕ
number_of (Constant n) = n
number_of (Variable x) = x
number_of (Array a) = a
number_of (Child s n) = n

-- the 2-byte fields of a record: a number's four bytes are two of them
abbrev pub numbers_of : Fields → List ℕ
numbers_of Nothing = []
numbers_of (Word n) = n % 65536 ∷ n / 65536 ∷ []
numbers_of (One f) = number_of f ∷ []
numbers_of (Two f g) = number_of f ∷ number_of g ∷ []
numbers_of (Three f g h) = number_of f ∷ number_of g ∷ number_of h ∷ []

-- a record's length and its kind take 2 bytes each, and so does each field
abbrev pub record_size : (fields : List ℕ) → ℕ
record_size fs = 4 + 2 * length fs

unfoldable pub record_bytes : (kind : ℕ) → (fields : List ℕ) → List ℕ
record_bytes k fs = le 2 (record_size fs) ++ (le 2 k ++ flat_map (le 2) fs)
