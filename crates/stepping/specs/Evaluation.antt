-- What evaluation over a table's bytes answers.
use Rattle.std.specs.Prelude.{ℕ, Bool, List}
use Rattle.bytes_le.specs.Numbers.{from_words}
use Rattle.awhile.specs.Language.{value_of, truth_of}
use Rattle.reader.specs.Index.{table_of, numeric_in, truth_in}

-- the variables of a table whose words stand in bytes
unfoldable pub variables_in : (table variables : List ℕ) → List ℕ
variables_in table variables = from_words (table_of table).variables variables

-- the value of a node's expression
unfoldable pub value_in : (table variables : List ℕ) → (n : ℕ) → ℕ
value_in table variables n = value_of (numeric_in table n) (variables_in table variables)

-- whether a truth node's expression is true
unfoldable pub holds_in : (table variables : List ℕ) → (n : ℕ) → Bool
holds_in table variables n = truth_of (truth_in table n) (variables_in table variables)
