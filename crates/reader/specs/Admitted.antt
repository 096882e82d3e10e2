-- What is known of every table that was read and accepted.
use Rattle.std.specs.Prelude.{ℕ, ◌<◌, List, ◌≡◌, get_or}
use Rattle.awhile.specs.Refusals.{got}
use Rattle.awhile.specs.Tables.{read_table}
use Rattle.reader.specs.Index.{table_of}

-- it has bytes, and they read as a table
pub record Admitted (table : List ℕ) : Type 0 where
  pub each_byte : (i : ℕ) → get_or table i 0 < 256
  pub reads : read_table table ≡ got (table_of table)
