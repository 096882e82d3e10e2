-- What a run shows: "Observations: 64 branch (value), 65 read, 66 write (array, index in 4 bytes)", and "67 (no fields, length 4)" for a rollback.
use Rattle.std.specs.Prelude.{ℕ, Bool, cond}
use mathlib.Core.List.{List, ◌++◌, flat_map}
use Rattle.bytes_le.specs.Numbers.{le}

pub data Observation : Type 0 where
  branch : (value : Bool) → Observation
  read_at : (array index : ℕ) → Observation
  write_at : (array index : ℕ) → Observation
  rolled_back : Observation

unfoldable pub observation_bytes : Observation → List ℕ
observation_bytes (branch v) = le 2 6 ++ (le 2 64 ++ le 2 (cond v 1 0))
observation_bytes (read_at a i) = le 2 10 ++ (le 2 65 ++ (le 2 a ++ le 4 i))
observation_bytes (write_at a i) = le 2 10 ++ (le 2 66 ++ (le 2 a ++ le 4 i))
observation_bytes rolled_back = le 2 4 ++ le 2 67

unfoldable pub shown_bytes : List Observation → List ℕ
shown_bytes os = flat_map observation_bytes os
