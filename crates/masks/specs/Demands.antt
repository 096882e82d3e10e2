-- What is demanded of the bytes that an accepted table is hardened to.
use Rattle.std.specs.Prelude.{ℕ, ◌+◌, ◌*◌, ◌≤◌, List, [], ◌∷◌, ◌++◌, ◌≡◌, length}
use Rattle.awhile.specs.Language.{Com}
use Rattle.awhile.specs.Tables.{Table, header_of, nodes_start}
use Rattle.awhile.specs.Trees.{root_of}
use Rattle.machine.specs.Runs.{guessing, rolling}
use Rattle.masks.specs.Hardening.{Origin, table_of_hardened}
use Rattle.masks.specs.ReadBack.{origin_in, ReadsBack}
use Rattle.masks.specs.SameRun.{plain_run, SameRun}
use Rattle.masks.specs.Security.{ShowsTheSame}

pub record Demands (original : Table) (program : Com Origin) (out : List ℕ) : Type 0 where
  -- The table that the bytes read back as: its program is the hardened one.
  pub hardened : Table
  pub reads_back : ReadsBack original program out hardened
  -- "At most 8 nodes come out per node put in."
  pub eightfold : length hardened.nodes ≤ 8 * length original.nodes
  -- A node's record has at most 10 bytes, so a buffer of this length has room.
  pub room : length out ≤ nodes_start (header_of (table_of_hardened original program)) + 80 * length original.nodes
  -- Without guessing, from every state with f = 0, the hardened table's program runs as the original's does.
  pub same_run :
      (vs cells : List ℕ) → length vs ≡ original.variables
      → SameRun
      original.variables
      (origin_in program)
      (plain_run original.counts (root_of original) vs cells)
      (plain_run hardened.counts (root_of hardened) (vs ++ (0 ∷ [])) cells)
  -- Demand 3: the hardened table's program shows the same from two states, whatever the attacker picks.
  pub secure : ShowsTheSame guessing original.labels original hardened
  -- P5: "A user of this machine gets from a hardened program what demand 3 gives on the forward one."
  pub secure_rolling : ShowsTheSame rolling original.labels original hardened
