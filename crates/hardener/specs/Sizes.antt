-- What is kept for the nodes of a table while its hardened form is measured: one total for each.
use Rattle.std.specs.Prelude.{ℕ, ◌≤◌, ◌<◌, List, ◌≡◌, length, get_or}
use Rattle.awhile.specs.Nodes.{sort_of}
use Rattle.awhile.specs.declared.Sort.TheVariants.{Command}
use Rattle.reader.specs.Index.{nodes_in, node_in}
use Rattle.masks.specs.Hardening.{max_hardened}
use Rattle.deciding.specs.declared.decisions.Decision.{Decision}
use Rattle.masking.specs.InMemory.{hardened_at}
use Rattle.copier.specs.Totals.{total_of, NodeTotal, EveryCopy}

-- a table that may be hardened, with room for its decisions
pub record Sizable (table : List ℕ) (ds : List Decision) : Type 0 where
  pub few : nodes_in table ≤ max_hardened
  pub room : nodes_in table ≤ length ds

-- an expression's total is that of every copy, a command's that of what it hardens to, which is the same whatever the flag's number
pub record NodeSize (table : List ℕ) (ds : List Decision) (n answer : ℕ) : Type 0 where
  pub expression : NodeTotal table n answer
  pub command : sort_of (node_in table n) ≡ Command → answer ≡ total_of (hardened_at table ds 0 n)

-- the nodes below a number have theirs
pub record SizesBelow (table : List ℕ) (ds : List Decision) (totals : List ℕ) (below : ℕ) : Type 0 where
  pub room : nodes_in table ≤ length totals
  pub at : (n : ℕ) → n < below → NodeSize table ds n (get_or totals n 0)

-- all nodes have theirs: P3's sentence for the expressions, and for the commands what they harden to
pub record AllSized (table : List ℕ) (ds : List Decision) (totals : List ℕ) : Type 0 where
  pub copies : EveryCopy table totals
  pub commands : (n : ℕ) → n < nodes_in table → sort_of (node_in table n) ≡ Command → get_or totals n 0 ≡ total_of (hardened_at table ds 0 n)
