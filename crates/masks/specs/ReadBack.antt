-- "The hardened program is the one the hardened table reads back as": what that table is, and where its nodes come from.
use Rattle.std.specs.Prelude.{ℕ, ◌+◌, false, List, [], ◌∷◌, ◌++◌, ◌≡◌, get_or, replicate}
use Rattle.std.proofs.Math.Option.{none}
use Rattle.awhile.specs.Language.{Com, skip, assign, sequence, if, while, read, write}
use Rattle.awhile.specs.Refusals.{got}
use Rattle.awhile.specs.Tables.{Table, read_table}
use Rattle.awhile.specs.Trees.{root_of}
use Rattle.awhile.specs.Encoding.{nodes_of_a, nodes_of_b, write_c, numbered}
use Rattle.labels.specs.Labellings.{variable_mark, label_of}
use Rattle.masks.specs.Hardening.{Origin, version_for}

-- the origins of a program's nodes, by their numbers; the node of an expression has none
unfoldable pub origins : Com Origin → List Origin
origins (skip n) = n ∷ []
origins (assign n x e) = replicate (nodes_of_a e) none ++ (n ∷ [])
origins (sequence n c d) = origins c ++ (origins d ++ (n ∷ []))
origins (if n b c d) = replicate (nodes_of_b b) none ++ (origins c ++ (origins d ++ (n ∷ [])))
origins (while n b c) = replicate (nodes_of_b b) none ++ (origins c ++ (n ∷ []))
origins (read n x a i) = replicate (nodes_of_a i) none ++ (n ∷ [])
origins (write n a i e) = replicate (nodes_of_a i) none ++ (replicate (nodes_of_a e) none ++ (n ∷ []))

-- which command of the original the node of a hardened table is the copy of
unfoldable pub origin_in : Com Origin → (node : ℕ) → Origin
origin_in program node = get_or (origins program) node none

-- Bytes that read back as the hardened program of an original table.
pub record ReadsBack (original : Table) (program : Com Origin) (out : List ℕ) (hardened : Table) : Type 0 where
  -- the bytes are accepted as a table
  pub accepts : read_table out ≡ got hardened
  -- "A hardened table is version 2 where its input is, or where it declares 33 variables; otherwise it stays version 1."
  pub version : hardened.version ≡ version_for original.version (original.variables + 1)
  -- "the output declares V+1 variables, f public, and its own N; all else of the declarations is unchanged"
  pub variables : hardened.variables ≡ original.variables + 1
  pub flag_public : label_of hardened.labels (variable_mark original.variables) ≡ false
  pub labels : hardened.labels ≡ original.labels
  pub counts : hardened.counts ≡ original.counts
  -- "Output nodes stand parts first, left to right, then the parent"
  pub nodes : hardened.nodes ≡ write_c 0 program
  -- its program is the hardened one, each command noted with its node number
  pub root : root_of hardened ≡ numbered program
