-- A hardened table reads back as the hardened program.
use Prim.Native.Nat.{ℕ, ◌+◌, ◌*◌, ◌≤◌, ◌<◌}
use native.Mathlib.Numerals.{add-one}
use native.Mathlib.Omega.{arith}
use mathlib.Core.Bool.{Bool, true, false, cond, ◌||◌}
use lib.Dec.{eqb}
use borrow.Author.Tests.{eqb-false}
use mathlib.Core.Path.{◌≡◌, refl, sym, ap, subst}
use mathlib.Core.List.{List, map}
use lib.ListN.{length, take}
use lib.Seq.{take-length}
use Rattle.awhile.specs.Language.{Com}
use Rattle.awhile.specs.Lists.{sum}
use Rattle.awhile.specs.Nodes.{size_of}
use Rattle.awhile.specs.Tables.{Table, header_of, known_version, mask_bytes, most_variables, max_variables, max_nodes, nodes_start, offset_of}
use Rattle.awhile.specs.Trees.{root_of}
use Rattle.awhile.specs.Encoding.{nodes_of, table_bytes}
use Rattle.awhile.specs.WellFormed.{Declared, WellFormed, Within}
use Rattle.awhile.specs.declared.Labelling.{Labelling}
use Rattle.awhile.proofs.Records.{sizes_most}
use Rattle.awhile.proofs.Reading.{length-table_bytes}
use Rattle.awhile.proofs.Writing.{written_length, written_root, written_reads_back}
use Rattle.awhile.proofs.Ranges.{root_within}
use Rattle.awhile.proofs.Size.{root_size}
use Rattle.labels.specs.Labellings.{label_of}
use Rattle.labels.proofs.Masks.{bit_above}
use Rattle.masks.specs.Decisions.{Decision}
use Rattle.masks.specs.Hardening.{Origin, harden, version_for, table_of_hardened}
use Rattle.masks.specs.Growth.{MasksLargeConditions}
use Rattle.masks.specs.ReadBack.{ReadsBack}
use Rattle.masks.proofs.Decisions.{program_for}
use Rattle.masks.proofs.Growth.{hardened_size, hardened_within, nodes_of_mapped}

-- ---- the version of a hardened table
-- allows one variable more than the original's, up to the limit of all
version_allows : (v n : ℕ) → known_version v ≡ true → n ≤ most_variables v → n < max_variables → n + 1 ≤ most_variables (version_for v (n + 1))
unfolding version_for known_version mask_bytes
version_allows v n known fits few = go (eqb v 1) (eqb v 2) (eqb (n + 1) 33) refl refl known fits
  where
    go : (one two more : Bool) → eqb v 2 ≡ two → eqb (n + 1) 33 ≡ more → one || two ≡ true → n ≤ 8 * cond one 4 8
        → n + 1 ≤ most_variables (cond (two || more) 2 1)
    go one true more p q known fits = omega arith
    go one false true p q known fits = omega arith
    go true false false p q known fits = let other : ¬ (n + 1 ≡ 33) = eqb-false (n + 1) 33 q in omega arith
    go false false false p q known fits = let z : ◌≡◌ {A = ℕ} 0 1 = cc in absurd (omega arith)

-- and is a known one
version_known_lem : (v n : ℕ) → known_version (version_for v n) ≡ true
unfolding version_for known_version
version_known_lem v n = go (eqb v 2 || eqb n 33)
  where
    go : (b : Bool) → known_version (cond b 2 1) ≡ true
    go true = refl
    go false = refl

-- one more variable, not secret, may be declared where there is one free
declared_more : (version v : ℕ) (l : Labelling) (counts : List ℕ) → v < max_variables → Declared version v l counts
    → Declared (version_for version (v + 1)) (v + 1) l counts
declared_more version v l counts free d =
    record {
      version_known = version_known_lem version (v + 1);
      variables_fit = version_allows version v d.version_known d.variables_fit free;
      arrays_fit = d.arrays_fit;
      variable_mask_fits = rw add-one (omega (arith, d.variable_mask_fits));
      array_mask_fits = d.array_mask_fits;
      counts_positive = d.counts_positive;
      cells_fit = d.cells_fit;
    }

-- ---- bytes
-- a table of so many nodes has at most so many bytes
pub table_size : (t : Table) → length (table_bytes t) ≤ nodes_start (header_of t) + 10 * length t.nodes
unfolding offset_of
table_size t =
    let all : take (length t.nodes) t.nodes ≡ t.nodes = take-length t.nodes in
    omega (arith, length-table_bytes t, ap (λ ns. sum (map size_of ns)) all, sizes_most t.nodes)

-- ---- the hardened table of any decisions
module _ (t : Table) (w : WellFormed t) (free : t.variables < max_variables) (d : Com Decision) (program : program_for d ≡ root_of t) where
  abbrev program' : Com Origin
  program' = harden t.variables d

  abbrev table' : Table
  table' = table_of_hardened t program'

  within' : Within (t.variables + 1) (length t.counts) program'
  within' =
      hardened_within t.variables (length t.counts) d
      (subst (Within t.variables (length t.counts)) (sym program) (root_within t w))

  -- where masked conditions have at least three nodes, at most 8 nodes come out per node put in
  pub eightfold : MasksLargeConditions d → nodes_of program' ≤ 8 * length t.nodes
  eightfold large =
      omega (arith, hardened_size t.variables d large, nodes_of_mapped (λ (n : Decision). n.node) d, ap nodes_of program, root_size t w)

  -- as many nodes as the program has
  pub hardened_nodes : length table'.nodes ≡ nodes_of program'
  unfolding table_of_hardened
  hardened_nodes = written_length table' program' refl

  module _ (few : nodes_of program' ≤ max_nodes) where
    -- its bytes read back as the hardened program
    pub hardened_reads_back : ReadsBack t program' (table_bytes table') table'
    unfolding table_of_hardened label_of
    hardened_reads_back =
        record {
          accepts =
              written_reads_back table' program' refl (declared_more t.version t.variables t.labels t.counts free w.declared) within' few;
          version = refl;
          variables = refl;
          flag_public = bit_above t.variables t.labels.variables t.variables w.declared.variable_mask_fits (omega arith);
          labels = refl;
          counts = refl;
          nodes = refl;
          root = written_root table' program' refl;
        }
