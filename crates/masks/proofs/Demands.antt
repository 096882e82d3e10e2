-- The demands on hardening hold of every accepted table of at most 512 nodes with a free variable number.
use Prim.Native.Nat.{ℕ, ◌*◌, ◌≤◌, ◌<◌}
use native.Mathlib.Omega.{arith}
use mathlib.Core.Bool.{false}
use mathlib.Core.Path.{◌≡◌, sym, ap, subst, ◌∙◌}
use mathlib.Core.List.{List, [], ◌∷◌, ◌++◌}
use lib.ListN.{length}
use Rattle.bytes_le.proofs.Numbers.{Below}
use Rattle.awhile.specs.Language.{Com, map_notes}
use Rattle.awhile.specs.Refusals.{got}
use Rattle.awhile.specs.Tables.{Table, max_variables, read_table}
use Rattle.awhile.specs.Trees.{root_of}
use Rattle.awhile.specs.Encoding.{table_bytes}
use Rattle.awhile.specs.WellFormed.{WellFormed, Within}
use Rattle.awhile.proofs.Accepted.{accepted_well_formed}
use Rattle.awhile.proofs.Ranges.{root_within}
use Rattle.labels.specs.Sheet.{annotated}
use Rattle.machine.specs.Runs.{Guide, guessing, rolling}
use Rattle.machine.specs.declared.Directive.{Directive}
use Rattle.masks.specs.Decisions.{Decision, decide}
use Rattle.masks.specs.Covering.{Covers}
use Rattle.masks.specs.Hardening.{Origin, harden, hardened_program, table_of_hardened, hardened_table}
use Rattle.masks.specs.SameRun.{AssignsBelow, plain_run, SameRun}
use Rattle.masks.specs.Growth.{MasksLargeConditions}
use Rattle.masks.specs.ReadBack.{origin_in, ReadsBack}
use Rattle.masks.specs.Security.{ShowsTheSame}
use Rattle.masks.specs.Demands.{Demands}
use Rattle.masks.proofs.Decisions.{program_for, program_decided, decide_covers, assigns_below}
use Rattle.masks.proofs.Growth.{decide_large}
use Rattle.masks.proofs.Origins.{origins_kept}
use Rattle.masks.proofs.ReadBack.{table_size, eightfold, hardened_nodes, hardened_reads_back}
use Rattle.masks.proofs.SameRun.{same_run_lem}
use Rattle.masks.proofs.Security.{secure_by}

module _ (t : Table) (w : WellFormed t) (small : length t.nodes ≤ 512) (free : t.variables < max_variables) where
  module _ (d : Com Decision) (program : program_for d ≡ root_of t) (large : MasksLargeConditions d) (covers : Covers d false t.labels) where
    abbrev program' : Com Origin
    program' = harden t.variables d

    abbrev table' : Table
    table' = table_of_hardened t program'

    below : AssignsBelow t.variables d
    below =
        assigns_below t.variables (length t.counts) d
        (subst (Within t.variables (length t.counts)) (sym program) (root_within t w))

    back : ReadsBack t program' (table_bytes table') table'
    back = hardened_reads_back t w free d program (omega (arith, eightfold t w free d program large))

    grown : length table'.nodes ≤ 8 * length t.nodes
    grown = omega (arith, hardened_nodes t w free d program, eightfold t w free d program large)

    -- the table's program, with the origins of its nodes, is the hardened one
    originals : map_notes (origin_in program') (root_of table') ≡ program'
    originals = ap (map_notes (origin_in program')) back.root ∙ origins_kept program'

    same_shown : (board : List Directive → Guide) → ShowsTheSame board t.labels t table'
    same_shown board = secure_by t d program below board t.labels table' (origin_in program') back.counts originals covers

    -- the demands hold for all decisions that cover the labels and mask no condition of fewer than three nodes
    pub demands_by : Demands t program' (table_bytes table')
    demands_by =
        record {
          hardened = table';
          reads_back = back;
          eightfold = grown;
          room = omega (arith, table_size table', grown);
          same_run = λ vs cells width.
              subst
              (λ p.
              SameRun t.variables (origin_in program') (plain_run t.counts p vs cells) (plain_run table'.counts (root_of table') (vs ++ (0 ∷ [])) cells))
              program
              (subst
              (λ counts.
              SameRun t.variables (origin_in program') (plain_run t.counts (program_for d) vs cells) (plain_run counts (root_of table') (vs ++ (0 ∷ [])) cells))
              (sym back.counts)
              (same_run_lem
              (origin_in program')
              (root_of table')
              vs
              cells
              t.variables
              t.counts
              d
              originals
              below
              width));
          secure = same_shown guessing;
          secure_rolling = same_shown rolling;
        }

  -- the demands hold for the decisions that the labels give
  pub demands_of_labels : Demands t (hardened_program t) (table_bytes (hardened_table t))
  unfolding hardened_program hardened_table annotated
  demands_of_labels =
      demands_by (decide (annotated t t.labels)) (program_decided (root_of t) false t.labels) (decide_large (annotated t t.labels)) (decide_covers (root_of t) false t.labels)

-- THE DEMANDS, over bytes: whatever bytes are accepted as a table of at most 512 nodes with a free variable number
pub demands_met : (s : List ℕ) (t : Table) → Below 256 s → read_table s ≡ got t → length t.nodes ≤ 512 → t.variables < max_variables
    → Demands t (hardened_program t) (table_bytes (hardened_table t))
demands_met s t bytes reads small free = demands_of_labels t (accepted_well_formed s bytes t reads) small free
