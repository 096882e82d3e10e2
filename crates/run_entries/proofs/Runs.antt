-- A table that is read and run: what the inner functions of the running entries came to.
use Prim.Native.Nat.{ℕ, ◌+◌, ◌*◌, ◌≤◌}
use native.Mathlib.Omega.{arith}
use mathlib.Core.Bool.{true, false}
use mathlib.Core.List.{List}
use mathlib.Core.Path.{◌≡◌, refl, sym, ap, ◌∙◌}
use lib.ListN.{length}
use borrow.Author.Tests.{leb-true}
use Rattle.awhile.proofs.Versions.{declared_variables}
use Rattle.awhile.specs.Refusals.{Answer, refused, got, check, and_then}
use Rattle.awhile.specs.Tables.{Table, read_table, declarations_of}
use Rattle.reader.specs.Admitted.{Admitted}
use Rattle.reader.specs.Index.{Ready, table_of, nodes_in, accepted_as}
use Rattle.reader.proofs.Admitted.{offsets_in, bytes, indexed}
use Rattle.reader.proofs.Index.{indexed_well_formed, indexed_few}
use Rattle.reader.proofs.Ready.{ready_variables, ready_nodes, ready_cells}
use Rattle.awhile.specs.declared.Declarations.{Declarations}
use Rattle.machine.specs.declared.Board.{Board}
use Rattle.machine.specs.declared.Board.TheVariants.{Rolling}
use Rattle.awhile.specs.declared.Refusal.{Refusal}
use Rattle.awhile.specs.declared.Refusal.TheVariants.{BadDirectives}
use Rattle.directives.specs.Listed.{is_some, read_on}
use Rattle.stepping.specs.Evaluation.{variables_in}
use Rattle.stepping.specs.Stepping.{memory_at, cells_in}
use Rattle.saves.specs.Places.{place_words}
use Rattle.directives.specs.Guiding.{guide_of}
use Rattle.directives.proofs.Boards.{reads_on}
use Rattle.interpreter.specs.Running.{run_of, RunAsked, RunLeaves}
use Rattle.interpreter.specs.declared.run.Report.{Report}
use Rattle.entries.specs.Running.{Lent, ran_all, run_in}
use Rattle.entries.specs.Rolling.{save_size}
use Rattle.entries.specs.Promises.{lent_at}
use Rattle.run_entries.specs.Lengths.{Small, lengths_of, fit_for}
use Rattle.run_entries.specs.Runs.{runnable, has_not_run, has_run, DoneAs, ReadDone}
use Rattle.std.specs.Prelude.{Result, Ok, Err}
use Rattle.run_entries.proofs.RightLengths.{enough_rolling, RightLengths, right_lengths, lengths_answer}

-- ---- a refusal, with the lent slices as they were
module _ {table list : List ℕ} {board : Board} {budget : ℕ} {lent : Lent} {ss : List ℕ} where
  refused_done : (r : Refusal) → runnable board list lent ss (table_of table) ≡ refused r → DoneAs table list board budget lent ss lent ss (Err r)
  refused_done r e = record { came = has_not_run r e refl refl }

  pub bad_list : false ≡ is_some (read_on board list) → DoneAs table list board budget lent ss lent ss (Err BadDirectives)
  unfolding runnable check
  bad_list bad = refused_done BadDirectives (rw (← bad))

-- ---- a table that was read
module _ {table : List ℕ} (list : List ℕ) {declared : Declarations} (admitted : Admitted table) (declares : declared ≡ declarations_of (table_of table)) where
  ready : Ready table (offsets_in table) declared
  ready = record { indexed = indexed admitted; declares = sym declares }

  -- its numbers are small
  pub ready_small : Small declared
  ready_small =
      let w = indexed_well_formed table (offsets_in table) (bytes admitted) ready.indexed in
      record {
        variables = omega (arith, ready_variables ready, declared_variables w.declared);
        cells = omega (arith, ready_cells ready, w.declared.cells_fit);
        nodes = omega (arith, ready_nodes ready, indexed_few table (offsets_in table) (bytes admitted) ready.indexed);
      }

  module _ (board : Board) (budget : ℕ) (vs cs ps os ss : List ℕ) where
    abbrev lent : Lent
    lent = lent_at vs cs ps os

    module _ (good : true ≡ is_some (read_on board list)) where
      module _ {found : Result (Unit {0}) Refusal} (is_found : found ≡ lengths_of declared board (length vs) (length cs) (length ps) (length ss)) where
        runnable_fits : runnable board list lent ss (table_of table) ≡ fit_for board lent ss (table_of table)
        unfolding runnable check
        runnable_fits = rw (← good)

        -- a slice of a wrong length
        pub wrong_lengths : (r : Refusal) → found ≡ Err r → DoneAs table list board budget lent ss lent ss (Err r)
        wrong_lengths r is = refused_done r (runnable_fits ∙ lengths_answer table (offsets_in table) declared ready board lent ss ∙ rw (← is_found, is))

        module _ (is : found ≡ Ok (tt {0})) where
          right : RightLengths declared board (length vs) (length cs) (length ps) (length ss)
          right = right_lengths declared board (length vs) (length cs) (length ps) (length ss) (sym is_found ∙ is)

          saves_long_lem : board ≡ Rolling → 32 * place_words table ≤ length ss
          unfolding place_words nodes_in
          saves_long_lem rolling =
              let words : ℕ = declared.header.variables + (declared.cells + declared.header.nodes) in
              let enough = leb-true (32 * words) (length ss) (enough_rolling board (length ss) words rolling ∙ right.saves) in
              omega (arith, ready_variables ready, ready_cells ready, ready_nodes ready)

          -- all is right for a run
          pub run_asked : RunAsked table list board (memory_at vs cs ps) ss
          run_asked =
              record {
                readable = record { within = omega arith; reads = reads_on board list (sym good) };
                variables_long = right.variables ∙ ap (λ n. 4 * n) (ready_variables ready);
                cells_long = right.cells ∙ ap (λ n. 4 * n) (ready_cells ready);
                pending_long = omega (arith, right.pending, ready_nodes ready);
                saves_long = saves_long_lem;
              }

          -- a run that was made
          run_in_lent : run_of table list board budget (memory_at vs cs ps) (length os) ≡ run_in (table_of table) lent budget (guide_of board list 0)
          unfolding run_of run_in variables_in cells_in
          run_in_lent = refl

          pub run_done : (vs' cs' ps' os' ss' : List ℕ) (r : Report)
              → RunLeaves (run_of table list board budget (memory_at vs cs ps) (length os)) table board (memory_at vs cs ps) ss os (memory_at vs' cs' ps') ss' os' r
              → DoneAs table list board budget lent ss (lent_at vs' cs' ps' os') ss' (Ok r)
          unfolding ran_all nodes_in place_words save_size
          run_done vs' cs' ps' os' ss' r left =
              let leaves = rw run_in_lent at left in
              record {
                came =
                    has_run (table_of table) r
                    (runnable_fits ∙ lengths_answer table (offsets_in table) declared ready board lent ss ∙ rw (← is_found, is))
                    (λ i. record { variables = leaves.variables i; cells = leaves.cells i; pending = leaves.pending i; observations = leaves.observations i })
                    leaves.saves
                    leaves.report;
              }

-- ---- any table
read_as_it : (s : List ℕ) (t : Table) → read_table s ≡ got t → table_of s ≡ t
unfolding table_of
read_as_it s t e = rw (e, table_of)

module _ {table list : List ℕ} {board : Board} {budget : ℕ} {lent : Lent} {ss : List ℕ} where
  -- a table that the reader refuses
  pub read_refused : {found : Result (List ℕ) Refusal} {r : Refusal} → found ≡ accepted_as table → found ≡ Err r → ReadDone table list board budget lent ss lent ss (Err r)
  unfolding and_then accepted_as
  read_refused {found} {r} answers is = go (read_table table) refl
    where
      go : (a : Answer Table) → read_table table ≡ a → ReadDone table list board budget lent ss lent ss (Err r)
      go (refused s) e =
          let other : accepted_as table ≡ Err s = rw (e, accepted_as) in
          let same : s ≡ r = cc in
          record { came = has_not_run r (rw (e, same)) refl refl }
      go (got t) e = let other : accepted_as table ≡ Ok table = rw (e, accepted_as) in absurd (cc)

  -- a table that it accepts
  pub read_done : {found : Result (List ℕ) Refusal} {accepted : List ℕ} {lent' : Lent} {ss' : List ℕ} {d : Result Report Refusal} → found ≡ accepted_as table → found ≡ Ok accepted
      → DoneAs accepted list board budget lent ss lent' ss' d → ReadDone table list board budget lent ss lent' ss' d
  unfolding and_then accepted_as
  read_done {found} {accepted} {lent'} {ss'} {d} answers is done = go (read_table table) refl
    where
      go : (a : Answer Table) → read_table table ≡ a → ReadDone table list board budget lent ss lent' ss' d
      go (refused s) e = let other : accepted_as table ≡ Err s = rw (e, accepted_as) in absurd (cc)
      go (got t) e =
          let other : accepted_as table ≡ Ok table = rw (e, accepted_as) in
          let same : accepted ≡ table = cc in
          let reads : read_table table ≡ got (table_of table) = e ∙ ap got (sym (read_as_it table t e)) in
          let came = rw same at done.came in
          record { came = rw reads came }
