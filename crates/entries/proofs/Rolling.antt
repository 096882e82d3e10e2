-- Where the rollback machine's entry answers 0, the flag that it answers tells whether a save is open, and at most eight are.
use Prim.Native.Nat.{ℕ}
use mathlib.Core.Bool.{Bool, cond}
use mathlib.Core.Option.{Option, none, some}
use mathlib.Core.List.{List, [], ◌∷◌}
use mathlib.Core.Path.{◌≡◌, refl, sym, ap, subst, ◌∙◌}
use lib.ListN.{length}
use Rattle.bytes_le.specs.Numbers.{from_words}
use Rattle.awhile.specs.Lists.{sum}
use Rattle.awhile.specs.Refusals.{Answer, refused, got}
use Rattle.awhile.specs.Tables.{Table, read_table}
use Rattle.awhile.specs.Trees.{root_of}
use Rattle.awhile.specs.declared.Refusal.TheVariants.{BadDirectives}
use Rattle.machine.specs.Directives.{read_rolling_directives}
use Rattle.machine.specs.Observations.{shown_bytes}
use Rattle.machine.specs.Runs.{rolling, bytes, Outcome, end_number}
use Rattle.machine.specs.Memory.{run_numbers, next_node}
use Rattle.machine.specs.declared.Directive.{Directive}
use Rattle.machine.proofs.Saving.{flag_while_open, eight_open}
use Rattle.entries.specs.Answers.{answered}
use Rattle.entries.specs.Running.{Lent, not_run, ran_all, run_in}
use Rattle.entries.specs.Rolling.{RanSaving, saving_for, not_run_saving, ran_saving, saving_run, rollback_with, rollback_entry}
use Rattle.awhile.proofs.VersionOne.{reads_as_before}
use Rattle.entries.specs.Promises.{ran_saving_at, OpenSaves, RollsBack}
use Rattle.entries.proofs.Accepted.{refusal_not_zero, saving_for_lem}

module _ (table directives : List ℕ) (lent : Lent) (saves : List ℕ) (budget : ℕ) (answer : List ℕ) where
  -- what a run leaves open
  run_open : (t : Table) (ds : List Directive) → read_table table ≡ got t → read_rolling_directives directives ≡ some ds
      → OpenSaves table directives lent saves budget answer (ran_saving t lent saves answer (run_in t lent budget (rolling ds)))
  unfolding ran_saving ran_all run_numbers run_in
  run_open t ds reads scripted =
      let o : Outcome ℕ = run_in t lent budget (rolling ds) in
      let vs = from_words t.variables lent.variables in
      let cs = from_words (sum t.counts) lent.cells in
      record {
        original = t;
        reads = reads;
        script = ds;
        scripted = scripted;
        saved = o.machine.saves;
        left = refl;
        eight = eight_open t.counts (bytes (length lent.observations)) budget (root_of t) vs cs ds;
        places = refl;
        end = end_number o.end;
        steps = o.machine.steps;
        used = o.machine.used;
        shown = length (shown_bytes o.machine.shown);
        next = next_node o.machine.state.pending;
        answers =
            ap (λ (b : Bool).
            answered (0 ∷ end_number o.end ∷ o.machine.steps ∷ o.machine.used ∷ length (shown_bytes o.machine.shown) ∷ cond b 1 0 ∷ next_node o.machine.state.pending ∷ []) answer)
            (flag_while_open t.counts (bytes (length lent.observations)) budget (root_of t) vs cs ds);
      }

  -- a call that answers 0 has run
  call_open : (a : Answer Table) (s : Option (List Directive)) → read_table table ≡ a → read_rolling_directives directives ≡ s
      → (rollback_with a lent saves budget answer s).ran.result ≡ 0 → OpenSaves table directives lent saves budget answer (rollback_with a lent saves budget answer s)
  unfolding rollback_with not_run_saving not_run saving_run
  call_open (refused r) s reads scripted zero = absurd (refusal_not_zero r zero)
  call_open (got t) none reads scripted zero = absurd (refusal_not_zero BadDirectives zero)
  call_open (got t) (some ds) reads scripted zero = go (saving_for lent saves t) refl zero
    where
      go : (a : Answer Table) → saving_for lent saves t ≡ a → (saving_run a lent saves budget answer (rolling ds)).ran.result ≡ 0
          → OpenSaves table directives lent saves budget answer (saving_run a lent saves budget answer (rolling ds))
      go (refused r) fits none_left = absurd (refusal_not_zero r none_left)
      go (got u) fits none_left = run_open u ds (reads ∙ ap got (saving_for_lem lent saves t u fits)) scripted

-- THE PROMISE of the rollback machine's entry: an entry that leaves what it is defined to leave answers the flag that the open saves give
pub entry_rolls_back : {table directives saves answer : List ℕ} {lent : Lent} {budget : ℕ} {lent' : Lent} {saves' answer' : List ℕ} {k : ℕ}
    → ran_saving_at k lent' saves' answer' ≡ rollback_entry table directives lent saves budget answer
    → RollsBack table directives lent saves budget answer k lent' saves' answer'
unfolding rollback_entry
entry_rolls_back {table} {directives} {saves} {answer} {lent} {budget} w =
    record {
      older = reads_as_before table;
      rolls = w;
      flags =
          λ zero.
          subst (OpenSaves table directives lent saves budget answer) (sym w)
          (call_open table directives lent saves budget answer (read_table table) (read_rolling_directives directives) refl refl
          (sym (ap (λ (x : RanSaving). x.ran.result) w) ∙ zero));
    }
