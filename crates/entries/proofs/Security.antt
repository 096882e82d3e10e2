-- Demand 3 carried over to the entries that take a list of directives.
use Prim.Native.Nat.{ℕ}
use mathlib.Core.List.{List, [], ◌∷◌, ◌++◌, append_assoc, flat_map}
use mathlib.Core.Bool.{cond}
use mathlib.Core.Logic.{⊎_map}
use mathlib.Core.Option.{some}
use mathlib.Core.Path.{◌≡◌, refl, sym, ap, ap₂, subst₂, ◌∙◌}
use lib.ListN.{length}
use Rattle.bytes_le.specs.Numbers.{from_words}
use Rattle.awhile.specs.Language.{Com}
use Rattle.awhile.specs.Lists.{sum}
use Rattle.awhile.specs.declared.Labelling.{Labelling}
use Rattle.awhile.specs.Tables.{Table}
use Rattle.awhile.proofs.Accepted.{got_same}
use Rattle.awhile.specs.Trees.{root_of}
use Rattle.machine.specs.Observations.{Observation, observation_bytes, shown_bytes}
use Rattle.machine.specs.Memory.{next_node, run_numbers}
use Rattle.machine.specs.Prefixes.{Begins, OneBegins}
use Rattle.machine.specs.Runs.{Guide, bytes, Machine, Outcome, end_number, run, started}
use Rattle.machine.specs.declared.Directive.{Directive}
use Rattle.masks.specs.Security.{ShowsTheSame, shown_on}
use Rattle.masks.specs.Hardening.{Origin}
use Rattle.masks.specs.ReadBack.{ReadsBack}
use Rattle.entries.specs.Running.{Lent, Ran, ran_all, run_in}
use Rattle.entries.specs.Security.{ListEntry, reported_by, reported, Reports, Holds, CallsShowTheSame}
use Rattle.entries.proofs.Accepted.{Accepted, Follows, call_accepted}

-- observations of which one list begins the other have bytes of which one list begins the other
bytes_append : (os us : List Observation) → shown_bytes (os ++ us) ≡ shown_bytes os ++ shown_bytes us
unfolding shown_bytes flat_map
bytes_append [] us = refl
bytes_append (o ∷ os) us = ap (λ (l : List ℕ). observation_bytes o ++ l) (bytes_append os us) ∙ sym (append_assoc (observation_bytes o) (shown_bytes os) (shown_bytes us))

bytes_begin : {os us : List Observation} → Begins os us → Begins (shown_bytes os) (shown_bytes us)
bytes_begin {os} h = record { after = shown_bytes h.after; whole = ap shown_bytes h.whole ∙ bytes_append os h.after }

bytes_related : {os us : List Observation} → OneBegins os us → OneBegins (shown_bytes os) (shown_bytes us)
bytes_related h = record { either = ⊎_map bytes_begin bytes_begin h.either }

-- what an accepted run reports
ran_reports : (t : Table) (lent : Lent) (answer : List ℕ) (o : Outcome ℕ) → Reports (ran_all t lent answer o) lent answer (shown_bytes o.machine.shown)
unfolding ran_all run_numbers
ran_reports t lent answer o =
    record {
      end = end_number o.end;
      steps = o.machine.steps;
      used = o.machine.used;
      flag = cond o.machine.state.flag 1 0;
      next = next_node o.machine.state.pending;
      answers = refl;
      holds = refl;
    }

pub some_same : {ds es : List Directive} → some ds ≡ some es → ds ≡ es
some_same e = cc

module _ {Besides : Type 0} {e : ListEntry Besides} {table directives : List ℕ} {lent : Lent} {besides : Besides} {budget : ℕ} {answer : List ℕ}
    (a : Accepted e table directives lent besides budget answer) where
  -- an accepted call runs the table and the list that its bytes are read as
  run_reported : reported e table directives lent budget ≡ shown_bytes (run_in a.read lent budget (e.board a.script)).machine.shown
  unfolding reported reported_by
  run_reported = rw (a.reads, a.scripted)

  call_reports : Reports (e.call table directives lent besides budget answer) lent answer (reported e table directives lent budget)
  call_reports =
      subst₂ (λ (ran : Ran) (shown : List ℕ). Reports ran lent answer shown) (sym a.exit) (sym run_reported)
      (ran_reports a.read lent answer (run_in a.read lent budget (e.board a.script)))

module _ {t hardened : Table} {program : Com Origin} {table : List ℕ} (back : ReadsBack t program table hardened) where
  -- from the state that its slices hold
  shown_by_run : (lent : Lent) (budget : ℕ) (vs cs : List ℕ) (g : Guide) → Holds t lent vs cs
      → (run_in hardened lent budget g).machine.shown ≡ shown_on hardened (bytes (length lent.observations)) g (vs ++ (0 ∷ [])) cs budget
  unfolding run_in shown_on
  shown_by_run lent budget vs cs g h =
      ap (λ (s : Machine ℕ). (run hardened.counts (bytes (length lent.observations)) budget s).machine.shown)
      (ap₂ (λ (xs ys : List ℕ). started (root_of hardened) xs ys g)
      (ap (λ (n : ℕ). from_words n lent.variables) back.variables ∙ h.variables)
      (ap (λ (ns : List ℕ). from_words (sum ns) lent.cells) back.counts ∙ h.cells))

  module _ {Besides : Type 0} {e : ListEntry Besides} where
    state_reported : {directives : List ℕ} {lent : Lent} {besides : Besides} {budget : ℕ} {answer : List ℕ} (vs cs : List ℕ) (script : List Directive)
        → (a : Accepted e table directives lent besides budget answer) → a.script ≡ script → Holds t lent vs cs
        → reported e table directives lent budget
        ≡ shown_bytes (shown_on hardened (bytes (length lent.observations)) (e.board script) (vs ++ (0 ∷ [])) cs budget)
    state_reported {lent} {budget} vs cs script a same h =
        run_reported a
        ∙ ap₂ (λ (x : Table) (s : List Directive). shown_bytes (run_in x lent budget (e.board s)).machine.shown) (got_same _ _ (sym a.reads ∙ back.accepts)) same
        ∙ ap shown_bytes (shown_by_run lent budget vs cs (e.board script) h)

    -- demand 3 for the calls of an entry, from demand 3 for the runs on its board
    pub calls_related : Follows e → {l : Labelling} → ShowsTheSame e.board l t hardened → CallsShowTheSame e l t table
    calls_related follows secure =
        record {
          reports = λ directives lent besides budget answer zero. call_reports (call_accepted follows table directives lent besides budget answer zero);
          related = λ vs cs ws ds agree plainly directives lent₁ lent₂ besides₁ besides₂ budget₁ budget₂ answer₁ answer₂ h₁ h₂ zero₁ zero₂.
              let a = call_accepted follows table directives lent₁ besides₁ budget₁ answer₁ zero₁ in
              let b = call_accepted follows table directives lent₂ besides₂ budget₂ answer₂ zero₂ in
              subst₂ OneBegins
              (sym (state_reported vs cs a.script a refl h₁))
              (sym (state_reported ws ds a.script b (some_same (sym b.scripted ∙ a.scripted)) h₂))
              (bytes_related
              (secure.related vs cs ws ds agree plainly a.script budget₁ budget₂ (bytes (length lent₁.observations)) (bytes (length lent₂.observations))));
        }
