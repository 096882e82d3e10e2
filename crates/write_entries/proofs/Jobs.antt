-- What a job wants: its own refusals, as the code tells them, and what reading for it is worth.
use Prim.Native.Nat.{ℕ, ◌≤◌, ◌<◌}
use native.Mathlib.Omega.{arith}
use mathlib.Core.Bool.{true, false}
use mathlib.Core.List.{List}
use mathlib.Core.Path.{◌≡◌, refl, sym, ap, subst, ◌∙◌}
use lib.ListN.{length}
use borrow.Author.Tests.{leb-true, le-leb, lt-leb, le-ltb, lt-ltb}
use Rattle.std.specs.Prelude.{Result, Ok, Err}
use Rattle.awhile.specs.Refusals.{Answer, refused, got, check, and_then}
use Rattle.awhile.specs.Tables.{Table, read_table, max_variables}
use Rattle.awhile.specs.declared.Refusal.{Refusal}
use Rattle.awhile.specs.declared.Refusal.TheVariants.{TooManyNodes, NoFreeVariable, BadQuestions}
use Rattle.awhile.proofs.Accepted.{check_got, then_got}
use Rattle.labels.specs.Questions.{answerable}
use Rattle.masks.specs.Hardening.{max_hardened}
use Rattle.reader.specs.Index.{table_of}
use Rattle.entries.specs.Writing.{asked_in, hardened_in}
use Rattle.write_entries.specs.Jobs.{wanted, Granted, granted_by}
use Rattle.write_entries.specs.declared.Job.{Job}
use Rattle.write_entries.specs.declared.Job.TheVariants.{Sheet, Answers, Hardened}

-- ---- a job's own refusals
module _ (list : List ℕ) (t : Table) where
  pub sheet_granted : ◌≡◌ {A = Result (Unit {0}) Refusal} (Ok tt) (granted_by tt (wanted Sheet list t))
  unfolding wanted granted_by
  sheet_granted = refl

  pub list_granted : answerable t list ≡ true → ◌≡◌ {A = Result (Unit {0}) Refusal} (Ok tt) (granted_by tt (wanted Answers list t))
  unfolding wanted asked_in check granted_by
  list_granted e = rw e

  pub list_refused : answerable t list ≡ false → ◌≡◌ {A = Result (Unit {0}) Refusal} (Err BadQuestions) (granted_by tt (wanted Answers list t))
  unfolding wanted asked_in check granted_by
  list_refused e = rw e

  pub many_refused : max_hardened < length t.nodes → ◌≡◌ {A = Result (Unit {0}) Refusal} (Err TooManyNodes) (granted_by tt (wanted Hardened list t))
  unfolding wanted hardened_in check granted_by
  many_refused h = rw (lt-leb (length t.nodes) max_hardened h)

  module _ (few : length t.nodes ≤ max_hardened) where
    pub none_free_refused : max_variables ≤ t.variables → ◌≡◌ {A = Result (Unit {0}) Refusal} (Err NoFreeVariable) (granted_by tt (wanted Hardened list t))
    unfolding wanted hardened_in check granted_by
    none_free_refused h = rw (le-leb (length t.nodes) max_hardened few, le-ltb t.variables max_variables h)

    pub hardened_granted : t.variables < max_variables → ◌≡◌ {A = Result (Unit {0}) Refusal} (Ok tt) (granted_by tt (wanted Hardened list t))
    unfolding wanted hardened_in check granted_by
    hardened_granted h = rw (le-leb (length t.nodes) max_hardened few, lt-ltb t.variables max_variables h)

-- ---- a job that is granted
pub granted_as : {job job' : Job} {list : List ℕ} {t : Table} → job ≡ job' → Granted job list t → Granted job' list t
granted_as {list = list} {t} e g = subst (λ (j : Job). Granted j list t) e g

module _ (list : List ℕ) (t : Table) where
  pub granted_answerable : Granted Answers list t → answerable t list ≡ true
  unfolding wanted asked_in
  granted_answerable g = (check_got _ _ _ _ g.is_wanted).0

  pub granted_few : Granted Hardened list t → length t.nodes ≤ max_hardened
  unfolding wanted hardened_in
  granted_few g = leb-true _ _ (check_got _ _ _ _ g.is_wanted).0

-- ---- reading for a job
-- it is granted where its bytes are wanted, and else what stands in their place is the refusal
module _ {A : Type 0} {x y : A} where
  pub by_granted : (a : Answer (List ℕ)) → Ok y ≡ granted_by x a → (y ≡ x) × ((bytes : List ℕ) × (a ≡ got bytes))
  unfolding granted_by
  by_granted (refused r) e = absurd (let z : ◌≡◌ {A = ℕ} 0 1 = cc in omega arith)
  by_granted (got bytes) e = (cc, (bytes, refl))

pub by_refused : {A : Type 0} (x : A) {r : Refusal} (a : Answer (List ℕ)) → Err r ≡ granted_by x a → a ≡ refused r
unfolding granted_by
by_refused x (refused q) e = cc
by_refused x (got bytes) e = cc

-- the table that bytes read as
table_as : (s : List ℕ) (t : Table) → read_table s ≡ got t → table_of s ≡ t
unfolding table_of
table_as s t e = rw (e, table_of)

module _ (job : Job) (list s : List ℕ) where
  abbrev asked : Answer (List ℕ)
  asked = and_then (read_table s) (wanted job list)

  pub asked_read : read_table s ≡ got (table_of s) → wanted job list (table_of s) ≡ asked
  unfolding and_then
  asked_read reads = rw reads

  -- the reader's refusal comes first
  pub reader_refuses : {A : Type 0} (x : A) {r : Refusal} → read_table s ≡ refused r → Err r ≡ granted_by x asked
  unfolding and_then granted_by
  reader_refuses x e = rw e

  module _ (reads : read_table s ≡ got (table_of s)) {A : Type 0} (x : A) where
    -- then the job's own
    pub job_refuses : {r : Refusal} → ◌≡◌ {A = Result (Unit {0}) Refusal} (Err r) (granted_by tt (wanted job list (table_of s))) → Err r ≡ granted_by x asked
    unfolding granted_by
    job_refuses h = sym (ap (granted_by x) (sym (asked_read reads) ∙ by_refused tt _ h))

    -- and else what it is granted for
    pub job_grants : {u : Unit {0}} → Ok u ≡ granted_by tt (wanted job list (table_of s)) → Ok x ≡ granted_by x asked
    unfolding granted_by
    job_grants h = sym (ap (granted_by x) (sym (asked_read reads) ∙ (by_granted _ h).1.1))

  -- what the caller learns
  pub granted_for : {A : Type 0} {x y : A} → Ok y ≡ granted_by x asked → (y ≡ x) × (read_table s ≡ got (table_of s)) × Granted job list (table_of s)
  granted_for h =
      let told = by_granted asked h in
      then_got _ (read_table s) (wanted job list) told.1.0 told.1.1
      (λ u is rest.
      let reads : read_table s ≡ got (table_of s) = is ∙ ap got (sym (table_as s u is)) in
      (told.0, reads, record { bytes = told.1.0; is_wanted = asked_read reads ∙ told.1.1 }))
