-- What the lent bytes stand for after a step's change, how long they are, and that there is room for the change.
use Prim.Native.Nat.{ℕ, ◌+◌, ◌*◌, ◌≤◌}
use native.Mathlib.Omega.{arith}
use mathlib.Core.Bool.{Bool}
use mathlib.Core.Path.{◌≡◌, refl, sym, ◌∙◌}
use mathlib.Core.List.{List}
use lib.ListN.{length, drop}
use lib.Seq.{sets, length-sets}
use Rattle.bytes_le.specs.Numbers.{le}
use Rattle.bytes_le.proofs.Numbers.{length_le}
use Rattle.bytes_le.proofs.Copies.{drop-sets}
use Rattle.awhile.specs.Language.{Com}
use Rattle.awhile.specs.Lists.{sum}
use Rattle.reader.specs.Index.{table_of, nodes_in}
use Rattle.machine.specs.Runs.{Machine}
use Rattle.stepping.specs.Evaluation.{variables_in}
use Rattle.stepping.specs.Actions.{back_on, changed, BackFits}
use Rattle.directives.specs.Changes.{height_of}
use Rattle.stepping.specs.Stepping.{Memory, pending_of, cells_in, ChangeFits}
use Rattle.interpreter.specs.Effects.{PushFits, pushed, PerformFits, performed, WordFits}
use Rattle.directives.specs.declared.change.Back.{Back}
use Rattle.directives.specs.declared.change.Back.TheVariants.{Nothing, One, Two}
use Rattle.directives.specs.declared.change.Change.{Change}
use Rattle.directives.specs.declared.change.Change.TheVariants.{PutBack, Assign, Store}
use Rattle.stepping.proofs.Words.{words_stored}
use Rattle.saves.proofs.Pending.{length_pending}
use Rattle.interpreter.proofs.Stacks.{Entries, back_pending, back_entries}

-- what is put back stands above the rest
pub height_above : (b : Back) (rest : ℕ) → rest ≤ height_of (PutBack b) rest
unfolding height_of
height_above Nothing rest = omega arith
height_above (One n) rest = omega arith
height_above (Two m n) rest = omega arith

module _ (table : List ℕ) where
  -- ---- the lists that bytes stand for, after a change
  pub changed_variables : (c : Change) (r : ℕ) (m : Memory) (s : Machine ℕ) → ChangeFits table c → WordFits c → length m.variables ≡ 4 * (table_of table).variables
      → (rest : List (Com ℕ)) (f : Bool) → s.state.variables ≡ variables_in table m.variables
      → variables_in table (performed c r m).variables ≡ (changed table c rest s.state f).variables
  unfolding variables_in performed changed
  changed_variables (PutBack b) r m s fits word long rest f is = sym is
  changed_variables (Assign x v) r m s fits word long rest f is = rw is (words_stored (table_of table).variables m.variables x v word fits (omega arith))
  changed_variables (Store p v) r m s fits word long rest f is = sym is

  pub changed_cells : (c : Change) (r : ℕ) (m : Memory) (s : Machine ℕ) → ChangeFits table c → WordFits c → length m.cells ≡ 4 * sum (table_of table).counts
      → (rest : List (Com ℕ)) (f : Bool) → s.state.cells ≡ cells_in table m.cells → cells_in table (performed c r m).cells ≡ (changed table c rest s.state f).cells
  unfolding cells_in performed changed
  changed_cells (PutBack b) r m s fits word long rest f is = sym is
  changed_cells (Assign x v) r m s fits word long rest f is = sym is
  changed_cells (Store p v) r m s fits word long rest f is = rw is (words_stored (sum (table_of table).counts) m.cells p v word fits (omega arith))

  pub changed_pending : (c : Change) (rest : ℕ) (m : Memory) (s : Machine ℕ) (f : Bool) → PerformFits c rest m
      → pending_of table (performed c rest m).pending (height_of c rest) ≡ (changed table c (pending_of table m.pending rest) s.state f).pending
  unfolding performed height_of changed
  changed_pending (PutBack b) rest m s f fits = back_pending table b rest m.pending fits
  changed_pending (Assign x v) rest m s f fits = refl
  changed_pending (Store p v) rest m s f fits = refl

  -- a change leaves the lengths as they are
  pub length_pushed : (b : Back) (rest : ℕ) (ps : List ℕ) → length (pushed b rest ps) ≡ length ps
  unfolding pushed
  length_pushed Nothing rest ps = refl
  length_pushed (One n) rest ps = length-sets ps (4 * rest) (le 4 n)
  length_pushed (Two m n) rest ps = length-sets (sets ps (4 * rest) (le 4 m)) (4 * rest + 4) (le 4 n) ∙ length-sets ps (4 * rest) (le 4 m)

  pub length_variables : (c : Change) (rest : ℕ) (m : Memory) → length (performed c rest m).variables ≡ length m.variables
  unfolding performed
  length_variables (PutBack b) rest m = refl
  length_variables (Assign x v) rest m = length-sets m.variables (4 * x) (le 4 v)
  length_variables (Store p v) rest m = refl

  pub length_cells : (c : Change) (rest : ℕ) (m : Memory) → length (performed c rest m).cells ≡ length m.cells
  unfolding performed
  length_cells (PutBack b) rest m = refl
  length_cells (Assign x v) rest m = refl
  length_cells (Store p v) rest m = length-sets m.cells (4 * p) (le 4 v)

  pub length_entries : (c : Change) (rest : ℕ) (m : Memory) → length (performed c rest m).pending ≡ length m.pending
  unfolding performed
  length_entries (PutBack b) rest m = length_pushed b rest m.pending
  length_entries (Assign x v) rest m = refl
  length_entries (Store p v) rest m = refl

  -- nothing changes behind what is pending after it
  pub pushed_beyond : (b : Back) (rest : ℕ) (ps : List ℕ) (k : ℕ) → 4 * height_of (PutBack b) rest ≤ k → drop k (pushed b rest ps) ≡ drop k ps
  unfolding pushed height_of
  pushed_beyond Nothing rest ps k h = refl
  pushed_beyond (One n) rest ps k h = drop-sets (le 4 n) ps (4 * rest) k (rw length_le (omega arith))
  pushed_beyond (Two m n) rest ps k h =
      drop-sets (le 4 n) (sets ps (4 * rest) (le 4 m)) (4 * rest + 4) k (rw length_le (omega arith))
      ∙ drop-sets (le 4 m) ps (4 * rest) k (rw length_le (omega arith))

  pub pending_beyond : (c : Change) (rest : ℕ) (m : Memory) (k : ℕ) → 4 * height_of c rest ≤ k → drop k (performed c rest m).pending ≡ drop k m.pending
  unfolding performed
  pending_beyond (PutBack b) rest m k h = pushed_beyond b rest m.pending k h
  pending_beyond (Assign x v) rest m k h = refl
  pending_beyond (Store p v) rest m k h = refl

  pub changed_entries : (c : Change) (rest : ℕ) (m : Memory) → PerformFits c rest m → ChangeFits table c → Entries table m.pending rest
      → Entries table (performed c rest m).pending (height_of c rest)
  unfolding performed height_of
  changed_entries (PutBack b) rest m fits new old = back_entries table b rest m.pending fits new old
  changed_entries (Assign x v) rest m fits new old = old
  changed_entries (Store p v) rest m fits new old = old

  -- there is room for what is put back
  pub push_fits : (b : Back) (rest long : ℕ) → nodes_in table ≤ 4096 → BackFits table b → 4 * height_of (PutBack b) rest ≤ long → PushFits b rest long
  unfolding height_of
  push_fits Nothing rest long few fits h = tt
  push_fits (One n) rest long few fits h = (omega (arith, fits.inside), omega arith)
  push_fits (Two m n) rest long few fits h = (omega (arith, fits.0.inside), omega (arith, fits.1.inside), omega arith)

  pub change_fits : (c : Change) (rest : ℕ) (m : Memory) → nodes_in table ≤ 4096 → ChangeFits table c
      → length m.variables ≡ 4 * (table_of table).variables → length m.cells ≡ 4 * sum (table_of table).counts → 4 * height_of c rest ≤ length m.pending
      → PerformFits c rest m
  change_fits (PutBack b) rest m few fits v c p = push_fits b rest (length m.pending) few fits p
  change_fits (Assign x w) rest m few fits v c p = omega arith
  change_fits (Store q w) rest m few fits v c p = omega arith

  -- how many are pending after a change
  pub back_height : (b : Back) (rest : ℕ) (ps : List ℕ) → length (back_on table b (pending_of table ps rest)) ≡ height_of (PutBack b) rest
  unfolding back_on height_of
  back_height Nothing rest ps = length_pending table ps rest
  back_height (One n) rest ps = omega (arith, length_pending table ps rest)
  back_height (Two m n) rest ps = omega (arith, length_pending table ps rest)

  pub changed_height : (c : Change) (rest : ℕ) (ps : List ℕ) (s : Machine ℕ) (f : Bool) → length (changed table c (pending_of table ps rest) s.state f).pending ≡ height_of c rest
  unfolding changed height_of
  changed_height (PutBack b) rest ps s f = back_height b rest ps
  changed_height (Assign x v) rest ps s f = length_pending table ps rest
  changed_height (Store p v) rest ps s f = length_pending table ps rest

  -- the state of the machine after a change, field by field
  pub changed_state : (c : Change) (rest : List (Com ℕ)) (s : Machine ℕ) (f : Bool) (p : List (Com ℕ)) (v d : List ℕ)
      → p ≡ (changed table c rest s.state f).pending → v ≡ (changed table c rest s.state f).variables → d ≡ (changed table c rest s.state f).cells
      → record { pending = p; variables = v; cells = d; flag = f } ≡ changed table c rest s.state f
  unfolding changed
  changed_state (PutBack b) rest s f p v d ep ev ed = λ i. record { pending = ep i; variables = ev i; cells = ed i; flag = f }
  changed_state (Assign x w) rest s f p v d ep ev ed = λ i. record { pending = ep i; variables = ev i; cells = ed i; flag = f }
  changed_state (Store q w) rest s f p v d ep ev ed = λ i. record { pending = ep i; variables = ev i; cells = ed i; flag = f }
