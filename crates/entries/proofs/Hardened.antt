-- Every accepted table of at most 512 nodes with a free variable number hardens, given room; and where the entry answers 0, the demands hold.
use Prim.Native.Nat.{ℕ, ◌+◌, ◌*◌, ◌≤◌, ◌<◌}
use native.Mathlib.Omega.{arith}
use mathlib.Core.Path.{◌≡◌, refl, sym, ap, subst, ◌∙◌}
use mathlib.Core.List.{List}
use mathlib.Core.Bool.{Bool, true, false}
use lib.ListN.{length, take}
use lib.Dec.{leb, ltb}
use borrow.Author.Tests.{ltb-true, ltb-false, leb-true, lt-ltb, le-leb}
use Rattle.bytes_le.proofs.Numbers.{Below}
use Rattle.awhile.specs.Refusals.{Answer, refused, got, check, and_then}
use Rattle.awhile.specs.Tables.{Table, mask_bytes, header_of, read_table, max_variables, nodes_start}
use Rattle.awhile.proofs.Accepted.{check_got, then_got, accepted_well_formed}
use Rattle.awhile.specs.Encoding.{table_bytes}
use Rattle.awhile.specs.declared.Refusal.TheVariants.{TooManyNodes, NoFreeVariable}
use Rattle.masks.specs.Hardening.{hardened_program, version_for, table_of_hardened, hardened_table, max_hardened}
use Rattle.masks.specs.Demands.{Demands}
use Rattle.masks.proofs.Demands.{demands_met}
use Rattle.entries.specs.Writing.{Written, not_written, written_all, writing, hardened_in, harden_entry}
use Rattle.awhile.proofs.Versions.{known_wide, declared_variables}
use Rattle.awhile.proofs.VersionOne.{reads_as_before}
use Rattle.awhile.proofs.Causes.{table_cause}
use Rattle.entries.specs.Promises.{written_at, HardenedInto, NoneFree, Hardens}
use Rattle.entries.proofs.Written.{front, writing_zero, answers_zero}
use Rattle.entries.proofs.Accepted.{guess_follows, rollback_follows}
use Rattle.entries.proofs.Security.{calls_related}

module _ (s : List ℕ) (t : Table) (reads : read_table s ≡ got t) where
  module _ (small : length t.nodes ≤ max_hardened) (free : t.variables < max_variables) where
    hardens_to : and_then (read_table s) hardened_in ≡ got (table_bytes (hardened_table t))
    unfolding and_then hardened_in check
    hardens_to = rw (reads, le-leb (length t.nodes) max_hardened small, lt-ltb t.variables max_variables free)

    -- every accepted table of at most 512 nodes with a free variable number hardens into a buffer that has the room
    pub hardens : (buffer answer : List ℕ) → length (table_bytes (hardened_table t)) ≤ length buffer
        → harden_entry s buffer answer ≡ written_all (table_bytes (hardened_table t)) buffer answer
    unfolding harden_entry writing
    hardens buffer answer room = rw (hardens_to, writing, le-leb (length (table_bytes (hardened_table t))) (length buffer) room)

-- a buffer of this length has the room for the hardened form of any accepted table
pub hardens_in_room : (s : List ℕ) (t : Table) → Below 256 s → read_table s ≡ got t → length t.nodes ≤ max_hardened → t.variables < max_variables
    → (buffer answer : List ℕ) → nodes_start (header_of (hardened_table t)) + 80 * length t.nodes ≤ length buffer
    → harden_entry s buffer answer ≡ written_all (table_bytes (hardened_table t)) buffer answer
unfolding hardened_table
hardens_in_room s t bytes reads small free buffer answer room =
    hardens s t reads small free buffer answer (omega (arith, (demands_met s t bytes reads small free).room))

-- so does a version 1 table that declares all the 32 variables it may: what comes out is version 2 and declares 33
pub full_one_hardens : (s : List ℕ) (t : Table) → Below 256 s → read_table s ≡ got t → length t.nodes ≤ max_hardened → t.version ≡ 1 → t.variables ≡ 32
    → (buffer answer : List ℕ) → nodes_start (header_of (hardened_table t)) + 80 * length t.nodes ≤ length buffer
    → (harden_entry s buffer answer ≡ written_all (table_bytes (hardened_table t)) buffer answer) × ((hardened_table t).version ≡ 2) × ((hardened_table t).variables ≡ 33)
    × Demands t (hardened_program t) (table_bytes (hardened_table t))
unfolding hardened_table table_of_hardened version_for mask_bytes
full_one_hardens s t bytes reads small one all buffer answer room =
    let free : t.variables < max_variables = omega (arith, all) in
    (hardens_in_room s t bytes reads small free buffer answer room, rw (one, all), rw all, demands_met s t bytes reads small free)

-- the hardened table in the buffer
written_into : (s : List ℕ) (t : Table) → Below 256 s → read_table s ≡ got t → length t.nodes ≤ max_hardened → t.variables < max_variables
    → (buffer answer : List ℕ) → HardenedInto s answer (written_all (table_bytes (hardened_table t)) buffer answer)
unfolding written_all
written_into s t bytes reads small free buffer answer =
    let out : List ℕ = table_bytes (hardened_table t) in
    let demands : Demands t (hardened_program t) (take (length out) (written_all out buffer answer).buffer) =
    subst (Demands t (hardened_program t)) (sym (front out buffer answer)) (demands_met s t bytes reads small free) in
    record {
      original = t;
      reads = reads;
      size = length out;
      answers = refl;
      demands = demands;
      calls = calls_related demands.reads_back guess_follows demands.secure;
      calls_rolling = calls_related demands.reads_back rollback_follows demands.secure_rolling;
    }

-- where the entry answers 0, the table was accepted and the demands hold of what it wrote
pub hardened_into : (s buffer answer : List ℕ) → Below 256 s → (harden_entry s buffer answer).result ≡ 0
    → HardenedInto s answer (harden_entry s buffer answer)
unfolding harden_entry hardened_in
hardened_into s buffer answer bytes zero =
    let Q : Type 0 = HardenedInto s answer (harden_entry s buffer answer) in
    writing_zero Q (and_then (read_table s) hardened_in) buffer answer zero
    (λ out got-out wrote.
    then_got Q (read_table s) hardened_in out got-out
    (λ t reads hardened.
    let small = check_got (leb (length t.nodes) max_hardened) TooManyNodes _ out hardened in
    let free = check_got (ltb t.variables max_variables) NoFreeVariable _ out small.1 in
    let same : table_bytes (hardened_table t) ≡ out = cc free.1 in
    subst (HardenedInto s answer) (ap (λ bs. written_all bs buffer answer) same ∙ sym wrote)
    (written_into s t bytes reads (leb-true (length t.nodes) max_hardened small.0) (ltb-true t.variables max_variables free.0) buffer answer)))

-- where it answers 9, the table was accepted and has all the variables that a table may have, for which its version must be 2
none_free_lem : (s : List ℕ) (t : Table) → Below 256 s → read_table s ≡ got t → max_variables ≤ t.variables → NoneFree s
none_free_lem s t bytes reads many =
    let d = (accepted_well_formed s bytes t reads).declared in
    record {
      original = t;
      reads = reads;
      variables = omega (arith, declared_variables d, many);
      version = known_wide t.version d.version_known (omega (arith, d.variables_fit, many));
    }

module _ (s buffer answer : List ℕ) (bytes : Below 256 s) where
  -- by the tests of a table that was read: too many nodes are 8, a buffer that is too short is 23
  tested_none_free : (t : Table) → read_table s ≡ got t → (small free fits : Bool) → ltb t.variables max_variables ≡ free
      → leb (length (table_bytes (hardened_table t))) (length buffer) ≡ fits
      → (writing (check small TooManyNodes (check free NoFreeVariable (got (table_bytes (hardened_table t))))) buffer answer).result ≡ 9 → NoneFree s
  unfolding writing not_written written_all check
  tested_none_free t reads false free fits e f nine = absurd (omega (arith, nine))
  tested_none_free t reads true false fits e f nine = none_free_lem s t bytes reads (ltb-false t.variables max_variables e)
  tested_none_free t reads true true true e f nine = absurd (let zero : 0 ≡ 9 = rw f at nine in omega arith)
  tested_none_free t reads true true false e f nine = absurd (let short : 23 ≡ 9 = rw f at nine in omega arith)

  pub nine_none_free : (harden_entry s buffer answer).result ≡ 9 → NoneFree s
  unfolding harden_entry hardened_in writing not_written and_then
  nine_none_free nine = go (read_table s) refl nine
    where
      go : (a : Answer Table) → read_table s ≡ a → (writing (and_then a hardened_in) buffer answer).result ≡ 9 → NoneFree s
      go (refused r) reads e = absurd (omega (arith, table_cause s r reads, e))
      go (got t) reads e = tested_none_free t reads _ _ _ refl refl e

-- THE PROMISE of the hardening entry: an entry that writes as it is defined to meets the demands where it answers 0, and has 64 variables where it answers 9
pub entry_hardens : {s out answer out' answer' : List ℕ} {k : ℕ} → Below 256 s → written_at k out' answer' ≡ harden_entry s out answer → Hardens s out answer k out' answer'
entry_hardens {s} {out} {answer} bytes w =
    record {
      older = reads_as_before s;
      writes = w;
      demands = λ e. subst (HardenedInto s answer) (sym w) (hardened_into s out answer bytes (answers_zero w e));
      none_free = λ e. nine_none_free s out answer bytes (sym (ap (λ (x : Written). x.result) w) ∙ e);
    }
