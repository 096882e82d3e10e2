-- Where the costs entry answers 0, what stands in the buffer are the marks that cost; and a table is refused as hardening refuses it.
use Prim.Native.Nat.{ℕ, ◌*◌, ◌<◌}
use native.Mathlib.Omega.{arith}
use mathlib.Core.Bool.{Bool, true, false}
use mathlib.Core.List.{List, [], ◌∷◌, flat_map}
use mathlib.Core.Logic.{◌↔◌}
use mathlib.Core.Path.{◌≡◌, refl, sym, ap, subst, ◌∙◌}
use lib.ListN.{length, take}
use lib.Dec.{leb, ltb}
use Rattle.bytes_le.specs.Numbers.{le}
use Rattle.bytes_le.proofs.Numbers.{Below}
use Rattle.awhile.specs.Refusals.{Answer, refused, got, check, and_then}
use Rattle.awhile.specs.Tables.{Table, read_table, max_variables}
use Rattle.awhile.specs.Encoding.{table_bytes}
use Rattle.awhile.specs.declared.Refusal.TheVariants.{TooManyNodes, NoFreeVariable}
use Rattle.awhile.proofs.Accepted.{check_got, then_got, accepted_well_formed}
use Rattle.awhile.proofs.VersionOne.{reads_as_before}
use Rattle.labels.specs.Labellings.{Mark}
use Rattle.masks.specs.Hardening.{hardened_table, max_hardened}
use Rattle.masks.specs.Costs.{marks_of, costing, marks_bytes, cost_bytes}
use Rattle.masks.proofs.Costs.{list_tells}
use Rattle.entries.specs.Answers.{answered}
use Rattle.entries.specs.Writing.{Written, not_written, written_all, writing, hardened_in, harden_entry, costs_in, costs_entry}
use Rattle.entries.specs.Promises.{written_at, CostsInto, ListsCosts}
use Rattle.entries.proofs.Written.{front, writing_zero, answers_zero}

-- ---- the list in the buffer
marks_length : (ks : List Mark) → length (marks_bytes ks) ≡ 2 * length ks
unfolding marks_bytes flat_map le
marks_length [] = refl
marks_length (k ∷ ks) = omega (arith, marks_length ks)

written_into : (s : List ℕ) (t : Table) → Below 256 s → read_table s ≡ got t → (buffer answer : List ℕ) → CostsInto s answer (written_all (cost_bytes t) buffer answer)
unfolding written_all cost_bytes
written_into s t bytes reads buffer answer =
    let marks = costing t (marks_of t) in
    let size = marks_length marks in
    record {
      original = t;
      reads = reads;
      marks = marks;
      tells = list_tells t (accepted_well_formed s bytes t reads);
      answers = ap (λ (n : ℕ). answered (0 ∷ n ∷ []) answer) size;
      numbers = ap (λ (n : ℕ). take n (written_all (marks_bytes marks) buffer answer).buffer) (sym size) ∙ front (marks_bytes marks) buffer answer;
    }

costs_into : (s buffer answer : List ℕ) → Below 256 s → (costs_entry s buffer answer).result ≡ 0 → CostsInto s answer (costs_entry s buffer answer)
unfolding costs_entry costs_in
costs_into s buffer answer bytes zero =
    let Q : Type 0 = CostsInto s answer (costs_entry s buffer answer) in
    writing_zero Q (and_then (read_table s) costs_in) buffer answer zero
    (λ out got-out wrote.
    then_got Q (read_table s) costs_in out got-out
    (λ t reads listed.
    let small = check_got (leb (length t.nodes) max_hardened) TooManyNodes _ out listed in
    let free = check_got (ltb t.variables max_variables) NoFreeVariable _ out small.1 in
    let same : cost_bytes t ≡ out = cc free.1 in
    subst (CostsInto s answer) (ap (λ bs. written_all bs buffer answer) same ∙ sym wrote) (written_into s t bytes reads buffer answer)))

-- ---- a table that hardening refuses
module _ (n : ℕ) (some : 0 < n) (few : n < 10) (list answer out slice : List ℕ) where
  -- bytes that are got are refused by 23 alone
  written_or_short : (bytes buffer slice : List ℕ) → (writing (got bytes) buffer slice).result ≡ n → ⊥
  unfolding writing not_written written_all
  written_or_short bytes buffer slice h = go (leb (length bytes) (length buffer)) refl
    where
      go : (b : Bool) → leb (length bytes) (length buffer) ≡ b → ⊥
      go true e = let zero : 0 ≡ n = rw e at h in omega arith
      go false e = let short : 23 ≡ n = rw e at h in omega arith

  -- the same tests refuse whatever bytes are wanted
  tested_same : (small free : Bool) (xs ys : List ℕ)
      → ((writing (check small TooManyNodes (check free NoFreeVariable (got xs))) list answer).result ≡ n)
      ↔ ((writing (check small TooManyNodes (check free NoFreeVariable (got ys))) out slice).result ≡ n)
  unfolding check writing not_written
  tested_same false free xs ys = ((λ h. h), (λ h. h))
  tested_same true false xs ys = ((λ h. h), (λ h. h))
  tested_same true true xs ys = ((λ h. absurd (written_or_short xs list answer h)), (λ h. absurd (written_or_short ys out slice h)))

  read_same : (a : Answer Table) → ((writing (and_then a costs_in) list answer).result ≡ n) ↔ ((writing (and_then a hardened_in) out slice).result ≡ n)
  unfolding and_then costs_in hardened_in writing not_written
  read_same (refused r) = ((λ h. h), (λ h. h))
  read_same (got t) = tested_same (leb (length t.nodes) max_hardened) (ltb t.variables max_variables) (cost_bytes t) (table_bytes (hardened_table t))

-- THE PROMISE of the costs entry: an entry that writes as it is defined to lists the marks that cost where it answers 0, and refuses as hardening does
pub entry_costs : {s list answer list' answer' : List ℕ} {k : ℕ} → Below 256 s → written_at k list' answer' ≡ costs_entry s list answer → ListsCosts s list answer k list' answer'
unfolding costs_entry harden_entry
entry_costs {s} {list} {answer} bytes w =
    record {
      older = reads_as_before s;
      writes = w;
      costs = λ e. subst (CostsInto s answer) (sym w) (costs_into s list answer bytes (answers_zero w e));
      as_hardening = λ n some few out slice. rw (ap (λ (x : Written). x.result) w) (read_same n some few list answer out slice (read_table s));
    }
