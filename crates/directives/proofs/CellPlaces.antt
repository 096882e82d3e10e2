-- The cell of an array and an index, from the list of where arrays begin.
use Prim.Native.Nat.{ℕ, suc, ◌+◌, ◌≤◌, ◌<◌}
use native.Mathlib.Numerals.{add-one}
use native.Mathlib.Nat.{eq-or-lt_of_le}
use mathlib.Core.Logic.{⊎_elim}
use native.Mathlib.Omega.{arith}
use mathlib.Core.Bool.{Bool, true, false, cond}
use mathlib.Core.Option.{Option, some}
use mathlib.Core.Path.{◌≡◌, refl, sym, ap, ◌∙◌}
use mathlib.Core.List.{List}
use lib.ListN.{length, get_or, set, take, get_or-eq_default, length-set, replicate}
use lib.Seq.{get_or-set_same, get_or-set_other}
use lib.Dec.{eqb}
use borrow.Author.Tests.{lt-ltb, le-ltb, eqb-true, eqb-false}
use Rattle.awhile.specs.Lists.{sum}
use Rattle.awhile.specs.Tables.{declarations_of}
use Rattle.awhile.specs.declared.Declarations.{Declarations}
use Rattle.awhile.specs.declared.Header.{Header}
use Rattle.reader.proofs.Ready.{header_arrays}
use Rattle.reader.specs.Admitted.{Admitted}
use Rattle.reader.specs.Index.{table_of, HasHeader}
use Rattle.bytes_le.proofs.Numbers.{Below}
use Rattle.awhile.proofs.Accepted.{accepted_well_formed}
use Rattle.machine.specs.Steps.{inside, cell_place, only_if, cell_at, cell_used}
use Rattle.std.specs.Prelude.{Some, None}
use Rattle.std.specs.Option.{option_or}
use Rattle.directives.specs.Listed.{found}
use Rattle.directives.specs.Starts.{Starts}
use Rattle.directives.proofs.Counts.{starts_next, starts_within}

module _ (counts starts : List ℕ) (at : Starts counts starts) where
  ends : (a : ℕ) → a < 16 → get_or starts (a + 1) 0 ≡ sum (take a counts) + get_or counts a 0
  ends a few = rw add-one (at.begins (suc a) (omega arith) ∙ starts_next counts a)

  -- an array that there cannot be
  pub cell_undeclared : (a i : ℕ) → 16 ≤ a → None ≡ found (cell_at counts a i)
  unfolding found cell_at only_if inside
  cell_undeclared a i many =
      let none : get_or counts a 0 ≡ 0 = get_or-eq_default counts 0 (omega (arith, at.few)) in
      rw (none, le-ltb i 0 (omega arith))

  module _ (a i : ℕ) (few : a < 16) where
    pub cell_found : get_or starts a 0 + i < get_or starts (a + 1) 0 → Some (get_or starts a 0 + i) ≡ found (cell_at counts a i)
    unfolding found cell_at only_if inside cell_place
    cell_found below =
        let start = at.begins a (omega arith) in
        let end = ends a few in
        rw (lt-ltb i (get_or counts a 0) (omega arith), start)

    pub cell_missing : get_or starts (a + 1) 0 ≤ get_or starts a 0 + i → None ≡ found (cell_at counts a i)
    unfolding found cell_at only_if inside
    cell_missing past =
        let start = at.begins a (omega arith) in
        let end = ends a few in
        rw (le-ltb i (get_or counts a 0) (omega arith))

-- ---- the cell that a redirected read or write uses
module _ (counts : List ℕ) (a i : ℕ) (other : Option ℕ) where
  pub used_guessing : option_or (found (cell_at counts a i)) (found other) ≡ found (cell_used counts true a i other)
  unfolding cell_at only_if cell_used
  used_guessing = go (inside counts a i)
    where
      go : (b : Bool) → option_or (found (only_if b (cell_place counts a i))) (found other) ≡ found (cond b (some (cell_place counts a i)) other)
      go true = refl
      go false = refl

  pub used_clear : found (cell_at counts a i) ≡ found (cell_used counts false a i other)
  unfolding cell_at only_if cell_used
  used_clear = refl

-- ---- the cell counts of a table
-- an accepted one has its header
pub has_header : {table : List ℕ} {d : Declarations} → Admitted table → d ≡ declarations_of (table_of table) → HasHeader table d.header
has_header admitted is = record { reads = admitted.reads; is_header = sym (ap (λ (d : Declarations). d.header) is) }

module _ {table : List ℕ} {header : Header} (has : HasHeader table header) where
  pub undeclared_count : (a : ℕ) → header.arrays ≤ a → 0 ≡ get_or (table_of table).counts a 0
  undeclared_count a many = sym (get_or-eq_default (table_of table).counts 0 (omega (arith, header_arrays has)))

  pub counts_few : Below 256 table → length (table_of table).counts ≤ 16
  counts_few bytes = (accepted_well_formed table bytes (table_of table) has.reads).declared.arrays_fit

  -- the sum of the first counts is at most what a table can have
  pub starts_small : Below 256 table → (a : ℕ) → sum (take a (table_of table).counts) ≤ 16384
  starts_small bytes a =
      let fits = (accepted_well_formed table bytes (table_of table) has.reads).declared.cells_fit in
      omega (arith, starts_within (table_of table).counts a)

-- the sum after one array more
pub sum_next : (counts : List ℕ) (a : ℕ) → sum (take (a + 1) counts) ≡ sum (take a counts) + get_or counts a 0
sum_next counts a = rw add-one (starts_next counts a)

-- the list so far: where the arrays up to one begin
pub record StartsTo (counts starts : List ℕ) (a : ℕ) : Type 0 where
  pub long : length starts ≡ 17
  pub begins : (b : ℕ) → b ≤ a → get_or starts b 0 ≡ sum (take b counts)

before : (b a : ℕ) → b ≤ a + 1 → (b ≡ a + 1 → ⊥) → b ≤ a
before b a first other = ⊎_elim (λ e. absurd (other e)) (λ less. omega arith) (eq-or-lt_of_le first)

module _ (counts : List ℕ) where
  pub starts_none : StartsTo counts (replicate 17 0) 0
  unfolding sum
  starts_none =
      record { long = refl; begins = λ b first. go b first }
    where
      go : (b : ℕ) → b ≤ 0 → get_or (replicate 17 0) b 0 ≡ sum (take b counts)
      go b first = let z : b ≡ 0 = omega arith in rw z

module _ (counts starts : List ℕ) where
  pub starts_more : (a : ℕ) → a < 16 → StartsTo counts starts a → StartsTo counts (set starts (a + 1) (sum (take a counts) + get_or counts a 0)) (a + 1)
  starts_more a few so =
      record { long = simp length-set so.long; begins = λ b first. go (eqb b (a + 1)) refl first }
    where
      go : {b : ℕ} (same : Bool) → eqb b (a + 1) ≡ same → b ≤ a + 1 → get_or (set starts (a + 1) (sum (take a counts) + get_or counts a 0)) b 0 ≡ sum (take b counts)
      go {b} true e first =
          let here = eqb-true b (a + 1) e in
          rw here (get_or-set_same starts (a + 1) (sum (take a counts) + get_or counts a 0) 0 (omega (arith, so.long)) ∙ sym (rw add-one (starts_next counts a)))
      go {b} false e first =
          let other = eqb-false b (a + 1) e in
          get_or-set_other starts (a + 1) b (sum (take a counts) + get_or counts a 0) 0 other ∙ so.begins b (before b a first other)

  -- with the end of the sixteenth, the list is whole
  pub starts_all : length counts ≤ 16 → StartsTo counts starts 16 → Starts counts starts
  starts_all few so = record { few = few; begins = so.begins }
