-- P7. Tables and sheets of both versions: what each may declare, which version comes out, and a version 1 table of 32 variables, which hardens to version 2.
use Rattle.std.specs.Prelude.{ℕ, refl, List, [], ◌∷◌, ◌++◌, replicate}
use Rattle.bytes_le.specs.Numbers.{words}
use Rattle.entries.specs.Running.{Lent}
use Rattle.entries.specs.Writing.{sheet_entry, questions_entry}
use Rattle.entries.proofs.Open.{opened}
use Rattle.marked_cases.specs.Claims.{HasSheet, GetsAnswers, HardensTo, Refuses, written}
use Rattle.marked_cases.specs.Refused.{skip_one, skip_two}
use Rattle.marked_cases.specs.BoundsCheck.{RunsTo, GuessesTo, numbers}

-- ---- which version comes out
-- "A hardened table is version 2 where its input is, or where it declares 33 variables; otherwise it stays version 1."
pub versions_hardened :
    HardensTo (skip_two 5) (skip_two 6) × HardensTo (skip_two 32) (skip_two 33) × HardensTo (skip_one 32) (skip_two 33) × HardensTo (skip_one 31) (skip_one 32)
unfolding opened
versions_hardened = (written (skip_two 6), written (skip_two 33), written (skip_two 33), written (skip_one 32))

-- ---- what a version may declare
-- `skip` as a table of any version and number of variables, with a labels record of 10 and of 14 bytes, in which the variable mask ends in this byte
abbrev short_labels : (low high variables end : ℕ) → List ℕ
short_labels low high v end =
    10 ∷ 0 ∷ 1 ∷ 0 ∷ low ∷ high ∷ v ∷ 0 ∷ 1 ∷ 0
    ∷ 10 ∷ 0 ∷ 3 ∷ 0 ∷ 0 ∷ 0 ∷ 0 ∷ end ∷ 0 ∷ 0
    ∷ 4 ∷ 0 ∷ 48 ∷ 0
    ∷ []

abbrev long_labels : (low high variables end : ℕ) → List ℕ
long_labels low high v end =
    10 ∷ 0 ∷ 1 ∷ 0 ∷ low ∷ high ∷ v ∷ 0 ∷ 1 ∷ 0
    ∷ 14 ∷ 0 ∷ 3 ∷ 0 ∷ 0 ∷ 0 ∷ 0 ∷ 0 ∷ 0 ∷ 0 ∷ 0 ∷ end ∷ 0 ∷ 0
    ∷ 4 ∷ 0 ∷ 48 ∷ 0
    ∷ []

-- versions 0, 3 and 65,535; 33 variables in version 1, 65 in version 2: 3 at the header
pub beyond_limits :
    Refuses sheet_entry (short_labels 0 0 1 0) 3 0 × Refuses sheet_entry (long_labels 0 0 1 0) 3 0 × Refuses sheet_entry (long_labels 3 0 1 0) 3 0
    × Refuses sheet_entry (long_labels 255 255 1 0) 3 0 × Refuses sheet_entry (skip_one 33) 3 0 × Refuses sheet_entry (skip_two 65) 3 0
unfolding opened
beyond_limits = (
  λ buffer answer. refl,
  λ buffer answer. refl,
  λ buffer answer. refl,
  λ buffer answer. refl,
  λ buffer answer. refl,
  λ buffer answer. refl,
)

-- a labels record of the other version's length: 2 at that record
pub other_length : Refuses sheet_entry (long_labels 1 0 1 0) 2 10 × Refuses sheet_entry (short_labels 2 0 1 0) 2 10
unfolding opened
other_length = (λ buffer answer. refl, λ buffer answer. refl)

-- "bits from V or A up are 0": bit 31 with 31 variables, and bit 63 with 63 and with 40; 3 at the labels record
pub beyond_variables :
    Refuses sheet_entry (short_labels 1 0 31 128) 3 10 × Refuses sheet_entry (long_labels 2 0 63 128) 3 10 × Refuses sheet_entry (long_labels 2 0 40 128) 3 10
unfolding opened
beyond_variables = (λ buffer answer. refl, λ buffer answer. refl, λ buffer answer. refl)

-- ---- "A sheet has its table's version"
-- of version 2 with 64 variables, of which the last is secret, and of version 1 with 32, likewise
pub sheets_versions :
    HasSheet (long_labels 2 0 64 128) (18 ∷ 0 ∷ 128 ∷ 0 ∷ 2 ∷ 0 ∷ 1 ∷ 0 ∷ 0 ∷ 0 ∷ 0 ∷ 0 ∷ 0 ∷ 0 ∷ 0 ∷ 128 ∷ 0 ∷ 0 ∷ [])
    × HasSheet (short_labels 1 0 32 128) (14 ∷ 0 ∷ 128 ∷ 0 ∷ 1 ∷ 0 ∷ 1 ∷ 0 ∷ 0 ∷ 0 ∷ 0 ∷ 128 ∷ 0 ∷ 0 ∷ [])
unfolding opened
sheets_versions = (
  written (18 ∷ 0 ∷ 128 ∷ 0 ∷ 2 ∷ 0 ∷ 1 ∷ 0 ∷ 0 ∷ 0 ∷ 0 ∷ 0 ∷ 0 ∷ 0 ∷ 0 ∷ 128 ∷ 0 ∷ 0 ∷ []),
  written (14 ∷ 0 ∷ 128 ∷ 0 ∷ 1 ∷ 0 ∷ 1 ∷ 0 ∷ 0 ∷ 0 ∷ 0 ∷ 128 ∷ 0 ∷ 0 ∷ []),
)

-- ---- version 1 with 32 variables, arrays in it
-- `x0:=a1[x31]`, x31 and array 0 secret: cells 5 and 3
abbrev full : List ℕ
full =
    10 ∷ 0 ∷ 1 ∷ 0 ∷ 1 ∷ 0 ∷ 32 ∷ 2 ∷ 2 ∷ 0  -- header: version 1, V 32, A 2, N 2
    ∷ 10 ∷ 0 ∷ 3 ∷ 0 ∷ 0 ∷ 0 ∷ 0 ∷ 128 ∷ 1 ∷ 0  -- labels: variable mask 2^31, array mask 1
    ∷ 6 ∷ 0 ∷ 2 ∷ 0 ∷ 5 ∷ 0  -- array of 5 cells
    ∷ 6 ∷ 0 ∷ 2 ∷ 0 ∷ 3 ∷ 0  -- array of 3 cells
    ∷ 6 ∷ 0 ∷ 17 ∷ 0 ∷ 31 ∷ 0  -- 0: variable x31
    ∷ 10 ∷ 0 ∷ 53 ∷ 0 ∷ 0 ∷ 0 ∷ 1 ∷ 0 ∷ 0 ∷ 0  -- 1: read x0 a1 0
    ∷ []

-- hardened; f is variable 32. Arrays and nodes stand four bytes further on
abbrev full_hardened : List ℕ
full_hardened =
    10 ∷ 0 ∷ 1 ∷ 0 ∷ 2 ∷ 0 ∷ 33 ∷ 2 ∷ 7 ∷ 0  -- header: version 2, V 33, A 2, N 7
    ∷ 14 ∷ 0 ∷ 3 ∷ 0 ∷ 0 ∷ 0 ∷ 0 ∷ 128 ∷ 0 ∷ 0 ∷ 0 ∷ 0 ∷ 1 ∷ 0  -- labels: variable mask 2^31, array mask 1
    ∷ 6 ∷ 0 ∷ 2 ∷ 0 ∷ 5 ∷ 0  -- array of 5 cells
    ∷ 6 ∷ 0 ∷ 2 ∷ 0 ∷ 3 ∷ 0  -- array of 3 cells
    ∷ 6 ∷ 0 ∷ 17 ∷ 0 ∷ 32 ∷ 0  -- 0: variable x32
    ∷ 8 ∷ 0 ∷ 16 ∷ 0 ∷ 1 ∷ 0 ∷ 0 ∷ 0  -- 1: number 1
    ∷ 8 ∷ 0 ∷ 33 ∷ 0 ∷ 0 ∷ 0 ∷ 1 ∷ 0  -- 2: equal 0 1
    ∷ 8 ∷ 0 ∷ 16 ∷ 0 ∷ 0 ∷ 0 ∷ 0 ∷ 0  -- 3: number 0
    ∷ 6 ∷ 0 ∷ 17 ∷ 0 ∷ 31 ∷ 0  -- 4: variable x31
    ∷ 10 ∷ 0 ∷ 21 ∷ 0 ∷ 2 ∷ 0 ∷ 3 ∷ 0 ∷ 4 ∷ 0  -- 5: choice 2 3 4
    ∷ 10 ∷ 0 ∷ 53 ∷ 0 ∷ 0 ∷ 0 ∷ 1 ∷ 0 ∷ 5 ∷ 0  -- 6: read x0 a1 5
    ∷ []

-- hardened again; its flag is variable 33
abbrev full_twice : List ℕ
full_twice =
    10 ∷ 0 ∷ 1 ∷ 0 ∷ 2 ∷ 0 ∷ 34 ∷ 2 ∷ 12 ∷ 0  -- header: version 2, V 34, A 2, N 12
    ∷ 14 ∷ 0 ∷ 3 ∷ 0 ∷ 0 ∷ 0 ∷ 0 ∷ 128 ∷ 0 ∷ 0 ∷ 0 ∷ 0 ∷ 1 ∷ 0  -- labels: variable mask 2^31, array mask 1
    ∷ 6 ∷ 0 ∷ 2 ∷ 0 ∷ 5 ∷ 0  -- array of 5 cells
    ∷ 6 ∷ 0 ∷ 2 ∷ 0 ∷ 3 ∷ 0  -- array of 3 cells
    ∷ 6 ∷ 0 ∷ 17 ∷ 0 ∷ 33 ∷ 0  -- 0: variable x33
    ∷ 8 ∷ 0 ∷ 16 ∷ 0 ∷ 1 ∷ 0 ∷ 0 ∷ 0  -- 1: number 1
    ∷ 8 ∷ 0 ∷ 33 ∷ 0 ∷ 0 ∷ 0 ∷ 1 ∷ 0  -- 2: equal 0 1
    ∷ 8 ∷ 0 ∷ 16 ∷ 0 ∷ 0 ∷ 0 ∷ 0 ∷ 0  -- 3: number 0
    ∷ 6 ∷ 0 ∷ 17 ∷ 0 ∷ 32 ∷ 0  -- 4: variable x32
    ∷ 8 ∷ 0 ∷ 16 ∷ 0 ∷ 1 ∷ 0 ∷ 0 ∷ 0  -- 5: number 1
    ∷ 8 ∷ 0 ∷ 33 ∷ 0 ∷ 4 ∷ 0 ∷ 5 ∷ 0  -- 6: equal 4 5
    ∷ 8 ∷ 0 ∷ 16 ∷ 0 ∷ 0 ∷ 0 ∷ 0 ∷ 0  -- 7: number 0
    ∷ 6 ∷ 0 ∷ 17 ∷ 0 ∷ 31 ∷ 0  -- 8: variable x31
    ∷ 10 ∷ 0 ∷ 21 ∷ 0 ∷ 6 ∷ 0 ∷ 7 ∷ 0 ∷ 8 ∷ 0  -- 9: choice 6 7 8
    ∷ 10 ∷ 0 ∷ 21 ∷ 0 ∷ 2 ∷ 0 ∷ 3 ∷ 0 ∷ 9 ∷ 0  -- 10: choice 2 3 9
    ∷ 10 ∷ 0 ∷ 53 ∷ 0 ∷ 0 ∷ 0 ∷ 1 ∷ 0 ∷ 10 ∷ 0  -- 11: read x0 a1 10
    ∷ []

pub full_hardens : HardensTo full full_hardened × HardensTo full_hardened full_twice
unfolding opened
full_hardens = (written full_hardened, written full_twice)

-- labelled: x0 is secret after the read, of which both labels are; the sheet of the hardened table is version 2
pub full_labelled :
    HasSheet full
    (14 ∷ 0 ∷ 128 ∷ 0 ∷ 1 ∷ 0 ∷ 2 ∷ 0 ∷ 1 ∷ 0 ∷ 0 ∷ 128 ∷ 1 ∷ 0 ∷ 10 ∷ 0 ∷ 132 ∷ 0 ∷ 1 ∷ 0 ∷ 1 ∷ 0 ∷ 1 ∷ 0 ∷ [])
    × HasSheet full_hardened
    (18 ∷ 0 ∷ 128 ∷ 0 ∷ 2 ∷ 0 ∷ 7 ∷ 0 ∷ 1 ∷ 0 ∷ 0 ∷ 128 ∷ 0 ∷ 0 ∷ 0 ∷ 0 ∷ 1 ∷ 0 ∷ 10 ∷ 0 ∷ 132 ∷ 0 ∷ 6 ∷ 0 ∷ 1 ∷ 0 ∷ 1 ∷ 0 ∷ [])
unfolding opened
full_labelled = (
  written (14 ∷ 0 ∷ 128 ∷ 0 ∷ 1 ∷ 0 ∷ 2 ∷ 0 ∷ 1 ∷ 0 ∷ 0 ∷ 128 ∷ 1 ∷ 0 ∷ 10 ∷ 0 ∷ 132 ∷ 0 ∷ 1 ∷ 0 ∷ 1 ∷ 0 ∷ 1 ∷ 0 ∷ []),
  written (18 ∷ 0 ∷ 128 ∷ 0 ∷ 2 ∷ 0 ∷ 7 ∷ 0 ∷ 1 ∷ 0 ∷ 0 ∷ 128 ∷ 0 ∷ 0 ∷ 0 ∷ 0 ∷ 1 ∷ 0 ∷ 10 ∷ 0 ∷ 132 ∷ 0 ∷ 6 ∷ 0 ∷ 1 ∷ 0 ∷ 1 ∷ 0 ∷ []),
)

-- asked: before the read x31 is secret and x0 public; of the hardened table f is public, and there is no variable 33
pub full_asked :
    GetsAnswers full (1 ∷ 0 ∷ 31 ∷ 0 ∷ 1 ∷ 0 ∷ 0 ∷ 0 ∷ []) (1 ∷ 0 ∷ [])
    × GetsAnswers full_hardened (6 ∷ 0 ∷ 31 ∷ 0 ∷ 6 ∷ 0 ∷ 32 ∷ 0 ∷ []) (1 ∷ 0 ∷ [])
    × Refuses (λ t. questions_entry t (6 ∷ 0 ∷ 33 ∷ 0 ∷ [])) full_hardened 11 0
unfolding opened
full_asked = (written (1 ∷ 0 ∷ []), written (1 ∷ 0 ∷ []), λ buffer answer. refl)

-- the slices lent for a run of either: x31 is 2, and the cells are 10 to 17; the hardened table's flag stands behind x31
abbrev lent_with : (x0 : ℕ) → (flag : List ℕ) → (pending observations : List ℕ) → Lent
lent_with x0 flag pending observations =
    record {
      variables = words (x0 ∷ (replicate 30 0 ++ (2 ∷ flag)));
      cells = words (10 ∷ 11 ∷ 12 ∷ 13 ∷ 14 ∷ 15 ∷ 16 ∷ 17 ∷ []);
      pending = pending;
      observations = observations;
    }

-- run, and run where each shown step has its directive: both show `read 1 2` and leave cell 2 of array 1, which is 17, in x0
pub full_run :
    RunsTo full (lent_with 0 [] (replicate 8 255) (replicate 10 255)) 9 (numbers 1 1 0 10 0 0)
    (lent_with 17 [] (replicate 8 0) (10 ∷ 0 ∷ 65 ∷ 0 ∷ 1 ∷ 0 ∷ 2 ∷ 0 ∷ 0 ∷ 0 ∷ []))
    × RunsTo full_hardened (lent_with 0 (0 ∷ []) (replicate 28 255) (replicate 10 255)) 9 (numbers 1 1 0 10 0 0)
    (lent_with 17 (0 ∷ []) (replicate 28 0) (10 ∷ 0 ∷ 65 ∷ 0 ∷ 1 ∷ 0 ∷ 2 ∷ 0 ∷ 0 ∷ 0 ∷ []))
    × GuessesTo full_hardened (4 ∷ 0 ∷ 72 ∷ 0 ∷ []) (lent_with 0 (0 ∷ []) (replicate 28 255) (replicate 10 255)) 9 (numbers 1 1 1 10 0 0)
    (lent_with 17 (0 ∷ []) (replicate 28 0) (10 ∷ 0 ∷ 65 ∷ 0 ∷ 1 ∷ 0 ∷ 2 ∷ 0 ∷ 0 ∷ 0 ∷ []))
unfolding opened
full_run = (λ answer. refl, λ answer. refl, λ answer. refl)
