-- The record that the code writes for a node's form is the node's.
use Prim.Native.Nat.{ℕ, ◌+◌, ◌*◌, ◌/◌, ◌%◌, ◌≤◌, ◌<◌}
use native.Mathlib.Nat.{add-mul-mod_self_left}
use native.Mathlib.Omega.{arith}
use mathlib.Core.Path.{◌≡◌, refl, sym, ap, ◌∙◌}
use mathlib.Core.List.{List, [], ◌∷◌, ◌++◌, map, flat_map}
use lib.ListN.{length, get_or, take}
use lib.Seq.{sets, take_all}
use Rattle.std.proofs.lemmas.List.{length-take-le}
use Rattle.bytes_le.specs.Numbers.{le}
use Rattle.awhile.specs.Lists.{sum}
use Rattle.awhile.specs.Nodes.{Field, word, form, field_bytes, field_size, size_of, node_bytes}
use Rattle.record.specs.RecordRead.{field_of, fields_of, form_of}
use Rattle.record.proofs.RecordForms.{two_bytes, same_size}
use Rattle.copier.specs.Records.{number_of, numbers_of, record_bytes, record_size}
use Rattle.copier.proofs.Parts.{stored_more}
use Rattle.record.specs.declared.forms.Field.{Field as FieldRead}
use Rattle.record.specs.declared.forms.Field.TheVariants.{Constant, Variable, Array, Child}
use Rattle.record.specs.declared.forms.Fields.{Fields}
use Rattle.record.specs.declared.forms.Fields.TheVariants.{Nothing, Word, One, Two, Three}
use Rattle.record.specs.declared.forms.Form.{Form}
use Rattle.awhile.specs.declared.Node.{Node}

-- the four bytes of a number are those of its two halves
word_halves : (v : ℕ) → le 2 (v % 65536) ++ le 2 (v / 65536) ≡ le 4 v
unfolding le
word_halves v =
    let a : v % 65536 % 256 ≡ v % 256 = omega arith in
    let next : v / 256 ≡ v % 65536 / 256 + 256 * (v / 65536) = omega arith in
    let b : v % 65536 / 256 % 256 ≡ v / 256 % 256 = rw (next, add-mul-mod_self_left (v % 65536 / 256) 256 (v / 65536)) in
    let high : v / 256 / 256 ≡ v / 65536 = omega arith in
    rw (a, b, high)

-- so they are a word's
word_bytes : (v : ℕ) → field_bytes (word v) ≡ le 2 (v % 65536) ++ le 2 (v / 65536)
unfolding field_bytes
word_bytes v = sym (word_halves v)

word_size : (v : ℕ) → field_size (word v) ≡ 4
unfolding field_size
word_size v = refl

-- and those of another field are its number's
number_bytes : (f : FieldRead) → field_bytes (field_of f) ≡ le 2 (number_of f)
unfolding field_bytes
number_bytes (Constant n) = refl
number_bytes (Variable x) = refl
number_bytes (Array a) = refl
number_bytes (Child s n) = refl

-- the bytes of a kind and fields
abbrev bytes_with : (kind : ℕ) → List Field → List ℕ
bytes_with k fs = le 2 (4 + sum (map field_size fs)) ++ (le 2 k ++ flat_map field_bytes fs)

record_bytes_lem : (k : ℕ) (fs : Fields) → record_bytes k (numbers_of fs) ≡ bytes_with k (fields_of fs)
unfolding record_bytes sum le flat_map
record_bytes_lem k Nothing = refl
record_bytes_lem k (Word v) = simp (word_size, word_bytes)
record_bytes_lem k (One f) = simp (two_bytes, number_bytes)
record_bytes_lem k (Two f g) = simp (two_bytes, number_bytes)
record_bytes_lem k (Three f g h) = simp (two_bytes, number_bytes)

record_size_lem : (fs : Fields) → record_size (numbers_of fs) ≡ 4 + sum (map field_size (fields_of fs))
unfolding sum
record_size_lem Nothing = refl
record_size_lem (Word v) = simp word_size
record_size_lem (One f) = simp two_bytes
record_size_lem (Two f g) = simp two_bytes
record_size_lem (Three f g h) = simp two_bytes

module _ (n : Node) (f : Form) (e : form_of f ≡ form n) where
  -- the same bytes
  pub node_bytes_lem : record_bytes f.kind (numbers_of f.fields) ≡ node_bytes n
  unfolding node_bytes size_of
  node_bytes_lem = record_bytes_lem f.kind f.fields ∙ ap (λ g. bytes_with g.kind g.fields) e

  -- the same length
  pub node_size : record_size (numbers_of f.fields) ≡ size_of n
  node_size = record_size_lem f.fields ∙ same_size n f e

-- a record is as long as it says
pub length_numbers : (fs : List ℕ) → length (flat_map (le 2) fs) ≡ 2 * length fs
unfolding le flat_map
length_numbers [] = refl
length_numbers (f ∷ fs) = omega (arith, length_numbers fs)

pub record_length : (k : ℕ) (fs : List ℕ) → length (record_bytes k fs) ≡ record_size fs
unfolding record_bytes le
record_length k fs = omega (arith, length_numbers fs)

-- the head of a record and some of its fields are stored; one more is stored behind them
pub field_stored : (out : List ℕ) (size kind : ℕ) (fs : List ℕ) (i : ℕ) {before after : List ℕ} → i < length fs
    → before ≡ sets out 0 ((le 2 size ++ le 2 kind) ++ flat_map (le 2) (take i fs))
    → after ≡ sets before (4 + 2 * i) (le 2 (get_or fs i 0))
    → after ≡ sets out 0 ((le 2 size ++ le 2 kind) ++ flat_map (le 2) (take (i + 1) fs))
unfolding le
field_stored out size kind fs i {before} inside stored next =
    let x : ℕ = get_or fs i 0 in
    let taken : length (take i fs) ≡ i = length-take-le i fs (omega arith) in
    let at : 4 + 2 * i ≡ 0 + length ((le 2 size ++ le 2 kind) ++ flat_map (le 2) (take i fs)) = omega (arith, length_numbers (take i fs)) in
    next
    ∙ ap (λ l. sets l (4 + 2 * i) (le 2 x)) stored
    ∙ ap (λ k. sets (sets out 0 ((le 2 size ++ le 2 kind) ++ flat_map (le 2) (take i fs))) k (le 2 x)) at
    ∙ stored_more (le 2) out (le 2 size ++ le 2 kind) 0 fs i 0 inside

-- all are stored
pub record_stored : (out : List ℕ) (kind : ℕ) (fs : List ℕ) {size i : ℕ} {after : List ℕ} → size ≡ record_size fs → length fs ≤ i
    → after ≡ sets out 0 ((le 2 size ++ le 2 kind) ++ flat_map (le 2) (take i fs)) → after ≡ sets out 0 (record_bytes kind fs)
unfolding le record_bytes
record_stored out kind fs {size} {i} whole all stored = rw (whole, take_all i fs all) at stored
