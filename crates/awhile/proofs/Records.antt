-- A node's record decodes to the node: all its fields stand where the decoder reads them.
use Prim.Native.Nat.{ℕ, zero, suc, ◌+◌, ◌*◌, ◌^◌, ◌≤◌, ◌<◌}
use native.Mathlib.Nat.{add-zero, add_assoc}
use native.Mathlib.Omega.{arith}
use mathlib.Core.Bool.{Bool, true}
use mathlib.Core.Path.{◌≡◌, refl}
use mathlib.Core.List.{List, [], ◌∷◌, ◌++◌, map, flat_map}
use lib.ListN.{length, get_or, take, length-append}
use lib.Dec.{ltb}
use borrow.Author.Tests.{ltb-true, leb-true, lt-ltb}
use Rattle.bytes_le.specs.Numbers.{le, le_at}
use Rattle.bytes_le.proofs.Numbers.{length_le}
use Rattle.bytes_le.proofs.Pieces.{Stands, stands_number, stands_within}
use Rattle.awhile.specs.Lists.{sum, all}
use Rattle.awhile.specs.Nodes.{Field, word, constant, variable, array, child, form, field_bytes, field_size, size_of, node_bytes, node_of, decode_at}
use Rattle.awhile.specs.Nodes.{field_in_range}
use Rattle.awhile.specs.WellFormed.{word_fits}
use Rattle.awhile.proofs.Lists.{all_head, all_tail, all_cons, length_flat_map}
use Rattle.awhile.specs.declared.Node.{Node}
use Rattle.awhile.specs.declared.Node.TheVariants.{Number, Variable, Add, Subtract, Multiply, Choice}
use Rattle.awhile.specs.declared.Node.TheVariants.{Constant, Equal, Less, Not, And}
use Rattle.awhile.specs.declared.Node.TheVariants.{Skip, Assign, Sequence, If, While, Read, Write}
use Rattle.std.proofs.Common.{Some}

-- the number that a field holds
unfoldable pub field_value : Field → ℕ
field_value (word n) = n
field_value (constant n) = n
field_value (variable x) = x
field_value (array a) = a
field_value (child s n) = n

-- a field is written as its number in its bytes
pub field_bytes_le : (f : Field) → field_bytes f ≡ le (field_size f) (field_value f)
unfolding field_bytes field_size field_value
field_bytes_le (word n) = refl
field_bytes_le (constant n) = refl
field_bytes_le (variable x) = refl
field_bytes_le (array a) = refl
field_bytes_le (child s n) = refl

-- a field has as many bytes as its size says
pub length-field_bytes : (f : Field) → length (field_bytes f) ≡ field_size f
length-field_bytes f = rw field_bytes_le (length_le (field_size f) (field_value f))

-- a field holds a number that fits its bytes
unfoldable pub field_fits : Field → Bool
field_fits f = ltb (field_value f) (256 ^ field_size f)

module _ (vs arrs parent : ℕ) (v : vs ≤ 65536) (a : arrs ≤ 65536) (p : parent ≤ 65536) where
  -- a field in range fits its bytes
  pub field_fits_lem : (f : Field) → field_in_range vs arrs parent f ≡ true → word_fits f ≡ true → field_fits f ≡ true
  unfolding field_in_range word_fits field_fits field_value field_size
  field_fits_lem (word n) r w = w
  field_fits_lem (constant n) r w = lt-ltb n 65536 (omega (arith, leb-true n 1 r))
  field_fits_lem (variable x) r w = lt-ltb x 65536 (omega (arith, ltb-true x vs r))
  field_fits_lem (array b) r w = lt-ltb b 65536 (omega (arith, ltb-true b arrs r))
  field_fits_lem (child s n) r w = lt-ltb n 65536 (omega (arith, ltb-true n parent r))

  -- fields in range fit their bytes
  pub fields_fit_lem : (fs : List Field) → all (field_in_range vs arrs parent) fs ≡ true → all word_fits fs ≡ true → all field_fits fs ≡ true
  unfolding all
  fields_fit_lem [] r w = refl
  fields_fit_lem (f ∷ fs) r w =
      all_cons field_fits f fs
      (field_fits_lem f (all_head (field_in_range vs arrs parent) f fs r) (all_head word_fits f fs w))
      (fields_fit_lem fs (all_tail (field_in_range vs arrs parent) f fs r) (all_tail word_fits f fs w))

-- the fields are read one after the other from a number of bytes behind an offset
abbrev pub FieldsAt : List ℕ → (at skipped : ℕ) → List Field → Type 0
FieldsAt s at k [] = Unit
FieldsAt s at k (f ∷ fs) = (le_at (field_size f) s (at + k) ≡ field_value f) × FieldsAt s at (k + field_size f) fs

module _ (s : List ℕ) (at : ℕ) where
  -- fields that stand there are read there
  pub fields_stand : (fs : List Field) (k : ℕ) → all field_fits fs ≡ true → Stands (flat_map field_bytes fs) (at + k) s → FieldsAt s at k fs
  unfolding field_fits flat_map
  fields_stand [] k fits h = tt
  fields_stand (f ∷ fs) k fits h =
      let there : Stands (le (field_size f) (field_value f) ++ flat_map field_bytes fs) (at + k) s = rw field_bytes_le at h in
      let first =
      stands_number s (field_size f) (field_value f) (flat_map field_bytes fs) (at + k) (at + (k + field_size f))
      (ltb-true (field_value f) (256 ^ field_size f) (all_head field_fits f fs fits)) (omega arith) there in
      (first.is_number, fields_stand fs (k + field_size f) (all_tail field_fits f fs fits) first.rest)

  -- a record's fields, read where it has them, decode to its node
  pub decode_fields : (n : Node) → le_at 2 s (at + 2) ≡ (form n).kind → FieldsAt s at 4 (form n).fields → decode_at s at ≡ Some n
  unfolding form decode_at node_of field_size field_value
  decode_fields (Number n) k r = rw (k, r.0)
  decode_fields (Variable x) k r = rw (k, r.0)
  decode_fields (Add a b) k r = rw (k, r.0, r.1.0)
  decode_fields (Subtract a b) k r = rw (k, r.0, r.1.0)
  decode_fields (Multiply a b) k r = rw (k, r.0, r.1.0)
  decode_fields (Choice c a b) k r = rw (k, r.0, r.1.0, r.1.1.0)
  decode_fields (Constant n) k r = rw (k, r.0)
  decode_fields (Equal a b) k r = rw (k, r.0, r.1.0)
  decode_fields (Less a b) k r = rw (k, r.0, r.1.0)
  decode_fields (Not a) k r = rw (k, r.0)
  decode_fields (And a b) k r = rw (k, r.0, r.1.0)
  decode_fields Skip k r = rw k
  decode_fields (Assign x e) k r = rw (k, r.0, r.1.0)
  decode_fields (Sequence c d) k r = rw (k, r.0, r.1.0)
  decode_fields (If b c d) k r = rw (k, r.0, r.1.0, r.1.1.0)
  decode_fields (While b c) k r = rw (k, r.0, r.1.0)
  decode_fields (Read x a i) k r = rw (k, r.0, r.1.0, r.1.1.0)
  decode_fields (Write a i e) k r = rw (k, r.0, r.1.0, r.1.1.0)

-- a kind fits its two bytes, and no record is longer than 10 bytes
pub record HeadFits (n : Node) : Type 0 where
  pub kind_fits : (form n).kind < 65536
  pub size_fits : size_of n ≤ 10

-- so it is for every kind
pub head_fits : (n : Node) → HeadFits n
unfolding form size_of sum field_size
head_fits (Number n) = omega arith
head_fits (Variable x) = omega arith
head_fits (Add a b) = omega arith
head_fits (Subtract a b) = omega arith
head_fits (Multiply a b) = omega arith
head_fits (Choice c a b) = omega arith
head_fits (Constant n) = omega arith
head_fits (Equal a b) = omega arith
head_fits (Less a b) = omega arith
head_fits (Not a) = omega arith
head_fits (And a b) = omega arith
head_fits Skip = omega arith
head_fits (Assign x e) = omega arith
head_fits (Sequence c d) = omega arith
head_fits (If b c d) = omega arith
head_fits (While b c) = omega arith
head_fits (Read x a i) = omega arith
head_fits (Write a i e) = omega arith

-- records of nodes have at most 10 bytes each
pub sizes_most : (ns : List Node) → sum (map size_of ns) ≤ 10 * length ns
unfolding sum
sizes_most [] = omega arith
sizes_most (n ∷ ns) = omega (arith, head_fits n, sizes_most ns)

-- a record is as long as its size says: its head and its fields
size_fields : (n : Node) → size_of n ≡ 4 + length (flat_map field_bytes (form n).fields)
unfolding size_of
size_fields n = omega (arith, length_flat_map field_bytes field_size length-field_bytes (form n).fields)

-- a record has its head at least
pub size_least : (n : Node) → 4 ≤ size_of n
size_least n = omega (arith, size_fields n)

-- a record has as many bytes as its size says
pub length-node_bytes : (n : Node) → length (node_bytes n) ≡ size_of n
unfolding node_bytes
length-node_bytes n = simp (length-append, length_le) (omega (arith, size_fields n))

-- ---- records: "a 2-byte length (of the whole record), a 2-byte kind, then fields"
module _ (s : List ℕ) (at size kind : ℕ) (body : List ℕ) where
  -- a record's head is read there, its body stands behind it, and all of it is inside
  pub record HeadAt : Type 0 where
    pub is_length : le_at 2 s at ≡ size
    pub is_kind : le_at 2 s (at + 2) ≡ kind
    pub body_stands : Stands body (at + 4) s
    pub inside : at + size ≤ length s

  -- the head of a record that stands there is read there
  pub head_stands : size ≡ 4 + length body → size < 65536 → kind < 65536 → Stands (le 2 size ++ (le 2 kind ++ body)) at s → HeadAt
  head_stands e size_fits kind_fits h =
      let total : length (le 2 size ++ (le 2 kind ++ body)) ≡ size = simp (length-append, length_le) (omega arith) in
      let first = stands_number s 2 size (le 2 kind ++ body) at (at + 2) size_fits refl h in
      let second = stands_number s 2 kind body (at + 2) (at + 4) kind_fits (omega arith) first.rest in
      record {
        is_length = first.is_number;
        is_kind = second.is_number;
        body_stands = second.rest;
        inside = omega (arith, stands_within s (le 2 size ++ (le 2 kind ++ body)) at (omega arith) h);
      }

module _ (s : List ℕ) (at : ℕ) (n : Node) where
  -- a node's record that stands there is read there and decodes to the node
  pub record NodeAt : Type 0 where
    pub is_length : le_at 2 s at ≡ size_of n
    pub decoded : decode_at s at ≡ Some n
    pub inside : at + size_of n ≤ length s

  -- a node whose fields fit is read where its record stands
  pub node_stands : all field_fits (form n).fields ≡ true → Stands (node_bytes n) at s → NodeAt
  unfolding node_bytes
  node_stands fits h =
      let fields : List ℕ = flat_map field_bytes (form n).fields in
      let small = head_fits n in
      let head = head_stands s at (size_of n) (form n).kind fields (size_fields n) (omega arith) small.kind_fits h in
      record {
        is_length = head.is_length;
        decoded = decode_fields s at n head.is_kind (fields_stand s at (form n).fields 4 fits head.body_stands);
        inside = head.inside;
      }

-- the records of these nodes stand one after the other
abbrev pub NodesAt : List ℕ → (at : ℕ) → List Node → Type 0
NodesAt s at [] = Unit
NodesAt s at (n ∷ ns) = NodeAt s at n × NodesAt s (at + size_of n) ns

-- each of them behind those before it
pub nodes_at : (s : List ℕ) (at : ℕ) (ns : List Node) → NodesAt s at ns → (i : ℕ) → i < length ns → NodeAt s (at + sum (map size_of (take i ns))) (get_or ns i Skip)
unfolding sum
nodes_at s at [] there i inside = absurd (omega arith)
nodes_at s at (n ∷ ns) there zero inside = rw add-zero there.0
nodes_at s at (n ∷ ns) there (suc i) inside = rw (← add_assoc) (nodes_at s (at + size_of n) ns there.1 i (omega arith))
