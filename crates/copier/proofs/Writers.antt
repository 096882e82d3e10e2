-- How writes make up a whole: parts one behind the other, each into the rest of the slice, then their parent.
use Prim.Native.Nat.{ℕ, ◌+◌, ◌-◌, ◌≤◌, ◌<◌}
use native.Mathlib.Omega.{arith}
use mathlib.Core.Path.{◌≡◌, refl, sym, ap, subst, ◌∙◌}
use mathlib.Core.List.{List, [], ◌∷◌, ◌++◌, flat_map, append-nil}
use lib.ListN.{length, get_or, take, length-append, length-take, length-drop}
use lib.Seq.{sets, length-sets}
use borrow.Rule.Slice.PartMut.{put_mid, mid_of}
use Rattle.bytes_le.proofs.Stores.{sets-append}
use Rattle.awhile.specs.Nodes.{child, row, form, size_of, node_bytes}
use Rattle.awhile.specs.declared.Sort.{Sort}
use Rattle.awhile.specs.declared.Sort.TheVariants.{Numeric}
use Rattle.record.specs.declared.forms.Field.TheVariants.{Child}
use Rattle.record.specs.declared.forms.Fields.TheVariants.{Two}
use Rattle.std.proofs.Common.{sum_by}
use Rattle.std.proofs.lemmas.List.{take_more, length-take-le}
use Rattle.std.proofs.lemmas.List.Sums.{sum_by-cons, sum_by_more_le}
use Rattle.awhile.proofs.Lists.{flat_map_append}
use Rattle.awhile.specs.declared.Node.{Node}
use Rattle.copier.specs.Sizes.{Sized}
use Rattle.copier.specs.Records.{numbers_of, record_bytes, record_size}
use Rattle.copier.specs.Written.{Appended, AppendedAll, AppendedRecord, Wrote, SpaceFor, RoomBehind}
use Rattle.record.specs.RecordRead.{form_of}
use Rattle.record.specs.declared.forms.Form.{Form}
use Rattle.record.specs.declared.forms.Fields.{Fields}
use Rattle.copier.specs.declared.Size.{Size}
use Rattle.copier.proofs.Lengths.{Counted, counted_node, counted_append}
use Rattle.copier.proofs.NodeRecords.{node_bytes_lem, node_size}
use Rattle.copier.proofs.Parts.{sets_rest, stored_more}

abbrev pub size_is : (nodes bytes : ℕ) → Size
size_is n b = record { nodes = n; bytes = b }

-- the rest of a slice from a byte on, and the slice when that rest has come back
abbrev pub rest_of : (at : ℕ) → List ℕ → List ℕ
rest_of at l = mid_of at (length l - at) l

abbrev pub with_rest : (at : ℕ) → List ℕ → (rest : List ℕ) → List ℕ
with_rest at l rest = put_mid at (length l - at) l rest

module _ {ns : List Node} {l m : List ℕ} {s : Size} (w : Wrote ns l m s) where
  -- a slice keeps its length
  pub wrote_length : length m ≡ length l
  wrote_length = ap length w.stored ∙ length-sets l 0 (flat_map node_bytes ns)

  -- what is written is as much as is counted
  pub wrote_sized : {i j : ℕ} → Counted ns i j → Sized i j s
  wrote_sized c = record { nodes_counted = w.nodes_counted ∙ c.nodes_are; bytes_counted = w.bytes_counted ∙ c.bytes_are }

  -- the same nodes by another name, and the same answer
  pub wrote_as : {ms : List Node} → ns ≡ ms → Wrote ms l m s
  wrote_as e = subst (λ ms. Wrote ms l m s) e w

  pub wrote_answer : {r : Size} → r.nodes ≡ s.nodes → r.bytes ≡ s.bytes → Wrote ns l m r
  wrote_answer e f = record { stored = w.stored; nodes_counted = e ∙ w.nodes_counted; bytes_counted = f ∙ w.bytes_counted }

  -- a parent behind what is written
  pub wrote_parent : {n : Node} {k : List ℕ} {r : Size} → Appended s.nodes s.bytes n m k r → Wrote (ns ++ (n ∷ [])) l k r
  unfolding flat_map
  wrote_parent {n} {k} {r} a =
      let bytes : List ℕ = flat_map node_bytes ns in
      let c = counted_append {ms = ns} (record { nodes_are = refl; bytes_are = refl }) (counted_node n) in
      record {
        stored =
            a.stored
            ∙ ap (λ h. sets h s.bytes (node_bytes n)) w.stored
            ∙ ap (λ i. sets (sets l 0 bytes) i (node_bytes n)) (w.bytes_counted ∙ sym (zero_plus (length bytes)))
            ∙ sym (sets-append bytes (node_bytes n) l 0)
            ∙ ap (sets l 0) (ap (λ b. bytes ++ b) (sym (append-nil (node_bytes n))) ∙ sym (flat_map_append node_bytes ns (n ∷ [])));
        nodes_counted = a.nodes_counted ∙ ap (λ i. i + 1) w.nodes_counted ∙ sym c.nodes_are;
        bytes_counted = a.bytes_counted ∙ ap (λ i. i + size_of n) w.bytes_counted ∙ sym c.bytes_are;
      }
    where
      zero_plus : (i : ℕ) → 0 + i ≡ i
      zero_plus i = omega arith

  -- more behind it, in the rest of the slice
  pub wrote_rest : {ms : List Node} {rest : List ℕ} {u : Size} → Wrote ms (rest_of s.bytes m) rest u → s.bytes + u.bytes ≤ length l
      → Wrote (ns ++ ms) l (with_rest s.bytes m rest) (size_is (s.nodes + u.nodes) (s.bytes + u.bytes))
  wrote_rest {ms} {rest} {u} v room =
      let bytes : List ℕ = flat_map node_bytes ns in
      let more : List ℕ = flat_map node_bytes ms in
      let there : s.bytes + length more ≤ length m = omega (arith, wrote_length, v.bytes_counted) in
      let at : s.bytes ≡ 0 + length bytes = omega (arith, w.bytes_counted) in
      record {
        stored =
            ap (with_rest s.bytes m) v.stored
            ∙ sets_rest m s.bytes more there
            ∙ ap (λ h. sets h s.bytes more) w.stored
            ∙ ap (λ i. sets (sets l 0 bytes) i more) at
            ∙ sym (sets-append bytes more l 0)
            ∙ ap (sets l 0) (sym (flat_map_append node_bytes ns ms));
        nodes_counted = rw length-append (omega (arith, w.nodes_counted, v.nodes_counted));
        bytes_counted = rw (flat_map_append node_bytes ns ms, length-append) (omega (arith, w.bytes_counted, v.bytes_counted));
      }

-- a record that is a node's, made of its form with these fields
module _ (n : Node) (f : Form) (e : form_of f ≡ form n) {fs : Fields} (has : f.fields ≡ fs) where
  -- it has room where the node has
  pub form_fits : {so_far : Size} {out : List ℕ} → RoomBehind so_far 1 (size_of n) out → RoomBehind so_far 1 (record_size (numbers_of fs)) out
  form_fits r = record { fits = omega (arith, r.fits, ap (λ g. record_size (numbers_of g)) has, node_size n f e); countable = r.countable }

  -- and is the node's
  pub appended_node : {i j : ℕ} {fields : List ℕ} {l k : List ℕ} {r : Size} → fields ≡ numbers_of fs
      → AppendedRecord i j f.kind fields l k r → Appended i j n l k r
  appended_node {j = j} {l = l} is a =
      let all = is ∙ ap numbers_of (sym has) in
      record {
        stored = a.stored ∙ ap (sets l j) (ap (record_bytes f.kind) all ∙ node_bytes_lem n f e);
        nodes_counted = a.nodes_counted;
        bytes_counted = a.bytes_counted ∙ ap (λ i. j + i) (ap record_size all ∙ node_size n f e);
      }

-- a node of another's kind, over two numeric children
pub appended_binary : {i j : ℕ} (node made : Node) {left right kind : ℕ} {l k : List ℕ} {r : Size}
    → form made ≡ row (form node).kind (form node).sort (child Numeric left ∷ child Numeric right ∷ []) → kind ≡ (form node).kind
    → AppendedRecord i j kind (left ∷ right ∷ []) l k r → Appended i j made l k r
appended_binary node made {left} {right} {kind} m e a =
    let sort : Sort = (form node).sort in
    appended_node made (record { kind = kind; sort = sort; fields = Two (Child Numeric left) (Child Numeric right) })
    (ap (λ k. row k sort (child Numeric left ∷ child Numeric right ∷ [])) e ∙ sym m) refl refl a

-- the same node by another name
pub appended_as : {i j : ℕ} {n m : Node} {l k : List ℕ} {r : Size} → n ≡ m → Appended i j n l k r → Appended i j m l k r
appended_as {i} {j} {l = l} {k} {r} e a = subst (λ m. Appended i j m l k r) e a

-- one node alone
pub wrote_node : {n : Node} {l m : List ℕ} {r : Size} → Appended 0 0 n l m r → Wrote (n ∷ []) l m r
unfolding flat_map
wrote_node {n} {l} {m} {r} a = wrote_parent {ns = []} {s = size_is 0 0} (record { stored = refl; nodes_counted = refl; bytes_counted = refl }) a

-- one node alone, which is known to be this
pub wrote_leaf : {n m : Node} {l k : List ℕ} {r : Size} → n ≡ m → Appended 0 0 n l k r → Wrote (m ∷ []) l k r
wrote_leaf e a = wrote_node (appended_as e a)

-- ---- nodes one behind the other
-- nodes are as many as they are, and their records as long
pub counted_all : (ns : List Node) → Counted ns (length ns) (sum_by size_of ns)
unfolding flat_map
counted_all [] = record { nodes_are = refl; bytes_are = refl }
counted_all (n ∷ ns) =
    let c = counted_append (counted_node n) (counted_all ns) in
    record { nodes_are = refl; bytes_are = omega (arith, c.bytes_are, sum_by-cons size_of n ns) }

-- one more
pub appended_more : {so_far s r : Size} (ns : List Node) (i : ℕ) (d : Node) {l m k : List ℕ} → i < length ns → AppendedAll so_far (take i ns) l m s
    → Appended s.nodes s.bytes (get_or ns i d) m k r → AppendedAll so_far (take (i + 1) ns) l k r
unfolding flat_map
appended_more {so_far} {s} ns i d {l} {m} {k} inside w a =
    let n : Node = get_or ns i d in
    let before : List ℕ = flat_map node_bytes (take i ns) in
    let next : take (i + 1) ns ≡ take i ns ++ (n ∷ []) = take_more ns i d inside in
    let c = counted_append (counted_all (take i ns)) (counted_node n) in
    record {
      stored =
          a.stored
          ∙ ap (λ h. sets h s.bytes (node_bytes n)) w.stored
          ∙ ap (λ b. sets (sets l so_far.bytes before) b (node_bytes n)) w.bytes_counted
          ∙ stored_more node_bytes l [] so_far.bytes ns i d inside;
      nodes_counted = rw next (omega (arith, a.nodes_counted, w.nodes_counted, c.nodes_are));
      bytes_counted = rw next (omega (arith, a.bytes_counted, w.bytes_counted, c.bytes_are, (counted_all (take i ns)).bytes_are));
    }

-- which has room
pub room_next : (ns : List Node) (i : ℕ) (d : Node) {so_far s : Size} {many : ℕ} {l m : List ℕ} → i < length ns → length ns ≡ many
    → RoomBehind so_far many (sum_by size_of ns) l
    → AppendedAll so_far (take i ns) l m s → RoomBehind s 1 (size_of (get_or ns i d)) m
room_next ns i d {so_far} {l = l} inside all r w =
    let c = counted_all (take i ns) in
    record {
      fits = omega (arith, r.fits, w.bytes_counted, c.bytes_are, sum_by_more_le size_of ns i d inside, ap length w.stored, length-sets l so_far.bytes (flat_map node_bytes (take i ns)));
      countable = omega (arith, r.countable, w.nodes_counted, length-take-le i ns (omega arith));
    }

-- behind what is written
pub wrote_all : {ms ns : List Node} {l m k : List ℕ} {s r : Size} → Wrote ms l m s → AppendedAll s ns m k r → Wrote (ms ++ ns) l k r
wrote_all {ms} {ns} {l} {s = s} w a =
    let bytes : List ℕ = flat_map node_bytes ms in
    let more : List ℕ = flat_map node_bytes ns in
    let at : s.bytes ≡ 0 + length bytes = omega (arith, w.bytes_counted) in
    record {
      stored =
          a.stored
          ∙ ap (λ h. sets h s.bytes more) w.stored
          ∙ ap (λ i. sets (sets l 0 bytes) i more) at
          ∙ sym (sets-append bytes more l 0)
          ∙ ap (sets l 0) (sym (flat_map_append node_bytes ms ns));
      nodes_counted = rw length-append (omega (arith, a.nodes_counted, w.nodes_counted));
      bytes_counted = rw (flat_map_append node_bytes ms ns, length-append) (omega (arith, a.bytes_counted, w.bytes_counted));
    }

-- and at the front
pub wrote_front : {ns : List Node} {l k : List ℕ} {r : Size} → AppendedAll (size_is 0 0) ns l k r → Wrote ns l k r
wrote_front a = record { stored = a.stored; nodes_counted = omega (arith, a.nodes_counted); bytes_counted = omega (arith, a.bytes_counted) }

-- ---- room
-- room for the first part of it
pub room_first : {from n b i j : ℕ} {out : List ℕ} → SpaceFor from n b out → i ≤ n → j ≤ b → SpaceFor from i j out
room_first r p q = record { numbers = omega (arith, r.numbers); fits = omega (arith, r.fits) }

-- room for what is left, in the rest of the slice
pub room_rest : {from n b i j k h : ℕ} {l m : List ℕ} {ns : List Node} {s : Size} → Wrote ns l m s → Counted ns i j → SpaceFor from n b l → i + k ≤ n → j + h ≤ b
    → SpaceFor (from + s.nodes) k h (rest_of s.bytes m)
room_rest {m = m} {s = s} w c r p q =
    let z = wrote_sized w c in
    record {
      numbers = omega (arith, r.numbers, z.nodes_counted);
      fits = simp (length-take, length-drop) (omega (arith, r.fits, z.bytes_counted, wrote_length w));
    }

-- the rest begins inside
pub rest_inside : {from n b i j : ℕ} {l m : List ℕ} {ns : List Node} {s : Size} → Wrote ns l m s → Counted ns i j → SpaceFor from n b l → j ≤ b → s.bytes ≤ length m
rest_inside w c r q = omega (arith, r.fits, (wrote_sized w c).bytes_counted, wrote_length w)

-- what is left behind a first part for so many nodes and bytes
pub record Rest (from nodes bytes : ℕ) (first : Size) (out : List ℕ) : Type 0 where
  pub inside : first.bytes ≤ length out
  pub room : SpaceFor (from + first.nodes) nodes bytes (rest_of first.bytes out)

pub rest_of_lem : {from n b i j k h : ℕ} {l m : List ℕ} {ns : List Node} {s : Size} → Wrote ns l m s → Counted ns i j → SpaceFor from n b l → i + k ≤ n → j + h ≤ b
    → Rest from k h s m
rest_of_lem w c r p q = record { inside = rest_inside w c r (omega arith); room = room_rest w c r p q }

-- room for more nodes
pub room_all : (ns : List Node) {from n b i j : ℕ} {l m : List ℕ} {ms : List Node} {s : Size} → Wrote ms l m s → Counted ms i j → SpaceFor from n b l
    → i + length ns ≤ n → j + sum_by size_of ns ≤ b → RoomBehind s (length ns) (sum_by size_of ns) m
room_all ns w c r p q =
    let z = wrote_sized w c in
    record { fits = omega (arith, r.fits, z.bytes_counted, wrote_length w); countable = omega (arith, r.numbers, z.nodes_counted) }

pub room_front : (ns : List Node) {from n b : ℕ} {l : List ℕ} → SpaceFor from n b l → length ns ≤ n → sum_by size_of ns ≤ b
    → RoomBehind (size_is 0 0) (length ns) (sum_by size_of ns) l
room_front ns r p q = record { fits = omega (arith, r.fits); countable = omega (arith, r.numbers) }

-- room for a parent
pub room_parent : (size : ℕ) {from n b i j : ℕ} {l m : List ℕ} {ns : List Node} {s : Size} → Wrote ns l m s → Counted ns i j → SpaceFor from n b l → i + 1 ≤ n → j + size ≤ b
    → RoomBehind s 1 size m
room_parent size w c r p q =
    let z = wrote_sized w c in
    record { fits = omega (arith, r.fits, z.bytes_counted, wrote_length w); countable = omega (arith, r.numbers, z.nodes_counted) }

-- room for a node alone
pub room_leaf : (n : Node) {from i size : ℕ} {l : List ℕ} → SpaceFor from i size l → size_of n ≡ size → RoomBehind (size_is 0 0) 1 (size_of n) l
room_leaf n r e = record { fits = omega (arith, r.fits); countable = omega arith }
