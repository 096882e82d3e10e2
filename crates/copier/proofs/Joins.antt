-- Two parts, the second in the rest of the slice behind the first, and a parent over both.
use Prim.Native.Nat.{ℕ, ◌+◌, ◌-◌, ◌≤◌, ◌<◌}
use native.Mathlib.Omega.{arith}
use mathlib.Core.Path.{◌≡◌, refl, ap, ◌∙◌}
use mathlib.Core.List.{List, [], ◌∷◌, ◌++◌, append_assoc}
use lib.ListN.{length}
use lib.Seq.{sets}
use Rattle.awhile.specs.Encoding.{binary, ternary}
use Rattle.awhile.specs.Nodes.{size_of, node_bytes}
use Rattle.awhile.specs.declared.Node.{Node}
use Rattle.awhile.specs.declared.Node.TheVariants.{Sequence}
use Rattle.copier.specs.Sizes.{Sized, Few}
use Rattle.copier.specs.Written.{Appended, Wrote, WroteTwo, Both, pair_of, SpaceFor, RoomBehind}
use Rattle.copier.specs.declared.Size.{Size}
use Rattle.copier.specs.declared.Pair.{Pair}
use Rattle.copier.proofs.Lengths.{Short, Counted, counted_append}
use Rattle.copier.proofs.Writers.{size_is, rest_of, with_rest, wrote_sized, wrote_as, wrote_answer, wrote_parent, wrote_rest, room_parent}

-- the second part is numbered on from the first
module _ (from : ℕ) {ms : List Node} (ns : ℕ → List Node) {i j k h : ℕ} {l m rest : List ℕ} {s u : Size} (w : Wrote ms l m s) (a : Counted ms i j)
    (v : Wrote (ns (from + s.nodes)) (rest_of s.bytes m) rest u) (b : (first : ℕ) → Counted (ns first) k h) where
  -- their sizes may be added
  pub two_few : {n y : ℕ} → SpaceFor from n y l → i + k ≤ n → 0 < i → Short i j → Short k h
      → Few (from + s.nodes + u.nodes) (s.bytes + u.bytes) × (0 < s.nodes)
  two_few r enough some f g =
      let first = wrote_sized w a in
      let second = wrote_sized v (b (from + s.nodes)) in (
        record {
          few_nodes = omega (arith, r.numbers, first.nodes_counted, second.nodes_counted);
          few_bytes = omega (arith, r.numbers, first.bytes_counted, second.bytes_counted, f.short, g.short);
        },
        omega (arith, first.nodes_counted),
      )

  module _ {p : Pair} (added : Both from s u p) where
    -- both are written
    pub two_wrote : j + h ≤ length l → Wrote (ms ++ ns (from + i)) l (with_rest s.bytes m rest) (p.size)
    two_wrote room =
        let first = wrote_sized w a in
        let second = wrote_sized v (b (from + s.nodes)) in
        let fits : s.bytes + u.bytes ≤ length l = omega (arith, first.bytes_counted, second.bytes_counted) in
        wrote_answer (wrote_as (wrote_rest w v fits) (ap (λ e. ms ++ ns (from + e)) first.nodes_counted)) added.nodes_add added.bytes_add

    -- a parent has room
    pub two_room : (size : ℕ) {n y : ℕ} → SpaceFor from n y l → i + k + 1 ≤ n → j + h + size ≤ y
        → RoomBehind p.size 1 size (with_rest s.bytes m rest)
    two_room size r e f = room_parent size (two_wrote (omega (arith, r.fits))) (counted_append a (b (from + i))) r (omega arith) (omega arith)

    -- and is written behind them
    pub two_parent : (f : ℕ → ℕ → Node) {x : List ℕ} {r : Size} → j + h ≤ length l
        → Appended p.size.nodes p.size.bytes (f p.left p.right) (with_rest s.bytes m rest) x r
        → Wrote (ms ++ (ns (from + i) ++ (binary f from i k ∷ []))) l x r
    unfolding binary
    two_parent f room parent =
        let first = wrote_sized w a in
        let second = wrote_sized v (b (from + s.nodes)) in
        let left : p.left ≡ from + i - 1 = omega (arith, added.left_last, first.nodes_counted) in
        let right : p.right ≡ from + i + k - 1 = omega (arith, added.right_last, first.nodes_counted, second.nodes_counted) in
        wrote_as (wrote_parent (two_wrote room) parent)
        (append_assoc ms (ns (from + i)) (f p.left p.right ∷ [])
        ∙ ap (λ n. ms ++ (ns (from + i) ++ (n ∷ []))) (ap (λ e. f e p.right) left ∙ ap (f (from + i - 1)) right))

    -- both, with the numbers of their last nodes
    pub two_lists : j + h ≤ length l → WroteTwo from ms (ns (from + i)) l (with_rest s.bytes m rest) p
    two_lists room =
        let first = wrote_sized w a in
        let second = wrote_sized v (b (from + s.nodes)) in
        record {
          wrote = two_wrote room;
          left_is = omega (arith, added.left_last, first.nodes_counted, a.nodes_are);
          right_is = omega (arith, added.right_last, first.nodes_counted, second.nodes_counted, a.nodes_are, (b (from + i)).nodes_are);
        }

-- a part, then two that came as a pair, and a parent over all three
module _ (from : ℕ) {ms : List Node} (ns ks : ℕ → List Node) {i j k h y z : ℕ} {l m rest : List ℕ} {s : Size} {p : Pair} (w : Wrote ms l m s) (a : Counted ms i j)
    (v : WroteTwo (from + s.nodes) (ns (from + s.nodes)) (ks (from + s.nodes)) (rest_of s.bytes m) rest p)
    (b : (first : ℕ) → Counted (ns first) k h) (c : (first : ℕ) → Counted (ks first) y z) where
  -- how much all three take
  pub three_sized : Sized (i + (k + y)) (j + (h + z)) (size_is (s.nodes + p.size.nodes) (s.bytes + p.size.bytes))
  three_sized =
      let first = wrote_sized w a in
      let others = wrote_sized v.wrote (counted_append (b (from + s.nodes)) (c (from + s.nodes))) in
      record { nodes_counted = omega (arith, first.nodes_counted, others.nodes_counted); bytes_counted = omega (arith, first.bytes_counted, others.bytes_counted) }

  module _ {t : Size} (added : (t.nodes ≡ s.nodes + p.size.nodes) × (t.bytes ≡ s.bytes + p.size.bytes)) where
    three_wrote : j + (h + z) ≤ length l → Wrote (ms ++ (ns (from + s.nodes) ++ ks (from + s.nodes))) l (with_rest s.bytes m rest) t
    three_wrote room = wrote_answer (wrote_rest w v.wrote (omega (arith, three_sized.bytes_counted))) added.0 added.1

    -- a parent has room
    pub three_room : (size : ℕ) {n e : ℕ} → SpaceFor from n e l → i + (k + y) + 1 ≤ n → j + (h + z) + size ≤ e → RoomBehind t 1 size (with_rest s.bytes m rest)
    three_room size r e f =
        room_parent size (three_wrote (omega (arith, r.fits))) (counted_append a (counted_append (b (from + s.nodes)) (c (from + s.nodes)))) r (omega arith) (omega arith)

    -- and is written behind them
    pub three_parent : (f : ℕ → ℕ → ℕ → Node) {e : ℕ} → e ≡ from + s.nodes - 1 → {x : List ℕ} {r : Size} → j + (h + z) ≤ length l
        → Appended t.nodes t.bytes (f e p.left p.right) (with_rest s.bytes m rest) x r
        → Wrote (ms ++ (ns (from + i) ++ (ks (from + i) ++ (ternary f from i k y ∷ [])))) l x r
    unfolding ternary
    three_parent f {e} is room parent =
        let first = wrote_sized w a in
        let left : p.left ≡ from + s.nodes + k - 1 = omega (arith, v.left_is, (b (from + s.nodes)).nodes_are) in
        let right : p.right ≡ from + s.nodes + k + y - 1 = omega (arith, v.right_is, (b (from + s.nodes)).nodes_are, (c (from + s.nodes)).nodes_are) in
        let at : ℕ → List Node = λ n. ms ++ (ns (from + n) ++ (ks (from + n) ++ (f (from + n - 1) (from + n + k - 1) (from + n + k + y - 1) ∷ []))) in
        let last : List Node = f e p.left p.right ∷ [] in
        wrote_as (wrote_parent (three_wrote room) parent)
        (append_assoc ms (ns (from + s.nodes) ++ ks (from + s.nodes)) last
        ∙ ap (λ x. ms ++ x) (append_assoc (ns (from + s.nodes)) (ks (from + s.nodes)) last)
        ∙ ap (λ x. ms ++ (ns (from + s.nodes) ++ (ks (from + s.nodes) ++ (x ∷ []))))
        (ap (λ x. f x p.left p.right) is ∙ ap (λ x. f (from + s.nodes - 1) x p.right) left ∙ ap (f (from + s.nodes - 1) (from + s.nodes + k - 1)) right)
        ∙ ap at first.nodes_counted)

-- the sum of two sizes, as it is computed
pub both_of : (from : ℕ) (s u : Size) → Both from s u (pair_of from s u)
both_of from s u = record { nodes_add = refl; bytes_add = refl; left_last = refl; right_last = refl }

-- a sequence over them
pub appended_pair : {from : ℕ} {s u : Size} {p : Pair} {l k : List ℕ} {r : Size} → Both from s u p
    → Appended p.size.nodes p.size.bytes (Sequence p.left p.right) l k r
    → Appended (s.nodes + u.nodes) (s.bytes + u.bytes) (Sequence (from + s.nodes - 1) (from + (s.nodes + u.nodes) - 1)) l k r
appended_pair {from} {s} {u} {p} {l} {k} {r} b a =
    let left = b.left_last in
    let right = b.right_last in
    let node : Sequence p.left p.right ≡ Sequence (from + s.nodes - 1) (from + (s.nodes + u.nodes) - 1) = cc in
    record {
      stored = a.stored ∙ ap (λ i. sets l i (node_bytes (Sequence p.left p.right))) b.bytes_add ∙ ap (λ n. sets l (s.bytes + u.bytes) (node_bytes n)) node;
      nodes_counted = omega (arith, a.nodes_counted, b.nodes_add);
      bytes_counted = a.bytes_counted ∙ ap (λ i. i + size_of (Sequence p.left p.right)) b.bytes_add ∙ ap (λ n. s.bytes + u.bytes + size_of n) node;
    }

-- one part and a parent over it
module _ (from : ℕ) {ms : List Node} {i j : ℕ} {l m : List ℕ} {s : Size} where
  pub one_parent : {x : List ℕ} {r : Size} (f : ℕ → Node) → Wrote ms l m s → Counted ms i j → {e : ℕ} → e ≡ from + s.nodes - 1 → Appended s.nodes s.bytes (f e) m x r
      → Wrote (ms ++ (f (from + i - 1) ∷ [])) l x r
  one_parent f w a e parent =
      wrote_as (wrote_parent w parent) (ap (λ n. ms ++ (f n ∷ [])) (e ∙ ap (λ n. from + n - 1) (wrote_sized w a).nodes_counted))

  -- the number of its last node
  pub one_last : {n y : ℕ} → Wrote ms l m s → Counted ms i j → SpaceFor from n y l → i ≤ n → 0 < i → (0 < s.nodes) × (from + s.nodes ≤ 4096)
  one_last w a r enough some =
      let size = wrote_sized w a in
      (omega (arith, size.nodes_counted), omega (arith, r.numbers, size.nodes_counted))
