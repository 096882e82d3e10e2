-- Expressions written from their parts, each part behind the last.
use Prim.Native.Nat.{ℕ, zero, suc, ◌+◌, ◌-◌, ◌≤◌, ◌<◌}
use native.Mathlib.Omega.{arith}
use mathlib.Core.Bool.{cond}
use lib.Dec.{eqb}
use mathlib.Core.Path.{◌≡◌, refl, sym, ap, subst, ◌∙◌}
use mathlib.Core.List.{List, [], ◌∷◌, ◌++◌, append_assoc}
use Rattle.awhile.specs.Language.{AExp, choice, BExp, not, and}
use Rattle.awhile.specs.Encoding.{nodes_of_a, nodes_of_b, binary, write_a, write_b}
use Rattle.awhile.specs.Nodes.{child, row, form}
use Rattle.awhile.specs.declared.Sort.TheVariants.{Numeric}
use Rattle.awhile.specs.declared.Node.{Node}
use Rattle.awhile.specs.declared.Node.TheVariants.{Choice, Not, And}
use Rattle.copier.specs.Sizes.{bytes_of_a, bytes_of_b, Sized, Few}
use Rattle.copier.specs.Written.{Appended, Wrote, WrotePair, WroteBinary, WroteTwo, Both, SpaceFor, SpaceForNumeric, SpaceForTruth, RoomBehind}
use Rattle.copier.specs.declared.Size.{Size}
use Rattle.copier.specs.declared.Pair.{Pair}
use Rattle.copier.proofs.Lengths.{counted_a, counted_b, counted_append, some_a, some_b, bytes_a, bytes_b}
use Rattle.copier.proofs.Joins.{two_few, two_wrote, two_room, two_parent, three_room, three_parent, one_parent, one_last}
use Rattle.copier.proofs.Writers.{Rest, rest_of, rest_of_lem, with_rest, wrote_sized, wrote_as, wrote_parent, room_parent}

-- the expression of a node is what its parts say
pub wrote_a : (from : ℕ) {e f : AExp} {l m : List ℕ} {r : Size} → e ≡ f → Wrote (write_a from f) l m r → Wrote (write_a from e) l m r
wrote_a from {l = l} {m} {r} p w = subst (λ e. Wrote (write_a from e) l m r) (sym p) w

pub wrote_b : (from : ℕ) {e f : BExp} {l m : List ℕ} {r : Size} → e ≡ f → Wrote (write_b from f) l m r → Wrote (write_b from e) l m r
wrote_b from {l = l} {m} {r} p w = subst (λ e. Wrote (write_b from e) l m r) (sym p) w

pub room_a : {e f : AExp} {from : ℕ} {l : List ℕ} → e ≡ f → SpaceFor from (nodes_of_a e) (bytes_of_a e) l → SpaceFor from (nodes_of_a f) (bytes_of_a f) l
room_a {from = from} {l} p w = subst (λ e. SpaceFor from (nodes_of_a e) (bytes_of_a e) l) p w

pub room_b : {e f : BExp} {from : ℕ} {l : List ℕ} → e ≡ f → SpaceFor from (nodes_of_b e) (bytes_of_b e) l → SpaceFor from (nodes_of_b f) (bytes_of_b f) l
room_b {from = from} {l} p w = subst (λ e. SpaceFor from (nodes_of_b e) (bytes_of_b e) l) p w

-- ---- two numeric expressions, and a parent over them
pub pair_rest : {from : ℕ} (a b : AExp) {l m : List ℕ} {s : Size} → SpaceFor from (nodes_of_a a + nodes_of_a b) (bytes_of_a a + bytes_of_a b) l
    → Wrote (write_a from a) l m s → Rest from (nodes_of_a b) (bytes_of_a b) s m
pair_rest {from} a b h w = rest_of_lem w (counted_a from a) h (omega arith) (omega arith)

module _ {from : ℕ} (a b : AExp) {l m rest : List ℕ} {s u : Size} (h : SpaceFor from (nodes_of_a a + nodes_of_a b) (bytes_of_a a + bytes_of_a b) l)
    (w : Wrote (write_a from a) l m s) (v : Wrote (write_a (from + s.nodes) b) (rest_of s.bytes m) rest u) where
  pub pair_few : Few (from + s.nodes + u.nodes) (s.bytes + u.bytes) × (0 < s.nodes)
  pair_few = two_few from (λ k. write_a k b) w (counted_a from a) v (λ k. counted_a k b) h (omega arith) (some_a a) (bytes_a a) (bytes_a b)

  pub wrote_pair : {p : Pair} → Both from s u p → WrotePair from a b l (with_rest s.bytes m rest) p
  wrote_pair added =
      let first = wrote_sized w (counted_a from a) in
      let second = wrote_sized v (counted_a (from + s.nodes) b) in
      record {
        wrote = two_wrote from (λ k. write_a k b) w (counted_a from a) v (λ k. counted_a k b) added h.fits;
        left_is = omega (arith, added.left_last, first.nodes_counted);
        right_is = omega (arith, added.right_last, first.nodes_counted, second.nodes_counted);
      }

module _ {from : ℕ} {a b : AExp} {l m : List ℕ} {p : Pair} where
  pub pair_parent : {k : List ℕ} {r : Size} (f : ℕ → ℕ → Node) → WrotePair from a b l m p → Appended p.size.nodes p.size.bytes (f p.left p.right) m k r
      → Wrote (write_a from a ++ (write_a (from + nodes_of_a a) b ++ (binary f from (nodes_of_a a) (nodes_of_a b) ∷ []))) l k r
  unfolding binary
  pair_parent f w h =
      wrote_as (wrote_parent w.wrote h)
      (append_assoc (write_a from a) (write_a (from + nodes_of_a a) b) (f p.left p.right ∷ [])
      ∙ ap (λ n. write_a from a ++ (write_a (from + nodes_of_a a) b ++ (n ∷ []))) (ap (λ i. f i p.right) w.left_is ∙ ap (f (from + nodes_of_a a - 1)) w.right_is))

  pair_sized : WrotePair from a b l m p → Sized (nodes_of_a a + nodes_of_a b) (bytes_of_a a + bytes_of_a b) (p.size)
  pair_sized w = wrote_sized w.wrote (counted_append (counted_a from a) (counted_a (from + nodes_of_a a) b))

  pub pair_room : WrotePair from a b l m p → SpaceFor from (nodes_of_a a + nodes_of_a b + 1) (bytes_of_a a + bytes_of_a b + 8) l
      → RoomBehind p.size 1 8 m
  pair_room w h = room_parent 8 w.wrote (counted_append (counted_a from a) (counted_a (from + nodes_of_a a) b)) h (omega arith) (omega arith)

  -- as two lists of nodes
  pair_two : WrotePair from a b l m p → WroteTwo from (write_a from a) (write_a (from + nodes_of_a a) b) l m p
  pair_two w =
      let first = (counted_a from a).nodes_are in
      let second = (counted_a (from + nodes_of_a a) b).nodes_are in
      record { wrote = w.wrote; left_is = omega (arith, w.left_is); right_is = omega (arith, w.right_is) }

-- by the constructor that made the node copied
pub wrote_made : (f : ℕ → ℕ → Node) {node : Node} {i j from : ℕ} {a b : AExp} {l k : List ℕ} {r : Size} → node ≡ f i j
    → ((i' j' : ℕ) → form (f i' j') ≡ row (form (f i j)).kind (form (f i j)).sort (child Numeric i' ∷ child Numeric j' ∷ []))
    → WroteBinary node from a b l k r → Wrote (write_a from a ++ (write_a (from + nodes_of_a a) b ++ (binary f from (nodes_of_a a) (nodes_of_a b) ∷ []))) l k r
wrote_made f e same w =
    w.wrote f (λ i' j'. same i' j' ∙ ap (λ n. row (form n).kind (form n).sort (child Numeric i' ∷ child Numeric j' ∷ [])) (sym e))

-- ---- a choice
pub choice_rest : {from : ℕ} (c : BExp) (a b : AExp) {l m : List ℕ} {s : Size}
    → SpaceForNumeric from (choice c a b) l → Wrote (write_b from c) l m s
    → Rest from (nodes_of_a a + nodes_of_a b) (bytes_of_a a + bytes_of_a b) s m
unfolding nodes_of_a bytes_of_a
choice_rest {from} c a b h w = rest_of_lem w (counted_b from c) h (omega arith) (omega arith)

module _ {from : ℕ} (c : BExp) (a b : AExp) {l m rest : List ℕ} {s : Size} {p : Pair}
    (h : SpaceForNumeric from (choice c a b) l) (w : Wrote (write_b from c) l m s)
    (v : WrotePair (from + s.nodes) a b (rest_of s.bytes m) rest p) where
  pub choice_last : (0 < s.nodes) × (from + s.nodes ≤ 4096)
  unfolding nodes_of_a bytes_of_a
  choice_last = one_last from w (counted_b from c) h (omega arith) (some_b c)

  pub choice_few : Few (s.nodes + p.size.nodes) (s.bytes + p.size.bytes)
  unfolding nodes_of_a bytes_of_a
  choice_few =
      let first = wrote_sized w (counted_b from c) in
      let sides = pair_sized v in
      record {
        few_nodes = omega (arith, h.numbers, first.nodes_counted, sides.nodes_counted);
        few_bytes = omega (arith, h.numbers, first.bytes_counted, sides.bytes_counted, (bytes_b c).short, (bytes_a a).short, (bytes_a b).short);
      }

  module _ {t : Size} (added : (t.nodes ≡ s.nodes + p.size.nodes) × (t.bytes ≡ s.bytes + p.size.bytes)) where
    pub choice_room : RoomBehind t 1 10 (with_rest s.bytes m rest)
    unfolding nodes_of_a bytes_of_a
    choice_room =
        three_room from (λ k. write_a k a) (λ k. write_a (k + nodes_of_a a) b) w (counted_b from c) (pair_two v) (λ k. counted_a k a)
        (λ k. counted_a (k + nodes_of_a a) b) added 10 h (omega arith) (omega arith)

    pub wrote_choice : {i : ℕ} → i ≡ from + s.nodes - 1 → {x : List ℕ} {r : Size}
        → Appended t.nodes t.bytes (Choice i p.left p.right) (with_rest s.bytes m rest) x r → Wrote (write_a from (choice c a b)) l x r
    unfolding nodes_of_a bytes_of_a write_a
    wrote_choice e parent =
        three_parent from (λ k. write_a k a) (λ k. write_a (k + nodes_of_a a) b) w (counted_b from c) (pair_two v) (λ k. counted_a k a)
        (λ k. counted_a (k + nodes_of_a a) b) added Choice e (omega (arith, h.fits)) parent

-- ---- two truths and the `and` over them
pub and_rest : {from : ℕ} (a b : BExp) {l m : List ℕ} {s : Size} → SpaceForTruth from (and a b) l
    → Wrote (write_b from a) l m s → Rest from (nodes_of_b b) (bytes_of_b b) s m
unfolding nodes_of_b bytes_of_b
and_rest {from} a b h w = rest_of_lem w (counted_b from a) h (omega arith) (omega arith)

module _ {from : ℕ} (a b : BExp) {l m rest : List ℕ} {s u : Size} (h : SpaceForTruth from (and a b) l)
    (w : Wrote (write_b from a) l m s) (v : Wrote (write_b (from + s.nodes) b) (rest_of s.bytes m) rest u) where
  pub and_few : Few (from + s.nodes + u.nodes) (s.bytes + u.bytes) × (0 < s.nodes)
  unfolding nodes_of_b bytes_of_b
  and_few = two_few from (λ k. write_b k b) w (counted_b from a) v (λ k. counted_b k b) h (omega arith) (some_b a) (bytes_b a) (bytes_b b)

  pub and_room : {p : Pair} → Both from s u p → RoomBehind p.size 1 8 (with_rest s.bytes m rest)
  unfolding nodes_of_b bytes_of_b
  and_room added = two_room from (λ k. write_b k b) w (counted_b from a) v (λ k. counted_b k b) added 8 h (omega arith) (omega arith)

  pub wrote_and : {p : Pair} → Both from s u p → {x : List ℕ} {r : Size}
      → Appended p.size.nodes p.size.bytes (And p.left p.right) (with_rest s.bytes m rest) x r → Wrote (write_b from (and a b)) l x r
  unfolding nodes_of_b bytes_of_b write_b
  wrote_and added parent =
      two_parent from (λ k. write_b k b) w (counted_b from a) v (λ k. counted_b k b) added And (omega (arith, h.fits)) parent

-- ---- a truth and the `not` over it
module _ {from : ℕ} (b : BExp) {l m : List ℕ} {s : Size} (h : SpaceFor from (nodes_of_b b + 1) (bytes_of_b b + 6) l) (w : Wrote (write_b from b) l m s) where
  pub not_last : (0 < s.nodes) × (from + s.nodes ≤ 4096)
  not_last = one_last from w (counted_b from b) h (omega arith) (some_b b)

  pub not_room : RoomBehind s 1 6 m
  not_room = room_parent 6 w (counted_b from b) h (omega arith) (omega arith)

  pub wrote_not : {i : ℕ} → i ≡ from + s.nodes - 1 → {x : List ℕ} {r : Size} → Appended s.nodes s.bytes (Not i) m x r → Wrote (write_b from (not b)) l x r
  unfolding write_b
  wrote_not e parent = one_parent from Not w (counted_b from b) e parent

-- ---- a constant
-- a constant is 0 or 1, so it is written as it was
pub constant_value : (v : ℕ) → v ≤ 1 → cond (eqb v 1) 1 0 ≡ v
constant_value zero small = refl
constant_value (suc n) small = let none : n ≡ 0 = omega arith in rw none
