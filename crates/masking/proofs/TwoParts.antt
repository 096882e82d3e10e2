-- Two parts, the second in the rest of the slice behind the first: what each step of writing them asks, once the first is written.
use Prim.Native.Nat.{ℕ, ◌+◌, ◌≤◌, ◌<◌}
use native.Mathlib.Omega.{arith}
use mathlib.Core.List.{List, [], ◌∷◌, ◌++◌}
use lib.ListN.{length}
use mir.Syntax.{w64}
use mir.Val.{Fits}
use Rattle.awhile.specs.Encoding.{binary}
use Rattle.awhile.specs.declared.Node.{Node}
use Rattle.awhile.specs.declared.Node.TheVariants.{Sequence}
use Rattle.copier.specs.Sizes.{Few}
use Rattle.copier.specs.Written.{Appended, Wrote, WroteTwo, Both, pair_of, SpaceFor, RoomBehind}
use Rattle.copier.specs.declared.Pair.{Pair}
use Rattle.copier.specs.declared.Size.{Size}
use Rattle.copier.proofs.Lengths.{Short, Counted}
use Rattle.copier.proofs.Writers.{rest_of, with_rest, wrote_sized, room_rest, rest_inside}
use Rattle.copier.proofs.Joins.{two_few, two_room, two_parent, two_lists, both_of, one_last}

-- the first part is written, and there is room for the second and for so many nodes and bytes more
pub record FirstWritten (from : ℕ) (ms : List Node) (ns : ℕ → List Node) (i j k h more size : ℕ) (l m : List ℕ) (s : Size) : Type 0 where
  pub wrote : Wrote ms l m s
  pub first : Counted ms i j
  pub second : (number : ℕ) → Counted (ns number) k h
  pub some : 0 < i
  pub first_short : Short i j
  pub second_short : Short k h
  pub room : SpaceFor from (i + k + more) (j + h + size) l

pub first_written : {from : ℕ} {ms : List Node} {ns : ℕ → List Node} {i j k h more size : ℕ} {l m : List ℕ} {s : Size} → Wrote ms l m s
    → Counted ms i j → ((number : ℕ) → Counted (ns number) k h) → 0 < i → Short i j → Short k h → SpaceFor from (i + k + more) (j + h + size) l
    → FirstWritten from ms ns i j k h more size l m s
first_written w a b some f g room = record { wrote = w; first = a; second = b; some = some; first_short = f; second_short = g; room = room }

module _ {from : ℕ} {ms : List Node} {ns : ℕ → List Node} {i j k h more size : ℕ} {l m : List ℕ} {s : Size}
    (p : FirstWritten from ms ns i j k h more size l m s) where
  -- the second part's first number can be computed
  pub rest_number : Fits w64 (from + s.nodes)
  rest_number = omega (arith, p.room.numbers, (wrote_sized p.wrote p.first).nodes_counted)

  -- its bytes begin inside
  pub rest_begins : s.bytes ≤ length m
  rest_begins = rest_inside p.wrote p.first p.room (omega arith)

  -- and have room there
  pub rest_room : SpaceFor (from + s.nodes) k h (rest_of s.bytes m)
  rest_room = room_rest p.wrote p.first p.room (omega arith) (omega arith)

  -- the number of the first part's last node can be computed
  pub first_last : (0 < s.nodes) × (from + s.nodes ≤ 4096)
  first_last = one_last from p.wrote p.first p.room (omega arith) p.some

  module _ {rest : List ℕ} {u : Size} (v : Wrote (ns (from + s.nodes)) (rest_of s.bytes m) rest u) where
    -- the sizes of both may be added
    pub both_few : Few (from + s.nodes + u.nodes) (s.bytes + u.bytes) × (0 < s.nodes)
    both_few = two_few from ns p.wrote p.first v p.second p.room (omega arith) p.some p.first_short p.second_short

    module _ {q : Pair} (added : Both from s u q) where
      -- their parent has room
      pub parent_room : 1 ≤ more → RoomBehind q.size 1 size (with_rest s.bytes m rest)
      parent_room own = two_room from ns p.wrote p.first v p.second added size p.room (omega arith) (omega arith)

      -- and is written behind them
      pub parent_wrote : (f : ℕ → ℕ → Node) {x : List ℕ} {r : Size} → Appended q.size.nodes q.size.bytes (f q.left q.right) (with_rest s.bytes m rest) x r
          → Wrote (ms ++ (ns (from + i) ++ (binary f from i k ∷ []))) l x r
      parent_wrote f parent = two_parent from ns p.wrote p.first v p.second added f (omega (arith, p.room.fits)) parent

      -- both are written
      pub both_wrote : WroteTwo from ms (ns (from + i)) l (with_rest s.bytes m rest) q
      both_wrote = two_lists from ns p.wrote p.first v p.second added (omega (arith, p.room.fits))

-- a sequence over them, as `append_sequence` asks and leaves it
module _ {from : ℕ} {ms : List Node} {ns : ℕ → List Node} {i j k h : ℕ} {l m : List ℕ} {s : Size} (p : FirstWritten from ms ns i j k h 1 8 l m s)
    {rest : List ℕ} {u : Size} (v : Wrote (ns (from + s.nodes)) (rest_of s.bytes m) rest u) where
  pub joined_asks : (Few (from + s.nodes + u.nodes) (s.bytes + u.bytes) × (0 < s.nodes)) × (s.bytes + u.bytes + 8 ≤ length (with_rest s.bytes m rest))
  joined_asks = (both_few p v, (parent_room p v (both_of from s u) (omega arith)).fits)

  pub joined_wrote : {x : List ℕ} {r : Size}
      → Appended (s.nodes + u.nodes) (s.bytes + u.bytes) (Sequence (pair_of from s u).left (pair_of from s u).right) (with_rest s.bytes m rest) x r
      → Wrote (ms ++ (ns (from + i) ++ (binary Sequence from i k ∷ []))) l x r
  joined_wrote parent = parent_wrote p v (both_of from s u) Sequence parent
