-- The parts that commands have: two commands, a condition and a command, a condition and two commands.
use Prim.Native.Nat.{ℕ, ◌+◌, ◌-◌, ◌^◌, ◌<◌}
use native.Mathlib.Omega.{arith}
use mathlib.Core.Bool.{Bool, true, false}
use mathlib.Core.Path.{◌≡◌}
use mathlib.Core.List.{List, ◌++◌}
use Rattle.awhile.specs.Language.{BExp, Com, if}
use Rattle.awhile.specs.Encoding.{nodes_of_b, nodes_of, write_b, write_c}
use Rattle.awhile.specs.declared.Node.TheVariants.{If}
use Rattle.masks.specs.Hardening.{Origin}
use Rattle.masking.specs.InMemory.{flag_update, test_in, side_in, if_in, loop_in, while_in}
use Rattle.hardener.specs.Forms.{hardened_by, sequence_in, sequence_by, side_by, if_by, loop_by, while_by, WroteCommand}
use Rattle.hardener.specs.declared.plan.Plan.{Plan}
use Rattle.hardener.specs.declared.plan.Test.{Test}
use Rattle.copier.specs.Sizes.{bytes_of_b, bytes_of}
use Rattle.copier.specs.Written.{SpaceForCommand, Appended, RoomBehind, Wrote, WroteTwo, SpaceFor}
use Rattle.copier.specs.declared.Pair.{Pair}
use Rattle.copier.specs.declared.Size.{Size}
use Rattle.masking.proofs.TwoParts.{FirstWritten, first_written}
use Rattle.copier.proofs.Lengths.{counted_append, counted_b, counted_c, some_b, some_c, bytes_b, bytes_c_lem}
use Rattle.copier.proofs.Writers.{rest_of, with_rest, room_first}
use Rattle.copier.proofs.Joins.{three_sized, three_room, three_parent}

-- two commands
abbrev pub CommandWritten : (from : ℕ) → (first second : Com Origin) → (more size : ℕ) → (before after : List ℕ) → (answer : Size) → Type 0
CommandWritten from c d more size l m s = FirstWritten from (write_c from c) (λ n. write_c n d) (nodes_of c) (bytes_of c) (nodes_of d) (bytes_of d) more size l m s

-- a condition and a command
abbrev pub ConditionWritten : (from : ℕ) → (condition : BExp) → (second : Com Origin) → (more size : ℕ) → (before after : List ℕ) → (answer : Size) → Type 0
ConditionWritten from b d more size l m s = FirstWritten from (write_b from b) (λ n. write_c n d) (nodes_of_b b) (bytes_of_b b) (nodes_of d) (bytes_of d) more size l m s

-- a condition and two commands, with an if over them
pub record TestWritten (from : ℕ) (b : BExp) (c d : Com Origin) (l m : List ℕ) (s : Size) : Type 0 where
  pub parts : FirstWritten from (write_b from b) (λ n. write_c n c ++ write_c (n + nodes_of c) d) (nodes_of_b b) (bytes_of_b b) (nodes_of c + nodes_of d) (bytes_of c + bytes_of d) 1 10 l m s

module _ {from more size : ℕ} {l m : List ℕ} {s : Size} where
  pub command_written : (c d : Com Origin) → SpaceFor from (nodes_of c + nodes_of d + more) (bytes_of c + bytes_of d + size) l → Wrote (write_c from c) l m s
      → CommandWritten from c d more size l m s
  command_written c d room w =
      first_written w (counted_c from c) (λ n. counted_c n d) (some_c c) (bytes_c_lem c) (bytes_c_lem d) room

  pub condition_written : (b : BExp) (d : Com Origin) → SpaceFor from (nodes_of_b b + nodes_of d + more) (bytes_of_b b + bytes_of d + size) l → Wrote (write_b from b) l m s
      → ConditionWritten from b d more size l m s
  condition_written b d room w =
      first_written w (counted_b from b) (λ n. counted_c n d) (some_b b) (bytes_b b) (bytes_c_lem d) room

pub test_written : {from : ℕ} {l m : List ℕ} {s : Size} (b : BExp) (c d : Com Origin)
    → SpaceFor from (nodes_of_b b + (nodes_of c + nodes_of d) + 1) (bytes_of_b b + (bytes_of c + bytes_of d) + 10) l → Wrote (write_b from b) l m s → TestWritten from b c d l m s
test_written {from} b c d room w =
    record {
      parts = record {
        wrote = w;
        first = counted_b from b;
        second = λ n. counted_append (counted_c n c) (counted_c (n + nodes_of c) d);
        some = some_b b;
        first_short = bytes_b b;
        second_short = record { short = omega (arith, (bytes_c_lem c).short, (bytes_c_lem d).short) };
        room = room;
      };
    }

-- an if over a condition and two sides that came as a pair
module _ {b : BExp} {c d : Com Origin} {from : ℕ} {l m : List ℕ} {s : Size} (p : TestWritten from b c d l m s) {rest : List ℕ} {q : Pair}
    (v : WroteTwo (from + s.nodes) (write_c (from + s.nodes) c) (write_c (from + s.nodes + nodes_of c) d) (rest_of s.bytes m) rest q) where
  -- its parts' sizes can be added
  pub sides_fit : (s.nodes + q.size.nodes < 2 ^ 64) × (s.bytes + q.size.bytes < 2 ^ 64)
  sides_fit =
      let sized = three_sized from (λ n. write_c n c) (λ n. write_c (n + nodes_of c) d) p.parts.wrote p.parts.first v (λ n. counted_c n c) (λ n. counted_c (n + nodes_of c) d) in (
        omega (arith, p.parts.room.numbers, sized.nodes_counted),
        omega (arith, p.parts.room.numbers, sized.bytes_counted, p.parts.first_short.short, p.parts.second_short.short),
      )

  module _ {t : Size} (added : (t.nodes ≡ s.nodes + q.size.nodes) × (t.bytes ≡ s.bytes + q.size.bytes)) where
    -- it has room, and is written behind them
    pub sides_asks : RoomBehind t 1 10 (with_rest s.bytes m rest)
    sides_asks =
        three_room from (λ n. write_c n c) (λ n. write_c (n + nodes_of c) d) p.parts.wrote p.parts.first v (λ n. counted_c n c) (λ n. counted_c (n + nodes_of c) d)
        added 10 p.parts.room (omega arith) (omega arith)

    pub sides_wrote : {e : ℕ} → e ≡ from + s.nodes - 1 → {x : List ℕ} {r : Size} → Appended t.nodes t.bytes (If e q.left q.right) (with_rest s.bytes m rest) x r
        → (o : Origin) → Wrote (write_c from (if o b c d)) l x r
    unfolding write_c
    sides_wrote e parent o =
        three_parent from (λ n. write_c n c) (λ n. write_c (n + nodes_of c) d) p.parts.wrote p.parts.first v (λ n. counted_c n c) (λ n. counted_c (n + nodes_of c) d)
        added If e (omega (arith, p.parts.room.fits)) parent

-- ---- what a plan and a test ask for, once the first part is written
module _ (plan : Plan) {from : ℕ} {l m : List ℕ} {s : Size} where
  -- a sequence, behind its first command
  pub sequence_begun : (c d : ℕ) → SpaceForCommand from (sequence_by plan c d) l → WroteCommand from (hardened_by plan c) l m s
      → CommandWritten from (hardened_by plan c) (hardened_by plan d) 1 8 l m s
  unfolding sequence_in nodes_of bytes_of
  sequence_begun c d room w = command_written _ _ room w

module _ (test : Test) {from : ℕ} {l m : List ℕ} {s : Size} where
  -- a side, behind the flag's update
  pub side_begun : (taken : Bool) (side : ℕ) → SpaceForCommand from (side_by test taken side) l → WroteCommand from (flag_update test.plan.now.flag taken (test_in test.plan.now.table.now test.plan.now.flag test.condition)) l m s
      → CommandWritten from (flag_update test.plan.now.flag taken (test_in test.plan.now.table.now test.plan.now.flag test.condition)) (hardened_by test.plan.now side) 1 8 l m s
  unfolding side_in nodes_of bytes_of
  side_begun taken side room w = command_written _ _ room w

  -- both sides, behind the first
  pub sides_begun : (c d : ℕ)
      → SpaceFor from (nodes_of (side_by test true c) + nodes_of (side_by test false d)) (bytes_of (side_by test true c) + bytes_of (side_by test false d)) l
      → WroteCommand from (side_by test true c) l m s → CommandWritten from (side_by test true c) (side_by test false d) 0 0 l m s
  sides_begun c d room w = command_written _ _ (room_first room (omega arith) (omega arith)) w

  -- an if, behind its condition
  pub if_begun : (c d : ℕ) → SpaceForCommand from (if_by test c d) l → Wrote (write_b from (test_in test.plan.now.table.now test.plan.now.flag test.condition)) l m s
      → TestWritten from (test_in test.plan.now.table.now test.plan.now.flag test.condition) (side_by test true c) (side_by test false d) l m s
  unfolding if_in nodes_of bytes_of
  if_begun c d room w = test_written _ _ _ (room_first room (omega arith) (omega arith)) w

  -- a loop, behind its condition
  pub loop_begun : (c : ℕ) → SpaceForCommand from (loop_by test c) l → Wrote (write_b from (test_in test.plan.now.table.now test.plan.now.flag test.condition)) l m s → ConditionWritten from (test_in test.plan.now.table.now test.plan.now.flag test.condition) (side_by test true c) 1 8 l m s
  unfolding loop_in nodes_of bytes_of
  loop_begun c room w = condition_written _ _ room w

  -- a loop with what stands after it, behind the loop
  pub while_begun : (c : ℕ) → SpaceForCommand from (while_by test c) l → WroteCommand from (loop_by test c) l m s
      → CommandWritten from (loop_by test c) (flag_update test.plan.now.flag false (test_in test.plan.now.table.now test.plan.now.flag test.condition)) 1 8 l m s
  unfolding while_in nodes_of bytes_of
  while_begun c room w = command_written _ _ room w
