-- What the functions of src/commands.rt ask for a command's parts, and what they leave, is there for the command: by its kind.
use Prim.Native.Nat.{ℕ, ◌+◌, ◌*◌, ◌<◌, max}
use native.Mathlib.Omega.{arith}
use mathlib.Core.List.{List}
use mathlib.Core.Option.{none}
use mathlib.Core.Path.{◌≡◌, refl}
use Rattle.awhile.specs.Nodes.{size_of, form, field_size}
use Rattle.awhile.specs.Lists.{sum}
use Rattle.awhile.specs.Encoding.{nodes_of, write_c}
use Rattle.awhile.specs.declared.Node.TheVariants.{Skip, Assign, Sequence, If, While, Read, Write}
use Rattle.awhile.specs.declared.Sort.TheVariants.{Numeric, Command}
use Rattle.reader.specs.Index.{numeric_in, HasSort}
use Rattle.reader.proofs.Index.{Parts}
use Rattle.reader.proofs.Admitted.{child}
use Rattle.masks.specs.Hardening.{harden}
use Rattle.masking.specs.InMemory.{read_in, write_in, if_in, loop_in, while_in}
use Rattle.masking.specs.declared.Maskable.{Maskable}
use Rattle.masking.proofs.AccessWrites.{wrote_c, room_c}
use Rattle.copier.specs.Sizes.{bytes_of}
use Rattle.copier.specs.Written.{SpaceForCommand, Appended, RoomBehind}
use Rattle.copier.specs.declared.Size.{Size}
use Rattle.copier.proofs.Writers.{size_is, wrote_node, room_leaf}
use Rattle.hardener.specs.Forms.{assign_in, hardened_by, sequence_in, sequence_by, WroteCommand}
use Rattle.hardener.specs.declared.plan.Plan.{Plan}
use Rattle.hardener.proofs.CommandWrites.{own, own_condition, in_skip, in_assign, in_sequence, in_if, in_while, in_read, in_write, read_numbered, read_room_numbered}

-- the index of a command, with what is decided on it
abbrev own_index : Plan → (n index : ℕ) → Maskable
own_index plan n i = record { node = i; mask = (own plan.decisions.now n).index }

module _ (plan : Plan) {n : ℕ} (from : ℕ) {l : List ℕ} (room : SpaceForCommand from (hardened_by plan n) l) where
  -- ---- commands without parts
  module _ (p : Parts plan.table.now n Skip) where
    pub skip_asks : RoomBehind (size_is 0 0) 1 (size_of Skip) l
    unfolding nodes_of bytes_of size_of form field_size sum
    skip_asks = room_leaf Skip (room_c (in_skip plan.table.now plan.decisions.now plan.flag n p) room) refl

    pub skip_wrote : {m : List ℕ} {r : Size} → Appended 0 0 Skip l m r → WroteCommand from (hardened_by plan n) l m r
    unfolding write_c
    skip_wrote w = wrote_c from (in_skip plan.table.now plan.decisions.now plan.flag n p) (wrote_node w)

  module _ (x e : ℕ) (p : Parts plan.table.now n (Assign x e)) where
    pub assign_asks : HasSort plan.table.now Numeric e × SpaceForCommand from (assign_in plan.table.now x e) l
    unfolding assign_in nodes_of bytes_of
    assign_asks = (child p.1, room_c (in_assign plan.table.now plan.decisions.now plan.flag n p.2) room)

    pub assign_wrote : {m : List ℕ} {r : Size} → WroteCommand from (assign_in plan.table.now x e) l m r → WroteCommand from (hardened_by plan n) l m r
    unfolding assign_in write_c
    assign_wrote w = wrote_c from (in_assign plan.table.now plan.decisions.now plan.flag n p.2) w

  module _ (x a i : ℕ) (p : Parts plan.table.now n (Read x a i)) where
    pub read_asks : HasSort plan.table.now Numeric i × SpaceForCommand from (read_in plan.table.now plan.flag x a (own_index plan n i) (own plan.decisions.now n).value) l
    read_asks = (
      child p.2,
      read_room_numbered from plan.flag x a n (own plan.decisions.now n).index (numeric_in plan.table.now i) (own plan.decisions.now n).value
          (room_c (in_read plan.table.now plan.decisions.now plan.flag n p.3) room),
    )

    pub read_wrote : {m : List ℕ} {r : Size} → WroteCommand from (read_in plan.table.now plan.flag x a (own_index plan n i) (own plan.decisions.now n).value) l m r → WroteCommand from (hardened_by plan n) l m r
    read_wrote w =
        wrote_c from (in_read plan.table.now plan.decisions.now plan.flag n p.3)
        (read_numbered from plan.flag x a n (own plan.decisions.now n).index (numeric_in plan.table.now i) (own plan.decisions.now n).value w)

  module _ (a i e : ℕ) (p : Parts plan.table.now n (Write a i e)) where
    pub write_asks : (HasSort plan.table.now Numeric i × HasSort plan.table.now Numeric e) × SpaceForCommand from (write_in plan.table.now plan.flag a (own_index plan n i) e) l
    unfolding harden nodes_of bytes_of
    write_asks = ((child p.1, child p.2), room_c (in_write plan.table.now plan.decisions.now plan.flag n p.3) room)

    pub write_wrote : {m : List ℕ} {r : Size} → WroteCommand from (write_in plan.table.now plan.flag a (own_index plan n i) e) l m r → WroteCommand from (hardened_by plan n) l m r
    unfolding harden write_c
    write_wrote w = wrote_c from (in_write plan.table.now plan.decisions.now plan.flag n p.3) w

  -- ---- commands with parts, whose numbers are lower
  module _ {t : ℕ} (at : 4 * n + 1 ≡ t) where
    below : (k : ℕ) → k < n → 4 * k + 4 < t
    below k h = omega arith

    pair_below : (j k : ℕ) → j < n → k < n → 4 * max j k + 4 < t
    pair_below j k g h = omega arith

    pub sequence_asks : (c d : ℕ) → Parts plan.table.now n (Sequence c d)
        → (4 * max c d + 4 < t) × ((HasSort plan.table.now Command c × HasSort plan.table.now Command d) × SpaceForCommand from (sequence_by plan c d) l)
    unfolding sequence_in nodes_of bytes_of
    sequence_asks c d p =
        (pair_below c d p.0.below p.1.below, ((child p.0, child p.1), room_c (in_sequence plan.table.now plan.decisions.now plan.flag n c d p.2) room))

    pub if_asks : (b c d : ℕ) → Parts plan.table.now n (If b c d)
        → (4 * max c d + 4 < t)
        × ((HasSort plan.table.now Command c × HasSort plan.table.now Command d)
        × SpaceForCommand from (if_in plan.table.now plan.decisions.now plan.flag (own_condition plan.decisions.now n b) none c d) l)
    unfolding if_in nodes_of bytes_of
    if_asks b c d p =
        (pair_below c d p.1.below p.2.below, ((child p.1, child p.2), room_c (in_if plan.table.now plan.decisions.now plan.flag n b c d p.3) room))

    pub while_asks : (b c : ℕ) → Parts plan.table.now n (While b c)
        → (4 * c + 4 < t)
        × (HasSort plan.table.now Command c × SpaceForCommand from (while_in plan.table.now plan.decisions.now plan.flag (own_condition plan.decisions.now n b) none c) l)
    unfolding while_in loop_in nodes_of bytes_of
    while_asks b c p = (below c p.1.below, (child p.1, room_c (in_while plan.table.now plan.decisions.now plan.flag n b c p.2) room))

  -- what is written for the parts is written for the command
  module _ {m : List ℕ} {r : Size} where
    pub sequence_whole : (c d : ℕ) → Parts plan.table.now n (Sequence c d) → WroteCommand from (sequence_by plan c d) l m r
        → WroteCommand from (hardened_by plan n) l m r
    unfolding sequence_in nodes_of write_c
    sequence_whole c d p w = wrote_c from (in_sequence plan.table.now plan.decisions.now plan.flag n c d p.2) w

    pub if_whole : (b c d : ℕ) → Parts plan.table.now n (If b c d) → WroteCommand from (if_in plan.table.now plan.decisions.now plan.flag (own_condition plan.decisions.now n b) none c d) l m r
        → WroteCommand from (hardened_by plan n) l m r
    unfolding if_in nodes_of write_c
    if_whole b c d p w = wrote_c from (in_if plan.table.now plan.decisions.now plan.flag n b c d p.3) w

    pub while_whole : (b c : ℕ) → Parts plan.table.now n (While b c) → WroteCommand from (while_in plan.table.now plan.decisions.now plan.flag (own_condition plan.decisions.now n b) none c) l m r
        → WroteCommand from (hardened_by plan n) l m r
    unfolding while_in loop_in nodes_of write_c
    while_whole b c p w = wrote_c from (in_while plan.table.now plan.decisions.now plan.flag n b c p.2) w
