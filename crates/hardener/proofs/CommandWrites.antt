-- What comes out for a node of each kind of command, by the decisions in memory.
use Prim.Native.Nat.{ℕ}
use mathlib.Core.Bool.{Bool, true, false}
use mathlib.Core.List.{List}
use mathlib.Core.Option.{some}
use mathlib.Core.Path.{◌≡◌}
use lib.ListN.{get_or}
use Rattle.awhile.specs.Language.{AExp, skip, assign, sequence, if, while, read, write, map_notes}
use Rattle.awhile.specs.Encoding.{nodes_of, write_c}
use Rattle.reader.specs.Index.{truth_in, command_in}
use Rattle.masks.specs.Decisions.{decision}
use Rattle.masks.specs.Hardening.{harden}
use Rattle.deciding.specs.Deciding.{none as no_choice, decision_in, decided_in}
use Rattle.deciding.specs.declared.decisions.Decision.{Decision as Choices}
use Rattle.masking.specs.declared.Maskable.{Maskable}
use Rattle.masking.specs.InMemory.{hardened_at, flag_update, test_in, side_in, if_in, loop_in, while_in}
use Rattle.copier.specs.Sizes.{bytes_of}
use Rattle.copier.specs.Written.{SpaceFor, Wrote}
use Rattle.copier.specs.declared.Size.{Size}

-- what is decided on a command, and its condition with that
abbrev pub own : List Choices → (node : ℕ) → Choices
own ds n = get_or ds n no_choice

abbrev pub own_condition : List Choices → (node condition : ℕ) → Maskable
own_condition ds n b = record { node = b; mask = (own ds n).condition }

module _ (table : List ℕ) (ds : List Choices) (f n : ℕ) where
  pub in_skip : command_in table n ≡ skip n → hardened_at table ds f n ≡ skip (some n)
  unfolding hardened_at decided_in harden map_notes decision_in
  in_skip p = rw p

  pub in_assign : {x : ℕ} {e : AExp} → command_in table n ≡ assign n x e → hardened_at table ds f n ≡ assign (some n) x e
  unfolding hardened_at decided_in harden map_notes decision_in
  in_assign p = rw p

  pub in_sequence : (c d : ℕ) → command_in table n ≡ sequence n (command_in table c) (command_in table d)
      → hardened_at table ds f n ≡ sequence (some n) (hardened_at table ds f c) (hardened_at table ds f d)
  unfolding hardened_at decided_in harden map_notes decision_in
  in_sequence c d p = rw p

  pub in_if : (b c d : ℕ) → command_in table n ≡ if n (truth_in table b) (command_in table c) (command_in table d)
      → hardened_at table ds f n ≡ if_in table ds f (own_condition ds n b) (some n) c d
  unfolding hardened_at decided_in harden map_notes decision_in if_in side_in test_in flag_update
  in_if b c d p = rw p

  pub in_while : (b c : ℕ) → command_in table n ≡ while n (truth_in table b) (command_in table c)
      → hardened_at table ds f n ≡ while_in table ds f (own_condition ds n b) (some n) c
  unfolding hardened_at decided_in harden map_notes decision_in while_in loop_in side_in test_in flag_update
  in_while b c p = rw p

  pub in_read : {x a : ℕ} {i : AExp} → command_in table n ≡ read n x a i → hardened_at table ds f n ≡ harden f (read (decision n false (own ds n).index (own ds n).value) x a i)
  unfolding hardened_at decided_in harden map_notes decision_in
  in_read p = rw p

  pub in_write : {a : ℕ} {i e : AExp} → command_in table n ≡ write n a i e → hardened_at table ds f n ≡ harden f (write (decision n false (own ds n).index false) a i e)
  unfolding hardened_at decided_in harden map_notes decision_in
  in_write p = rw p

-- the number that a read is noted with does not show
module _ (from f x a n : ℕ) (mask : Bool) (i : AExp) {l : List ℕ} where
  pub read_numbered : (hide : Bool) {m : List ℕ} {r : Size} → Wrote (write_c from (harden f (read (decision 0 false mask hide) x a i))) l m r
      → Wrote (write_c from (harden f (read (decision n false mask hide) x a i))) l m r
  unfolding harden write_c nodes_of
  read_numbered true w = w
  read_numbered false w = w

  pub read_room_numbered : (hide : Bool)
      → SpaceFor from (nodes_of (harden f (read (decision n false mask hide) x a i))) (bytes_of (harden f (read (decision n false mask hide) x a i))) l
      → SpaceFor from (nodes_of (harden f (read (decision 0 false mask hide) x a i))) (bytes_of (harden f (read (decision 0 false mask hide) x a i))) l
  unfolding harden nodes_of bytes_of
  read_room_numbered true r = r
  read_room_numbered false r = r
