-- Looking for the lowest-numbered node that is not in order, by the counts of uses.
use Prim.Native.Nat.{ℕ, ◌+◌, ◌-◌, ◌≤◌, ◌<◌}
use native.Mathlib.Omega.{arith}
use mathlib.Core.Bool.{Bool, true, false, not}
use Rattle.std.specs.Bool.{then_some}
use mathlib.Core.Path.{◌≡◌, sym, ◌∙◌}
use mathlib.Core.List.{List}
use lib.ListN.{length, get_or}
use borrow.Author.Count.{below_more}
use borrow.Author.Tests.{eq-eqb, ne_eqb}
use Rattle.awhile.specs.Nodes.{sort_of, same_sort}
use Rattle.awhile.specs.Tables.{uses_of, in_order}
use Rattle.record.specs.RecordRead.{OrderSearched}
use Rattle.awhile.proofs.Cases.{in_order_last, in_order_child, all_in_order_lem}
use denote.Enum.Bare.{sameb}
use Rattle.awhile.specs.contracts.Sort as sort
use Rattle.record.proofs.Sorting.{sorts_equal}
use Rattle.awhile.specs.declared.Sort.{Sort}
use Rattle.awhile.specs.declared.Sort.TheVariants.{Command}
use Rattle.awhile.specs.declared.Node.{Node}
use Rattle.awhile.specs.declared.Node.TheVariants.{Skip}
use Rattle.std.proofs.Common.{Some, None}

module _ (uses : List ℕ) (nodes : ℕ) (root : Sort) where
  -- the nodes so far are children exactly once
  pub record UsedOnce (n : ℕ) : Type 0 where
    pub once : (i : ℕ) → i < n → get_or uses i 0 ≡ 1
    pub more : n < nodes

  -- one more that is a child exactly once
  pub once_more : (n : ℕ) → UsedOnce n → n < nodes - 1 → get_or uses n 0 ≡ 1 → UsedOnce (n + 1)
  once_more n h inside here = record { once = below_more (λ i. get_or uses i 0 ≡ 1) n h.once here; more = omega arith }

  module _ (n : ℕ) (h : UsedOnce n) where
    -- so each of them is in order
    passed_in_order : (ns : List Node) → length ns ≡ nodes → ((i : ℕ) → get_or uses i 0 ≡ uses_of ns i) → (i : ℕ) → i < n → in_order ns i ≡ true
    passed_in_order ns counted used i below =
        in_order_child ns i (λ f. omega (arith, h.more)) ∙ eq-eqb (uses_of ns i) 1 (sym (used i) ∙ h.once i below)

    -- a node that is not a child exactly once
    pub broken_child : n < nodes - 1 → ¬ (get_or uses n 0 ≡ 1) → OrderSearched uses nodes root (Some n)
    broken_child inside other =
        record {
          found = λ ns counted used last.
              record {
                is_node = omega arith;
                broken = in_order_child ns n (λ e. omega arith) ∙ ne_eqb (uses_of ns n) 1 (λ e. other (used n ∙ e));
                lower = passed_in_order ns counted used;
              };
        }

    module _ (end : nodes - 1 ≤ n) where
      -- the last node's order is a matter of its sort
      last_order : (ns : List Node) → length ns ≡ nodes → sort_of (get_or ns (nodes - 1) Skip) ≡ root → in_order ns n ≡ same_sort root Command
      last_order ns counted last =
          let here : n ≡ nodes - 1 = omega (arith, h.more) in
          in_order_last ns n (omega (arith, h.more)) ∙ rw (here, last)

      -- a last node that is no command
      broken_root : same_sort root Command ≡ false → OrderSearched uses nodes root (Some n)
      broken_root other =
          record {
            found = λ ns counted used last.
                record { is_node = omega (arith, h.more); broken = last_order ns counted last ∙ other; lower = passed_in_order ns counted used };
          }

      -- none is broken
      none_broken : same_sort root Command ≡ true → OrderSearched uses nodes root None
      none_broken is_command =
          record {
            found = λ ns counted used last.
                all_in_order_lem ns (length ns)
                (λ i inside. below_more (λ i. in_order ns i ≡ true) n (passed_in_order ns counted used) (last_order ns counted last ∙ is_command) i (omega (arith, h.more)));
          }

      -- the last node decides
      pub last_decides : (b : Bool) → sameb sort.the_type root Command ≡ b → OrderSearched uses nodes root (then_some (not b) (nodes - 1))
      last_decides true is_command = none_broken (sym (sorts_equal root Command) ∙ is_command)
      last_decides false other =
          let here : n ≡ nodes - 1 = omega (arith, h.more) in
          rw here at (broken_root (sym (sorts_equal root Command) ∙ other))

-- what looking for the lowest node needs
pub ruleset searching = (broken_child)
