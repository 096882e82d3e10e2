-- Fields and sorts told apart, and the tests of a record in their order.
use Prim.Native.Nat.{ℕ, ◌+◌}
use native.Mathlib.Omega.{arith}
use mathlib.Core.Bool.{Bool, true, false, ◌&&◌, and-true}
use mathlib.Core.Logic.{⊎_elim}
use mathlib.Core.Path.{◌≡◌, refl, sym, ap, ◌∙◌}
use mathlib.Core.List.{List, [], ◌∷◌, map}
use lib.ListN.{length, get_or}
use borrow.Author.Tests.{ltb-true}
use denote.Enum.Bare.{sameb}
use denote.Enum.Declared.{tag_of}
use types.Run.{OneOf}
use Rattle.std.proofs.Common.{Some, None, Result, Ok, Err}
use Rattle.awhile.specs.Lists.{sum, all}
use Rattle.awhile.specs.Refusals.{as_result, refused, got, check, passed, and_then}
use Rattle.awhile.specs.Nodes.{Field, child, form, field_size, sort_of, size_of, decode_at, field_in_range, in_range, same_sort, field_sorted, sorted, field_children}
use Rattle.awhile.specs.Tables.{framed, read_node}
use Rattle.record.specs.RecordRead.{field_of, fields_of, Leads, Heads, ChildThere, AllThere, SortAt, SortedBy, SortsAs, RecordChecked, NodeChecked}
use Rattle.awhile.proofs.Lists.{all_head, all_tail}
use Rattle.awhile.proofs.Cases.{node_known, node_unknown}
use Rattle.record.proofs.Passing.{then_refused, then_passed, check_then, framed_then, framed_refused, framed_passed_on}
use Rattle.awhile.specs.contracts.Sort as sort
use Rattle.awhile.specs.declared.Sort.{Sort}
use Rattle.awhile.specs.declared.Sort.TheVariants.{Numeric, Truth, Command}
use Rattle.awhile.specs.declared.Header.{Header}
use Rattle.record.specs.declared.forms.Field.{Field as FieldRead}
use Rattle.record.specs.declared.forms.Field.TheVariants.{Constant, Variable, Array, Child}
use Rattle.record.specs.declared.forms.Fields.{Fields}
use Rattle.record.specs.declared.forms.Fields.TheVariants.{Word}
use Rattle.awhile.specs.declared.Node.{Node}
use Rattle.awhile.specs.declared.Node.TheVariants.{Skip}
use Rattle.awhile.specs.declared.Refusal.{Refusal}
use Rattle.awhile.specs.declared.Refusal.TheVariants.{OutOfRange, WrongSort}

-- a sort that is not the wanted one
pub not_numeric_lem : (s : Sort) → OneOf (1 ∷ 2 ∷ []) (tag_of sort.the_type s) → same_sort s Numeric ≡ false
unfolding same_sort
not_numeric_lem Numeric h = absurd (⊎_elim (λ e. omega arith) (λ e. omega arith) h)
not_numeric_lem Truth h = refl
not_numeric_lem Command h = refl

-- not a truth
pub not_truth_lem : (s : Sort) → OneOf (0 ∷ 2 ∷ []) (tag_of sort.the_type s) → same_sort s Truth ≡ false
unfolding same_sort
not_truth_lem Numeric h = refl
not_truth_lem Truth h = absurd (⊎_elim (λ e. omega arith) (λ e. omega arith) h)
not_truth_lem Command h = refl

-- not a command
pub not_command_lem : (s : Sort) → OneOf (0 ∷ 1 ∷ []) (tag_of sort.the_type s) → same_sort s Command ≡ false
unfolding same_sort
not_command_lem Numeric h = refl
not_command_lem Truth h = refl
not_command_lem Command h = absurd (⊎_elim (λ e. omega arith) (λ e. omega arith) h)

-- `==` tells whether two sorts are the same
pub sorts_equal : (a b : Sort) → sameb sort.the_type a b ≡ same_sort a b
unfolding same_sort
sorts_equal Numeric Numeric = refl
sorts_equal Numeric Truth = refl
sorts_equal Numeric Command = refl
sorts_equal Truth Numeric = refl
sorts_equal Truth Truth = refl
sorts_equal Truth Command = refl
sorts_equal Command Numeric = refl
sorts_equal Command Truth = refl
sorts_equal Command Command = refl

-- a field that is no child asks for no sort
not_child : (f : FieldRead) → ((s : Sort) (n : ℕ) → f ≡ Child s n → ⊥) → (ns : List Node) → field_sorted ns (field_of f) ≡ true
unfolding field_sorted
not_child (Constant n) h ns = refl
not_child (Variable x) h ns = refl
not_child (Array a) h ns = refl
not_child (Child s n) h ns = absurd (h s n refl)

-- and names no child
pub no_children : (f : FieldRead) → ((s : Sort) (n : ℕ) → f ≡ Child s n → ⊥) → field_children (field_of f) ≡ []
unfolding field_children
no_children (Constant n) h = refl
no_children (Variable x) h = refl
no_children (Array a) h = refl
no_children (Child s n) h = absurd (h s n refl)

-- ---- the children that fields name
module _ (s index : List ℕ) (vs arrs n : ℕ) (h : Heads s index n) where
  -- a child in range is one of the nodes before
  child_there : (f : Field) → field_in_range vs arrs n f ≡ true → ChildThere s index f
  unfolding field_in_range
  child_there f ranged =
      record {
        there = λ sort node e.
            let below = ltb-true node n (ap (field_in_range vs arrs n) (sym e) ∙ ranged) in
            (omega (arith, h.long, below), h.whole node below);
      }

  -- so are all of them
  pub all_there : (fs : List Field) → all (field_in_range vs arrs n) fs ≡ true → AllThere s index fs
  all_there [] e = tt
  all_there (f ∷ fs) e = (child_there f (all_head (field_in_range vs arrs n) f fs e), all_there fs (all_tail (field_in_range vs arrs n) f fs e))

-- ---- all sorts
module _ (s index : List ℕ) where
  -- a field that names no child passes
  pub none_sorted : (f : FieldRead) → ((s : Sort) (n : ℕ) → f ≡ Child s n → ⊥) → SortedBy s index (field_of f ∷ []) true
  unfolding all
  none_sorted f other = record { is_sorted = λ vs arrs ns leads ranged. rw (not_child f other ns) }

  -- a child whose record is found by the index passes where it is of the wanted sort
  child_sorted : (wanted found : Sort) (node : ℕ) → SortAt s (get_or index node 0) found → SortedBy s index (child wanted node ∷ []) (same_sort found wanted)
  unfolding all field_sorted field_in_range
  child_sorted wanted found node there =
      record {
        is_sorted = λ vs arrs ns leads ranged.
            let below = ltb-true node (length ns) (all_head (field_in_range vs arrs (length ns)) (child wanted node) [] ranged) in
            let same : found ≡ sort_of (get_or ns node Skip) = there.is_sort (get_or ns node Skip) (leads.decoded node below) in
            rw (and-true, ← same) refl;
      }

  -- so the test of one child's sort is that of its field
  pub child_tested : (at : ℕ) (wanted found : Sort) (node : ℕ) (r : Result (Unit {0}) Refusal) → SortAt s (get_or index node 0) found
      → r ≡ as_result (check (same_sort found wanted) (WrongSort at) passed) → SortsAs s index at (child wanted node ∷ []) r
  unfolding as_result check
  child_tested at wanted found node r there e = go (same_sort found wanted) (child_sorted wanted found node there) e
    where
      go : (b : Bool) → SortedBy s index (child wanted node ∷ []) b → r ≡ as_result (check b (WrongSort at) passed) → SortsAs s index at (child wanted node ∷ []) r
      go true q e = rw e q
      go false q e = rw e (refl, q)

  -- no fields pass
  pub nothing_sorted : SortedBy s index [] true
  unfolding all
  nothing_sorted = record { is_sorted = λ vs arrs ns leads ranged. refl }

  -- a field is tested before the others
  pub sorted_more : (f : Field) (fs : List Field) (a r : Bool) → SortedBy s index (f ∷ []) a → SortedBy s index fs r → SortedBy s index (f ∷ fs) (a && r)
  unfolding all
  sorted_more f fs a r h rest =
      record {
        is_sorted = λ vs arrs ns leads ranged.
            let range = field_in_range vs arrs (length ns) in
            let one : a ≡ field_sorted ns f = rw and-true at (h.is_sorted vs arrs ns leads (rw (all_head range f fs ranged))) in
            rw (← one, rest.is_sorted vs arrs ns leads (all_tail range f fs ranged));
      }

  -- one that is not of the wanted sort decides
  pub sorted_never : (f : Field) (fs : List Field) → SortedBy s index (f ∷ []) false → SortedBy s index (f ∷ fs) false
  unfolding all
  sorted_never f fs h =
      record {
        is_sorted = λ vs arrs ns leads ranged.
            let one : false ≡ field_sorted ns f = rw and-true at (h.is_sorted vs arrs ns leads (rw (all_head (field_in_range vs arrs (length ns)) f fs ranged))) in
            rw (← one);
      }

-- ---- a whole record
module _ (s index : List ℕ) (h : Header) (n at : ℕ) (fs : List Field) where
  -- its frame is refused
  pub frame_stops : (r : Refusal) → as_result (framed s at (4 + sum (map field_size fs)) passed) ≡ Err r → RecordChecked s index h n at fs (Err r)
  unfolding as_result
  frame_stops r e = record { is_checked = λ before counted leads. rw (framed_refused _ _ _ _ r e) }

  module _ (whole : as_result (framed s at (4 + sum (map field_size fs)) passed) ≡ Ok tt) where
    -- a field is out of range
    pub ranges_stop : all (field_in_range h.variables h.arrays n) fs ≡ false → RecordChecked s index h n at fs (Err (OutOfRange at))
    unfolding as_result check
    ranges_stop e = record { is_checked = λ before counted leads. rw (framed_passed_on _ _ _ _ whole, e) }

    module _ (ranged : all (field_in_range h.variables h.arrays n) fs ≡ true) where
      sorted_so : (r : Bool) → SortedBy s index fs r → (before : List Node) → length before ≡ n → Leads s index before → r ≡ all (field_sorted before) fs
      sorted_so r q before counted leads = q.is_sorted h.variables h.arrays before leads (rw counted ranged)

      -- the sorts decide
      pub sorts_decide : (r : Result (Unit {0}) Refusal) → SortsAs s index at fs r → RecordChecked s index h n at fs r
      unfolding as_result check
      sorts_decide (Err r) q =
          record { is_checked = λ before counted leads. rw (framed_passed_on _ _ _ _ whole, ranged, ← sorted_so false q.1 before counted leads, q.0) }
      sorts_decide (Ok u) q =
          record { is_checked = λ before counted leads. rw (framed_passed_on _ _ _ _ whole, ranged, ← sorted_so true q before counted leads) }

-- a word asks for no more than its frame
pub word_checked : (s index : List ℕ) (h : Header) (n at : ℕ) (fs : Fields) {value : ℕ} → fs ≡ Word value → (r : Result (Unit {0}) Refusal)
    → r ≡ as_result (framed s at (4 + sum (map field_size (fields_of fs))) passed) → RecordChecked s index h n at (fields_of fs) r
unfolding all field_in_range field_sorted check
word_checked s index h n at fs is r e = record { is_checked = λ before counted leads. rw is (rw is at e) }

-- ---- a node's record, read with an index of the nodes before
module _ (s index : List ℕ) (h : Header) (n at : ℕ) where
  -- of no kind
  pub unknown_read : (x : Refusal) → decode_at s at ≡ None → framed s at 0 (got Skip) ≡ refused x → NodeChecked s index h n at (Err x)
  unknown_read x d e = record { is_read = λ before counted leads version nodes. node_unknown _ _ _ _ d ∙ e }

  -- of a kind: it is read where the tests of its record pass
  module _ (m : Node) (d : decode_at s at ≡ Some m) (fs : Fields) (held : fields_of fs ≡ (form m).fields) where
    node_then : (before : List Node) → length before ≡ n → (version nodes : ℕ)
        → read_node (record { version = version; variables = h.variables; arrays = h.arrays; nodes = nodes }) s at before
        ≡ and_then (framed s at (4 + sum (map field_size (fields_of fs))) (check (all (field_in_range h.variables h.arrays n) (fields_of fs)) (OutOfRange at) (check (all (field_sorted before) (fields_of fs)) (WrongSort at) passed))) (λ w. got m)
    unfolding in_range sorted size_of and_then
    node_then before counted version nodes =
        rw (node_known _ _ _ _ _ d, counted, held) (framed_then _ _ _ _ _ _ (check_then _ _ _ _ _ (check_then _ _ _ _ _ refl)))

    pub record_refused : (r : Refusal) → RecordChecked s index h n at (fields_of fs) (Err r) → NodeChecked s index h n at (Err r)
    record_refused r q =
        record { is_read = λ before counted leads version nodes. node_then before counted version nodes ∙ then_refused _ _ r (sym (q.is_checked before counted leads)) }

    pub record_read : RecordChecked s index h n at (fields_of fs) (Ok tt) → NodeChecked s index h n at (Ok fs)
    record_read q =
        record {
          is_read = λ before counted leads version nodes.
              record { node = m; is_node = node_then before counted version nodes ∙ then_passed _ _ tt (sym (q.is_checked before counted leads)); is_fields = held };
        }
