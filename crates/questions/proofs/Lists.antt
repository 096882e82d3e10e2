-- Which lists of questions are answered, as the code tells it.
use Prim.Native.Nat.{ℕ, zero, suc, ◌+◌, ◌*◌, ◌%◌, ◌<◌, ◌≤◌}
use native.Mathlib.Omega.{arith}
use native.Mathlib.Numerals.{add-one}
use mathlib.Core.Bool.{Bool, true, false, ◌&&◌}
use mathlib.Core.Path.{◌≡◌, refl, sym, ap, ◌∙◌}
use mathlib.Core.List.{List}
use lib.Dec.{ltb, leb, eqb}
use lib.ListN.{length}
use Rattle.std.specs.List.{list_all, range_with_len}
use borrow.Author.Tests.{le-leb, lt-leb, le-ltb, lt-ltb}
use Rattle.awhile.specs.Nodes.{sort_of, same_sort}
use Rattle.awhile.specs.Tables.{Table, declarations_of}
use Rattle.awhile.specs.declared.Declarations.{Declarations}
use Rattle.awhile.specs.declared.Sort.TheVariants.{Command}
use Rattle.reader.specs.Index.{table_of, nodes_in, node_in}
use Rattle.labels.specs.Questions.{max_questions, pairs_in, question_at, is_command, askable, all_askable, answerable}
use Rattle.labels.specs.declared.Question.{Question}

and_true : (b : Bool) → b ≡ b && true
and_true true = refl
and_true false = refl

and_assoc : (x y z : Bool) → (x && y) && z ≡ x && (y && z)
and_assoc true y z = refl
and_assoc false y z = refl

-- ---- one question
module _ (table : List ℕ) (q : Question) where
  -- a node of the table is a command by its sort, and one that is none is no command
  pub by_sort : {count : ℕ} → q.node < count → count ≡ nodes_in table → {b : Bool} → b ≡ same_sort (sort_of (node_in table q.node)) Command → b ≡ is_command (table_of table) q.node
  unfolding is_command nodes_in node_in
  by_sort h n e =
      let node : q.node < length (table_of table).nodes = omega (arith, n) in e ∙ rw (lt-ltb q.node (length (table_of table).nodes) node) refl

  pub beyond_nodes : {count : ℕ} → count ≤ q.node → count ≡ nodes_in table → ltb q.node count ≡ is_command (table_of table) q.node
  unfolding is_command nodes_in
  beyond_nodes {count} h n =
      let none : length (table_of table).nodes ≤ q.node = omega (arith, n) in
      le-ltb q.node count h ∙ rw (le-ltb q.node (length (table_of table).nodes) none) refl

  -- of a command every declared variable can be asked
  module _ {b : Bool} (is : b ≡ is_command (table_of table) q.node) where
    pub by_variable : b ≡ true → {d : Declarations} → d ≡ declarations_of (table_of table) → ltb q.variable d.header.variables ≡ askable (table_of table) q
    unfolding askable
    by_variable e f = rw (f, ← is, e) refl

    -- of what is no command, none
    pub by_node : b ≡ false → b ≡ askable (table_of table) q
    unfolding askable
    by_node e = rw (← is, e) refl

-- ---- the first so many
module _ (t : Table) (s : List ℕ) where
  shuffle : (x y z : Bool) → (x && y) && z ≡ y && (x && z)
  shuffle true y z = refl
  shuffle false true z = refl
  shuffle false false z = refl

  next : (i : ℕ) → askable t (question_at s i) && all_askable t s i ≡ all_askable t s (i + 1)
  unfolding all_askable
  next i = rw add-one refl

  -- those from i on, and all before
  from_on : (n i : ℕ) → list_all (λ k. askable t (question_at s k)) (range_with_len i n) && all_askable t s i ≡ all_askable t s (i + n)
  from_on zero i = ap (all_askable t s) (omega arith)
  from_on (suc n) i =
      let rest = list_all (λ k. askable t (question_at s k)) (range_with_len (i + 1) n) in
      shuffle (askable t (question_at s i)) rest (all_askable t s i) ∙ ap (λ b. rest && b) (next i) ∙ from_on n (i + 1) ∙ ap (all_askable t s) (omega arith)

  pub each_askable : (n : ℕ) → list_all (λ k. askable t (question_at s k)) (range_with_len 0 n) ≡ all_askable t s n
  unfolding all_askable
  each_askable n = and_true (list_all (λ k. askable t (question_at s k)) (range_with_len 0 n)) ∙ from_on n 0 ∙ ap (all_askable t s) (omega arith)

-- ---- the whole list
-- as long as a list may be, and of whole pairs
abbrev pub well_long : List ℕ → Bool
well_long s = leb (length s) (4 * max_questions) && eqb (length s % 4) 0

module _ (s : List ℕ) where
  pub short_enough : length s ≤ 4 * max_questions → eqb (length s % 4) 0 ≡ well_long s
  short_enough h = rw (le-leb (length s) (4 * max_questions) h) refl

  pub too_long : 4 * max_questions < length s → leb (length s) (4 * max_questions) ≡ well_long s
  too_long h = let long = lt-leb (length s) (4 * max_questions) h in rw (long) refl

module _ (t : Table) (s : List ℕ) {b : Bool} (is : b ≡ well_long s) where
  and_all : well_long s && all_askable t s (pairs_in s) ≡ answerable t s
  unfolding answerable
  and_all = and_assoc (leb (length s) (4 * max_questions)) (eqb (length s % 4) 0) (all_askable t s (pairs_in s))

  -- such a list is answered by its questions, and no other
  pub by_questions : b ≡ true → {r : Bool} → r ≡ all_askable t s (pairs_in s) → r ≡ answerable t s
  by_questions e f = f ∙ ap (λ k. k && all_askable t s (pairs_in s)) (sym e ∙ is) ∙ and_all

  pub by_length : b ≡ false → b ≡ answerable t s
  by_length e = e ∙ ap (λ k. k && all_askable t s (pairs_in s)) (sym e ∙ is) ∙ and_all

-- whether a question can be asked, and whether a list is answered, by what was tested
pub ruleset by_tests = (by_sort, beyond_nodes, by_variable, by_node, short_enough, too_long, by_questions, by_length)
