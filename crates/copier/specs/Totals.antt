-- Totals: how much a copy takes, so many nodes in so many bytes, as one number. Totals are added up as nodes and bytes are; and as no table has more
-- than 40,960 bytes of nodes, both can be read off one.
use Rattle.std.specs.Prelude.{ℕ, ◌+◌, ◌*◌, ◌/◌, ◌%◌, ◌≤◌, ◌<◌, ◌≡◌, length, get_or}
use mathlib.Core.List.{List, [], ◌∷◌, ◌++◌, flat_map}
use Rattle.awhile.specs.Encoding.{nodes_of_a, nodes_of_b, nodes_of, write_a, write_b}
use Rattle.awhile.specs.Language.{AExp, BExp, Com}
use Rattle.awhile.specs.Nodes.{size_of, sort_of, node_bytes}
use Rattle.awhile.specs.declared.Node.{Node}
use Rattle.awhile.specs.declared.Sort.TheVariants.{Numeric, Truth}
use Rattle.reader.specs.Index.{nodes_in, node_in, numeric_in, truth_in}
use Rattle.copier.specs.Sizes.{bytes_of_a, bytes_of_b, bytes_of}

-- so many nodes in so many bytes
abbrev pub total : (nodes bytes : ℕ) → ℕ
total nodes bytes = 65536 * nodes + bytes

-- what is read off a total
abbrev pub nodes_told : (answer : ℕ) → ℕ
nodes_told t = t / 65536

abbrev pub bytes_told : (answer : ℕ) → ℕ
bytes_told t = t % 65536

-- the totals of expressions and of commands
abbrev pub total_of_a : AExp → ℕ
total_of_a e = total (nodes_of_a e) (bytes_of_a e)

abbrev pub total_of_b : BExp → ℕ
total_of_b b = total (nodes_of_b b) (bytes_of_b b)

module _ {Note : Type 0} where
  abbrev pub total_of : Com Note → ℕ
  total_of c = total (nodes_of c) (bytes_of c)

-- the largest that is kept: 12,288 nodes of 10 bytes, 24 for each of the 512 nodes that a table may have to be hardened (`hardened_most`, masks)
abbrev pub largest : ℕ
largest = total 12288 (10 * 12288)

-- ---- one total made from others
-- a number is the total of these nodes
pub record Totals (nodes : List Node) (answer : ℕ) : Type 0 where
  pub adds : answer ≡ total (length nodes) (length (flat_map node_bytes nodes))

-- numbers are the totals of these lists of nodes, each of the one in its place
abbrev pub EachTotals : List (List Node) → (totals : List ℕ) → Type 0
EachTotals [] [] = Unit {0}
EachTotals (copy ∷ copies) (total ∷ totals) = Totals copy total × EachTotals copies totals
EachTotals [] (total ∷ totals) = ⊥
EachTotals (copy ∷ copies) [] = ⊥

-- the total of a node over so many parts: whatever copies the parts' totals are of, the node's own record stands behind them
pub record Over (parts : List ℕ) (answer : ℕ) : Type 0 where
  pub over : (copies : List (List Node)) (n : Node) → size_of n ≡ 4 + 2 * length parts → EachTotals copies parts
      → Totals (flat_map (λ c. c) copies ++ (n ∷ [])) answer

-- and so over one part, two and three
abbrev pub OverOne : (first answer : ℕ) → Type 0
OverOne s r = Over (s ∷ []) r

abbrev pub OverTwo : (first second answer : ℕ) → Type 0
OverTwo s u r = Over (s ∷ u ∷ []) r

abbrev pub OverThree : (first second third answer : ℕ) → Type 0
OverThree s u w r = Over (s ∷ u ∷ w ∷ []) r

-- a slice has a total for a node, and it is no larger than any can be
pub record HasTotal (totals : List ℕ) (n : ℕ) : Type 0 where
  pub inside : n < length totals
  pub small : get_or totals n 0 ≤ largest

-- the total of an expression is that of every copy, wherever its numbering starts
pub record NumericTotal (e : AExp) (answer : ℕ) : Type 0 where
  pub every : (from : ℕ) → Totals (write_a from e) answer

pub record TruthTotal (b : BExp) (answer : ℕ) : Type 0 where
  pub every : (from : ℕ) → Totals (write_b from b) answer

-- ---- the totals of a table's expressions
-- the total of a node that is an expression; of a command nothing is said here
pub record NodeTotal (table : List ℕ) (n answer : ℕ) : Type 0 where
  pub numeric : sort_of (node_in table n) ≡ Numeric → NumericTotal (numeric_in table n) answer
  pub truth : sort_of (node_in table n) ≡ Truth → TruthTotal (truth_in table n) answer

-- all expression nodes have theirs
pub record AllTotals (table totals : List ℕ) : Type 0 where
  pub at : (n : ℕ) → n < nodes_in table → NodeTotal table n (get_or totals n 0)

-- what a total tells of these nodes: how many they are, and their byte length
pub record Tells (nodes : List Node) (answer : ℕ) : Type 0 where
  pub nodes_are : nodes_told answer ≡ length nodes
  pub bytes_are : bytes_told answer ≡ length (flat_map node_bytes nodes)

-- P3: "one total per expression node", and "it is the byte length of every copy of that expression written", wherever its numbering starts
pub record EveryCopy (table totals : List ℕ) : Type 0 where
  pub numeric : (n from : ℕ) → n < nodes_in table → sort_of (node_in table n) ≡ Numeric → Tells (write_a from (numeric_in table n)) (get_or totals n 0)
  pub truth : (n from : ℕ) → n < nodes_in table → sort_of (node_in table n) ≡ Truth → Tells (write_b from (truth_in table n)) (get_or totals n 0)
