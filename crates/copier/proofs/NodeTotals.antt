-- Totals: each made from those of the node's parts, and what it tells of every copy.
use Prim.Native.Nat.{ℕ, ◌+◌, ◌*◌, ◌≤◌, ◌<◌}
use native.Mathlib.Omega.{arith}
use mathlib.Core.Bool.{Bool}
use mathlib.Core.List.{List, [], ◌∷◌, ◌++◌, append_assoc, append-nil, flat_map}
use mathlib.Core.Path.{◌≡◌, refl, sym, subst}
use lib.ListN.{length, get_or}
use Rattle.std.proofs.Common.{All, map, sum_by}
use Rattle.std.proofs.lemmas.List.{length-map}
use Rattle.std.proofs.lemmas.List.Sums.{sum_by-cons, sum_by-le, sum-map}
use Rattle.bytes_le.proofs.Numbers.{Below}
use Rattle.awhile.specs.Language.{AExp, number, variable, add, subtract, multiply, choice}
use Rattle.awhile.specs.Language.{BExp, constant, equal, less, not, and}
use Rattle.awhile.specs.Lists.{sum}
use Rattle.awhile.specs.Nodes.{form, field_size, size_of, sort_of, node_bytes}
use Rattle.awhile.specs.Encoding.{nodes_of_a, nodes_of_b, binary, ternary, write_a, write_b}
use Rattle.awhile.specs.Tables.{max_nodes}
use Rattle.awhile.specs.declared.Node.{Node}
use Rattle.awhile.specs.declared.Sort.TheVariants.{Numeric, Truth, Command}
use Rattle.reader.specs.Index.{node_in, numeric_in, truth_in, Indexed}
use Rattle.reader.proofs.Index.{indexed_few, numeric_size, truth_size}
use Rattle.copier.specs.Sizes.{bytes_of_a, bytes_of_b}
use Rattle.copier.specs.Totals.{largest, HasTotal, total, total_of_a, total_of_b, Totals, EachTotals, Over, OverOne, OverTwo, OverThree}
use Rattle.copier.specs.Totals.{NumericTotal, TruthTotal, NodeTotal, AllTotals, Tells, EveryCopy}
use Rattle.copier.proofs.Lengths.{Counted, Short, counted_append, counted_a, counted_b, over_one, bytes_a, bytes_b}

-- nodes are as many as they are
counted : (ns : List Node) → Counted ns (length ns) (length (flat_map node_bytes ns))
counted ns = record { nodes_are = refl; bytes_are = refl }

-- ---- THE LAW: a total is that of the parts' copies with the node's own record behind them
-- the parts' copies, one behind the other
all_totals : (copies : List (List Node)) (parts : List ℕ) → EachTotals copies parts → Totals (flat_map (λ c. c) copies) (sum_by (λ p. p) parts)
unfolding flat_map
all_totals [] [] each = record { adds = refl }
all_totals (c ∷ cs) (p ∷ ps) each =
    let both = counted_append (counted c) (counted (flat_map (λ c. c) cs)) in
    record { adds = omega (arith, each.0.adds, (all_totals cs ps each.1).adds, both.nodes_are, both.bytes_are, sum_by-cons (λ p. p) p ps) }
all_totals [] (p ∷ ps) each = absurd each
all_totals (c ∷ cs) [] each = absurd each

pub total_over : (parts : List ℕ) {r : ℕ} → r ≡ sum_by (λ p. p) parts + total 1 (4 + 2 * length parts) → Over parts r
total_over parts e =
    record {
      over = λ copies n own each.
          let all = all_totals copies parts each in
          let c = over_one n own (counted (flat_map (λ c. c) copies)) in
          record { adds = omega (arith, all.adds, c.nodes_are, c.bytes_are) };
    }

pub total_over_one : {s r : ℕ} → r ≡ s + total 1 6 → OverOne s r
total_over_one {s} e = total_over (s ∷ []) (omega arith)

pub total_over_two : {s u r : ℕ} → r ≡ s + u + total 1 8 → OverTwo s u r
total_over_two {s} {u} e = total_over (s ∷ u ∷ []) (omega arith)

pub total_over_three : {s u w r : ℕ} → r ≡ s + u + w + total 1 10 → OverThree s u w r
total_over_three {s} {u} {w} e = total_over (s ∷ u ∷ w ∷ []) (omega arith)

-- the total of parts that stand in a slice
pub total_over_each : (totals parts : List ℕ) (size : ℕ) {sum r : ℕ} → size ≡ 4 + 2 * length parts
    → sum ≡ sum_by (λ part. get_or totals part 0) parts → r ≡ sum + total 1 size → Over (map (λ part. get_or totals part 0) parts) r
total_over_each totals parts size own added e =
    let f : ℕ → ℕ = λ part. get_or totals part 0 in total_over (map f parts) (omega (arith, e, added, sum-map f parts, length-map parts f))

-- parts that have totals stand in the slice, and the sum of these is small
pub all_inside : (totals parts : List ℕ) → All (HasTotal totals) parts → All (λ part. part < length totals) parts
all_inside totals parts each = λ k d inside. (each k d inside).inside

pub sum_small : (totals parts : List ℕ) → All (HasTotal totals) parts → sum_by (λ part. get_or totals part 0) parts ≤ length parts * largest
sum_small totals parts each = sum_by-le (λ part. get_or totals part 0) largest parts (λ k d inside. (each k d inside).small)

-- with the parts' copies written out
pub behind_one : {s r : ℕ} → OverOne s r → (copy : List Node) (n : Node) → size_of n ≡ 6 → Totals copy s → Totals (copy ++ (n ∷ [])) r
unfolding flat_map
behind_one o copy n own a = rw append-nil at (o.over (copy ∷ []) n own (a, tt))

pub behind_two : {s u r : ℕ} → OverTwo s u r → (copy next : List Node) (n : Node) → size_of n ≡ 8 → Totals copy s → Totals next u
    → Totals (copy ++ (next ++ (n ∷ []))) r
unfolding flat_map
behind_two o copy next n own a b = simp (append-nil, append_assoc) at (o.over (copy ∷ next ∷ []) n own (a, (b, tt)))

pub behind_three : {s u w r : ℕ} → OverThree s u w r → (copy next last : List Node) (n : Node) → size_of n ≡ 10 → Totals copy s → Totals next u → Totals last w
    → Totals (copy ++ (next ++ (last ++ (n ∷ [])))) r
unfolding flat_map
behind_three o copy next last n own a b d = simp (append-nil, append_assoc) at (o.over (copy ∷ next ∷ last ∷ []) n own (a, (b, (d, tt))))

-- ---- the totals of expressions
-- an expression's own count is its total
pub total_a : (e : AExp) → NumericTotal e (total_of_a e)
total_a e = record { every = λ from. let c = counted_a from e in record { adds = omega (arith, c.nodes_are, c.bytes_are) } }

pub total_b : (b : BExp) → TruthTotal b (total_of_b b)
total_b b = record { every = λ from. let c = counted_b from b in record { adds = omega (arith, c.nodes_are, c.bytes_are) } }

-- a number, a variable and a constant
pub total_number : (v : ℕ) → NumericTotal (number v) (total 1 8)
unfolding nodes_of_a bytes_of_a
total_number v = total_a (number v)

pub total_variable : (x : ℕ) → NumericTotal (variable x) (total 1 6)
unfolding nodes_of_a bytes_of_a
total_variable x = total_a (variable x)

pub total_constant : (v : Bool) → TruthTotal (constant v) (total 1 6)
unfolding nodes_of_b bytes_of_b
total_constant v = total_b (constant v)

-- an expression over two numerics
module _ {a b : AExp} {s u r : ℕ} (x : NumericTotal a s) (y : NumericTotal b u) (o : OverTwo s u r) where
  pub total_add : NumericTotal (add a b) r
  unfolding write_a binary size_of form field_size sum
  total_add = record { every = λ from. behind_two o (write_a from a) (write_a (from + nodes_of_a a) b) _ refl (x.every from) (y.every (from + nodes_of_a a)) }

  pub total_subtract : NumericTotal (subtract a b) r
  unfolding write_a binary size_of form field_size sum
  total_subtract = record { every = λ from. behind_two o (write_a from a) (write_a (from + nodes_of_a a) b) _ refl (x.every from) (y.every (from + nodes_of_a a)) }

  pub total_multiply : NumericTotal (multiply a b) r
  unfolding write_a binary size_of form field_size sum
  total_multiply = record { every = λ from. behind_two o (write_a from a) (write_a (from + nodes_of_a a) b) _ refl (x.every from) (y.every (from + nodes_of_a a)) }

  pub total_equal : TruthTotal (equal a b) r
  unfolding write_b binary size_of form field_size sum
  total_equal = record { every = λ from. behind_two o (write_a from a) (write_a (from + nodes_of_a a) b) _ refl (x.every from) (y.every (from + nodes_of_a a)) }

  pub total_less : TruthTotal (less a b) r
  unfolding write_b binary size_of form field_size sum
  total_less = record { every = λ from. behind_two o (write_a from a) (write_a (from + nodes_of_a a) b) _ refl (x.every from) (y.every (from + nodes_of_a a)) }

-- a not, an and, and a choice
module _ {b : BExp} {s r : ℕ} (x : TruthTotal b s) where
  pub total_not : OverOne s r → TruthTotal (not b) r
  unfolding write_b size_of form field_size sum
  total_not o = record { every = λ from. behind_one o (write_b from b) _ refl (x.every from) }

  pub total_and : {c : BExp} {u : ℕ} → TruthTotal c u → OverTwo s u r → TruthTotal (and b c) r
  unfolding write_b binary size_of form field_size sum
  total_and {c} y o =
      record { every = λ from. behind_two o (write_b from b) (write_b (from + nodes_of_b b) c) _ refl (x.every from) (y.every (from + nodes_of_b b)) }

  pub total_choice : {a c : AExp} {u w : ℕ} → NumericTotal a u → NumericTotal c w → OverThree s u w r → NumericTotal (choice b a c) r
  unfolding write_a ternary size_of form field_size sum
  total_choice {a} {c} y z o =
      record {
        every = λ from.
            behind_three o (write_b from b) (write_a (from + nodes_of_b b) a) (write_a (from + nodes_of_b b + nodes_of_a a) c) _ refl (x.every from) (y.every (from + nodes_of_b b))
            (z.every (from + nodes_of_b b + nodes_of_a a));
      }

-- the total of an expression is that of what it is
pub numeric_as : {e f : AExp} {r : ℕ} → e ≡ f → NumericTotal f r → NumericTotal e r
numeric_as {r = r} p t = subst (λ e. NumericTotal e r) (sym p) t

pub truth_as : {b c : BExp} {r : ℕ} → b ≡ c → TruthTotal c r → TruthTotal b r
truth_as {r = r} p t = subst (λ e. TruthTotal e r) (sym p) t

-- an expression's total is what it counts
pub counted_total_a : {e : AExp} {t : ℕ} → NumericTotal e t → t ≡ total_of_a e
counted_total_a {e} t = let c = counted_a 0 e in omega (arith, (t.every 0).adds, c.nodes_are, c.bytes_are)

pub counted_total_b : {b : BExp} {t : ℕ} → TruthTotal b t → t ≡ total_of_b b
counted_total_b {b} t = let c = counted_b 0 b in omega (arith, (t.every 0).adds, c.nodes_are, c.bytes_are)

-- ---- the total of a node, by its sort
module _ {table : List ℕ} {n r : ℕ} where
  pub numeric_node : sort_of (node_in table n) ≡ Numeric → NumericTotal (numeric_in table n) r → NodeTotal table n r
  numeric_node e t = record { numeric = λ s. t; truth = λ s. absurd (let z : ◌≡◌ {A = ℕ} 0 1 = cc in omega arith) }

  pub truth_node : sort_of (node_in table n) ≡ Truth → TruthTotal (truth_in table n) r → NodeTotal table n r
  truth_node e t = record { numeric = λ s. absurd (let z : ◌≡◌ {A = ℕ} 0 1 = cc in omega arith); truth = λ s. t }

  pub command_node : sort_of (node_in table n) ≡ Command → NodeTotal table n r
  command_node e = record { numeric = λ s. absurd (let z : ◌≡◌ {A = ℕ} 0 1 = cc in omega arith); truth = λ s. absurd (let z : ◌≡◌ {A = ℕ} 0 1 = cc in omega arith) }

-- ---- THE THEOREM: a node's total tells the nodes and the bytes of every copy of its expression, wherever its numbering starts
-- both can be read off, as no table has as many bytes as a node counts for
tells : {ns : List Node} {t i b : ℕ} → t ≡ total i b → Short i b → i ≤ max_nodes → Counted ns i b → Tells ns t
tells e short few c = record { nodes_are = omega (arith, short.short, c.nodes_are); bytes_are = omega (arith, short.short, c.bytes_are) }

module _ {table index : List ℕ} (bytes : Below 256 table) (indexed : Indexed table index) where
  pub totals_every_copy : {totals : List ℕ} → AllTotals table totals → EveryCopy table totals
  totals_every_copy t =
      let few = indexed_few table index bytes indexed in
      record {
        numeric = λ n from inside sort.
            tells (counted_total_a ((t.at n inside).numeric sort)) (bytes_a (numeric_in table n)) (omega (arith, numeric_size table index bytes indexed n inside sort, few))
            (counted_a from (numeric_in table n));
        truth = λ n from inside sort.
            tells (counted_total_b ((t.at n inside).truth sort)) (bytes_b (truth_in table n)) (omega (arith, truth_size table index bytes indexed n inside sort, few))
            (counted_b from (truth_in table n));
      }
