-- A record that is refused is refused by one of 1 to 5, and a table by one of 1 to 7.
use Prim.Native.Nat.{ℕ, zero, suc, ◌+◌, ◌≤◌}
use native.Mathlib.Omega.{arith}
use mathlib.Core.Bool.{Bool, true, false}
use mathlib.Core.Path.{◌≡◌, refl, sym, ap, subst, ◌∙◌}
use mathlib.Core.List.{List, [], ◌∷◌, ◌++◌}
use Rattle.awhile.specs.Lists.{sum}
use Rattle.awhile.specs.Refusals.{Answer, refused, got, check, and_then, refusal_number}
use Rattle.awhile.specs.Nodes.{size_of, decode_at}
use Rattle.awhile.specs.Tables.{array_size, labels_start, counts_start, nodes_start}
use Rattle.awhile.specs.Tables.{Table, framed, read_header, read_labels, read_count, read_counts, read_node, read_nodes, read_records, check_whole, read_table}
use Rattle.awhile.proofs.Accepted.{refused_got}
use Rattle.awhile.proofs.Cases.{counts_next, counts_refused, node_known, node_unknown, nodes_next, nodes_refused}
use Rattle.awhile.specs.declared.Header.{Header}
use Rattle.awhile.specs.declared.Node.{Node}
use Rattle.std.proofs.Common.{Option, Some, None}
use Rattle.awhile.specs.declared.Refusal.{Refusal}
use Rattle.awhile.specs.declared.Refusal.TheVariants.{NotATree, ExtraBytes}

-- an answer whose refusal, if it is one, is by one of 1 to 5
record ByRecord {A : Type 0} (a : Answer A) : Type 0 where
  cause : (r : Refusal) → a ≡ refused r → refusal_number r ≤ 5

module _ {A : Type 0} where
  by_got : (x : A) → ByRecord (got x)
  by_got x = record { cause = λ r e. absurd (refused_got r x (sym e)) }

  by_refused : (r : Refusal) → refusal_number r ≤ 5 → ByRecord {A = A} (refused r)
  by_refused r low = record { cause = λ q e. let same : r ≡ q = cc in subst (λ (x : Refusal). refusal_number x ≤ 5) same low }

  by_check : (b : Bool) (r : Refusal) (a : Answer A) → refusal_number r ≤ 5 → ByRecord a → ByRecord (check b r a)
  unfolding check
  by_check true r a low rest = rest
  by_check false r a low rest = by_refused r low

  by_frame : (s : List ℕ) (at wanted : ℕ) (a : Answer A) → ByRecord a → ByRecord (framed s at wanted a)
  unfolding framed
  by_frame s at wanted a rest = by_check _ _ _ (omega arith) (by_check _ _ _ (omega arith) (by_check _ _ _ (omega arith) rest))

by_then : {A B : Type 0} (a : Answer A) (f : A → Answer B) → ByRecord a → ((x : A) → ByRecord (f x)) → ByRecord (and_then a f)
unfolding and_then
by_then (refused r) f first next = by_refused r (first.cause r refl)
by_then (got x) f first next = next x

module _ (s : List ℕ) where
  header_cause : ByRecord (read_header s)
  unfolding read_header
  header_cause = by_frame _ _ _ _ (by_check _ _ _ (omega arith) (by_got _))

  labels_cause : (h : Header) (at : ℕ) → ByRecord (read_labels s h at)
  unfolding read_labels
  labels_cause h at = by_frame _ _ _ _ (by_check _ _ _ (omega arith) (by_got _))

  count_cause : (at before : ℕ) → ByRecord (read_count s at before)
  unfolding read_count
  count_cause at before = by_frame _ _ _ _ (by_check _ _ _ (omega arith) (by_got _))

  counts_cause : (left at : ℕ) (before : List ℕ) → ByRecord (read_counts left s at before)
  unfolding read_counts
  counts_cause zero at before = by_got before
  counts_cause (suc left) at before = go (read_count s at (sum before)) refl (λ n. counts_cause left (at + array_size) (before ++ (n ∷ [])))
    where
      go : (a : Answer ℕ) → read_count s at (sum before) ≡ a → ((n : ℕ) → ByRecord (read_counts left s (at + array_size) (before ++ (n ∷ []))))
          → ByRecord (read_counts (suc left) s at before)
      go (refused r) e rest = subst ByRecord (sym (counts_refused s at left before r e)) (by_refused r ((count_cause at (sum before)).cause r e))
      go (got n) e rest = subst ByRecord (sym (counts_next s at left before n e)) (rest n)

  node_cause : (h : Header) (at : ℕ) (before : List Node) → ByRecord (read_node h s at before)
  node_cause h at before = go (decode_at s at) refl
    where
      go : (d : Option Node) → decode_at s at ≡ d → ByRecord (read_node h s at before)
      go None e = subst ByRecord (sym (node_unknown s at h before e)) (by_frame _ _ _ _ (by_got _))
      go (Some n) e =
          subst ByRecord (sym (node_known s at h before n e)) (by_frame _ _ _ _ (by_check _ _ _ (omega arith) (by_check _ _ _ (omega arith) (by_got _))))

  nodes_cause : (left : ℕ) (h : Header) (at : ℕ) (before : List Node) → ByRecord (read_nodes left h s at before)
  unfolding read_nodes
  nodes_cause zero h at before = by_got before
  nodes_cause (suc left) h at before = go (read_node h s at before) refl (λ n. nodes_cause left h (at + size_of n) (before ++ (n ∷ [])))
    where
      go : (a : Answer Node) → read_node h s at before ≡ a → ((n : Node) → ByRecord (read_nodes left h s (at + size_of n) (before ++ (n ∷ []))))
          → ByRecord (read_nodes (suc left) h s at before)
      go (refused r) e rest = subst ByRecord (sym (nodes_refused s at h before left r e)) (by_refused r ((node_cause h at before).cause r e))
      go (got n) e rest = subst ByRecord (sym (nodes_next s at h before left n e)) (rest n)

  -- all records, each checked by itself: causes 1 to 5
  pub records_cause : (r : Refusal) → read_records s ≡ refused r → refusal_number r ≤ 5
  unfolding read_records
  records_cause =
      (by_then (read_header s) _ header_cause
      (λ h.
      by_then (read_labels s h (labels_start h)) _ (labels_cause h (labels_start h))
      (λ l.
      by_then (read_counts h.arrays s (counts_start h) []) _ (counts_cause h.arrays (counts_start h) [])
      (λ cs.
      by_then (read_nodes h.nodes h s (nodes_start h) []) _ (nodes_cause h.nodes h (nodes_start h) [])
      (λ ns.
      by_got _))))
      ).cause

  -- the whole table: 6 and 7 besides
  whole_cause : (t : Table) (a b : Bool) (six seven : ℕ) (r : Refusal)
      → check a (NotATree six) (check b (ExtraBytes seven) (got t)) ≡ refused r → refusal_number r ≤ 7
  unfolding check
  whole_cause t true true six seven r e = absurd (refused_got r t (sym e))
  whole_cause t true false six seven r e = let same : ExtraBytes seven ≡ r = cc in subst (λ (x : Refusal). refusal_number x ≤ 7) same (omega arith)
  whole_cause t false b six seven r e = let same : NotATree six ≡ r = cc in subst (λ (x : Refusal). refusal_number x ≤ 7) same (omega arith)

  pub table_cause : (r : Refusal) → read_table s ≡ refused r → refusal_number r ≤ 7
  unfolding read_table and_then check_whole
  table_cause r e = go (read_records s) refl e
    where
      go : (a : Answer Table) → read_records s ≡ a → and_then a (check_whole s) ≡ refused r → refusal_number r ≤ 7
      go (refused q) p h =
          let same : q ≡ r = cc in
          let low : refusal_number r ≤ 5 = records_cause r (p ∙ ap refused same) in
          omega arith
      go (got t) p h = whole_cause t _ _ _ _ r h
