-- The reader's answer, put together from what its parts answer.
use Prim.Native.Nat.{ℕ, ◌+◌, ◌-◌, ◌≤◌, ◌<◌}
use native.Mathlib.Omega.{arith}
use mathlib.Core.Bool.{true}
use mathlib.Core.Path.{◌≡◌, refl, sym, ap, ◌∙◌}
use mathlib.Core.List.{List, [], map}
use lib.ListN.{length, get_or, take}
use lib.Seq.{take-length}
use borrow.Author.Tests.{le-leb, lt-leb}
use Rattle.awhile.specs.Lists.{sum}
use Rattle.awhile.specs.Refusals.{Answer, as_result, refused, got, check, and_then}
use Rattle.awhile.specs.Nodes.{size_of, sort_of}
use Rattle.awhile.specs.Tables.{Table, header_of, declarations_of, labels_start, counts_start, nodes_start, offset_of}
use Rattle.awhile.specs.Tables.{read_header, read_labels, read_counts, read_nodes, read_records}
use Rattle.awhile.specs.Tables.{all_in_order, check_whole, read_table}
use Rattle.record.specs.RecordRead.{SortAt, Kept, OrderSearched}
use Rattle.reader.specs.Index.{table_of, nodes_in, Indexed, Ready, read_as, accepted_as, Answers, EndedAs, Finishes}
use Rattle.std.proofs.Common.{Some, None, Result, Ok, Err}
use Rattle.reader.specs.Walk.{NodesLeft, Declared, Counted, read_on}
use Rattle.reader.specs.declared.records.Progress.{Progress}
use Rattle.reader.proofs.Walking.{nodes_done}
use Rattle.awhile.proofs.Cases.{table_read, table_refused}
use Rattle.awhile.proofs.Accepted.{refused_got, counts_fit}
use Rattle.awhile.proofs.Lowest.{lowest_refused}
use Rattle.awhile.specs.declared.Declarations.{Declarations}
use Rattle.awhile.specs.declared.Header.{Header}
use Rattle.awhile.specs.declared.Labelling.{Labelling}
use Rattle.awhile.specs.declared.Sort.{Sort}
use Rattle.awhile.specs.declared.Node.{Node}
use Rattle.awhile.specs.declared.Node.TheVariants.{Skip}
use Rattle.awhile.specs.declared.Refusal.{Refusal}
use Rattle.awhile.specs.declared.Refusal.TheVariants.{NotATree, ExtraBytes}

-- the table that accepted bytes read as
table_of_lem : (s : List ℕ) (t : Table) → read_table s ≡ got t → table_of s ≡ t
unfolding table_of
table_of_lem s t e = rw (e, table_of)

-- ---- a record that is read leads on
module _ {A : Type 0} where
  pub read_stops : (a : Answer A) (after : A → Progress) (r : Refusal) → as_result a ≡ Err r → Err r ≡ read_on a after
  unfolding read_on as_result and_then
  read_stops (refused q) after r e = cc
  read_stops (got v) after r e = cc

  pub read_goes : (a : Answer A) (after : A → Progress) (v : A) → as_result a ≡ Ok v → Ok (after v) ≡ read_on a after
  unfolding read_on as_result and_then
  read_goes (refused q) after v e = cc
  read_goes (got w) after v e = cc

-- a table that is refused is answered by its refusal
pub refuses : (s index : List ℕ) (r : Refusal) → read_table s ≡ refused r → Answers s index (Err r)
unfolding read_as
refuses s index r e = record { answers = sym (ap read_as e); indexes = λ t f. absurd (refused_got r t (sym e ∙ f)) }

-- ---- after the last record
module _ (s index uses : List ℕ) (declared : Declarations) (end : ℕ) (root : Sort) (some : 0 < declared.header.nodes)
    (there : SortAt s (get_or index (declared.header.nodes - 1) 0) root) where
  all_nodes : (t : Table) → declarations_of t ≡ declared → length t.nodes ≡ declared.header.nodes
  all_nodes t d = ap (λ (x : Declarations). x.header.nodes) d

  -- the sort that is found is the last node's
  root_sort : (t : Table) → declarations_of t ≡ declared → Kept s index uses (nodes_start (header_of t)) t.nodes
      → sort_of (get_or t.nodes (declared.header.nodes - 1) Skip) ≡ root
  root_sort t d k =
      sym (there.is_sort (get_or t.nodes (declared.header.nodes - 1) Skip) (k.leads.decoded (declared.header.nodes - 1) (omega (arith, all_nodes t d))))

  -- the lowest node that is not in order: refused by 6 at its record
  pub finish_broken : (node place : ℕ) → OrderSearched uses declared.header.nodes root (Some node) → place ≡ get_or index node 0
      → Finishes s index uses declared end (Err (NotATree place))
  unfolding offset_of
  finish_broken node place search is_place =
      record {
        answers = λ t read d ends k.
            let low = search.found t.nodes (all_nodes t d) k.used (root_sort t d k) in
            let there : place ≡ offset_of t node = is_place ∙ k.offsets node low.is_node in
            rw there (lowest_refused s t read node low);
      }

  module _ (search : OrderSearched uses declared.header.nodes root None) where
    -- all are in order: what is left is where the bytes end
    in_order : (t : Table) → declarations_of t ≡ declared → Kept s index uses (nodes_start (header_of t)) t.nodes
        → all_in_order t.nodes (length t.nodes) ≡ true
    in_order t d k = search.found t.nodes (all_nodes t d) k.used (root_sort t d k)

    -- bytes after the last node: refused by 7 at the first of them
    pub finish_extra : end < length s → Finishes s index uses declared end (Err (ExtraBytes end))
    unfolding check_whole check
    finish_extra extra =
        record {
          answers = λ t read d ends k.
              table_read s t read ∙ rw (in_order t d k, ends, lt-leb (length s) end extra);
        }

    -- none: accepted
    pub finish_accepted : length s ≤ end → declared.header.nodes ≤ length index → Finishes s index uses declared end (Ok tt)
    unfolding check_whole check offset_of nodes_in
    finish_accepted whole long =
        record {
          answers = λ t read d ends k.
              let reads : read_table s ≡ got t = table_read s t read ∙ rw (in_order t d k, ends, le-leb (length s) end whole) in
              let same = table_of_lem s t reads in
              let indexed : Indexed s index =
              record { reads = reads ∙ ap got (sym same); long = rw same (omega (arith, all_nodes t d)); offsets = rw same (λ n inside. k.offsets n inside) } in
              record { indexed = indexed; declares = ap declarations_of same ∙ d };
        }

-- ---- from the nodes on
-- records read as far as the nodes: the nodes decide
records_then : (s : List ℕ) (h : Header) (l : Labelling) (cs : List ℕ) (a : Answer (List Node))
    → read_header s ≡ got h → read_labels s h (labels_start h) ≡ got l → read_counts h.arrays s (counts_start h) [] ≡ got cs → read_nodes h.nodes h s (nodes_start h) [] ≡ a
    → read_records s ≡ and_then a (λ ns. got (record { version = h.version; variables = h.variables; labels = l; counts = cs; nodes = ns }))
unfolding read_records and_then
records_then s h l cs a header labels counts nodes = rw (header, labels, counts, nodes)

module _ (s index : List ℕ) (declared : Declarations) where
  -- a refused labels record refuses the table
  pub labels_stop : (x : Refusal) → read_header s ≡ got declared.header → read_labels s declared.header (labels_start declared.header) ≡ refused x → read_table s ≡ refused x
  unfolding read_records and_then
  labels_stop x is_header e = table_refused s x (rw (is_header, e))

  -- so do a refused array record and a refused node record
  pub arrays_stop : (x : Refusal) → Declared s declared → read_counts declared.header.arrays s (counts_start declared.header) [] ≡ refused x → read_table s ≡ refused x
  unfolding read_records and_then
  arrays_stop x d e = table_refused s x (rw (d.is_header, d.is_labels, e))

  pub nodes_stopped : (x : Refusal) → Counted s declared → read_nodes declared.header.nodes declared.header s (nodes_start declared.header) [] ≡ refused x → read_table s ≡ refused x
  unfolding and_then
  nodes_stopped x c e = table_refused s x (records_then _ _ _ _ _ c.declared.is_header c.declared.is_labels c.is_counts e)

  -- nodes that were read leave it to the end
  pub nodes_finished : (uses : List ℕ) (at n : ℕ) (answer : Result (Unit {0}) Refusal) → Counted s declared → NodesLeft s declared.header index uses at n → n ≡ declared.header.nodes
      → Finishes s index uses declared at answer → EndedAs s index declared answer
  unfolding and_then offset_of sum
  nodes_finished uses at n answer c h-left all_read finishes =
      let cs = c.counts in
      let ns = h-left.before in
      let h = declared.header in
      let t : Table = record { version = h.version; variables = h.variables; labels = declared.labels; counts = cs; nodes = ns } in
      let fit = counts_fit s h.arrays (counts_start h) [] cs (omega arith) c.is_counts in
      let many : length cs ≡ h.arrays = ap length fit.whole ∙ fit.counted in
      let all_there : length ns ≡ h.nodes = h-left.counted ∙ all_read in
      let declares : declarations_of t ≡ declared =
      λ i. record { header = record { version = h.version; variables = h.variables; arrays = many i; nodes = all_there i }; cells = c.total i; labels = declared.labels } in
      let at_end : nodes_start (header_of t) + sum (map size_of (take (length ns) ns)) ≡ at = rw (many, take-length) (sym h-left.place) in
      finishes.answers t (records_then _ _ _ _ _ c.declared.is_header c.declared.is_labels c.is_counts (nodes_done _ _ _ _ _ _ h-left (omega (arith, all_read))))
      declares at_end (rw many h-left.kept)

-- ---- the whole table
-- a refused header refuses the table
pub header_stop : (s : List ℕ) (x : Refusal) → read_header s ≡ refused x → read_table s ≡ refused x
unfolding read_records and_then
header_stop s x e = table_refused s x (rw e)

-- ---- what a caller learns from the answer
module _ {s index : List ℕ} where
  -- a table that is ready was accepted
  pub accepts : {declared : Declarations} → Ready s index declared → Answers s index (Ok declared)
  unfolding read_as
  accepts ready = record { answers = sym (ap read_as ready.indexed.reads ∙ ap Ok ready.declares); indexes = λ t e. ready.indexed }

  -- and one that is accepted is ready
  pub reader_ready : {declared : Declarations} → Answers s index (Ok declared) → Ready s index declared
  unfolding read_as
  reader_ready {declared} h = go (read_table s) refl h.answers
    where
      go : (a : Answer Table) → read_table s ≡ a → Ok declared ≡ read_as (read_table s) → Ready s index declared
      go (refused r) e answers = absurd (let z : ◌≡◌ {A = ℕ} 0 1 = cc (answers ∙ ap read_as e) in omega arith)
      go (got t) e answers =
          let same : declarations_of t ≡ declared = cc (answers ∙ ap read_as e) in
          record { indexed = h.indexes t e; declares = rw (table_of_lem s t e) same }

  -- one that is refused is refused so
  pub refusing : {r : Refusal} → Answers s index (Err r) → read_table s ≡ refused r
  unfolding read_as
  refusing {r} h = go (read_table s) refl h.answers
    where
      go : (a : Answer Table) → read_table s ≡ a → Err r ≡ read_as (read_table s) → read_table s ≡ refused r
      go (refused q) e answers = let same : q ≡ r = cc (answers ∙ ap read_as e) in e ∙ ap refused same
      go (got t) e answers = absurd (let z : ◌≡◌ {A = ℕ} 0 1 = cc (answers ∙ ap read_as e) in omega arith)

-- a table that was read is accepted
pub accepts_read : (s : List ℕ) → read_table s ≡ got (table_of s) → accepted_as s ≡ Ok s
unfolding accepted_as
accepts_read s e = rw (e, accepted_as)

-- and one that is refused is not
pub accepts_not : (s : List ℕ) (r : Refusal) → read_table s ≡ refused r → accepted_as s ≡ Err r
unfolding accepted_as
accepts_not s r e = rw (e, accepted_as)

-- what accepting a table needs
pub ruleset accepting = (reader_ready, refusing, accepts_read, accepts_not)
