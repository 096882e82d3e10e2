-- Walking the node records: what is left to read from here is what is to be read of all nodes.
use Prim.Native.Nat.{ℕ, suc, ◌+◌, ◌-◌, ◌*◌, ◌≤◌, ◌<◌}
use native.Mathlib.Omega.{arith}
use mathlib.Core.Bool.{true}
use mathlib.Core.Path.{◌≡◌, refl, ap, ◌∙◌, subst}
use mathlib.Core.List.{List, [], ◌∷◌, ◌++◌, map, map-append, flat_map, append-nil}
use lib.ListN.{length, get_or, set, take, length-append, get_or-append}
use lib.Seq.{get_or-set_same, get_or-set_other, get_or_at, take-append-le, take_at}
use Rattle.bytes_le.proofs.Numbers.{Below}
use Rattle.awhile.specs.Lists.{sum, all, occurrences}
use Rattle.awhile.specs.Refusals.{refused, got}
use Rattle.awhile.specs.Nodes.{field_size, size_of, decode_at, field_in_range, in_range, field_children, children_of}
use Rattle.awhile.specs.Tables.{max_nodes, nodes_start, read_node, read_nodes, uses_of, header_size, array_size}
use Rattle.awhile.proofs.Versions.{mask_most}
use Rattle.record.specs.RecordRead.{fields_of, tally, all_below, CountsBelow, Heads, Kept, NodeKnown, NodeChecked}
use Rattle.reader.specs.Walk.{NodesLeft}
use Rattle.awhile.proofs.Lists.{sum-append, occurrences_append, flat_map_append}
use Rattle.awhile.proofs.Cases.{nodes_next, nodes_refused}
use Rattle.awhile.proofs.Records.{sizes_most}
use Rattle.awhile.proofs.Accepted.{NodeRead, node_read_lem}
use Rattle.record.proofs.RecordForms.{fields_few}
use borrow.Author.Count.{below_more}
use Rattle.record.proofs.Tally.{get_or-tally, occurrences_most, fields_children, fields_below, below_weaken}
use Rattle.awhile.specs.declared.Header.{Header}
use Rattle.awhile.specs.declared.Node.{Node}
use Rattle.awhile.specs.declared.Node.TheVariants.{Skip}
use Rattle.std.proofs.Common.{Some, Ok, Err}
use Rattle.awhile.specs.declared.Refusal.{Refusal}
use Rattle.record.specs.declared.forms.Fields.{Fields}

-- ---- what is kept of one node more
module _ (ns : List Node) (m : Node) where
  -- the nodes before are those that they were
  before_same : (i : ℕ) → i < length ns → get_or (ns ++ (m ∷ [])) i Skip ≡ get_or ns i Skip
  before_same i below = get_or-append ns (m ∷ []) Skip i below

  uses_more : (n : ℕ) → uses_of (ns ++ (m ∷ [])) n ≡ uses_of ns n + occurrences n (children_of m)
  unfolding uses_of flat_map
  uses_more n = rw (flat_map_append, occurrences_append, append-nil)

  module _ (s index uses : List ℕ) (start at : ℕ) (k : Kept s index uses start ns) (long : length ns < length index) (place : at ≡ start + sum (map size_of ns)) where
    index_before : (i : ℕ) → i < length ns → get_or (set index (length ns) at) i 0 ≡ get_or index i 0
    index_before i below = get_or-set_other index (length ns) i at 0 (λ e. omega arith)

    index_here : get_or (set index (length ns) at) (length ns) 0 ≡ at
    index_here = get_or-set_same index (length ns) at 0 long

    each : (P : ℕ → Type 0) → ((i : ℕ) → i < length ns → P i) → P (length ns) → (i : ℕ) → i < length (ns ++ (m ∷ [])) → P i
    each P before here i inside = below_more P (length ns) before here i (omega (arith, length-append ns (m ∷ [])))

    leads_more : decode_at s at ≡ Some m → (i : ℕ) → i < length (ns ++ (m ∷ []))
        → decode_at s (get_or (set index (length ns) at) i 0) ≡ Some (get_or (ns ++ (m ∷ [])) i Skip)
    leads_more d =
        each (λ i. decode_at s (get_or (set index (length ns) at) i 0) ≡ Some (get_or (ns ++ (m ∷ [])) i Skip))
        (λ i below. rw (index_before i below, before_same i below) (k.leads.decoded i below))
        (rw (index_here, get_or_at ns m [] Skip (length ns) refl) d)

    offsets_more : (i : ℕ) → i < length (ns ++ (m ∷ [])) → get_or (set index (length ns) at) i 0 ≡ start + sum (map size_of (take i (ns ++ (m ∷ []))))
    offsets_more =
        each (λ i. get_or (set index (length ns) at) i 0 ≡ start + sum (map size_of (take i (ns ++ (m ∷ [])))))
        (λ i below. rw (index_before i below, take-append-le i ns (m ∷ []) (omega arith)) (k.offsets i below))
        (rw (index_here, take_at ns (m ∷ []) (length ns) refl) place)

    heads_more : at + 4 ≤ length s → (i : ℕ) → i < length (ns ++ (m ∷ [])) → get_or (set index (length ns) at) i 0 + 4 ≤ length s
    heads_more inside =
        each (λ i. get_or (set index (length ns) at) i 0 + 4 ≤ length s)
        (λ i below. rw (index_before i below) (k.heads i below))
        (rw index_here inside)

    -- what is kept of one node more
    kept_more : (cs : List ℕ) → cs ≡ children_of m → all_below (length uses) cs ≡ true → decode_at s at ≡ Some m → at + 4 ≤ length s
        → Kept s (set index (length ns) at) (tally uses cs) start (ns ++ (m ∷ []))
    kept_more cs same below d inside =
        record {
          leads = record { decoded = leads_more d };
          offsets = offsets_more;
          heads = heads_more inside;
          used = λ n. get_or-tally cs uses n below ∙ rw (same, uses_more n, k.used n);
        }

-- ---- the walk
module _ (s : List ℕ) (header : Header) where
  -- before the first node nothing is kept
  pub nodes_start_lem : (index uses : List ℕ) → CountsBelow 1 uses → NodesLeft s header index uses (nodes_start header) 0
  unfolding sum uses_of occurrences flat_map
  nodes_start_lem index uses none =
      record {
        before = [];
        counted = refl;
        same = ap (λ k. read_nodes k header s (nodes_start header) []) (omega arith);
        place = omega arith;
        kept =
            record {
              leads = record { decoded = λ i inside. absurd (omega arith) };
              offsets = λ i inside. absurd (omega arith);
              heads = λ i inside. absurd (omega arith);
              used = λ n. omega (arith, none.each n);
            };
        children = omega arith;
        few = omega arith;
      }

  module _ (index uses : List ℕ) (at n : ℕ) (h : NodesLeft s header index uses at n) where
    -- the offset is small
    pub offset_small : at ≤ header_size + 14 + array_size * header.arrays + 10 * n
    offset_small = omega (arith, h.place, h.counted, sizes_most h.before, mask_most header.version)

    -- the records before are whole
    pub heads_before : n ≤ length index → Heads s index n
    heads_before long = record { long = long; whole = λ i below. h.kept.heads i (omega (arith, h.counted)) }

    -- the counts are small
    pub uses_small : header.nodes ≤ max_nodes → CountsBelow 65533 uses
    unfolding uses_of
    uses_small limit =
        record { each = λ k. omega (arith, h.kept.used k, occurrences_most k (flat_map children_of h.before), h.children, h.few) }

    module _ (more : n < header.nodes) where
      next : header.nodes - n ≡ suc (header.nodes - (n + 1))
      next = omega arith

      -- a refused record refuses them all
      pub nodes_stop : (x : Refusal) → NodeChecked s index header n at (Err x) → read_nodes header.nodes header s (nodes_start header) [] ≡ refused x
      nodes_stop x c =
          let e = c.is_read h.before h.counted h.kept.leads header.version header.nodes in
          h.same ∙ ap (λ k. read_nodes k header s at h.before) next ∙ nodes_refused _ _ _ _ _ _ e

      module _ (bytes : Below 256 s) (fs : Fields) (c : NodeChecked s index header n at (Ok fs)) where
        was_read : NodeKnown (read_node header s at h.before) fs
        was_read = c.is_read h.before h.counted h.kept.leads header.version header.nodes

        abbrev m : Node
        m = was_read.node

        known : NodeRead s bytes header at h.before m
        known = node_read_lem _ bytes _ _ _ _ was_read.is_node

        whole : at + 4 ≤ length s
        unfolding size_of
        whole = omega (arith, known.there.inside)

        -- it is as long as its fields say
        long_as : 4 + sum (map field_size (fields_of fs)) ≡ size_of m
        unfolding size_of
        long_as = ap (λ fs. 4 + sum (map field_size fs)) was_read.is_fields

        same_children : flat_map field_children (fields_of fs) ≡ children_of m
        unfolding children_of
        same_children = ap (flat_map field_children) was_read.is_fields

        -- its children are among the nodes before it
        pub children_inside : (bound : ℕ) → header.nodes ≤ bound → all_below bound (flat_map field_children (fields_of fs)) ≡ true
        unfolding in_range
        children_inside bound wide =
            let ranged : all (field_in_range header.variables header.arrays n) (fields_of fs) ≡ true = rw was_read.is_fields (rw h.counted at known.fits.ranged) in
            below_weaken n bound (flat_map field_children (fields_of fs)) (omega arith) (fields_below header.variables header.arrays n (fields_of fs) ranged)

        -- a record that was read is one node more
        pub nodes_more : header.nodes ≤ length index → header.nodes ≤ length uses → (size : ℕ) → size ≡ 4 + sum (map field_size (fields_of fs))
            → NodesLeft s header (set index n at) (tally uses (flat_map field_children (fields_of fs))) (at + size) (n + 1)
        unfolding sum flat_map
        nodes_more long_index long_uses size is_fields_size =
            let is_size : size ≡ size_of m = is_fields_size ∙ long_as in
            record {
              before = h.before ++ (m ∷ []);
              counted = length-append h.before (m ∷ []) ∙ omega (arith, h.counted);
              same =
                  h.same
                  ∙ ap (λ k. read_nodes k header s at h.before) next
                  ∙ nodes_next _ _ _ _ _ _ was_read.is_node
                  ∙ ap (λ k. read_nodes (header.nodes - (n + 1)) header s k (h.before ++ (m ∷ []))) (omega (arith, is_size));
              place = rw (map-append, sum-append) (omega (arith, h.place, is_size));
              kept =
                  subst (λ k. Kept s (set index k at) (tally uses (flat_map field_children (fields_of fs))) (nodes_start header) (h.before ++ (m ∷ []))) h.counted
                  (kept_more _ m _ _ _ _ _ h.kept (omega (arith, h.counted)) h.place
                  (flat_map field_children (fields_of fs)) same_children (children_inside (length uses) long_uses) known.there.decoded whole);
              children =
                  rw (flat_map_append, length-append, append-nil, ← same_children)
                  (omega (arith, h.children, fields_children (fields_of fs), fields_few fs));
              few = omega arith;
            }

    -- with none left all were read
    pub nodes_done : header.nodes ≤ n → read_nodes header.nodes header s (nodes_start header) [] ≡ got h.before
    unfolding read_nodes
    nodes_done all_read =
        let none : header.nodes - n ≡ 0 = omega arith in
        h.same ∙ ap (λ k. read_nodes k header s at h.before) none
