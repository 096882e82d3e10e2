-- Whatever reads is well-formed, and its nodes are decoded where their records stand.
use Prim.Native.Nat.{ℕ, zero, suc, ◌+◌, ◌^◌, ◌≤◌, ◌<◌}
use native.Mathlib.Omega.{arith}
use mathlib.Core.Bool.{Bool, true, false, cond, ◌&&◌}
use mathlib.Core.Path.{◌≡◌, refl, sym, ap, subst, ◌∙◌}
use mathlib.Core.List.{List, [], ◌∷◌, ◌++◌, append-nil}
use lib.ListN.{length, get_or}
use lib.Seq.{append_snoc}
use lib.Dec.{eqb, ltb, leb}
use borrow.Author.Tests.{ltb-true, leb-true, eqb-true, lt-ltb}
use Rattle.bytes_le.specs.Numbers.{le_at}
use Rattle.bytes_le.proofs.Numbers.{Below, le_at_lt}
use Rattle.awhile.specs.Lists.{sum, all}
use Rattle.awhile.specs.Refusals.{Answer, refused, got, check, and_then}
use Rattle.awhile.specs.Nodes.{form, size_of, node_of, decode_at, in_range, sorted}
use Rattle.awhile.specs.Tables.{Table, header_of, known_version, mask_bytes, most_variables, max_arrays, max_nodes, max_cells, header_size, labels_size, array_size, labels_start, counts_start, nodes_start, offset_of}
use Rattle.awhile.specs.Tables.{framed, length_of_kind, read_header, read_labels, read_count, read_counts, read_node, read_nodes, read_records}
use Rattle.awhile.specs.Tables.{all_in_order, check_whole, read_table}
use Rattle.awhile.specs.WellFormed.{WellFormed, Declared, NodeFits, word_fits}
use Rattle.awhile.proofs.Lists.{and_first, and_second, sum-append}
use Rattle.awhile.proofs.Cases.{counts_next, counts_refused, node_known, node_unknown, nodes_next, nodes_refused}
use Rattle.awhile.proofs.Fitting.{FitAfter, fit_by_number}
use Rattle.awhile.proofs.Records.{NodeAt, NodesAt, nodes_at}
use Rattle.awhile.specs.declared.Header.{Header}
use Rattle.awhile.specs.declared.Labelling.{Labelling}
use Rattle.awhile.specs.declared.Node.{Node}
use Rattle.awhile.specs.declared.Node.TheVariants.{Skip}
use Rattle.std.proofs.Common.{Option, Some, None}
use Rattle.awhile.specs.declared.Refusal.{Refusal}
use Rattle.awhile.specs.declared.Refusal.TheVariants.{BeyondLimit, OutOfRange, WrongSort}

-- ---- answers that are no refusals
-- a check that is passed
pub check_got : {A : Type 0} (b : Bool) (r : Refusal) (a : Answer A) (x : A) → check b r a ≡ got x → (b ≡ true) × (a ≡ got x)
unfolding check
check_got true r a x e = (refl, e)
check_got false r a x e = let z : ◌≡◌ {A = ℕ} 0 1 = cc in absurd (omega arith)

pub got_same : {A : Type 0} (x y : A) → ◌≡◌ {A = Answer A} (got x) (got y) → x ≡ y
got_same x y e = cc

-- a refusal is no answer
pub refused_got : {A : Type 0} (r : Refusal) (x : A) → ◌≡◌ {A = Answer A} (refused r) (got x) → ⊥
refused_got r x e = let z : ◌≡◌ {A = ℕ} 0 1 = cc in omega arith

-- what is gone on with was got
pub then_got : {A B : Type 0} (Q : Type 0) (a : Answer A) (f : A → Answer B) (y : B) → and_then a f ≡ got y → ((x : A) → a ≡ got x → f x ≡ got y → Q) → Q
unfolding and_then
then_got Q (refused r) f y e next = absurd (refused_got r y e)
then_got Q (got x) f y e next = next x refl e

-- a record that passes has the wanted length and is inside
record Passed (s : List ℕ) (at wanted : ℕ) : Type 0 where
  some : 0 < wanted
  is_length : le_at 2 s at ≡ wanted
  inside : at + wanted ≤ length s

module _ {A : Type 0} (s : List ℕ) (at wanted : ℕ) (rest : Answer A) (x : A) where
  pub framed_rest : framed s at wanted rest ≡ got x → rest ≡ got x
  unfolding framed
  framed_rest e =
      let first = check_got (leb (at + 4) (length s)) _ _ x e in
      let second = check_got (ltb 0 wanted && eqb (le_at 2 s at) wanted) _ _ x first.1 in
      (check_got (leb (at + wanted) (length s)) _ rest x second.1).1

  framed_passed : framed s at wanted rest ≡ got x → Passed s at wanted
  unfolding framed
  framed_passed e =
      let first = check_got (leb (at + 4) (length s)) _ _ x e in
      let second = check_got (ltb 0 wanted && eqb (le_at 2 s at) wanted) _ _ x first.1 in
      record {
        some = ltb-true 0 wanted (and_first (ltb 0 wanted) (eqb (le_at 2 s at) wanted) second.0);
        is_length = eqb-true (le_at 2 s at) wanted (and_second (ltb 0 wanted) (eqb (le_at 2 s at) wanted) second.0);
        inside = leb-true (at + wanted) (length s) (check_got (leb (at + wanted) (length s)) _ rest x second.1).0;
      }

-- ---- words
cond_case : {A : Type 0} (P : A → Type 0) (b : Bool) (x y : A) → P x → P y → P (cond b x y)
cond_case P true x y p q = p
cond_case P false x y p q = q

abbrev WordsFit : Option Node → Type 0
WordsFit (Some n) = all word_fits (form n).fields ≡ true
WordsFit None = Unit

-- a 4-byte field that fits is the only word of what is decoded
decoded_words : (kind f g h w : ℕ) → w < 2 ^ 32 → WordsFit (node_of kind f g h w)
unfolding node_of form word_fits all
decoded_words kind f g h w fits =
    let go = cond_case WordsFit in
    go (eqb kind 16) _ _ (rw (lt-ltb w (2 ^ 32) fits))
    (go (eqb kind 17) _ _ refl
    (go (eqb kind 18) _ _ refl
    (go (eqb kind 19) _ _ refl
    (go (eqb kind 20) _ _ refl
    (go (eqb kind 21) _ _ refl
    (go (eqb kind 32) _ _ refl
    (go (eqb kind 33) _ _ refl
    (go (eqb kind 34) _ _ refl
    (go (eqb kind 35) _ _ refl
    (go (eqb kind 36) _ _ refl
    (go (eqb kind 48) _ _ refl
    (go (eqb kind 49) _ _ refl
    (go (eqb kind 50) _ _ refl
    (go (eqb kind 51) _ _ refl
    (go (eqb kind 52) _ _ refl
    (go (eqb kind 53) _ _ refl
    (go (eqb kind 54) _ _ refl tt)))))))))))))))))

module _ (s : List ℕ) where
  -- ---- the header
  pub record HeaderFits (h : Header) : Type 0 where
    pub version_known : known_version h.version ≡ true
    pub variables_fit : h.variables ≤ most_variables h.version
    pub arrays_fit : h.arrays ≤ max_arrays
    pub has_nodes : 0 < h.nodes
    pub nodes_fit : h.nodes ≤ max_nodes

  header_test : (h : Header) (version variables arrays nodes : ℕ)
      → check
      (known_version version && leb variables (most_variables version) && leb arrays max_arrays && ltb 0 nodes && leb nodes max_nodes)
      (BeyondLimit 0)
      (got (record { version = version; variables = variables; arrays = arrays; nodes = nodes }))
      ≡ got h → HeaderFits h
  header_test h version variables arrays nodes e =
      let read : Header = record { version = version; variables = variables; arrays = arrays; nodes = nodes } in
      let two : Bool = known_version version && leb variables (most_variables version) in
      let three : Bool = two && leb arrays max_arrays in
      let four : Bool = three && ltb 0 nodes in
      let all : Bool = four && leb nodes max_nodes in
      let passed = check_got all (BeyondLimit 0) (got read) h e in
      let test : all ≡ true = passed.0 in
      let same : read ≡ h = got_same read h passed.1 in
      let to_four : four ≡ true = and_first four (leb nodes max_nodes) test in
      let to_three : three ≡ true = and_first three (ltb 0 nodes) to_four in
      let to_two : two ≡ true = and_first two (leb arrays max_arrays) to_three in
      rw (← same)
      (record {
        version_known = and_first (known_version version) (leb variables (most_variables version)) to_two;
        variables_fit = leb-true variables (most_variables version) (and_second (known_version version) (leb variables (most_variables version)) to_two);
        arrays_fit = leb-true arrays max_arrays (and_second two (leb arrays max_arrays) to_three);
        has_nodes = ltb-true 0 nodes (and_second three (ltb 0 nodes) to_four);
        nodes_fit = leb-true nodes max_nodes (and_second four (leb nodes max_nodes) test);
      })

  -- a header that was read is within the limits
  pub header_fits : (h : Header) → read_header s ≡ got h → HeaderFits h
  unfolding read_header
  header_fits h e = header_test h (le_at 2 s 4) (le_at 1 s 6) (le_at 1 s 7) (le_at 2 s 8) (framed_rest s 0 (length_of_kind 1 header_size s 0) _ h e)

  -- ---- the labels
  record LabelsFit (h : Header) (l : Labelling) : Type 0 where
    variable_mask_fits : l.variables < 2 ^ h.variables
    array_mask_fits : l.arrays < 2 ^ h.arrays

  labels_fit : (h : Header) (at : ℕ) (l : Labelling) → read_labels s h at ≡ got l → LabelsFit h l
  unfolding read_labels
  labels_fit h at l e =
      let w = mask_bytes h.version in
      let read : Labelling = record { variables = le_at w s (at + 4); arrays = le_at 2 s (at + 4 + w) } in
      let first : Bool = ltb read.variables (2 ^ h.variables) in
      let second : Bool = ltb read.arrays (2 ^ h.arrays) in
      let rest = framed_rest s at (length_of_kind 3 (labels_size h.version) s at) (check (first && second) (BeyondLimit at) (got read)) l e in
      let passed = check_got (first && second) (BeyondLimit at) (got read) l rest in
      let same : read ≡ l = got_same read l passed.1 in
      rw (← same)
      (record {
        variable_mask_fits = ltb-true read.variables (2 ^ h.variables) (and_first first second passed.0);
        array_mask_fits = ltb-true read.arrays (2 ^ h.arrays) (and_second first second passed.0);
      })

  -- ---- the arrays
  pub record CountFits (before n : ℕ) : Type 0 where
    pub positive : 0 < n
    pub total : before + n ≤ max_cells

  pub count_fits : (at before n : ℕ) → read_count s at before ≡ got n → CountFits before n
  unfolding read_count
  count_fits at before n e =
      let read : ℕ = le_at 2 s (at + 4) in
      let rest = framed_rest s at (length_of_kind 2 array_size s at) (check (ltb 0 read && leb (before + read) max_cells) (BeyondLimit at) (got read)) n e in
      let passed = check_got (ltb 0 read && leb (before + read) max_cells) (BeyondLimit at) (got read) n rest in
      let same : read ≡ n = got_same read n passed.1 in
      rw (← same)
      (record {
        positive = ltb-true 0 read (and_first (ltb 0 read) (leb (before + read) max_cells) passed.0);
        total = leb-true (before + read) max_cells (and_second (ltb 0 read) (leb (before + read) max_cells) passed.0);
      })

  -- the counts read after others: so many, each positive, within the sum
  pub record CountsFit (left : ℕ) (before counts : List ℕ) : Type 0 where
    pub more : List ℕ
    pub whole : counts ≡ before ++ more
    pub counted : length more ≡ left
    positive : (i : ℕ) → i < length more → 0 < get_or more i 0
    total : sum before + sum more ≤ max_cells

  -- the loop has read the next one
  pub counts_first : (Q : Type 0) (left at : ℕ) (before counts : List ℕ) → read_counts (suc left) s at before ≡ got counts
      → ((n : ℕ) → read_count s at (sum before) ≡ got n → read_counts left s (at + array_size) (before ++ (n ∷ [])) ≡ got counts → Q) → Q
  counts_first Q left at before counts e next = go (read_count s at (sum before)) refl
    where
      go : (a : Answer ℕ) → read_count s at (sum before) ≡ a → Q
      go (refused r) f = absurd (refused_got r counts (sym (counts_refused s at left before r f) ∙ e))
      go (got n) f = next n f (sym (counts_next s at left before n f) ∙ e)

  counts_add : (left n : ℕ) (before counts : List ℕ) → CountFits (sum before) n → CountsFit left (before ++ (n ∷ [])) counts → CountsFit (suc left) before counts
  unfolding sum
  counts_add left n before counts first rest =
      record {
        more = n ∷ rest.more;
        whole = rest.whole ∙ append_snoc before n rest.more;
        counted = ap suc rest.counted;
        positive = positive;
        total = omega (arith, rest.total, sum-append before (n ∷ []));
      }
    where
      positive : (i : ℕ) → i < suc (length rest.more) → 0 < get_or (n ∷ rest.more) i 0
      positive zero inside = first.positive
      positive (suc i) inside = rest.positive i (omega arith)

  pub counts_fit : (left at : ℕ) (before counts : List ℕ) → sum before ≤ max_cells → read_counts left s at before ≡ got counts → CountsFit left before counts
  unfolding read_counts sum
  counts_fit zero at before counts small e =
      record {
        more = [];
        whole = sym (got_same before counts e) ∙ sym (append-nil before);
        counted = refl;
        positive = λ i inside. absurd (omega arith);
        total = omega arith;
      }
  counts_fit (suc left) at before counts small e =
      counts_first (CountsFit (suc left) before counts) left at before counts e
      (λ n first rest.
      let fits = count_fits at (sum before) n first in
      counts_add left n before counts fits
      (counts_fit left (at + array_size) (before ++ (n ∷ [])) counts (omega (arith, sum-append before (n ∷ []), fits.total)) rest))

  -- ---- the nodes
  module _ (bytes : Below 256 s) (h : Header) where
    -- a node that was read fits, and its record stands there
    pub record NodeRead (at : ℕ) (before : List Node) (n : Node) : Type 0 where
      pub fits : NodeFits h.variables h.arrays before n
      pub there : NodeAt s at n

    known_read : (at : ℕ) (before : List Node) (m n : Node) → decode_at s at ≡ Some m
        → framed s at (size_of m) (check (in_range h.variables h.arrays (length before) m) (OutOfRange at) (check (sorted before m) (WrongSort at) (got m))) ≡ got n
        → NodeRead at before n
    unfolding decode_at
    known_read at before m n d e =
        let sorted_rest : Answer Node = check (sorted before m) (WrongSort at) (got m) in
        let range_rest : Answer Node = check (in_range h.variables h.arrays (length before) m) (OutOfRange at) sorted_rest in
        let passed = framed_passed s at (size_of m) range_rest n e in
        let first = framed_rest s at (size_of m) range_rest n e in
        let second = check_got (in_range h.variables h.arrays (length before) m) (OutOfRange at) sorted_rest n first in
        let third = check_got (sorted before m) (WrongSort at) (got m) n second.1 in
        rw (← got_same m n third.1)
        (record {
          fits =
              record {
                ranged = second.0;
                well_sorted = third.0;
                words_fit = subst WordsFit d (decoded_words (le_at 2 s (at + 2)) (le_at 2 s (at + 4)) (le_at 2 s (at + 6)) (le_at 2 s (at + 8)) (le_at 4 s (at + 4)) (le_at_lt 4 s (at + 4) bytes));
              };
          there = record { is_length = passed.is_length; decoded = d; inside = passed.inside };
        })

    pub node_read_lem : (at : ℕ) (before : List Node) (n : Node) → read_node h s at before ≡ got n → NodeRead at before n
    node_read_lem at before n e = go (decode_at s at) refl
      where
        go : (d : Option Node) → decode_at s at ≡ d → NodeRead at before n
        go None d = absurd (let p = framed_passed s at 0 (got Skip) n (sym (node_unknown s at h before d) ∙ e) in omega (arith, p.some))
        go (Some m) d = known_read at before m n d (sym (node_known s at h before m d) ∙ e)

    record NodesRead (left at : ℕ) (before nodes : List Node) : Type 0 where
      more : List Node
      whole : nodes ≡ before ++ more
      counted : length more ≡ left
      fits : FitAfter h.variables h.arrays before more
      there : NodesAt s at more

    nodes_first_lem : (Q : Type 0) (left at : ℕ) (before nodes : List Node) → read_nodes (suc left) h s at before ≡ got nodes
        → ((n : Node) → read_node h s at before ≡ got n → read_nodes left h s (at + size_of n) (before ++ (n ∷ [])) ≡ got nodes → Q) → Q
    nodes_first_lem Q left at before nodes e next = go (read_node h s at before) refl
      where
        go : (a : Answer Node) → read_node h s at before ≡ a → Q
        go (refused r) f = absurd (refused_got r nodes (sym (nodes_refused s at h before left r f) ∙ e))
        go (got n) f = next n f (sym (nodes_next s at h before left n f) ∙ e)

    nodes_add_lem : (left at : ℕ) (n : Node) (before nodes : List Node) → NodeRead at before n
        → NodesRead left (at + size_of n) (before ++ (n ∷ [])) nodes → NodesRead (suc left) at before nodes
    nodes_add_lem left at n before nodes first rest =
        record {
          more = n ∷ rest.more;
          whole = rest.whole ∙ append_snoc before n rest.more;
          counted = ap suc rest.counted;
          fits = (first.fits, rest.fits);
          there = (first.there, rest.there);
        }

    nodes_fit_lem : (left at : ℕ) (before nodes : List Node) → read_nodes left h s at before ≡ got nodes → NodesRead left at before nodes
    unfolding read_nodes
    nodes_fit_lem zero at before nodes e =
        record { more = []; whole = sym (got_same before nodes e) ∙ sym (append-nil before); counted = refl; fits = tt; there = tt }
    nodes_fit_lem (suc left) at before nodes e =
        nodes_first_lem (NodesRead (suc left) at before nodes) left at before nodes e
        (λ n first rest. nodes_add_lem left at n before nodes (node_read_lem at before n first) (nodes_fit_lem left (at + size_of n) (before ++ (n ∷ [])) nodes rest))

-- ---- the whole table
-- what is known of a table whose records were read: all but that they are one tree
pub record RecordsRead (s : List ℕ) (t : Table) : Type 0 where
  pub declared : Declared t.version t.variables t.labels t.counts
  pub has_nodes : 0 < length t.nodes
  pub nodes_fit : length t.nodes ≤ max_nodes
  pub fits : FitAfter t.variables (length t.counts) [] t.nodes
  pub there : NodesAt s (nodes_start (header_of t)) t.nodes

module _ (s : List ℕ) (bytes : Below 256 s) where
  records_put : (h : Header) (l : Labelling) (cs : List ℕ) (ns : List Node)
      → HeaderFits s h → LabelsFit s h l → CountsFit s h.arrays [] cs → NodesRead s bytes h h.nodes (nodes_start h) [] ns
      → RecordsRead s (record { version = h.version; variables = h.variables; labels = l; counts = cs; nodes = ns })
  unfolding sum
  records_put h l cs ns header labels counts nodes =
      let arrays : h.arrays ≡ length cs = sym (ap length counts.whole ∙ counts.counted) in
      let many : h.nodes ≡ length ns = sym (ap length nodes.whole ∙ nodes.counted) in
      record {
        declared =
            record {
              version_known = header.version_known;
              variables_fit = header.variables_fit;
              arrays_fit = rw arrays at header.arrays_fit;
              variable_mask_fits = labels.variable_mask_fits;
              array_mask_fits = rw arrays at labels.array_mask_fits;
              counts_positive = rw counts.whole counts.positive;
              cells_fit = rw counts.whole (omega (arith, counts.total));
            };
        has_nodes = rw many at header.has_nodes;
        nodes_fit = rw many at header.nodes_fit;
        fits = rw (← arrays, nodes.whole) nodes.fits;
        there = rw (← arrays, nodes.whole) nodes.there;
      }

  -- what is known as soon as the records were read
  pub records_known : (t : Table) → read_records s ≡ got t → RecordsRead s t
  unfolding read_records sum
  records_known t e =
      let Q : Type 0 = RecordsRead s t in
      then_got Q (read_header s) _ t e
      (λ h eh e₁.
      then_got Q (read_labels s h (labels_start h)) _ t e₁
      (λ l el e₂.
      then_got Q (read_counts h.arrays s (counts_start h) []) _ t e₂
      (λ cs ec e₃.
      then_got Q (read_nodes h.nodes h s (nodes_start h) []) _ t e₃
      (λ ns en e₄.
      rw (← got_same _ t e₄)
      (records_put h l cs ns (header_fits s h eh) (labels_fit s h (labels_start h) l el)
      (counts_fit s h.arrays (counts_start h) [] cs (omega arith) ec)
      (nodes_fit_lem s bytes h h.nodes (nodes_start h) [] ns en))))))

  -- its header and its labels are what the first records read as
  pub record HeadsRead (t : Table) : Type 0 where
    pub header : read_header s ≡ got (header_of t)
    pub labels : read_labels s (header_of t) (labels_start (header_of t)) ≡ got t.labels

  pub heads_read : (t : Table) → read_records s ≡ got t → HeadsRead t
  unfolding read_records sum
  heads_read t e =
      let Q : Type 0 = HeadsRead t in
      then_got Q (read_header s) _ t e
      (λ h eh e₁.
      then_got Q (read_labels s h (labels_start h)) _ t e₁
      (λ l el e₂.
      then_got Q (read_counts h.arrays s (counts_start h) []) _ t e₂
      (λ cs ec e₃.
      then_got Q (read_nodes h.nodes h s (nodes_start h) []) _ t e₃
      (λ ns en e₄.
      let counts = counts_fit s h.arrays (counts_start h) [] cs (omega arith) ec in
      let nodes = nodes_fit_lem s bytes h h.nodes (nodes_start h) [] ns en in
      let arrays : length cs ≡ h.arrays = ap length counts.whole ∙ counts.counted in
      let many : length ns ≡ h.nodes = ap length nodes.whole ∙ nodes.counted in
      let same : Header = record { version = h.version; variables = h.variables; arrays = length cs; nodes = length ns } in
      let is_header : h ≡ same = rw (arrays, many) refl in
      rw (← got_same _ t e₄) (record { header = subst (λ (k : Header). read_header s ≡ got k) is_header eh; labels = subst (λ (k : Header). read_labels s k (labels_start k) ≡ got l) is_header el })))))

  -- what reads as a table was read, is one tree and has no bytes after it
  record Accepted (t : Table) : Type 0 where
    read : read_records s ≡ got t
    one_tree : all_in_order t.nodes (length t.nodes) ≡ true
    ended : length s ≤ offset_of t (length t.nodes)

  table_accepted : (t : Table) → read_table s ≡ got t → Accepted t
  unfolding read_table check_whole
  table_accepted t e =
      then_got (Accepted t) (read_records s) (check_whole s) t e
      (λ u read whole.
      let tree = check_got (all_in_order u.nodes (length u.nodes)) _ _ t whole in
      let ended = check_got (leb (length s) (offset_of u (length u.nodes))) _ _ t tree.1 in
      rw (← got_same u t ended.1) (record { read = read; one_tree = tree.0; ended = leb-true _ _ ended.0 }))

  -- whatever reads is well-formed
  pub accepted_well_formed : (t : Table) → read_table s ≡ got t → WellFormed t
  accepted_well_formed t e =
      let a = table_accepted t e in
      let r = records_known t a.read in
      record {
        declared = r.declared;
        has_nodes = r.has_nodes;
        nodes_fit = r.nodes_fit;
        each_fits = fit_by_number t.variables (length t.counts) t.nodes [] r.fits;
        one_tree = a.one_tree;
      }

  -- each node's record stands at its offset and decodes to it, as soon as the records were read
  pub node_there : (t : Table) → read_records s ≡ got t → (i : ℕ) → i < length t.nodes → NodeAt s (offset_of t i) (get_or t.nodes i Skip)
  unfolding offset_of
  node_there t e i inside = nodes_at s (nodes_start (header_of t)) t.nodes (records_known t e).there i inside

  -- an accepted table's records were read
  pub accepted_read : (t : Table) → read_table s ≡ got t → read_records s ≡ got t
  accepted_read t e = (table_accepted t e).read
