-- Nodes in post-order: how many, the last one, its tree, who is a child of whom, and that each fits after those before it.
use Prim.Native.Nat.{ℕ, ◌+◌, ◌-◌, ◌<◌}
use native.Mathlib.Omega.{arith}
use mathlib.Core.Bool.{true}
use mathlib.Core.Path.{◌≡◌, refl, sym, ap, ◌∙◌}
use mathlib.Core.List.{List, [], ◌∷◌, ◌++◌, append-nil, append_assoc, map, flat_map}
use lib.ListN.{length, get_or, length-append, get_or-append}
use lib.Seq.{get_or-append-add}
use borrow.Author.Tests.{lt-ltb}
use Rattle.awhile.specs.Lists.{all, occurrences}
use Rattle.awhile.specs.Nodes.{Field, word, constant, variable, array, child, form, sort_of, same_sort, field_in_range, in_range, sorted, field_sorted, field_children, children_of}
use Rattle.awhile.specs.Tables.{uses_of}
use Rattle.awhile.specs.Trees.{Tree, tree_of, tree_at, grow_trees}
use Rattle.awhile.specs.WellFormed.{word_fits, NodeFits}
use Rattle.awhile.proofs.Lists.{all_head, all_tail, all_cons, all_first, all_second, occurrences_append, flat_map_append, count_below, count_next}
use Rattle.awhile.proofs.Children.{same_sort_refl}
use Rattle.awhile.proofs.Fitting.{FitAfter, fit_append}
use Rattle.awhile.proofs.Trees.{tree_sort, length_grow, grow_append, grow_keeps, grow_next}
use Rattle.awhile.proofs.OwnFields.{own_fits, own_fields_fit}
use Rattle.awhile.proofs.PostOrder.{Part, Child, part_at, as_child, child_fields, Found, IsRoot, Parts, root, part, PostOrder, whole, parts_some, order_some}
use Rattle.awhile.specs.declared.Node.{Node}
use Rattle.awhile.specs.declared.Node.TheVariants.{Skip}

-- ---- parts as children
places : List Part → List ℕ
places [] = []
places (part_at t n ∷ ps) = n ∷ places ps

field_places : (fs : List Field) → flat_map field_children fs ≡ map (λ c. c.place) (child_fields fs)
unfolding flat_map field_children child_fields
field_places [] = refl
field_places (word n ∷ fs) = field_places fs
field_places (constant n ∷ fs) = field_places fs
field_places (variable x ∷ fs) = field_places fs
field_places (array a ∷ fs) = field_places fs
field_places (child s n ∷ fs) = ap (λ l. n ∷ l) (field_places fs)

part_places : (ps : List Part) → map (λ c. c.place) (map as_child ps) ≡ places ps
unfolding places
part_places [] = refl
part_places (part_at t n ∷ ps) = ap (λ l. n ∷ l) (part_places ps)

root_places : (last : ℕ) (n : Node) (ps : List Part) (t : Tree) → IsRoot last n ps t → children_of n ≡ places ps
unfolding children_of
root_places last n ps t r = field_places (form n).fields ∙ ap (map (λ c. c.place)) r.children ∙ part_places ps

-- two lists of nodes use a node as often as each
pub uses_of-append : (ms ns : List Node) (x : ℕ) → uses_of (ms ++ ns) x ≡ uses_of ms x + uses_of ns x
unfolding uses_of
uses_of-append ms ns x = rw (flat_map_append, occurrences_append)

uses_of_one : (n : Node) (x : ℕ) → uses_of (n ∷ []) x ≡ occurrences x (children_of n)
unfolding uses_of flat_map
uses_of_one n x = rw append-nil

-- a child that stands among these nodes and is of the wanted sort
record ChildFits (before : List Node) (c : Child) : Type 0 where
  inside : c.place < length before
  wanted : sort_of (get_or before c.place Skip) ≡ c.sort

abbrev ChildrenFit : List Node → List Child → Type 0
ChildrenFit before [] = Unit
ChildrenFit before (c ∷ cs) = ChildFits before c × ChildrenFit before cs

-- a node fits where its own fields and its children do
module _ (vs arrs : ℕ) (before : List Node) where
  record FieldsFit (fs : List Field) : Type 0 where
    ranged : all (field_in_range vs arrs (length before)) fs ≡ true
    well_sorted : all (field_sorted before) fs ≡ true
    words_fit : all word_fits fs ≡ true

  fields_cons : (f : Field) (fs : List Field)
      → field_in_range vs arrs (length before) f ≡ true → field_sorted before f ≡ true → word_fits f ≡ true → FieldsFit fs → FieldsFit (f ∷ fs)
  fields_cons f fs p q r rest =
      record {
        ranged = all_cons (field_in_range vs arrs (length before)) f fs p rest.ranged;
        well_sorted = all_cons (field_sorted before) f fs q rest.well_sorted;
        words_fit = all_cons word_fits f fs r rest.words_fit;
      }

  all_fields_fit : (fs : List Field) → all (own_fits vs arrs) fs ≡ true → ChildrenFit before (child_fields fs) → FieldsFit fs
  unfolding all own_fits child_fields field_in_range field_sorted word_fits
  all_fields_fit [] own cs = record { ranged = refl; well_sorted = refl; words_fit = refl }
  all_fields_fit (word n ∷ fs) own cs =
      fields_cons (word n) fs refl refl (all_head (own_fits vs arrs) (word n) fs own) (all_fields_fit fs (all_tail (own_fits vs arrs) (word n) fs own) cs)
  all_fields_fit (constant n ∷ fs) own cs =
      fields_cons (constant n) fs (all_head (own_fits vs arrs) (constant n) fs own) refl refl (all_fields_fit fs (all_tail (own_fits vs arrs) (constant n) fs own) cs)
  all_fields_fit (variable x ∷ fs) own cs =
      fields_cons (variable x) fs (all_head (own_fits vs arrs) (variable x) fs own) refl refl (all_fields_fit fs (all_tail (own_fits vs arrs) (variable x) fs own) cs)
  all_fields_fit (array a ∷ fs) own cs =
      fields_cons (array a) fs (all_head (own_fits vs arrs) (array a) fs own) refl refl (all_fields_fit fs (all_tail (own_fits vs arrs) (array a) fs own) cs)
  all_fields_fit (child s n ∷ fs) own cs =
      let same : same_sort (sort_of (get_or before n Skip)) s ≡ true = rw cs.0.wanted (same_sort_refl s) in
      fields_cons (child s n) fs (lt-ltb n (length before) cs.0.inside) same refl (all_fields_fit fs (all_tail (own_fits vs arrs) (child s n) fs own) cs.1)

  root_fits : (last : ℕ) (n : Node) (ps : List Part) (t : Tree) → IsRoot last n ps t
      → own_fields_fit vs arrs n ≡ true → ChildrenFit before (map as_child ps) → NodeFits vs arrs before n
  unfolding in_range sorted own_fields_fit
  root_fits last n ps t r own cs =
      let fit = all_fields_fit (form n).fields own (rw r.children cs) in
      record { ranged = fit.ranged; well_sorted = fit.well_sorted; words_fit = fit.words_fit }

-- ---- how many
mutual
  -- parts and their node are as many as counted
  pub parts_length : {from k : ℕ} {ns : List Node} {n : Node} {ps : List Part} → Parts from ns k n ps → length ns ≡ k
  parts_length (root e f) = ap length e ∙ sym f
  parts_length (part {ms = ms} {ns = ns} place p rest e f g) = omega (arith, ap length e, length-append ms ns, order_length p, parts_length rest)

  -- the nodes of a tree are as many as counted
  pub order_length : {from k : ℕ} {ns : List Node} {t : Tree} → PostOrder from ns k t → length ns ≡ k
  order_length (whole count last parts e f r) = parts_length parts ∙ sym e

-- ---- the last node
mutual
  parts_last : {from k : ℕ} {ns : List Node} {n : Node} {ps : List Part} → Parts from ns k n ps → get_or ns (k - 1) Skip ≡ n
  parts_last (root {n = n} e f) = rw (e, f)
  parts_last (part {m = m} {k = k} {ms = ms} {ns = ns} place p rest e f g) =
      let behind : m + k - 1 ≡ length ms + (k - 1) = omega (arith, order_length p, parts_some rest) in
      rw (e, f, behind) (get_or-append-add ms ns (k - 1) Skip ∙ parts_last rest)

  -- its sort is the tree's
  pub order_sort : {from k : ℕ} {ns : List Node} {t : Tree} → PostOrder from ns k t → sort_of (get_or ns (k - 1) Skip) ≡ tree_sort t
  order_sort (whole count last parts e f r) = rw e (ap sort_of (parts_last parts) ∙ r.is_sort)

-- ---- its tree
mutual
  parts_tree : {from k : ℕ} {ns : List Node} {n : Node} {ps : List Part} → Parts from ns k n ps
      → (ts : List Tree) (last : ℕ) (t : Tree) → length ts ≡ from → last + 1 ≡ from + k
      → ((u : ℕ → Tree) → ((i : ℕ) → i < from → u i ≡ tree_at ts i) → Found u ps → tree_of u last n ≡ t)
      → tree_at (grow_trees ts ns) last ≡ t
  parts_tree (root {n = n} e f) ts last t same h builds = rw e (grow_next ts n [] last (omega arith) ∙ builds (tree_at ts) (λ i below. refl) tt)
  parts_tree (part {from = from} {m = m} {ms = ms} {ns = ns} place p rest e f g) ts last t same h builds =
      let longer : length (grow_trees ts ms) ≡ from + m = omega (arith, length_grow ts ms, order_length p) in
      rw (e, grow_append)
      (parts_tree rest (grow_trees ts ms) last t longer (omega arith)
      (λ u keeps found.
      builds u
      (λ i below. keeps i (omega arith) ∙ grow_keeps ts ms i (omega arith))
      (keeps place (omega arith) ∙ order_tree p ts place same g, found)))

  -- the last tree that grows is the tree they are written for
  pub order_tree : {from k : ℕ} {ns : List Node} {t : Tree} → PostOrder from ns k t
      → (ts : List Tree) (last : ℕ) → length ts ≡ from → last + 1 ≡ from + k → tree_at (grow_trees ts ns) last ≡ t
  order_tree (whole {t = t} count last parts e f r) ts place same g =
      let here : place ≡ last = omega arith in
      rw here (parts_tree parts ts last t same (omega arith) (λ u keeps found. r.builds u found))

-- where the last node stands it is found, with its sort
order_child : {from k : ℕ} {ns : List Node} {t : Tree} → PostOrder from ns k t → (before after : List Node) (place : ℕ) → length before ≡ from → place + 1 ≡ from + k
    → ChildFits (before ++ (ns ++ after)) (as_child (part_at t place))
order_child {k = k} {ns = ns} {t = t} p before after place same g =
    let counted = order_length p in
    let here : place ≡ length before + (k - 1) = omega (arith, order_some p) in
    record {
      inside = simp length-append (omega arith);
      wanted =
          rw here
          (ap sort_of (get_or-append-add before (ns ++ after) (k - 1) Skip ∙ get_or-append ns after Skip (k - 1) (omega (arith, order_some p))) ∙ order_sort p);
    }

-- ---- children
mutual
  unfolding places occurrences

  parts_uses : {from k : ℕ} {ns : List Node} {n : Node} {ps : List Part} → Parts from ns k n ps → (x last : ℕ) → last + 1 ≡ from + k
      → uses_of ns x + count_below from x + occurrences x (places ps) ≡ count_below last x + occurrences x (children_of n)
  parts_uses (root {from = from} {n = n} e f) x last h =
      let here : last ≡ from = omega arith in
      rw (e, here) (omega (arith, uses_of_one n x))
  parts_uses (part {from = from} {m = m} {ms = ms} {ns = ns} place p rest e f g) x last h =
      rw e (omega (arith, uses_of-append ms ns x, order_uses p x place g, count_next place x, ap (λ b. count_below b x) g, parts_uses rest x last (omega arith)))

  -- each of them but the last is a child exactly once, and no other node is
  pub order_uses : {from k : ℕ} {ns : List Node} {t : Tree} → PostOrder from ns k t → (x last : ℕ) → last + 1 ≡ from + k
      → uses_of ns x + count_below from x ≡ count_below last x
  order_uses (whole {n = n} {ps = ps} {t = t} count last parts e f r) x place h =
      let here : place ≡ last = omega arith in
      rw here (omega (arith, parts_uses parts x last (omega arith), ap (occurrences x) (root_places last n ps t r)))

-- ---- each fits after those before it, where their own fields fit
module _ (vs arrs : ℕ) where
  mutual
    unfolding all

    parts_fit : {from k : ℕ} {ns : List Node} {n : Node} {ps : List Part} → Parts from ns k n ps → all (own_fields_fit vs arrs) ns ≡ true
        → (before : List Node) → length before ≡ from
        → ((after : List Node) → length after + 1 ≡ k → own_fields_fit vs arrs n ≡ true → ChildrenFit (before ++ after) (map as_child ps) → NodeFits vs arrs (before ++ after) n)
        → FitAfter vs arrs before ns
    parts_fit (root {n = n} e f) own before same fits =
        rw e (rw append-nil at (fits [] (omega arith) (all_head (own_fields_fit vs arrs) n [] (rw e at own)) tt), tt)
    parts_fit (part {from = from} {m = m} {ms = ms} {ns = ns} {t = t} place p rest e f g) own before same fits =
        let longer : length (before ++ ms) ≡ from + m = omega (arith, length-append before ms, order_length p) in
        let owns : all (own_fields_fit vs arrs) (ms ++ ns) ≡ true = rw e at own in
        rw e
        (fit_append vs arrs ms ns before (order_fit p (all_first (own_fields_fit vs arrs) ms ns owns) before same)
        (parts_fit rest (all_second (own_fields_fit vs arrs) ms ns owns) (before ++ ms) longer
        (λ after l o cs.
        rw append_assoc
        (fits (ms ++ after) (omega (arith, length-append ms after, order_length p)) o (order_child p before after place same g, rw append_assoc at cs)))))

    -- nodes in post-order fit one after the other
    pub order_fit : {from k : ℕ} {ns : List Node} {t : Tree} → PostOrder from ns k t → all (own_fields_fit vs arrs) ns ≡ true
        → (before : List Node) → length before ≡ from → FitAfter vs arrs before ns
    order_fit (whole {n = n} {ps = ps} {t = t} count last parts e f r) own before same =
        parts_fit parts own before same (λ after l o cs. root_fits vs arrs (before ++ after) last n ps t r o cs)
