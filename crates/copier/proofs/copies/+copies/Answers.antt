-- Copies of expressions: each function writes its children behind each other, whose numbers are lower, and the node behind them.
use Prim.Native.Nat.{ℕ, ◌+◌, ◌*◌, ◌<◌, max}
use native.Mathlib.Omega.{arith}
use mathlib.Core.Logic.{◌⊎◌, ⊎_elim}
use mathlib.Core.List.{List}
use mathlib.Core.Path.{◌≡◌, refl, sym, ap, ◌∙◌}
use Rattle.awhile.specs.Lists.{sum}
use Rattle.awhile.specs.Nodes.{sort_of, size_of, form, field_size}
use Rattle.awhile.specs.Encoding.{nodes_of_a, nodes_of_b, write_a, write_b}
use Rattle.awhile.specs.declared.Node.{Node}
use Rattle.awhile.specs.declared.Node.TheVariants.{Number, Variable, Add, Subtract, Multiply, Constant, Equal, Less, Not}
use Rattle.awhile.specs.declared.Sort.TheVariants.{Numeric}
use Rattle.reader.specs.Index.{numeric_in, truth_in, HasSort}
use Rattle.reader.proofs.Index.{Parts}
use Rattle.reader.proofs.Admitted.{parts}
use Rattle.reader.proofs.NodeKinds.{numeric_kinds}
use Rattle.copier.proofs.TruthKinds.{truth_kinds}
use Rattle.copier.specs.Sizes.{bytes_of_a, bytes_of_b}
use Rattle.copier.specs.Written.{Appended, Wrote, WroteBinary, SpaceFor, RoomBehind}
use Rattle.copier.specs.declared.Size.{Size}
use Rattle.copier.proofs.Writers.{size_is, wrote_leaf, appended_binary, room_first, room_leaf}
use Rattle.copier.proofs.ExpressionWrites.{wrote_a, wrote_b, room_a, room_b, wrote_made, pair_rest, pair_few, wrote_pair, pair_parent, pair_room}
use Rattle.copier.proofs.ExpressionWrites.{and_rest, and_few, and_room, wrote_and, not_last, not_room, wrote_not}
use Rattle.copier.proofs.ExpressionWrites.{choice_rest, choice_last, choice_few, choice_room, wrote_choice, constant_value}
use Rattle.copier.proofs.Descents.{lower, call_binary, call_choice, call_truth, first_of_pair, second_of_pair, pair_of_choice}
use Rattle.copier.proofs.copies.+copies.Goals as goal
use Rattle.copier.proofs.copies.+copies.Goals.{copy_numeric-After-numeric-node, copy_truth-After-truth-node}

pub copy_and-copy_truth-first-requires : goal.copy_and-copy_truth-first-requires
unfolding nodes_of_b bytes_of_b
copy_and-copy_truth-first-requires t c =
    (first_of_pair c.args.left c.args.right 1 c.decreases, (c.requires.of_sort.0, room_first c.requires.space_for (omega arith) (omega arith)))

pub copy_and-overflow_add-from : goal.copy_and-overflow_add-from
copy_and-overflow_add-from t c = omega (arith, (and_rest _ _ c.requires.space_for c.copy_truth-first.ensures).room.numbers)

pub copy_and-slice_bounds-copy_truth-count : goal.copy_and-slice_bounds-copy_truth-count
copy_and-slice_bounds-copy_truth-count t c = (and_rest _ _ c.requires.space_for c.copy_truth-first.ensures).inside

pub copy_and-slice_bounds-copy_truth-start : goal.copy_and-slice_bounds-copy_truth-start
copy_and-slice_bounds-copy_truth-start t c = (and_rest _ _ c.requires.space_for c.copy_truth-first.ensures).inside

pub copy_and-copy_truth-second-requires : goal.copy_and-copy_truth-second-requires
copy_and-copy_truth-second-requires t c = (second_of_pair c.args.left c.args.right 1 c.decreases, (c.requires.of_sort.1, (and_rest _ _ c.requires.space_for c.copy_truth-first.ensures).room))

pub copy_and-both-parts-requires : goal.copy_and-both-parts-requires
copy_and-both-parts-requires t c = and_few _ _ c.requires.space_for c.copy_truth-first.ensures c.copy_truth-second.ensures

pub copy_and-append-requires : goal.copy_and-append-requires
unfolding size_of form field_size sum
copy_and-append-requires t c = and_room _ _ c.requires.space_for c.copy_truth-first.ensures c.copy_truth-second.ensures c.both-parts.ensures

pub copy_and-returns : goal.copy_and-returns
copy_and-returns t c = wrote_and _ _ c.requires.space_for c.copy_truth-first.ensures c.copy_truth-second.ensures c.both-parts.ensures c.append.ensures

pub copy_binary-append_record-requires : goal.copy_binary-append_record-requires
copy_binary-append_record-requires t c = (omega arith, pair_room c.copy_pair-parts.ensures c.requires.space_for)

pub copy_binary-returns : goal.copy_binary-returns
copy_binary-returns t c =
    record { wrote = λ f made. pair_parent f c.copy_pair-parts.ensures (appended_binary c.args.node (f _ _) (made _ _) (ap (λ r. r.kind) c.form_of.ensures) c.append_record.ensures) }

pub copy_choice-copy_truth-first-requires : goal.copy_choice-copy_truth-first-requires
unfolding nodes_of_a bytes_of_a
copy_choice-copy_truth-first-requires t c =
    (first_of_pair c.args.condition (max c.args.yes c.args.no) 1 c.decreases, (c.requires.of_sort.0, room_first c.requires.space_for (omega arith) (omega arith)))

pub copy_choice-overflow_add-from : goal.copy_choice-overflow_add-from
copy_choice-overflow_add-from t c = omega (arith, (choice_rest _ _ _ c.requires.space_for c.copy_truth-first.ensures).room.numbers)

pub copy_choice-slice_bounds-copy_pair-count : goal.copy_choice-slice_bounds-copy_pair-count
copy_choice-slice_bounds-copy_pair-count t c = (choice_rest _ _ _ c.requires.space_for c.copy_truth-first.ensures).inside

pub copy_choice-slice_bounds-copy_pair-start : goal.copy_choice-slice_bounds-copy_pair-start
copy_choice-slice_bounds-copy_pair-start t c = (choice_rest _ _ _ c.requires.space_for c.copy_truth-first.ensures).inside

pub copy_choice-copy_pair-sides-requires : goal.copy_choice-copy_pair-sides-requires
copy_choice-copy_pair-sides-requires t c = (pair_of_choice c.args.condition c.args.yes c.args.no c.decreases, ((c.requires.of_sort.1, c.requires.of_sort.2), (choice_rest _ _ _ c.requires.space_for c.copy_truth-first.ensures).room))

pub copy_choice-last-requires : goal.copy_choice-last-requires
copy_choice-last-requires t c = choice_last _ _ _ c.requires.space_for c.copy_truth-first.ensures c.copy_pair-sides.ensures

pub copy_choice-add-requires : goal.copy_choice-add-requires
copy_choice-add-requires t c = let few = choice_few _ _ _ c.requires.space_for c.copy_truth-first.ensures c.copy_pair-sides.ensures in omega (arith, few.few_nodes, few.few_bytes)

pub copy_choice-append-requires : goal.copy_choice-append-requires
unfolding size_of form field_size sum
copy_choice-append-requires t c = choice_room _ _ _ c.requires.space_for c.copy_truth-first.ensures c.copy_pair-sides.ensures c.add.ensures

pub copy_choice-returns : goal.copy_choice-returns
copy_choice-returns t c = wrote_choice _ _ _ c.requires.space_for c.copy_truth-first.ensures c.copy_pair-sides.ensures c.add.ensures c.last.ensures c.append.ensures

pub copy_pair-overflow_add-from : goal.copy_pair-overflow_add-from
copy_pair-overflow_add-from t c = omega (arith, (pair_rest _ _ c.requires.space_for c.copy_numeric-first.ensures).room.numbers)

pub copy_pair-slice_bounds-copy_numeric-count : goal.copy_pair-slice_bounds-copy_numeric-count
copy_pair-slice_bounds-copy_numeric-count t c = (pair_rest _ _ c.requires.space_for c.copy_numeric-first.ensures).inside

pub copy_pair-slice_bounds-copy_numeric-start : goal.copy_pair-slice_bounds-copy_numeric-start
copy_pair-slice_bounds-copy_numeric-start t c = (pair_rest _ _ c.requires.space_for c.copy_numeric-first.ensures).inside

pub copy_pair-copy_numeric-second-requires : goal.copy_pair-copy_numeric-second-requires
copy_pair-copy_numeric-second-requires t c = (second_of_pair c.args.left c.args.right 0 c.decreases, (c.requires.of_sort.1, (pair_rest _ _ c.requires.space_for c.copy_numeric-first.ensures).room))

pub copy_pair-both-requires : goal.copy_pair-both-requires
copy_pair-both-requires t c = pair_few _ _ c.requires.space_for c.copy_numeric-first.ensures c.copy_numeric-second.ensures

pub copy_pair-returns : goal.copy_pair-returns
copy_pair-returns t c = wrote_pair _ _ c.requires.space_for c.copy_numeric-first.ensures c.copy_numeric-second.ensures c.both.ensures

-- ---- a numeric node: its parts, by its kind
module _ {t : ℕ} (c : copy_numeric-After-numeric-node t) where
  numeric-parts : (m : Node) → c.numeric-node.result ≡ m → Parts c.args.table.now c.args.n m
  numeric-parts = parts c.numeric-node.ensures.admitted c.requires.of_sort.inside c.numeric-node.ensures.value

  -- a number or a variable
  module _ (is : ((v : ℕ) × (c.numeric-node.result ≡ Number v)) ⊎ ((x : ℕ) × (c.numeric-node.result ≡ Variable x))) where
    numeric-leaf-room : RoomBehind (size_is 0 0) 1 (size_of c.numeric-node.result) c.args.out.now
    unfolding nodes_of_a bytes_of_a size_of form field_size sum
    numeric-leaf-room =
        ⊎_elim (λ p. room_leaf c.numeric-node.result (room_a (numeric-parts (Number p.0) p.1) c.requires.space_for) (ap size_of p.1))
        (λ p. room_leaf c.numeric-node.result (room_a (numeric-parts (Variable p.0) p.1).1 c.requires.space_for) (ap size_of p.1)) is

    numeric-leaf : {out : List ℕ} {r : Size} → Appended 0 0 c.numeric-node.result c.args.out.now out r
        → Wrote (write_a c.args.from (numeric_in c.args.table.now c.args.n)) c.args.out.now out r
    unfolding write_a
    numeric-leaf a =
        ⊎_elim (λ p. wrote_a _ (numeric-parts (Number p.0) p.1) (wrote_leaf p.1 a)) (λ p. wrote_a _ (numeric-parts (Variable p.0) p.1).1 (wrote_leaf p.1 a)) is

  -- a sum, a difference or a product
  module _ {a b : ℕ} (is : (c.numeric-node.result ≡ Add a b) ⊎ ((c.numeric-node.result ≡ Subtract a b) ⊎ (c.numeric-node.result ≡ Multiply a b))) where
    numeric-call : (3 * max a b + 2 < t)
        × ((HasSort c.args.table.now Numeric a × HasSort c.args.table.now Numeric b)
        × SpaceFor c.args.from (nodes_of_a (numeric_in c.args.table.now a) + nodes_of_a (numeric_in c.args.table.now b) + 1)
        (bytes_of_a (numeric_in c.args.table.now a) + bytes_of_a (numeric_in c.args.table.now b) + 8) c.args.out.now)
    unfolding nodes_of_a bytes_of_a
    numeric-call =
        ⊎_elim (λ e. call_binary (c.decreases, (c.requires.of_sort, c.requires.space_for)) (numeric-parts (Add a b) e))
        (⊎_elim (λ e. call_binary (c.decreases, (c.requires.of_sort, c.requires.space_for)) (numeric-parts (Subtract a b) e))
        (λ e. call_binary (c.decreases, (c.requires.of_sort, c.requires.space_for)) (numeric-parts (Multiply a b) e))) is

    numeric-binary : {node : Node} {out : List ℕ} {r : Size} → node ≡ c.numeric-node.result
        → WroteBinary node c.args.from (numeric_in c.args.table.now a) (numeric_in c.args.table.now b) c.args.out.now out r
        → Wrote (write_a c.args.from (numeric_in c.args.table.now c.args.n)) c.args.out.now out r
    unfolding write_a form
    numeric-binary same w =
        ⊎_elim (λ e. wrote_a _ (numeric-parts (Add a b) e).2 (wrote_made Add (same ∙ e) (λ i j. refl) w))
        (⊎_elim (λ e. wrote_a _ (numeric-parts (Subtract a b) e).2 (wrote_made Subtract (same ∙ e) (λ i j. refl) w))
        (λ e. wrote_a _ (numeric-parts (Multiply a b) e).2 (wrote_made Multiply (same ∙ e) (λ i j. refl) w))) is

pub copy_numeric-append-requires : goal.copy_numeric-append-requires
copy_numeric-append-requires t c = numeric-leaf-room (goal.at.copy_numeric-append-requires t c).After-numeric-node c.in-Number.is

pub copy_numeric-returns-in-Number : goal.copy_numeric-returns-in-Number
copy_numeric-returns-in-Number t c = numeric-leaf (goal.at.copy_numeric-returns-in-Number t c).After-numeric-node c.in-Number.is c.append.ensures

pub copy_numeric-copy_binary-requires : goal.copy_numeric-copy_binary-requires
copy_numeric-copy_binary-requires t c = numeric-call (goal.at.copy_numeric-copy_binary-requires t c).After-numeric-node c.in-Add.is

pub copy_numeric-returns-in-Add : goal.copy_numeric-returns-in-Add
copy_numeric-returns-in-Add t c = numeric-binary (goal.at.copy_numeric-returns-in-Add t c).After-numeric-node c.in-Add.is c.in-Add.node-is c.copy_binary.ensures

pub copy_numeric-copy_choice-requires : goal.copy_numeric-copy_choice-requires
copy_numeric-copy_choice-requires t c =
    call_choice (c.decreases, (c.requires.of_sort, c.requires.space_for)) (numeric-parts (goal.at.copy_numeric-copy_choice-requires t c).After-numeric-node _ c.in-Choice.is)

pub copy_numeric-returns-in-Choice : goal.copy_numeric-returns-in-Choice
copy_numeric-returns-in-Choice t c = wrote_a _ (numeric-parts (goal.at.copy_numeric-returns-in-Choice t c).After-numeric-node _ c.in-Choice.is).3 c.copy_choice.ensures

pub copy_numeric-returns-in_default : goal.copy_numeric-returns-in_default
copy_numeric-returns-in_default t c =
    let no = c.in_default in
    absurd
    (numeric_kinds (λ m. c.numeric-node.result ≡ m → ⊥) no.not-Number no.not-Variable no.not-Add no.not-Subtract no.not-Multiply no.not-Choice c.numeric-node.result
    (ap sort_of c.numeric-node.ensures.value ∙ c.requires.of_sort.is_sort) refl)

-- ---- a truth node: its parts, by its kind
module _ {t : ℕ} (c : copy_truth-After-truth-node t) where
  truth-parts : (m : Node) → c.truth-node.result ≡ m → Parts c.args.table.now c.args.n m
  truth-parts = parts c.truth-node.ensures.admitted c.requires.of_sort.inside c.truth-node.ensures.value

  -- an equal or a less
  module _ {a b : ℕ} (is : (c.truth-node.result ≡ Equal a b) ⊎ (c.truth-node.result ≡ Less a b)) where
    truth-call : (3 * max a b + 2 < t)
        × ((HasSort c.args.table.now Numeric a × HasSort c.args.table.now Numeric b)
        × SpaceFor c.args.from (nodes_of_a (numeric_in c.args.table.now a) + nodes_of_a (numeric_in c.args.table.now b) + 1)
        (bytes_of_a (numeric_in c.args.table.now a) + bytes_of_a (numeric_in c.args.table.now b) + 8) c.args.out.now)
    unfolding nodes_of_b bytes_of_b
    truth-call =
        ⊎_elim (λ e. call_truth (c.decreases, (c.requires.of_sort, c.requires.space_for)) (truth-parts (Equal a b) e))
        (λ e. call_truth (c.decreases, (c.requires.of_sort, c.requires.space_for)) (truth-parts (Less a b) e)) is

    truth-binary : {node : Node} {out : List ℕ} {r : Size} → node ≡ c.truth-node.result
        → WroteBinary node c.args.from (numeric_in c.args.table.now a) (numeric_in c.args.table.now b) c.args.out.now out r
        → Wrote (write_b c.args.from (truth_in c.args.table.now c.args.n)) c.args.out.now out r
    unfolding write_b form
    truth-binary same w =
        ⊎_elim (λ e. wrote_b _ (truth-parts (Equal a b) e).2 (wrote_made Equal (same ∙ e) (λ i j. refl) w))
        (λ e. wrote_b _ (truth-parts (Less a b) e).2 (wrote_made Less (same ∙ e) (λ i j. refl) w)) is

  -- a not
  module _ {b : ℕ} (is : c.truth-node.result ≡ Not b) where
    truth-not-room : SpaceFor c.args.from (nodes_of_b (truth_in c.args.table.now b) + 1) (bytes_of_b (truth_in c.args.table.now b) + 6) c.args.out.now
    unfolding nodes_of_b bytes_of_b
    truth-not-room = room_b (truth-parts _ is).1 c.requires.space_for

pub copy_truth-append-requires : goal.copy_truth-append-requires
unfolding nodes_of_b bytes_of_b size_of form field_size sum
copy_truth-append-requires t c =
    let at = (goal.at.copy_truth-append-requires t c).After-truth-node in
    room_leaf c.truth-node.result (room_b (truth-parts at _ c.in-Constant.is).1 c.requires.space_for) (ap size_of c.in-Constant.is)

pub copy_truth-returns-in-Constant : goal.copy_truth-returns-in-Constant
unfolding write_b
copy_truth-returns-in-Constant t c =
    let p = truth-parts (goal.at.copy_truth-returns-in-Constant t c).After-truth-node _ c.in-Constant.is in
    wrote_b _ p.1 (wrote_leaf (c.in-Constant.is ∙ ap Constant (sym (constant_value _ p.0))) c.append.ensures)

pub copy_truth-copy_binary-requires : goal.copy_truth-copy_binary-requires
copy_truth-copy_binary-requires t c = truth-call (goal.at.copy_truth-copy_binary-requires t c).After-truth-node c.in-Equal.is

pub copy_truth-returns-in-Equal : goal.copy_truth-returns-in-Equal
copy_truth-returns-in-Equal t c = truth-binary (goal.at.copy_truth-returns-in-Equal t c).After-truth-node c.in-Equal.is c.in-Equal.node-is c.copy_binary.ensures

pub copy_truth-copy_truth-part-requires : goal.copy_truth-copy_truth-part-requires
copy_truth-copy_truth-part-requires t c =
    let at = (goal.at.copy_truth-copy_truth-part-requires t c).After-truth-node in
    let q = lower c.decreases (truth-parts at _ c.in-Not.is).0 in
    (q.0, (q.1, room_first (truth-not-room at c.in-Not.is) (omega arith) (omega arith)))

pub copy_truth-last-truth-requires : goal.copy_truth-last-truth-requires
copy_truth-last-truth-requires t c =
    not_last _ (truth-not-room (goal.at.copy_truth-last-truth-requires t c).After-truth-node c.in-Not.is) c.copy_truth-part.ensures

pub copy_truth-append-requires-in-Not : goal.copy_truth-append-requires-in-Not
unfolding size_of form field_size sum
copy_truth-append-requires-in-Not t c =
    not_room _ (truth-not-room (goal.at.copy_truth-append-requires-in-Not t c).After-truth-node c.in-Not.is) c.copy_truth-part.ensures

pub copy_truth-returns-in-Not : goal.copy_truth-returns-in-Not
copy_truth-returns-in-Not t c =
    let at = (goal.at.copy_truth-returns-in-Not t c).After-truth-node in
    wrote_b _ (truth-parts at _ c.in-Not.is).1 (wrote_not _ (truth-not-room at c.in-Not.is) c.copy_truth-part.ensures c.last-truth.ensures c.append-in-Not.ensures)

pub copy_truth-copy_and-requires : goal.copy_truth-copy_and-requires
copy_truth-copy_and-requires t c =
    call_truth (c.decreases, (c.requires.of_sort, c.requires.space_for)) (truth-parts (goal.at.copy_truth-copy_and-requires t c).After-truth-node _ c.in-And.is)

pub copy_truth-returns-in-And : goal.copy_truth-returns-in-And
copy_truth-returns-in-And t c = wrote_b _ (truth-parts (goal.at.copy_truth-returns-in-And t c).After-truth-node _ c.in-And.is).2 c.copy_and.ensures

pub copy_truth-returns-in_default : goal.copy_truth-returns-in_default
copy_truth-returns-in_default t c =
    let no = c.in_default in
    absurd
    (truth_kinds (λ m. c.truth-node.result ≡ m → ⊥) no.not-Constant no.not-Equal no.not-Less no.not-Not no.not-And c.truth-node.result
    (ap sort_of c.truth-node.ensures.value ∙ c.requires.of_sort.is_sort) refl)
