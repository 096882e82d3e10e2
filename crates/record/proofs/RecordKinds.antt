-- The kind of a record tells its node's sort; and of a sort, the kind tells which node it is and how long its record is.
use Prim.Native.Nat.{ℕ, zero, suc, ◌+◌, ◌-◌, ◌≤◌, ◌<◌}
use native.Mathlib.Omega.{arith}
use mathlib.Core.Bool.{Bool, true, false, cond}
use mathlib.Core.Path.{◌≡◌, refl, sym, ap, subst, ◌∙◌}
use mathlib.Core.List.{List}
use lib.ListN.{length}
use lib.Dec.{eqb}
use borrow.Author.Tests.{eqb-true}
use Rattle.bytes_le.specs.Numbers.{le_at}
use Rattle.awhile.specs.Nodes.{Field, Form, row, form, size_of, sort_of, node_of, decode_at}
use Rattle.awhile.proofs.Cases.{decoded_same}
use Rattle.awhile.proofs.Records.{NodeAt, size_least}
use Rattle.record.specs.RecordRead.{SortAt, SortOfKind, RowOf}
use Rattle.awhile.specs.declared.Sort.{Sort}
use Rattle.awhile.specs.declared.Sort.TheVariants.{Numeric, Truth, Command}
use Rattle.awhile.specs.declared.Node.{Node}
use Rattle.awhile.specs.declared.Node.TheVariants.{Number, Variable, Add, Subtract, Multiply, Choice}
use Rattle.awhile.specs.declared.Node.TheVariants.{Constant, Equal, Less, Not, And}
use Rattle.awhile.specs.declared.Node.TheVariants.{Skip, Assign, Sequence, If, While, Read, Write}
use Rattle.std.proofs.Common.{Option, Some, None}

-- ---- a kind that decodes is the node's
abbrev KindIs : (kind : ℕ) → Option Node → Type 0
KindIs k (Some n) = k ≡ (form n).kind
KindIs k None = Unit

kind_case : (k wanted : ℕ) (x y : Option Node) → (k ≡ wanted → KindIs k x) → KindIs k y → KindIs k (cond (eqb k wanted) x y)
kind_case k wanted x y p q = go (eqb k wanted) refl
  where
    go : (b : Bool) → eqb k wanted ≡ b → KindIs k (cond b x y)
    go true e = p (eqb-true k wanted e)
    go false e = q

node_of_kind : (k f g h w : ℕ) → KindIs k (node_of k f g h w)
unfolding node_of form
node_of_kind k f g h w =
    kind_case k 16 _ _ (λ e. e)
    (kind_case k 17 _ _ (λ e. e)
    (kind_case k 18 _ _ (λ e. e)
    (kind_case k 19 _ _ (λ e. e)
    (kind_case k 20 _ _ (λ e. e)
    (kind_case k 21 _ _ (λ e. e)
    (kind_case k 32 _ _ (λ e. e)
    (kind_case k 33 _ _ (λ e. e)
    (kind_case k 34 _ _ (λ e. e)
    (kind_case k 35 _ _ (λ e. e)
    (kind_case k 36 _ _ (λ e. e)
    (kind_case k 48 _ _ (λ e. e)
    (kind_case k 49 _ _ (λ e. e)
    (kind_case k 50 _ _ (λ e. e)
    (kind_case k 51 _ _ (λ e. e)
    (kind_case k 52 _ _ (λ e. e)
    (kind_case k 53 _ _ (λ e. e)
    (kind_case k 54 _ _ (λ e. e) tt)))))))))))))))))

-- ---- the kinds of a sort stand side by side
abbrev pub first_kind : Sort → ℕ
first_kind Numeric = 16
first_kind Truth = 32
first_kind Command = 48

abbrev pub last_kind : Sort → ℕ
last_kind Numeric = 21
last_kind Truth = 36
last_kind Command = 54

abbrev KindOf : Sort → (kind : ℕ) → Type 0
KindOf t k = (first_kind t ≤ k) × (k ≤ last_kind t)

-- and what is below the first of the next sort is of this one
abbrev pub Span : Sort → (kind : ℕ) → Type 0
Span Numeric k = k < 32
Span Truth k = (32 ≤ k) × (k < 48)
Span Command k = 48 ≤ k

kind_of : (n : Node) → KindOf (sort_of n) (form n).kind
unfolding sort_of form
kind_of (Number v) = (omega arith, omega arith)
kind_of (Variable a) = (omega arith, omega arith)
kind_of (Add a b) = (omega arith, omega arith)
kind_of (Subtract a b) = (omega arith, omega arith)
kind_of (Multiply a b) = (omega arith, omega arith)
kind_of (Choice a b c) = (omega arith, omega arith)
kind_of (Constant a) = (omega arith, omega arith)
kind_of (Equal a b) = (omega arith, omega arith)
kind_of (Less a b) = (omega arith, omega arith)
kind_of (Not a) = (omega arith, omega arith)
kind_of (And a b) = (omega arith, omega arith)
kind_of Skip = (omega arith, omega arith)
kind_of (Assign a b) = (omega arith, omega arith)
kind_of (Sequence a b) = (omega arith, omega arith)
kind_of (If a b c) = (omega arith, omega arith)
kind_of (While a b) = (omega arith, omega arith)
kind_of (Read a b c) = (omega arith, omega arith)
kind_of (Write a b c) = (omega arith, omega arith)

-- a kind within the span of one sort is of no other
span_sort : (t u : Sort) (k : ℕ) → Span t k → KindOf u k → t ≡ u
span_sort Numeric Numeric k p r = refl
span_sort Numeric Truth k p r = absurd (omega (arith, r.0))
span_sort Numeric Command k p r = absurd (omega (arith, r.0))
span_sort Truth Numeric k p r = absurd (omega (arith, p.0, r.1))
span_sort Truth Truth k p r = refl
span_sort Truth Command k p r = absurd (omega (arith, p.1, r.0))
span_sort Command Numeric k p r = absurd (omega (arith, r.1))
span_sort Command Truth k p r = absurd (omega (arith, r.1))
span_sort Command Command k p r = refl

-- so a span tells the sort of all nodes of a kind
pub span_tells : (t : Sort) (k : ℕ) → Span t k → SortOfKind k t
span_tells t k span = λ n e. span_sort t (sort_of n) k span (rw e (kind_of n))

-- and a row whose sort is that of its kind is the form of a node that has its kind and its fields
pub row_told : (k : ℕ) (t : Sort) (fs : List Field) → SortOfKind k t → RowOf k fs (row k t fs)
row_told k t fs told = λ n e. rw (told n (sym (ap (λ (f : Form). f.kind) e))) (sym e)

-- a number is none of so many from a least one up
abbrev pub Others : (least count k : ℕ) → Type 0
Others least zero k = Unit
Others least (suc count) k = Others least count k × (k ≡ least + count → ⊥)

-- so it is above them
above : (least count k : ℕ) → least ≤ k → Others least count k → least + count ≤ k
above least zero k low others = omega arith
above least (suc count) k low others = omega (arith, above least count k low others.0, others.1)

module _ (s : List ℕ) (at : ℕ) where
  decoded_kind : (n : Node) → decode_at s at ≡ Some n → le_at 2 s (at + 2) ≡ (form n).kind
  unfolding decode_at
  decoded_kind n d = subst (KindIs (le_at 2 s (at + 2))) d (node_of_kind (le_at 2 s (at + 2)) (le_at 2 s (at + 4)) (le_at 2 s (at + 6)) (le_at 2 s (at + 8)) (le_at 4 s (at + 4)))

  -- the sort of a record's kind is its node's
  pub kind_read : (t : Sort) (k : ℕ) → k ≡ le_at 2 s (at + 2) → SortOfKind k t → SortAt s at t
  kind_read t k e told = record { is_sort = λ n d. told n (e ∙ decoded_kind n d) }

  decoded_range : (n : Node) → decode_at s at ≡ Some n → KindOf (sort_of n) (le_at 2 s (at + 2))
  decoded_range n d = rw (decoded_kind n d) (kind_of n)

  -- a sort is told by where the kinds of the next begin
  pub kind_tells : (t : Sort) (k : ℕ) → k ≡ le_at 2 s (at + 2) → Span t k → SortAt s at t
  kind_tells t k e span = kind_read t k e (span_tells t k span)

  -- ---- the node of a record, by its kind
  module _ (n : Node) (there : NodeAt s at n) where
    -- the node, and as many bytes as its record has
    pub record Stored (m : Node) : Type 0 where
      pub is_node : m ≡ n
      pub whole : at + size_of m ≤ length s

    -- the kind of a record tells which node its fields make
    abbrev pub StoredAs : (k : ℕ) → Type 0
    StoredAs k =
        (kind : ℕ) → k ≡ kind → (m : Node)
        → node_of kind (le_at 2 s (at + 4)) (le_at 2 s (at + 6)) (le_at 2 s (at + 8)) (le_at 4 s (at + 4)) ≡ Some m → Stored m

    pub stored : (k : ℕ) → k ≡ le_at 2 s (at + 2) → StoredAs k
    unfolding decode_at
    stored k read kind is m made =
        let same = decoded_same (decode_at s at) m n (rw (← read, is) made) there.decoded in
        record { is_node = same; whole = rw same there.inside }

    -- every record has its head
    pub head_there : at + 4 ≤ length s
    head_there = omega (arith, there.inside, size_least n)

    -- of the kinds of a sort, what is none of the others is the last
    pub last_kind_lem : (t : Sort) → sort_of n ≡ t → (k : ℕ) → k ≡ le_at 2 s (at + 2) → Others (first_kind t) (last_kind t - first_kind t) k → k ≡ last_kind t
    last_kind_lem t e k is others =
        let kinds : KindOf t k = rw (e, ← is) at (decoded_range n there.decoded) in
        omega (arith, kinds.1, above (first_kind t) (last_kind t - first_kind t) k kinds.0 others)
