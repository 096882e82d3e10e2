-- What the parts of the reader answer, given what the definitions of reading do.
use Rattle.std.specs.Prelude.{ℕ, ◌+◌, ◌-◌, ◌≤◌, ◌<◌, Bool, true, false, ◌≡◌, length, get_or, set, take, ltb, List, [], ◌∷◌, map, Option, Some, None, Result, Ok, Err}
use Rattle.awhile.specs.Lists.{sum, all}
use Rattle.awhile.specs.Refusals.{Answer, as_result, refused, got, passed, check}
use Rattle.awhile.specs.Nodes.{Field, word, constant, variable, array, child, Form, row, form, field_size, size_of, sort_of, decode_at, field_in_range, field_sorted}
use Rattle.awhile.specs.Tables.{framed, read_node, uses_of, all_in_order, LowestBroken}
use Rattle.awhile.specs.declared.Header.{Header}
use Rattle.awhile.specs.declared.Sort.{Sort}
use Rattle.awhile.specs.declared.Sort.TheVariants.{Numeric, Truth, Command}
use Rattle.awhile.specs.declared.Node.{Node}
use Rattle.awhile.specs.declared.Node.TheVariants.{Skip}
use Rattle.awhile.specs.declared.Refusal.{Refusal}
use Rattle.awhile.specs.declared.Refusal.TheVariants.{OutOfRange, WrongSort}
use Rattle.record.specs.declared.forms.Field.{Field as FieldRead}
use Rattle.record.specs.declared.forms.Field.TheVariants.{Constant, Variable, Array, Child}
use Rattle.record.specs.declared.forms.Fields.{Fields}
use Rattle.record.specs.declared.forms.Fields.TheVariants.{Nothing, Word, One, Two, Three}
use Rattle.record.specs.declared.forms.Form.{Form as FormRead}

-- ---- the form of a record
-- the field that the code's field is
abbrev pub field_of : FieldRead → Field
field_of (Constant n) = constant n
field_of (Variable x) = variable x
field_of (Array a) = array a
field_of (Child s n) = child s n

-- the fields that the code's fields are
abbrev pub fields_of : Fields → List Field
fields_of Nothing = []
fields_of (Word n) = word n ∷ []
fields_of (One f) = field_of f ∷ []
fields_of (Two f g) = field_of f ∷ field_of g ∷ []
fields_of (Three f g h) = field_of f ∷ field_of g ∷ field_of h ∷ []

-- the form that the code's form is
abbrev pub form_of : FormRead → Form
form_of f = row f.kind f.sort (fields_of f.fields)

-- a sort is that of all nodes of a kind
abbrev pub SortOfKind : (kind : ℕ) → Sort → Type 0
SortOfKind k t = (n : Node) → k ≡ (form n).kind → t ≡ sort_of n

-- a form with these fields is that of every node whose form has them, and this kind
abbrev pub RowOf : (kind : ℕ) → List Field → Form → Type 0
RowOf k fs f = (n : Node) → form n ≡ row k (sort_of n) fs → f ≡ form n

-- ---- the nodes
-- a node that was read, with what its fields hold
pub record NodeKnown (a : Answer Node) (fs : Fields) : Type 0 where
  pub node : Node
  pub is_node : a ≡ got node
  pub is_fields : fields_of fs ≡ (form node).fields

-- one node record
abbrev pub NodeAs : Answer Node → Result Fields Refusal → Type 0
NodeAs a (Err r) = a ≡ refused r
NodeAs a (Ok fs) = NodeKnown a fs

-- the sort of the node that the record at an offset decodes to
pub record SortAt (s : List ℕ) (at : ℕ) (r : Sort) : Type 0 where
  pub is_sort : (n : Node) → decode_at s at ≡ Some n → r ≡ sort_of n

-- the offsets of an index lead to the records of these nodes
pub record Leads (s index : List ℕ) (ns : List Node) : Type 0 where
  pub decoded : (i : ℕ) → i < length ns → decode_at s (get_or index i 0) ≡ Some (get_or ns i Skip)

-- the first so many offsets of an index lead to whole heads of records
pub record Heads (s index : List ℕ) (n : ℕ) : Type 0 where
  pub long : n ≤ length index
  pub whole : (i : ℕ) → i < n → get_or index i 0 + 4 ≤ length s

-- so does the one of a child that a field names
pub record ChildThere (s index : List ℕ) (f : Field) : Type 0 where
  pub there : (sort : Sort) (node : ℕ) → f ≡ child sort node → (node < length index) × (get_or index node 0 + 4 ≤ length s)

-- and of all children that fields name
abbrev pub AllThere : (s index : List ℕ) → List Field → Type 0
AllThere s index [] = Unit {0}
AllThere s index (f ∷ fs) = ChildThere s index f × AllThere s index fs

-- whether the children that fields name are of the wanted sorts, by an index of the nodes before
pub record SortedBy (s index : List ℕ) (fs : List Field) (r : Bool) : Type 0 where
  pub is_sorted : (vs arrs : ℕ) (ns : List Node) → Leads s index ns → all (field_in_range vs arrs (length ns)) fs ≡ true → r ≡ all (field_sorted ns) fs

-- what the test of these sorts answers: it passes where they are, and stops at the record of the fields where one is not
abbrev pub SortsAs : (s index : List ℕ) (at : ℕ) → List Field → Result (Unit {0}) Refusal → Type 0
SortsAs s index at fs (Err r) = (r ≡ WrongSort at) × SortedBy s index fs false
SortsAs s index at fs (Ok u) = SortedBy s index fs true

-- a record with these fields is tested in the order of `read_node`: its frame, all ranges, all sorts
pub record RecordChecked (s index : List ℕ) (h : Header) (n at : ℕ) (fs : List Field) (r : Result (Unit {0}) Refusal) : Type 0 where
  pub is_checked : (before : List Node) → length before ≡ n → Leads s index before
      → r ≡ as_result (framed s at (4 + sum (map field_size fs))
      (check (all (field_in_range h.variables h.arrays n) fs) (OutOfRange at)
      (check (all (field_sorted before) fs) (WrongSort at)
      passed)))

-- what reading the next node answers, by an index of the nodes before
pub record NodeChecked (s index : List ℕ) (h : Header) (n at : ℕ) (r : Result Fields Refusal) : Type 0 where
  pub is_read : (before : List Node) → length before ≡ n → Leads s index before
      → (version nodes : ℕ) → NodeAs (read_node (record { version = version; variables = h.variables; arrays = h.arrays; nodes = nodes }) s at before) r

-- ---- how often a node is a child
-- counts with one more for each of these numbers
unfoldable pub tally : List ℕ → List ℕ → List ℕ
tally counts [] = counts
tally counts (n ∷ ns) = tally (set counts n (get_or counts n 0 + 1)) ns

-- every number is below a bound
unfoldable pub all_below : (bound : ℕ) → List ℕ → Bool
all_below bound ns = all (λ n. ltb n bound) ns

-- every count is below a bound
pub record CountsBelow (bound : ℕ) (counts : List ℕ) : Type 0 where
  pub each : (n : ℕ) → get_or counts n 0 < bound

-- ---- all nodes
-- what was kept of nodes that were read: offsets that lead to their records, which are whole, and how often each number is a child
pub record Kept (s index uses : List ℕ) (start : ℕ) (ns : List Node) : Type 0 where
  pub leads : Leads s index ns
  pub offsets : (i : ℕ) → i < length ns → get_or index i 0 ≡ start + sum (map size_of (take i ns))
  pub heads : (i : ℕ) → i < length ns → get_or index i 0 + 4 ≤ length s
  pub used : (n : ℕ) → get_or uses n 0 ≡ uses_of ns n

-- ---- the nodes as one tree
-- the lowest-numbered node that is not in order, or that all are
abbrev pub OrderFound : List Node → Option ℕ → Type 0
OrderFound ns (Some n) = LowestBroken ns n
OrderFound ns None = all_in_order ns (length ns) ≡ true

-- what looking through the counts finds, where they are those of nodes and the root's sort is the last node's
pub record OrderSearched (uses : List ℕ) (nodes : ℕ) (root : Sort) (r : Option ℕ) : Type 0 where
  pub found : (ns : List Node) → length ns ≡ nodes → ((n : ℕ) → get_or uses n 0 ≡ uses_of ns n) → sort_of (get_or ns (nodes - 1) Skip) ≡ root → OrderFound ns r
