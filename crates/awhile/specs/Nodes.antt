-- The records of nodes: "Each record is one of the kinds below with its own fields."
-- `form` is document 01's list of kinds; all else about a node's record is read off it.
use Rattle.std.specs.Prelude.{ℕ, ◌+◌, Bool, true, false, cond, get_or, eqb, ltb, leb}
use mathlib.Core.List.{List, [], ◌∷◌, ◌++◌, map, flat_map}
use Rattle.bytes_le.specs.Numbers.{le, le_at}
use Rattle.awhile.specs.Lists.{sum, all}
use Rattle.awhile.specs.declared.Sort.{Sort}
use Rattle.awhile.specs.declared.Sort.TheVariants.{Numeric, Truth, Command}
use Rattle.awhile.specs.declared.Node.{Node}
use Rattle.awhile.specs.declared.Node.TheVariants.{Number, Variable, Add, Subtract, Multiply, Choice}
use Rattle.awhile.specs.declared.Node.TheVariants.{Constant, Equal, Less, Not, And}
use Rattle.awhile.specs.declared.Node.TheVariants.{Skip, Assign, Sequence, If, While, Read, Write}
use Rattle.std.specs.Prelude.{Option, Some, None}

-- what a field holds: a 4-byte number, or in 2 bytes a constant, a variable, an array, or a child of a wanted sort
pub data Field : Type 0 where
  word : ℕ → Field
  constant : ℕ → Field
  variable : ℕ → Field
  array : ℕ → Field
  child : Sort → ℕ → Field

-- a record's kind, the sort of what it stands for, and its fields
pub record Form : Type 0 where
  pub kind : ℕ
  pub sort : Sort
  pub fields : List Field

abbrev pub row : ℕ → Sort → List Field → Form
row k s fs = record { kind = k; sort = s; fields = fs }

unfoldable pub form : Node → Form
form (Number n) = row 16 Numeric (word n ∷ [])
form (Variable x) = row 17 Numeric (variable x ∷ [])
form (Add a b) = row 18 Numeric (child Numeric a ∷ child Numeric b ∷ [])
form (Subtract a b) = row 19 Numeric (child Numeric a ∷ child Numeric b ∷ [])
form (Multiply a b) = row 20 Numeric (child Numeric a ∷ child Numeric b ∷ [])
form (Choice c a b) = row 21 Numeric (child Truth c ∷ child Numeric a ∷ child Numeric b ∷ [])
form (Constant n) = row 32 Truth (constant n ∷ [])
form (Equal a b) = row 33 Truth (child Numeric a ∷ child Numeric b ∷ [])
form (Less a b) = row 34 Truth (child Numeric a ∷ child Numeric b ∷ [])
form (Not a) = row 35 Truth (child Truth a ∷ [])
form (And a b) = row 36 Truth (child Truth a ∷ child Truth b ∷ [])
form Skip = row 48 Command []
form (Assign x e) = row 49 Command (variable x ∷ child Numeric e ∷ [])
form (Sequence c d) = row 50 Command (child Command c ∷ child Command d ∷ [])
form (If b c d) = row 51 Command (child Truth b ∷ child Command c ∷ child Command d ∷ [])
form (While b c) = row 52 Command (child Truth b ∷ child Command c ∷ [])
form (Read x a i) = row 53 Command (variable x ∷ array a ∷ child Numeric i ∷ [])
form (Write a i e) = row 54 Command (array a ∷ child Numeric i ∷ child Numeric e ∷ [])

unfoldable pub sort_of : Node → Sort
sort_of n = (form n).sort

-- ---- bytes
unfoldable pub field_bytes : Field → List ℕ
field_bytes (word n) = le 4 n
field_bytes (constant n) = le 2 n
field_bytes (variable x) = le 2 x
field_bytes (array a) = le 2 a
field_bytes (child s n) = le 2 n

unfoldable pub field_size : Field → ℕ
field_size (word n) = 4
field_size (constant n) = 2
field_size (variable x) = 2
field_size (array a) = 2
field_size (child s n) = 2

-- the byte length of a node's whole record: 2 of length, 2 of kind, the fields
unfoldable pub size_of : Node → ℕ
size_of n = 4 + sum (map field_size (form n).fields)

-- "A record is a 2-byte length (of the whole record), a 2-byte kind, then fields"
unfoldable pub node_bytes : Node → List ℕ
node_bytes n = le 2 (size_of n) ++ (le 2 (form n).kind ++ flat_map field_bytes (form n).fields)

-- the node of a kind, from the record's 2-byte fields and, for a number, its 4-byte field
unfoldable pub node_of : (kind first second third word : ℕ) → Option Node
node_of kind f g h w =
    cond (eqb kind 16) (Some (Number w))
    (cond (eqb kind 17) (Some (Variable f))
    (cond (eqb kind 18) (Some (Add f g))
    (cond (eqb kind 19) (Some (Subtract f g))
    (cond (eqb kind 20) (Some (Multiply f g))
    (cond (eqb kind 21) (Some (Choice f g h))
    (cond (eqb kind 32) (Some (Constant f))
    (cond (eqb kind 33) (Some (Equal f g))
    (cond (eqb kind 34) (Some (Less f g))
    (cond (eqb kind 35) (Some (Not f))
    (cond (eqb kind 36) (Some (And f g))
    (cond (eqb kind 48) (Some Skip)
    (cond (eqb kind 49) (Some (Assign f g))
    (cond (eqb kind 50) (Some (Sequence f g))
    (cond (eqb kind 51) (Some (If f g h))
    (cond (eqb kind 52) (Some (While f g))
    (cond (eqb kind 53) (Some (Read f g h))
    (cond (eqb kind 54) (Some (Write f g h))
    None)))))))))))))))))

-- what the record at an offset decodes to, whatever its length says
unfoldable pub decode_at : List ℕ → (at : ℕ) → Option Node
decode_at s at = node_of (le_at 2 s (at + 2)) (le_at 2 s (at + 4)) (le_at 2 s (at + 6)) (le_at 2 s (at + 8)) (le_at 4 s (at + 4))

-- ---- references to other things
-- 4: "a variable not below V, an array not below A, a child not below its parent, or a constant above 1"
unfoldable pub field_in_range : (variables arrays parent : ℕ) → Field → Bool
field_in_range vs arrs p (word n) = true
field_in_range vs arrs p (constant n) = leb n 1
field_in_range vs arrs p (variable x) = ltb x vs
field_in_range vs arrs p (array a) = ltb a arrs
field_in_range vs arrs p (child s n) = ltb n p

unfoldable pub in_range : (variables arrays parent : ℕ) → Node → Bool
in_range vs arrs p n = all (field_in_range vs arrs p) (form n).fields

unfoldable pub same_sort : Sort → Sort → Bool
same_sort Numeric Numeric = true
same_sort Numeric Truth = false
same_sort Numeric Command = false
same_sort Truth Numeric = false
same_sort Truth Truth = true
same_sort Truth Command = false
same_sort Command Numeric = false
same_sort Command Truth = false
same_sort Command Command = true

-- 5: a child's sort is the one its field wants; children stand among the nodes before their parent
unfoldable pub field_sorted : List Node → Field → Bool
field_sorted ns (word n) = true
field_sorted ns (constant n) = true
field_sorted ns (variable x) = true
field_sorted ns (array a) = true
field_sorted ns (child s n) = same_sort (sort_of (get_or ns n Skip)) s

unfoldable pub sorted : List Node → Node → Bool
sorted ns n = all (field_sorted ns) (form n).fields

-- the children's numbers
unfoldable pub field_children : Field → List ℕ
field_children (word n) = []
field_children (constant n) = []
field_children (variable x) = []
field_children (array a) = []
field_children (child s n) = n ∷ []

unfoldable pub children_of : Node → List ℕ
children_of n = flat_map field_children (form n).fields
