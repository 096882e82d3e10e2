-- What a node that was looked up tells: its parts, and the kinds of numbers and of commands.
use Prim.Native.Nat.{ℕ, ◌<◌}
use mathlib.Core.List.{List, [], ◌∷◌}
use mathlib.Core.Path.{◌≡◌, refl, sym, subst, ◌∙◌}
use native.Mathlib.Omega.{arith}
use denote.Enum.Declared.{tag_of}
use types.Run.{OneOf, miss}
use Rattle.bytes_le.proofs.Numbers.{Below}
use Rattle.awhile.specs.Nodes.{form, sort_of}
use Rattle.awhile.specs.declared.Sort.TheVariants.{Numeric, Command}
use Rattle.awhile.specs.declared.Node.{Node}
use Rattle.awhile.specs.declared.Node.TheVariants.{Number, Variable, Add, Subtract, Multiply, Choice}
use Rattle.awhile.specs.declared.Node.TheVariants.{Constant, Equal, Less, Not, And}
use Rattle.awhile.specs.declared.Node.TheVariants.{Skip, Assign, Sequence, If, While, Read, Write}
use Rattle.awhile.specs.contracts.Node.{the_type}
use Rattle.reader.specs.Index.{Indexed, nodes_in, node_in, Single}
use Rattle.reader.proofs.Index.{Parts, indexed_parts}

-- the parts of a node that was looked up
pub node_parts : {table index : List ℕ} {n : ℕ} {r : Node} → Below 256 table → Indexed table index → n < nodes_in table → r ≡ node_in table n
    → (m : Node) → r ≡ m → Parts table n m
node_parts {table} {index} {n} bytes indexed inside e m h = indexed_parts table index bytes indexed n inside m (sym e ∙ h)

-- what holds of every kind of number holds of every numeric node
pub numeric_kinds : (P : Node → Type 0) → ((v : ℕ) → P (Number v)) → ((x : ℕ) → P (Variable x)) → ((a b : ℕ) → P (Add a b)) → ((a b : ℕ) → P (Subtract a b))
    → ((a b : ℕ) → P (Multiply a b)) → ((c a b : ℕ) → P (Choice c a b)) → (m : Node) → sort_of m ≡ Numeric → P m
unfolding sort_of form
numeric_kinds P number variable add subtract multiply choice (Number v) sort = number v
numeric_kinds P number variable add subtract multiply choice (Variable x) sort = variable x
numeric_kinds P number variable add subtract multiply choice (Add a b) sort = add a b
numeric_kinds P number variable add subtract multiply choice (Subtract a b) sort = subtract a b
numeric_kinds P number variable add subtract multiply choice (Multiply a b) sort = multiply a b
numeric_kinds P number variable add subtract multiply choice (Choice c a b) sort = choice c a b
numeric_kinds P number variable add subtract multiply choice (Constant v) sort = absurd (let z : ◌≡◌ {A = ℕ} 0 1 = cc in omega arith)
numeric_kinds P number variable add subtract multiply choice (Equal a b) sort = absurd (let z : ◌≡◌ {A = ℕ} 0 1 = cc in omega arith)
numeric_kinds P number variable add subtract multiply choice (Less a b) sort = absurd (let z : ◌≡◌ {A = ℕ} 0 1 = cc in omega arith)
numeric_kinds P number variable add subtract multiply choice (Not a) sort = absurd (let z : ◌≡◌ {A = ℕ} 0 1 = cc in omega arith)
numeric_kinds P number variable add subtract multiply choice (And a b) sort = absurd (let z : ◌≡◌ {A = ℕ} 0 1 = cc in omega arith)
numeric_kinds P number variable add subtract multiply choice Skip sort = absurd (let z : ◌≡◌ {A = ℕ} 0 1 = cc in omega arith)
numeric_kinds P number variable add subtract multiply choice (Assign x e) sort = absurd (let z : ◌≡◌ {A = ℕ} 0 1 = cc in omega arith)
numeric_kinds P number variable add subtract multiply choice (Sequence c d) sort = absurd (let z : ◌≡◌ {A = ℕ} 0 1 = cc in omega arith)
numeric_kinds P number variable add subtract multiply choice (If b c d) sort = absurd (let z : ◌≡◌ {A = ℕ} 0 1 = cc in omega arith)
numeric_kinds P number variable add subtract multiply choice (While b c) sort = absurd (let z : ◌≡◌ {A = ℕ} 0 1 = cc in omega arith)
numeric_kinds P number variable add subtract multiply choice (Read x a i) sort = absurd (let z : ◌≡◌ {A = ℕ} 0 1 = cc in omega arith)
numeric_kinds P number variable add subtract multiply choice (Write a i e) sort = absurd (let z : ◌≡◌ {A = ℕ} 0 1 = cc in omega arith)

-- what holds of every kind of command holds of every command node
pub command_kinds : (P : Node → Type 0) → P Skip → ((x e : ℕ) → P (Assign x e)) → ((c d : ℕ) → P (Sequence c d)) → ((b c d : ℕ) → P (If b c d))
    → ((b c : ℕ) → P (While b c)) → ((x a i : ℕ) → P (Read x a i)) → ((a i e : ℕ) → P (Write a i e)) → (m : Node) → sort_of m ≡ Command → P m
unfolding sort_of form
command_kinds P skip assign sequence if while read write (Number v) sort = absurd (let z : ◌≡◌ {A = ℕ} 0 1 = cc in omega arith)
command_kinds P skip assign sequence if while read write (Variable x) sort = absurd (let z : ◌≡◌ {A = ℕ} 0 1 = cc in omega arith)
command_kinds P skip assign sequence if while read write (Add a b) sort = absurd (let z : ◌≡◌ {A = ℕ} 0 1 = cc in omega arith)
command_kinds P skip assign sequence if while read write (Subtract a b) sort = absurd (let z : ◌≡◌ {A = ℕ} 0 1 = cc in omega arith)
command_kinds P skip assign sequence if while read write (Multiply a b) sort = absurd (let z : ◌≡◌ {A = ℕ} 0 1 = cc in omega arith)
command_kinds P skip assign sequence if while read write (Choice c a b) sort = absurd (let z : ◌≡◌ {A = ℕ} 0 1 = cc in omega arith)
command_kinds P skip assign sequence if while read write (Constant v) sort = absurd (let z : ◌≡◌ {A = ℕ} 0 1 = cc in omega arith)
command_kinds P skip assign sequence if while read write (Equal a b) sort = absurd (let z : ◌≡◌ {A = ℕ} 0 1 = cc in omega arith)
command_kinds P skip assign sequence if while read write (Less a b) sort = absurd (let z : ◌≡◌ {A = ℕ} 0 1 = cc in omega arith)
command_kinds P skip assign sequence if while read write (Not a) sort = absurd (let z : ◌≡◌ {A = ℕ} 0 1 = cc in omega arith)
command_kinds P skip assign sequence if while read write (And a b) sort = absurd (let z : ◌≡◌ {A = ℕ} 0 1 = cc in omega arith)
command_kinds P skip assign sequence if while read write Skip sort = skip
command_kinds P skip assign sequence if while read write (Assign x e) sort = assign x e
command_kinds P skip assign sequence if while read write (Sequence c d) sort = sequence c d
command_kinds P skip assign sequence if while read write (If b c d) sort = if b c d
command_kinds P skip assign sequence if while read write (While b c) sort = while b c
command_kinds P skip assign sequence if while read write (Read x a i) sort = read x a i
command_kinds P skip assign sequence if while read write (Write a i e) sort = write a i e

-- the kinds of nodes that a function over commands with parts does not name
abbrev pub unnamed_command : List ℕ
unnamed_command = 0 ∷ 1 ∷ 2 ∷ 3 ∷ 4 ∷ 5 ∷ 6 ∷ 7 ∷ 8 ∷ 9 ∷ 10 ∷ 11 ∷ 12 ∷ 16 ∷ 17 ∷ []

-- the kinds of nodes that a function over commands without parts does not name
abbrev pub unnamed_single : List ℕ
unnamed_single = 0 ∷ 1 ∷ 2 ∷ 3 ∷ 4 ∷ 5 ∷ 6 ∷ 7 ∷ 8 ∷ 9 ∷ 10 ∷ 11 ∷ 13 ∷ 14 ∷ 15 ∷ []

-- a node that is not named has no command parts
pub unnamed_single_lem : (m : Node) → OneOf unnamed_command (tag_of the_type m) → Single m
unnamed_single_lem m o =
    record {
      no_sequence = λ c d e. miss unnamed_command 13 tt (subst (λ k. OneOf unnamed_command (tag_of the_type k)) e o);
      no_if = λ b c d e. miss unnamed_command 14 tt (subst (λ k. OneOf unnamed_command (tag_of the_type k)) e o);
      no_while = λ b c e. miss unnamed_command 15 tt (subst (λ k. OneOf unnamed_command (tag_of the_type k)) e o);
    }

-- a command without parts that is not named is a skip
pub unnamed_skip : (m : Node) → sort_of m ≡ Command → OneOf unnamed_single (tag_of the_type m) → Single m → m ≡ Skip
unnamed_skip =
    command_kinds (λ m. OneOf unnamed_single (tag_of the_type m) → Single m → m ≡ Skip)
    (λ o s. refl)
    (λ v e o s. absurd (miss unnamed_single 12 tt o))
    (λ c d o s. absurd (s.no_sequence c d refl))
    (λ b c d o s. absurd (s.no_if b c d refl))
    (λ b c o s. absurd (s.no_while b c refl))
    (λ v a i o s. absurd (miss unnamed_single 16 tt o))
    (λ a i e o s. absurd (miss unnamed_single 17 tt o))
