-- The program that a table's nodes describe: each node as an expression or a command, and the root.
use Rattle.std.specs.Prelude.{ℕ, ◌-◌, List, [], ◌∷◌, ◌++◌, length, get_or, eqb, false}
use Rattle.awhile.specs.Language.{AExp, number, variable, add, subtract, multiply, choice}
use Rattle.awhile.specs.Language.{BExp, constant, equal, less, not, and}
use Rattle.awhile.specs.Language.{Com, skip, assign, sequence, if, while, read, write}
use Rattle.awhile.specs.Tables.{Table}
use Rattle.awhile.specs.declared.Node.{Node}
use Rattle.awhile.specs.declared.Node.TheVariants.{Number, Variable, Add, Subtract, Multiply, Choice}
use Rattle.awhile.specs.declared.Node.TheVariants.{Constant, Equal, Less, Not, And}
use Rattle.awhile.specs.declared.Node.TheVariants.{Skip, Assign, Sequence, If, While, Read, Write}

-- a node's tree, of one of the three sorts
pub data Tree : Type 0 where
  numeric : AExp → Tree
  truth : BExp → Tree
  command : Com ℕ → Tree

-- a tree as the sort that its parent wants. An accepted table never has another sort there: what stands for it then is of no account
unfoldable pub as_numeric : Tree → AExp
as_numeric (numeric a) = a
as_numeric (truth b) = number 0
as_numeric (command c) = number 0

unfoldable pub as_truth : Tree → BExp
as_truth (numeric a) = constant false
as_truth (truth b) = b
as_truth (command c) = constant false

unfoldable pub as_command : Tree → Com ℕ
as_command (numeric a) = skip 0
as_command (truth b) = skip 0
as_command (command c) = c

-- the tree of node n, from those of its children; a command is noted with its node number
unfoldable pub tree_of : (ℕ → Tree) → (n : ℕ) → Node → Tree
tree_of t n (Number v) = numeric (number v)
tree_of t n (Variable x) = numeric (variable x)
tree_of t n (Add a b) = numeric (add (as_numeric (t a)) (as_numeric (t b)))
tree_of t n (Subtract a b) = numeric (subtract (as_numeric (t a)) (as_numeric (t b)))
tree_of t n (Multiply a b) = numeric (multiply (as_numeric (t a)) (as_numeric (t b)))
tree_of t n (Choice c a b) = numeric (choice (as_truth (t c)) (as_numeric (t a)) (as_numeric (t b)))
tree_of t n (Constant v) = truth (constant (eqb v 1))
tree_of t n (Equal a b) = truth (equal (as_numeric (t a)) (as_numeric (t b)))
tree_of t n (Less a b) = truth (less (as_numeric (t a)) (as_numeric (t b)))
tree_of t n (Not a) = truth (not (as_truth (t a)))
tree_of t n (And a b) = truth (and (as_truth (t a)) (as_truth (t b)))
tree_of t n Skip = command (skip n)
tree_of t n (Assign x e) = command (assign n x (as_numeric (t e)))
tree_of t n (Sequence c d) = command (sequence n (as_command (t c)) (as_command (t d)))
tree_of t n (If b c d) = command (if n (as_truth (t b)) (as_command (t c)) (as_command (t d)))
tree_of t n (While b c) = command (while n (as_truth (t b)) (as_command (t c)))
tree_of t n (Read x a i) = command (read n x a (as_numeric (t i)))
tree_of t n (Write a i e) = command (write n a (as_numeric (t i)) (as_numeric (t e)))

-- the tree at a place of a list of trees
unfoldable pub tree_at : List Tree → ℕ → Tree
tree_at ts n = get_or ts n (command (skip 0))

-- the trees of all nodes, in their order: each is built from those before it
unfoldable pub grow_trees : List Tree → List Node → List Tree
grow_trees ts [] = ts
grow_trees ts (n ∷ ns) = grow_trees (ts ++ (tree_of (tree_at ts) (length ts) n ∷ [])) ns

unfoldable pub trees : List Node → List Tree
trees ns = grow_trees [] ns

-- "the last is a command, the root"
unfoldable pub root_of : Table → Com ℕ
root_of t = as_command (tree_at (trees t.nodes) (length t.nodes - 1))
