-- The hardened program (figure 12 of source 004) and its table. f is the flag, "variable number V".
use Rattle.std.specs.Prelude.{ℕ, ◌+◌, Bool, cond, ◌||◌, eqb}
use Rattle.std.proofs.Math.Option.{Option, none, some}
use Rattle.awhile.specs.Language.{AExp, number, variable, choice, BExp, equal, and}
use Rattle.awhile.specs.Language.{Com, skip, assign, sequence, if, while, read, write}
use Rattle.awhile.specs.Tables.{Table}
use Rattle.awhile.specs.Encoding.{write_c}
use Rattle.labels.specs.Sheet.{annotated}
use Rattle.masks.specs.Decisions.{Decision, decide}

-- "A secret condition c becomes (f = 0) and c"
unfoldable pub masked_condition : (f : ℕ) → (mask : Bool) → BExp → BExp
masked_condition f mask c = cond mask (and (equal (variable f) (number 0)) c) c

-- (f = 1) ? 0 : e
unfoldable pub zero_if_guessing : (f : ℕ) → AExp → AExp
zero_if_guessing f e = choice (equal (variable f) (number 1)) (number 0) e

-- "A secret index i of a read or write becomes (f = 1) ? 0 : i"
unfoldable pub masked_index : (f : ℕ) → (mask : Bool) → AExp → AExp
masked_index f mask i = cond mask (zero_if_guessing f i) i

-- A command of the hardened program is the copy of the original's command of a number (some n), or added (none).
abbrev pub Origin : Type 0
Origin = Option ℕ

-- f := c' ? f : 1, where the condition was taken as true
unfoldable pub flag_if_true : (f : ℕ) → BExp → Com Origin
flag_if_true f c = assign none f (choice c (variable f) (number 1))

-- f := c' ? 1 : f, where it was taken as false
unfoldable pub flag_if_false : (f : ℕ) → BExp → Com Origin
flag_if_false f c = assign none f (choice c (number 1) (variable f))

-- X := (f = 1) ? 0 : X
unfoldable pub mask_value_of : (f variable : ℕ) → Com Origin
mask_value_of f x = assign none x (zero_if_guessing f (variable x))

-- "An addition is joined on by one sequence node."
unfoldable pub harden : (f : ℕ) → Com Decision → Com Origin
harden f (skip n) = skip (some n.node)
harden f (assign n x e) = assign (some n.node) x e
harden f (sequence n c d) = sequence (some n.node) (harden f c) (harden f d)
-- "If: the sides begin with f := c' ? f : 1 and f := c' ? 1 : f."
harden f (if n b c d) =
    let b' : BExp = masked_condition f n.mask_condition b in
    if (some n.node) b' (sequence none (flag_if_true f b') (harden f c)) (sequence none (flag_if_false f b') (harden f d))
-- "While: the body begins with f := c' ? f : 1, and after the loop stands f := c' ? 1 : f."
harden f (while n b c) =
    let b' : BExp = masked_condition f n.mask_condition b in
    sequence none (while (some n.node) b' (sequence none (flag_if_true f b') (harden f c))) (flag_if_false f b')
-- "A read whose variable and index labels are public is followed by X := (f = 1) ? 0 : X."
harden f (read n x a i) =
    let copy : Com Origin = read (some n.node) x a (masked_index f n.mask_index i) in
    cond n.mask_value (sequence none copy (mask_value_of f x)) copy
harden f (write n a i e) = write (some n.node) a (masked_index f n.mask_index i) e

-- the hardened program of a table, by the decisions that the labels give
unfoldable pub hardened_program : Table → Com Origin
hardened_program t = harden t.variables (decide (annotated t t.labels))

-- "A hardened table is version 2 where its input is, or where it declares 33 variables; otherwise it stays version 1."
unfoldable pub version_for : (version variables : ℕ) → ℕ
version_for v n = cond (eqb v 2 || eqb n 33) 2 1

-- "the output declares V+1 variables, f public, and its own N; all else of the declarations is unchanged", but for the version
unfoldable pub table_of_hardened : Table → Com Origin → Table
table_of_hardened t c = record { version = version_for t.version (t.variables + 1); variables = t.variables + 1; labels = t.labels; counts = t.counts; nodes = write_c 0 c }

unfoldable pub hardened_table : Table → Table
hardened_table t = table_of_hardened t (hardened_program t)

-- "hardening with N above 512" is refused, so that what comes out, at most 8 nodes per node put in, fits a table
abbrev pub max_hardened : ℕ
max_hardened = 512
