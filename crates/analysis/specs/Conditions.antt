-- What the functions of src/ require of a table, the variables named for its expressions and the notes, and what the analysis leaves.
use Rattle.std.specs.Prelude.{ℕ, ◌<◌, ◌≤◌, Bool, ◌||◌, List, ◌≡◌, length, get_or}
use Rattle.reader.specs.Index.{table_of, nodes_in, truth_in, command_in, HasSort}
use Rattle.awhile.specs.Language.{BExp, Com, while, note_of}
use Rattle.awhile.specs.Standing.{Distinct}
use Rattle.awhile.specs.declared.Labelling.{Labelling}
use Rattle.awhile.specs.declared.Node.{Node}
use Rattle.awhile.specs.declared.Node.TheVariants.{Skip, Assign, Read, Write}
use Rattle.awhile.specs.declared.Sort.TheVariants.{Command}
use Rattle.labels.specs.Labellings.{variable_mark, array_mark, label_of, set_label, label_of_b, join, ◌⊑◌}
use Rattle.labels.specs.Analysis.{analyse}
use Rattle.labels.specs.Annotation.{annotate}
use Rattle.labels.specs.Sheet.{annotated}
use Rattle.variables.specs.Variables.{meet}
use Rattle.analysis.specs.declared.noting.Note.{Note}
use Rattle.analysis.specs.Notes.{blank, Noted}
use Rattle.analysis.specs.Warm.{Outside, kept_in, InOrder}

-- ---- commands without parts, by what is named for their expressions
-- the label of the expression at a node
abbrev pub label_at : (named : List ℕ) → Labelling → (node : ℕ) → Bool
label_at named l e = meet l.variables (get_or named e 0)

-- the fields of such a command are in bounds
pub record SingleFits (room : ℕ) (node : Node) : Type 0 where
  pub assign : (x e : ℕ) → node ≡ Assign x e → (x < 64) × (e < room)
  pub read : (x a i : ℕ) → node ≡ Read x a i → (x < 64) × (i < room)
  pub write : (a i e : ℕ) → node ≡ Write a i e → (a < 16) × (i < room) × (e < room)

-- the labelling after it
pub record SingleAfter (named : List ℕ) (node : Node) (x : Bool) (l result : Labelling) : Type 0 where
  pub skip : node ≡ Skip → result ≡ l
  pub assign : (v e : ℕ) → node ≡ Assign v e → result ≡ set_label l (variable_mark v) (label_at named l e || x)
  pub read : (v a i : ℕ) → node ≡ Read v a i → result ≡ set_label l (variable_mark v) (label_at named l i || (label_of l (array_mark a) || x))
  pub write : (a i e : ℕ) → node ≡ Write a i e
      → result ≡ set_label l (array_mark a) (label_of l (array_mark a) || (label_at named l i || (label_at named l e || x)))

-- ---- commands
-- there is room for the notes of all nodes
pub record NoteRoom (table : List ℕ) (notes : List Note) : Type 0 where
  pub room : nodes_in table ≤ length notes

-- what the analysis of a command requires: its commands have numbers of their own, and the notes are in order
pub record Analysable (table : List ℕ) (notes : List Note) (n : ℕ) (x : Bool) (l : Labelling) : Type 0 where
  pub node : HasSort table Command n
  pub distinct : Distinct (command_in table n)
  pub notes_fit : NoteRoom table notes
  pub in_order : InOrder notes (command_in table n) x l

-- what it leaves: the labelling after it, the notes of its commands, and all other notes as they were
pub record Analysed (c : Com ℕ) (x : Bool) (l : Labelling) (ns ns' : List Note) (result : Labelling) : Type 0 where
  pub answers : result ≡ analyse c x l
  pub notes : Noted ns' (annotate c x l)
  pub outside : Outside c ns ns'

-- what settling a loop requires, from its condition and its body: the variables named for the condition are its own
pub record Settleable (table named : List ℕ) (notes : List Note) (condition body : ℕ) (x : Bool) (l : Labelling) : Type 0 where
  pub test : (m : Labelling) → label_at named m condition ≡ label_of_b m (truth_in table condition)
  pub inside : condition < nodes_in table
  pub node : HasSort table Command body
  pub distinct : Distinct (command_in table body)
  pub notes_fit : NoteRoom table notes
  pub kept : kept_in notes (command_in table body) ⊑ analyse (while (note_of (command_in table body)) (truth_in table condition) (command_in table body)) x l
  pub in_order : InOrder notes (command_in table body)
      (label_of_b (join l (kept_in notes (command_in table body))) (truth_in table condition) || x) (join l (kept_in notes (command_in table body)))

-- what settling a loop leaves: the settled labelling, the notes of its body as entered with it, and all other notes as they were
pub record SettledLoop (b : BExp) (c : Com ℕ) (x : Bool) (l : Labelling) (ns ns' : List Note) (result : Labelling) : Type 0 where
  pub answers : result ≡ analyse (while (note_of c) b c) x l
  pub notes : Noted ns' (annotate c (label_of_b result b || x) result)
  pub outside : Outside c ns ns'

-- ---- whole programs
-- what the analysis of a whole program requires: the notes are all blank
pub record Fresh (table : List ℕ) (notes : List Note) : Type 0 where
  pub notes_fit : NoteRoom table notes
  pub blanks : (p : ℕ) → get_or notes p blank ≡ blank

-- what labelling a table that was read requires: memory for its expressions' variables and for notes that are all blank
pub record LabelReady (table named : List ℕ) (notes : List Note) : Type 0 where
  pub named_fit : nodes_in table ≤ length named
  pub fresh : Fresh table notes

-- what it leaves: the notes of the program's commands, as they are entered when the analysis starts from this labelling
pub record Labelled (table : List ℕ) (ns : List Note) (l : Labelling) : Type 0 where
  pub notes_fit : NoteRoom table ns
  pub notes : Noted ns (annotated (table_of table) l)
