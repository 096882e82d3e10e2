-- What the labels promise: the statements of the theorems about labellings, the analysis and annotated programs.
use Rattle.std.specs.Prelude.{ℕ, zero, suc, ◌+◌, ◌^◌, ◌<◌, Bool, false, cond, ◌||◌, ◌≡◌, get_or}
use Rattle.std.proofs.Math.Bool.{le as at_most}
use mathlib.Core.List.{List, [], ◌∷◌, ◌++◌, Memᴰ}
use Rattle.awhile.specs.Language.{AExp, BExp, Com, skip, assign, sequence, if, while, read, write, note_of, map_notes}
use Rattle.awhile.specs.declared.Labelling.{Labelling}
use Rattle.labels.specs.Labellings.{Mark, variable_mark, array_mark, label_of, set_label, label_of_a, label_of_b, join, ◌⊑◌}
use Rattle.labels.specs.Analysis.{targets, analyse}
use Rattle.labels.specs.Annotation.{Entry, parts}

-- the two lists of values agree on every variable that is public in the labelling
pub record AgreeOn (l : Labelling) (vs ws : List ℕ) : Type 0 where
  pub at : (x : ℕ) → label_of l (variable_mark x) ≡ false → get_or vs x 0 ≡ get_or ws x 0

-- "bits from V or A up are 0": the labelling marks variables and arrays below these counts only
pub record LabelsWithin (variables arrays : ℕ) (l : Labelling) : Type 0 where
  pub variable_mask : l.variables < 2 ^ variables
  pub array_mask : l.arrays < 2 ^ arrays

-- the settled labelling of repeated passes: above the entering labelling, closed under a pass, and below every other such
pub record Settled (pass : Labelling → Labelling) (entering settled : Labelling) : Type 0 where
  pub above : entering ⊑ settled
  pub closed : pass settled ⊑ settled
  pub least : (m : Labelling) → entering ⊑ m → pass m ⊑ m → settled ⊑ m

-- that many passes, the result of each joined in; nothing stops them early
unfoldable pub passed : ℕ → (Labelling → Labelling) → Labelling → Labelling
passed zero pass l = l
passed (suc n) pass l = passed n pass (join l (pass l))

-- how many of these marks are public
unfoldable pub public_among : List Mark → Labelling → ℕ
public_among [] l = 0
public_among (k ∷ ks) l = cond (label_of l k) 0 1 + public_among ks l

-- It settles within one pass more than there are public marks: as many passes give the settled labelling, and the next adds nothing.
pub record SettledWithin (marks : List Mark) (pass : Labelling → Labelling) (entering settled : Labelling) : Type 0 where
  pub passes : settled ≡ passed (public_among marks entering) pass entering
  pub idle : join settled (pass settled) ≡ settled

-- the marks of the numbers below a count
unfoldable pub marks_below : (ℕ → Mark) → ℕ → List Mark
marks_below mark zero = []
marks_below mark (suc n) = mark n ∷ marks_below mark n

-- the marks of the variables and arrays declared
unfoldable pub declared_marks : (variables arrays : ℕ) → List Mark
declared_marks v a = marks_below variable_mark v ++ marks_below array_mark a

module _ {Note : Type 0} where
  -- a pass of a loop: its body analysed "with condition and context joined"
  abbrev pub loop_pass : BExp → Com Note → (context : Bool) → Labelling → Labelling
  loop_pass b c x m = analyse c (label_of_b m b || x) m

  -- a command sets declared variables and arrays only
  pub record SetsDeclared (variables arrays : ℕ) (c : Com Note) : Type 0 where
    pub variable : (x : ℕ) → Memᴰ (variable_mark x) (targets c) → x < variables
    pub array : (a : ℕ) → Memᴰ (array_mark a) (targets c) → a < arrays

-- a labelling and a context flow into an annotated command: its own are no smaller
pub record Enters (l : Labelling) (x : Bool) (c : Com Entry) : Type 0 where
  pub labelling : l ⊑ (note_of c).labelling
  pub context : at_most x (note_of c).context

-- The rules for labels (figure 14 of source 004, with the context at an assignment as document 01 has it): an annotation satisfies them,
-- with this labelling after the command. Each command's note says the labelling and the context that enter it.
pub data Satisfies : Com Entry → (after : Labelling) → Type 0 where
  skip_rule : {e : Entry} {after : Labelling} → e.labelling ⊑ after → Satisfies (skip e) after
  -- "Assign gives its variable the join of expression and context."
  assign_rule : {e : Entry} {v : ℕ} {a : AExp} {after : Labelling}
      → set_label e.labelling (variable_mark v) (label_of_a e.labelling a || e.context) ⊑ after → Satisfies (assign e v a) after
  -- "The labelling of a command is built from its parts": the first part's leads into the second.
  sequence_rule : {e : Entry} {c d : Com Entry} {between after : Labelling}
      → Enters e.labelling e.context c → Satisfies c between → Enters between e.context d → Satisfies d after → Satisfies (sequence e c d) after
  -- "If analyses both sides with the condition joined to the context, then joins the labellings."
  if_rule : {e : Entry} {b : BExp} {c d : Com Entry} {after : Labelling}
      → Enters e.labelling (label_of_b e.labelling b || e.context) c → Satisfies c after
      → Enters e.labelling (label_of_b e.labelling b || e.context) d → Satisfies d after → Satisfies (if e b c d) after
  -- The labelling that enters a loop's body is its settled one: it holds the entering one, labels the condition, and the body leads back to it.
  while_rule : {e : Entry} {b : BExp} {c : Com Entry} {after : Labelling}
      → Enters e.labelling (label_of_b (note_of c).labelling b || e.context) c → Satisfies c (note_of c).labelling
      → (note_of c).labelling ⊑ after → Satisfies (while e b c) after
  -- "Read gives its variable the join of index, array and context."
  read_rule : {e : Entry} {v a : ℕ} {i : AExp} {after : Labelling}
      → set_label e.labelling (variable_mark v) (label_of_a e.labelling i || (label_of e.labelling (array_mark a) || e.context)) ⊑ after
      → Satisfies (read e v a i) after
  -- "Write joins into the array's label index, value and context."
  write_rule : {e : Entry} {a : ℕ} {i v : AExp} {after : Labelling}
      → set_label e.labelling (array_mark a)
      (label_of e.labelling (array_mark a) || (label_of_a e.labelling i || (label_of_a e.labelling v || e.context))) ⊑ after
      → Satisfies (write e a i v) after

-- the program that an annotation annotates
abbrev pub program_of : Com Entry → Com ℕ
program_of a = map_notes (λ (e : Entry). e.node) a

-- an annotation of this program, entered with this labelling and context, that satisfies the rules with this labelling after it
pub record Annotates (c : Com ℕ) (x : Bool) (l : Labelling) (a : Com Entry) (after : Labelling) : Type 0 where
  pub program : program_of a ≡ c
  pub enters : Enters l x a
  pub satisfies : Satisfies a after

-- one entry is above another: the same node, its labelling and its context no smaller
pub record EntryAbove (e f : Entry) : Type 0 where
  pub node : e.node ≡ f.node
  pub labelling : f.labelling ⊑ e.labelling
  pub context : at_most f.context e.context

-- one annotation of a program is above another at every command, those inside loops included
pub data Above : Com Entry → Com Entry → Type 0 where
  skip_above : {e f : Entry} → EntryAbove e f → Above (skip e) (skip f)
  assign_above : {e f : Entry} {v : ℕ} {a : AExp} → EntryAbove e f → Above (assign e v a) (assign f v a)
  sequence_above : {e f : Entry} {c c' d d' : Com Entry} → EntryAbove e f → Above c c' → Above d d' → Above (sequence e c d) (sequence f c' d')
  if_above : {e f : Entry} {b : BExp} {c c' d d' : Com Entry} → EntryAbove e f → Above c c' → Above d d' → Above (if e b c d) (if f b c' d')
  while_above : {e f : Entry} {b : BExp} {c c' : Com Entry} → EntryAbove e f → Above c c' → Above (while e b c) (while f b c')
  read_above : {e f : Entry} {v a : ℕ} {i : AExp} → EntryAbove e f → Above (read e v a i) (read f v a i)
  write_above : {e f : Entry} {a : ℕ} {i v : AExp} → EntryAbove e f → Above (write e a i v) (write f a i v)

-- every loop of an annotation, those inside loops included: the labelling that enters its body is the settled one of the passes over this body,
-- from the labelling and in the context that enter the loop
pub record LoopsSettle (a : Com Entry) : Type 0 where
  pub settles : (e : Entry) (b : BExp) (c : Com Entry) → Memᴰ (while e b c) (parts a)
      → Settled (loop_pass b c e.context) e.labelling (note_of c).labelling

-- "Loop labels are the least that satisfy the rules": an annotation of this program that satisfies the rules, that is below every other one that
-- does, at every command and after the program, and in which every loop settles
pub record LeastAnnotation (c : Com ℕ) (x : Bool) (l : Labelling) (a : Com Entry) (after : Labelling) : Type 0 where
  pub annotates : Annotates c x l a after
  pub least : (b : Com Entry) (m : Labelling) → Annotates c x l b m → Above b a × (after ⊑ m)
  pub loops : LoopsSettle a
