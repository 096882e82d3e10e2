-- The annotated program (figure 10 of source 004): each command with its node number and the context and labelling on entry to it.
-- "Inside a loop, sheet and masks use the settled labelling": a loop's body is entered with it, and it is what the loop's analysis answers.
use Rattle.std.specs.Prelude.{ℕ, Bool, ◌||◌, List, [], ◌∷◌, ◌++◌}
use Rattle.awhile.specs.Language.{Com, skip, assign, sequence, if, while, read, write}
use Rattle.awhile.specs.declared.Labelling.{Labelling}
use Rattle.labels.specs.Labellings.{label_of_b}
use Rattle.labels.specs.Analysis.{analyse}

pub record Entry : Type 0 where
  pub node : ℕ
  pub context : Bool
  pub labelling : Labelling

abbrev pub entered : ℕ → Bool → Labelling → Entry
entered n x l = record { node = n; context = x; labelling = l }

unfoldable pub annotate : Com ℕ → (context : Bool) → Labelling → Com Entry
annotate (skip n) x l = skip (entered n x l)
annotate (assign n v e) x l = assign (entered n x l) v e
annotate (sequence n c d) x l = sequence (entered n x l) (annotate c x l) (annotate d x (analyse c x l))
annotate (if n b c d) x l = if (entered n x l) b (annotate c (label_of_b l b || x) l) (annotate d (label_of_b l b || x) l)
annotate (while n b c) x l =
    let m : Labelling = analyse (while n b c) x l in
    while (entered n x l) b (annotate c (label_of_b m b || x) m)
annotate (read n v a i) x l = read (entered n x l) v a i
annotate (write n a i e) x l = write (entered n x l) a i e

-- all commands of a program, itself included
module _ {Note : Type 0} where
  unfoldable pub parts : Com Note → List (Com Note)
  parts (skip n) = skip n ∷ []
  parts (assign n v e) = assign n v e ∷ []
  parts (sequence n c d) = sequence n c d ∷ (parts c ++ parts d)
  parts (if n b c d) = if n b c d ∷ (parts c ++ parts d)
  parts (while n b c) = while n b c ∷ parts c
  parts (read n v a i) = read n v a i ∷ []
  parts (write n a i e) = write n a i e ∷ []
