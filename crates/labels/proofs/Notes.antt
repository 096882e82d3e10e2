-- The analysis does not look at a command's notes.
use mathlib.Core.Bool.{Bool, ◌||◌}
use mathlib.Core.List.{List, ◌++◌}
use mathlib.Core.Path.{◌≡◌, refl, ap, ap₂, fun_ext, ◌∙◌}
use lib.ListN.{length}
use Rattle.awhile.specs.Language.{Com, skip, assign, sequence, if, while, read, write, map_notes}
use Rattle.awhile.specs.declared.Labelling.{Labelling}
use Rattle.labels.specs.Labellings.{Mark, label_of_b, join}
use Rattle.labels.specs.Analysis.{targets, settle, analyse}

module _ {A B : Type 0} (f : A → B) where
  targets_notes : (c : Com A) → targets (map_notes f c) ≡ targets c
  unfolding targets map_notes
  targets_notes (skip n) = refl
  targets_notes (assign n v e) = refl
  targets_notes (sequence n c d) = ap₂ ◌++◌ (targets_notes c) (targets_notes d)
  targets_notes (if n b c d) = ap₂ ◌++◌ (targets_notes c) (targets_notes d)
  targets_notes (while n b c) = targets_notes c
  targets_notes (read n v a i) = refl
  targets_notes (write n a i e) = refl

  pub analyse_notes : (c : Com A) (x : Bool) (l : Labelling) → analyse (map_notes f c) x l ≡ analyse c x l
  unfolding analyse map_notes
  analyse_notes (skip n) x l = refl
  analyse_notes (assign n v e) x l = refl
  analyse_notes (sequence n c d) x l = ap (analyse (map_notes f d) x) (analyse_notes c x l) ∙ analyse_notes d x (analyse c x l)
  analyse_notes (if n b c d) x l = ap₂ join (analyse_notes c (label_of_b l b || x) l) (analyse_notes d (label_of_b l b || x) l)
  analyse_notes (while n b c) x l =
      ap₂ (λ (ks : List Mark) (pass : Labelling → Labelling). settle (length ks) pass l) (targets_notes c)
      (fun_ext (λ m. analyse_notes c (label_of_b m b || x) m))
  analyse_notes (read n v a i) x l = refl
  analyse_notes (write n a i e) x l = refl
