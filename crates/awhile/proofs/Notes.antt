-- Notes that are changed.
use mathlib.Core.Path.{◌≡◌, refl, ap, ap₂}
use Rattle.awhile.specs.Language.{Com, skip, assign, sequence, if, while, read, write, note_of, map_notes}

-- the note of a command with other notes
pub note_mapped : {A B : Type 0} (f : A → B) (c : Com A) → note_of (map_notes f c) ≡ f (note_of c)
unfolding note_of map_notes
note_mapped f (skip n) = refl
note_mapped f (assign n x e) = refl
note_mapped f (sequence n c d) = refl
note_mapped f (if n b c d) = refl
note_mapped f (while n b c) = refl
note_mapped f (read n x a i) = refl
note_mapped f (write n a i e) = refl

-- notes changed twice are changed once
pub notes_twice : {A B C : Type 0} (f : A → B) (g : B → C) (c : Com A) → map_notes g (map_notes f c) ≡ map_notes (λ n. g (f n)) c
unfolding map_notes
notes_twice f g (skip n) = refl
notes_twice f g (assign n x e) = refl
notes_twice f g (sequence n c d) = ap₂ (sequence (g (f n))) (notes_twice f g c) (notes_twice f g d)
notes_twice f g (if n b c d) = ap₂ (if (g (f n)) b) (notes_twice f g c) (notes_twice f g d)
notes_twice f g (while n b c) = ap (while (g (f n)) b) (notes_twice f g c)
notes_twice f g (read n x a i) = refl
notes_twice f g (write n a i e) = refl
