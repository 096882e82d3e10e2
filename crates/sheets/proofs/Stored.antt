-- Bytes stored one run behind the other.
use Prim.Native.Nat.{ℕ, ◌+◌}
use mathlib.Core.Path.{◌≡◌, sym, ap, ◌∙◌}
use mathlib.Core.List.{List, ◌++◌}
use lib.ListN.{length}
use lib.Seq.{sets}
use Rattle.bytes_le.proofs.Stores.{sets-append}

-- a run stored, and another behind it: both stored
pub stored_then : (xs ys l : List ℕ) (at next : ℕ) → at + length xs ≡ next → {m n : List ℕ} → m ≡ sets l at xs → n ≡ sets m next ys → n ≡ sets l at (xs ++ ys)
stored_then xs ys l at next e p q = q ∙ ap (λ (k : List ℕ). sets k next ys) p ∙ ap (λ (k : ℕ). sets (sets l at xs) k ys) (sym e) ∙ sym (sets-append xs ys l at)
