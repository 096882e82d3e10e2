-- What the copies of a state, one after the other, come to.
use Prim.Native.Nat.{ℕ, ◌+◌, ◌*◌, ◌≤◌}
use native.Mathlib.Omega.{arith}
use mathlib.Core.Path.{◌≡◌, sym, ap, ◌∙◌}
use mathlib.Core.List.{List, ◌++◌}
use lib.ListN.{length, take, drop, length-drop}
use lib.Seq.{sets, length-take-le, take-length}
use Rattle.bytes_le.proofs.Stores.{sets-append}
use Rattle.bytes_le.proofs.Copies.{sets-all}

-- variables, cells and entries, each behind the other
pub saved_parts : (vs cs ps : List ℕ) (at h : ℕ) (l first second third : List ℕ) → first ≡ sets l at (take (length vs) vs)
    → second ≡ sets first (at + length vs) (take (length cs) cs) → third ≡ sets second (at + length vs + length cs) (take (4 * h) ps)
    → third ≡ sets l at (vs ++ (cs ++ take (4 * h) ps))
saved_parts vs cs ps at h l first second third one two three =
    let es : List ℕ = take (4 * h) ps in
    three
    ∙ ap (λ s. sets s (at + length vs + length cs) es) (two ∙ ap (sets first (at + length vs)) (take-length cs))
    ∙ sym (sets-append cs es first (at + length vs))
    ∙ ap (λ s. sets s (at + length vs) (cs ++ es)) (one ∙ ap (sets l at) (take-length vs))
    ∙ sym (sets-append vs (cs ++ es) l at)

-- a slice that is copied back whole
pub restored_all : (l saves : List ℕ) (at : ℕ) (l' : List ℕ) → at + length l ≤ length saves → l' ≡ sets l 0 (take (length l) (drop at saves))
    → l' ≡ take (length l) (drop at saves)
restored_all l saves at l' inside is =
    is ∙ sets-all (take (length l) (drop at saves)) l (length-take-le (length l) (drop at saves) (simp length-drop (omega arith)))
