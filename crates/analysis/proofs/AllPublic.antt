-- An analysis that starts with nothing secret, in a public context, finds nothing secret.
use Prim.Native.Nat.{ℕ}
use mathlib.Core.Bool.{false, true≢false}
use mathlib.Core.Path.{◌≡◌, refl, sym, subst, ◌∙◌}
use native.Mathlib.Omega.{arith}
use Rattle.awhile.specs.Language.{AExp, BExp, Com, skip, assign, sequence, if, while, read, write}
use Rattle.awhile.specs.declared.Labelling.{Labelling}
use Rattle.labels.specs.Labellings.{Mark, variable_mark, array_mark, label_of, set_label, label_of_a, label_of_b, ◌⊑◌}
use Rattle.labels.specs.Analysis.{read_label, write_label, analyse}
use Rattle.labels.specs.Places.{SecretCounts}
use Rattle.labels.proofs.Booleans.{not_secret}
use Rattle.labels.proofs.Masks.{bit_above}
use Rattle.labels.proofs.Places.{secret_by_places}
use Rattle.labels.proofs.Order.{⊑_refl, ⊑-antisym, join_least, equal_labels, label_set, label_set_other, mark_discrete}
use Rattle.labels.proofs.Analysis.{loop_settles}

-- the labelling with no secret
abbrev pub nothing : Labelling
nothing = record { variables = 0; arrays = 0 }

label_nothing : (k : Mark) → label_of nothing k ≡ false
unfolding label_of
label_nothing (variable_mark x) = bit_above 0 0 x (omega arith) (omega arith)
label_nothing (array_mark a) = bit_above 0 0 a (omega arith) (omega arith)

-- it is below every other
pub public_least : (l : Labelling) → nothing ⊑ l
public_least l = record { at = λ k e. absurd (true≢false (sym e ∙ label_nothing k)) }

-- what is below it is it
nothing_only : (l : Labelling) → l ⊑ nothing → l ≡ nothing
nothing_only l h = ⊑-antisym h (public_least l)

-- so no expression is secret: no variable that has a place in it is
no_secret_counts : {Counts : ℕ → Type 0} → SecretCounts nothing Counts → ⊥
no_secret_counts c = true≢false (sym c.secret ∙ label_nothing (variable_mark c.variable))

nothing_in_a : (a : AExp) → label_of_a nothing a ≡ false
nothing_in_a a = not_secret (label_of_a nothing a) (λ e. no_secret_counts (((secret_by_places nothing).numeric a).0 e))

pub nothing_in_b : (b : BExp) → label_of_b nothing b ≡ false
nothing_in_b b = not_secret (label_of_b nothing b) (λ e. no_secret_counts (((secret_by_places nothing).truth b).0 e))

-- a public label that is set leaves nothing secret
set_nothing : (k : Mark) → set_label nothing k false ≡ nothing
set_nothing k = equal_labels (set_label nothing k false) nothing (λ j. go j (mark_discrete k j))
  where
    go : (j : Mark) → Dec (k ≡ j) → label_of (set_label nothing k false) j ≡ label_of nothing j
    go j (yes e) = subst (λ i. label_of (set_label nothing k false) i ≡ label_of nothing i) e (label_set nothing k false ∙ sym (label_nothing k))
    go j (no n) = label_set_other nothing k j false n

-- from nothing secret and a public context, nothing is secret after a command
pub nothing_secret : (c : Com ℕ) → analyse c false nothing ≡ nothing
unfolding analyse read_label write_label
nothing_secret (skip n) = refl
nothing_secret (assign n v e) = rw (nothing_in_a e) (set_nothing (variable_mark v))
nothing_secret (sequence n c d) = rw (nothing_secret c) (nothing_secret d)
nothing_secret (if n b c d) = rw (nothing_in_b b, nothing_secret c, nothing_secret d) (nothing_only _ (join_least nothing nothing (⊑_refl nothing) (⊑_refl nothing)))
nothing_secret (while n b c) =
    nothing_only (analyse (while n b c) false nothing)
    ((loop_settles n b c false nothing).least nothing (⊑_refl nothing) (rw (nothing_in_b b, nothing_secret c) (⊑_refl nothing)))
nothing_secret (read n v a i) = rw (nothing_in_a i, label_nothing (array_mark a)) (set_nothing (variable_mark v))
nothing_secret (write n a i e) = rw (nothing_in_a i, nothing_in_a e, label_nothing (array_mark a)) (set_nothing (array_mark a))
