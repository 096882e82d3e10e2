-- Labels as truths: a label is at most another (`le` of mathlib.Core.Bool) if the second is secret where the first is.
use mathlib.Core.Bool.{Bool, true, false, le as at_most, cond, ◌&&◌, ◌||◌, true≢false}
use mathlib.Core.Logic.{◌⊎◌, inl, inr}
use mathlib.Core.Path.{◌≡◌, refl, sym, ◌∙◌}

-- a public join has a public first part
pub or_false_left : (a b : Bool) → (a || b) ≡ false → a ≡ false
or_false_left true b e = e
or_false_left false b e = refl

-- a public join has a public second part
pub or_false_right : (a b : Bool) → (a || b) ≡ false → b ≡ false
or_false_right true b e = absurd (true≢false e)
or_false_right false b e = e

-- what is not secret is public
pub not_secret : (a : Bool) → (a ≡ true → ⊥) → a ≡ false
not_secret true h = absurd (h refl)
not_secret false h = refl

-- what is below a public label is public
pub at_most_false : {a b : Bool} → at_most a b → b ≡ false → a ≡ false
at_most_false {a = true} h e = sym (h refl) ∙ e
at_most_false {a = false} h e = refl

-- the first part of a join is below it
pub or_left : (a b : Bool) → at_most a (a || b)
or_left true b e = refl
or_left false b e = absurd (true≢false (sym e))

-- the second part of a join is below it
pub or_right : (a b : Bool) → at_most b (a || b)
or_right true b e = refl
or_right false b e = e

-- a join is below what both parts are below
pub or_least : {a b c : Bool} → at_most a c → at_most b c → at_most (a || b) c
or_least {a = true} h k = h
or_least {a = false} h k = k

-- joins of larger labels are larger
pub or_mono : {a b c d : Bool} → at_most a c → at_most b d → at_most (a || b) (c || d)
or_mono {a} {b} {c} {d} h k = or_least (λ e. or_left c d (h e)) (λ e. or_right c d (k e))

-- labels below each other are equal
pub at_most_antisym : {a b : Bool} → at_most a b → at_most b a → a ≡ b
at_most_antisym {a = true} h k = sym (h refl)
at_most_antisym {a = false} {b = true} h k = k refl
at_most_antisym {a = false} {b = false} h k = refl

-- the first part of a true conjunction is true
pub and_left : (a b : Bool) → (a && b) ≡ true → a ≡ true
and_left true b e = refl
and_left false b e = e

-- the second part of a true conjunction is true
pub and_right : (a b : Bool) → (a && b) ≡ true → b ≡ true
and_right true b e = e
and_right false b e = absurd (true≢false (sym e))

-- ---- a label that is public where something holds, as that of a product does with a number node of value 0
-- larger labels give larger ones
pub unless_mono : (holds : Bool) {a b : Bool} → at_most a b → at_most (cond holds false a) (cond holds false b)
unless_mono true h = λ e. e
unless_mono false h = h

-- where it is secret, that does not hold, and the label is secret
pub unless_true : (holds : Bool) {a : Bool} → cond holds false a ≡ true → (holds ≡ false) × (a ≡ true)
unless_true true e = absurd (true≢false (sym e))
unless_true false e = (refl, e)

-- where it is public, that holds, or the label is public
pub unless_false : (holds : Bool) {a : Bool} → cond holds false a ≡ false → (holds ≡ true) ⊎ (a ≡ false)
unless_false true e = inl refl
unless_false false e = inr e
