-- Laws of lists that begin one another.
use mathlib.Core.Path.{◌≡◌, refl, sym, ap, ◌∙◌}
use mathlib.Core.List.{List, [], ◌∷◌, ◌++◌, append_assoc, append-nil}
use mathlib.Core.Logic.{◌⊎◌, inl, inr, ⊎_map, ⊎_elim}
use Rattle.machine.specs.Prefixes.{Begins, OneBegins}

module _ {A : Type 0} where
  -- a list begins itself with something after it
  pub begins_append : (xs after : List A) → Begins xs (xs ++ after)
  begins_append xs after = record { after = after; whole = refl }

  -- equal lists begin one another
  pub begins_equal : {xs ys : List A} → xs ≡ ys → Begins xs ys
  begins_equal {xs} e = record { after = []; whole = sym e ∙ sym (append-nil xs) }

  -- a list begins itself
  pub begins_refl : (xs : List A) → Begins xs xs
  begins_refl xs = begins_equal refl

  -- what begins a list begins what that list begins
  pub begins_trans : {xs ys zs : List A} → Begins xs ys → Begins ys zs → Begins xs zs
  begins_trans {xs} b c =
      record { after = b.after ++ c.after; whole = c.whole ∙ (ap (λ l. l ++ c.after) b.whole ∙ append_assoc xs b.after c.after) }

  begins_cons : (x y : A) (xs ys : List A) → x ≡ y → Begins xs ys → Begins (x ∷ xs) (y ∷ ys)
  begins_cons x y xs ys e b = record { after = b.after; whole = cc b.whole }

  append_begins : (xs ys s t : List A) → xs ++ s ≡ ys ++ t → Begins xs ys ⊎ Begins ys xs
  append_begins [] ys s t e = inl (begins_append [] ys)
  append_begins (x ∷ xs) [] s t e = inr (begins_append [] (x ∷ xs))
  append_begins (x ∷ xs) (y ∷ ys) s t e =
      let same : x ≡ y = cc in
      let rest : xs ++ s ≡ ys ++ t = cc in
      ⊎_map (begins_cons x y xs ys same) (begins_cons y x ys xs (sym same)) (append_begins xs ys s t rest)

  -- two lists that begin a common list: one of the two begins the other
  pub common_begins : {xs ys zs : List A} → Begins xs zs → Begins ys zs → OneBegins xs ys
  common_begins {xs} {ys} b c = record { either = append_begins xs ys b.after c.after (sym b.whole ∙ c.whole) }

  pub nil_begins : (xs : List A) → Begins [] xs
  nil_begins xs = begins_append [] xs

  cons_begins : {x y : A} {xs ys : List A} → Begins (x ∷ xs) (y ∷ ys) → (x ≡ y) × Begins xs ys
  cons_begins {x} {y} {xs} {ys} b =
      let e : y ∷ ys ≡ x ∷ (xs ++ b.after) = b.whole in
      let same : x ≡ y = cc in
      let rest : ys ≡ xs ++ b.after = cc in
      (same, record { after = b.after; whole = rest })

  -- two related lists with a first element each: the elements are equal and what follows is related
  pub one_begins_cons : {x y : A} {xs ys : List A} → OneBegins (x ∷ xs) (y ∷ ys) → (x ≡ y) × OneBegins xs ys
  one_begins_cons h = go h.either
    where
      go : {x y : A} {xs ys : List A} → Begins (x ∷ xs) (y ∷ ys) ⊎ Begins (y ∷ ys) (x ∷ xs) → (x ≡ y) × OneBegins xs ys
      go (inl b) = ((cons_begins b).0, record { either = inl (cons_begins b).1 })
      go (inr b) = (sym (cons_begins b).0, record { either = inr (cons_begins b).1 })

  -- what begins related lists is related
  pub beginnings_related : {xs ys us vs : List A} → Begins xs us → Begins ys vs → OneBegins us vs → OneBegins xs ys
  beginnings_related b c h = ⊎_elim (λ d. common_begins (begins_trans b d) c) (λ d. common_begins b (begins_trans c d)) h.either
