-- The pending list in lent bytes, and how stores change it.
use Prim.Native.Nat.{ℕ, zero, suc, ◌+◌, ◌*◌, ◌^◌, ◌≤◌, ◌<◌}
use native.Mathlib.Numerals.{add-one}
use native.Mathlib.Nat.{eq-or-lt_of_le}
use native.Mathlib.Omega.{arith}
use mathlib.Core.Path.{◌≡◌, refl, ap, ◌∙◌}
use mathlib.Core.Logic.{inl, ⊎_elim}
use mathlib.Core.List.{List, ◌∷◌}
use lib.ListN.{length}
use lib.Seq.{sets, length-sets}
use Rattle.bytes_le.specs.Numbers.{le, le_at}
use Rattle.reader.specs.Index.{command_in}
use Rattle.stepping.specs.Actions.{back_on, CommandAt, BackFits}
use Rattle.directives.specs.Changes.{height_of}
use Rattle.stepping.specs.Stepping.{pending_of}
use Rattle.interpreter.specs.Effects.{PushFits, pushed}
use Rattle.directives.specs.declared.change.Back.{Back}
use Rattle.directives.specs.declared.change.Back.TheVariants.{Nothing, One, Two}
use Rattle.directives.specs.declared.change.Change.TheVariants.{PutBack}
use Rattle.stepping.proofs.Words.{le_at_outside, le_at_stored}

-- the first so many entries are commands of the table
abbrev pub Entries : (table pending : List ℕ) → (count : ℕ) → Type 0
Entries table ps count = (j : ℕ) → j < count → CommandAt table (le_at 4 ps (4 * j))

module _ (table : List ℕ) where
  -- a store above them changes no entry
  pub pending_below : (ps bs : List ℕ) (at count : ℕ) → 4 * count ≤ at → pending_of table (sets ps at bs) count ≡ pending_of table ps count
  unfolding pending_of
  pending_below ps bs at zero h = refl
  pending_below ps bs at (suc k) h =
      let same : le_at 4 (sets ps at bs) (4 * k) ≡ le_at 4 ps (4 * k) = le_at_outside 4 bs ps at (4 * k) (inl (omega arith)) in
      rw (same, pending_below ps bs at k (omega arith))

  -- one entry more
  module _ (ps : List ℕ) (n k : ℕ) (small : n < 2 ^ 32) (room : 4 * k + 4 ≤ length ps) where
    pub pending_pushed : pending_of table (sets ps (4 * k) (le 4 n)) (k + 1) ≡ command_in table n ∷ pending_of table ps k
    unfolding pending_of
    pending_pushed = rw (add-one, le_at_stored 4 n ps (4 * k) small room, pending_below ps (le 4 n) (4 * k) k (omega arith))

    pub entries_pushed : CommandAt table n → Entries table ps k → Entries table (sets ps (4 * k) (le 4 n)) (k + 1)
    entries_pushed new old j less = ⊎_elim (λ e. top j e) (λ below. rest j (omega arith)) (eq-or-lt_of_le (before j less))
      where
        before : (j : ℕ) → j < k + 1 → j ≤ k
        before j less = omega arith

        top : (j : ℕ) → j ≡ k → CommandAt table (le_at 4 (sets ps (4 * k) (le 4 n)) (4 * j))
        top j e = rw (e, le_at_stored 4 n ps (4 * k) small room) new

        rest : (j : ℕ) → j < k → CommandAt table (le_at 4 (sets ps (4 * k) (le 4 n)) (4 * j))
        rest j below = rw (le_at_outside 4 (le 4 n) ps (4 * k) (4 * j) (inl (omega arith))) (old j below)

  -- what is put back stands on the pending list
  next_word : (rest : ℕ) → 4 * rest + 4 ≡ 4 * (rest + 1)
  next_word rest = omega arith

  two_more : (rest : ℕ) → rest + 2 ≡ rest + 1 + 1
  two_more rest = omega arith

  pub back_pending : (b : Back) (rest : ℕ) (ps : List ℕ) → PushFits b rest (length ps)
      → pending_of table (pushed b rest ps) (height_of (PutBack b) rest) ≡ back_on table b (pending_of table ps rest)
  unfolding pushed height_of back_on
  back_pending Nothing rest ps fits = refl
  back_pending (One n) rest ps fits = pending_pushed ps n rest fits.0 fits.1
  back_pending (Two m n) rest ps fits =
      rw (next_word rest, two_more rest)
      (pending_pushed (sets ps (4 * rest) (le 4 m)) n (rest + 1) fits.1 (simp length-sets (omega (arith, fits.2)))
      ∙ ap (λ below. command_in table n ∷ below) (pending_pushed ps m rest fits.0 (omega (arith, fits.2))))

  pub back_entries : (b : Back) (rest : ℕ) (ps : List ℕ) → PushFits b rest (length ps) → BackFits table b → Entries table ps rest
      → Entries table (pushed b rest ps) (height_of (PutBack b) rest)
  unfolding pushed height_of
  back_entries Nothing rest ps fits new old = old
  back_entries (One n) rest ps fits new old = entries_pushed ps n rest fits.0 fits.1 new old
  back_entries (Two m n) rest ps fits new old =
      rw (next_word rest, two_more rest)
      (entries_pushed (sets ps (4 * rest) (le 4 m)) n (rest + 1) fits.1 (simp length-sets (omega (arith, fits.2))) new.1
      (entries_pushed ps m rest fits.0 (omega (arith, fits.2)) new.0 old))

  -- what is put back changes nothing below it
  pub pushed_below : (b : Back) (rest : ℕ) (ps : List ℕ) → pending_of table (pushed b rest ps) rest ≡ pending_of table ps rest
  unfolding pushed
  pushed_below Nothing rest ps = refl
  pushed_below (One n) rest ps = pending_below ps (le 4 n) (4 * rest) rest (omega arith)
  pushed_below (Two m n) rest ps =
      pending_below (sets ps (4 * rest) (le 4 m)) (le 4 n) (4 * rest + 4) rest (omega arith) ∙ pending_below ps (le 4 m) (4 * rest) rest (omega arith)

  entry_below : (ps bs : List ℕ) (at rest : ℕ) → 4 * rest ≤ at → Entries table ps rest → Entries table (sets ps at bs) rest
  entry_below ps bs at rest h old j less = rw (le_at_outside 4 bs ps at (4 * j) (inl (omega arith))) (old j less)

  pub pushed_entries : (b : Back) (rest : ℕ) (ps : List ℕ) → Entries table ps rest → Entries table (pushed b rest ps) rest
  unfolding pushed
  pushed_entries Nothing rest ps old = old
  pushed_entries (One n) rest ps old = entry_below ps (le 4 n) (4 * rest) rest (omega arith) old
  pushed_entries (Two m n) rest ps old =
      entry_below (sets ps (4 * rest) (le 4 m)) (le 4 n) (4 * rest + 4) rest (omega arith) (entry_below ps (le 4 m) (4 * rest) rest (omega arith) old)
