-- Demand 3 bites: of the original table in place of the hardened one it is false. Document 01's bounds check, played force, load 2 0, step
-- from two states that differ in the secret cell alone, 77 and 78, shows which of the two it is, on the guessing machine and on the one that
-- rolls back.
use Rattle.std.specs.Prelude.{ℕ, zero, suc, ◌+◌, ◌<◌, true, false, List, [], ◌∷◌, ◌++◌, ◌≡◌, refl, get_or, replicate}
use Rattle.std.proofs.Common.{arith, true≢false, inl, inr, sym, ap, subst, subst₂, ◌∙◌, ltb-true}
use Rattle.std.proofs.Math.ListN.{get_or-append}
use Rattle.awhile.specs.Refusals.{refused, got}
use Rattle.awhile.specs.Tables.{Table, read_table}
use Rattle.awhile.specs.Trees.{root_of}
use Rattle.labels.specs.Labellings.{array_mark, label_of}
use Rattle.machine.specs.Observations.{Observation, branch, read_at}
use Rattle.machine.specs.Steps.{inside, cell_place}
use Rattle.machine.specs.Runs.{Guide, Outcome, endless, plain, guessing, rolling, run, started}
use Rattle.machine.specs.Prefixes.{OneBegins}
use Rattle.machine.specs.declared.Directive.{Directive}
use Rattle.machine.specs.declared.Directive.TheVariants.{Step, Force, Load}
use Rattle.machine.specs.declared.End.TheVariants.{Finished, Spent}
use Rattle.machine.proofs.Prefixes.{one_begins_cons, nil_begins, begins_refl}
use Rattle.machine.proofs.Runs.{ends_differ, run_ended}
use Rattle.masks.specs.Security.{AgreeingStates, ShowsTheSame, plainly_shown, shown_on}
use Rattle.entries.proofs.Open.{opened}
use Rattle.marked_cases.specs.BoundsCheck.{bounds_check}

-- i = 4, j = 0, x = 0
abbrev variables : List ℕ
variables = 4 ∷ 0 ∷ 0 ∷ []

-- arrays 0 and 1 hold zeros, array 2 holds one cell
abbrev cells : ℕ → List ℕ
cells secret = replicate 260 0 ++ (secret ∷ [])

abbrev script : List Directive
script = Force ∷ Load 2 0 ∷ Step ∷ []

-- the table that the bytes read as
unfoldable original : Table
original =
    elim (read_table bounds_check) [
      | refused r ↦ record { version = 0; variables = 0; labels = record { variables = 0; arrays = 0 }; counts = []; nodes = [] }
      | got t ↦ t
    ]

reads : read_table bounds_check ≡ got original
unfolding opened original
reads = refl

-- the cells of the public arrays are zeros, whatever the secret is
public_cell : (secret k : ℕ) → k < 260 → get_or (cells secret) k 0 ≡ get_or (replicate 260 0) k 0
public_cell secret k h = get_or-append (replicate 260 0) (secret ∷ []) 0 k h

public_cells : (k : ℕ) → k < 260 → get_or (cells 77) k 0 ≡ get_or (cells 78) k 0
public_cells k h = public_cell 77 k h ∙ sym (public_cell 78 k h)

agree_arrays : (a i : ℕ) → label_of original.labels (array_mark a) ≡ false → inside original.counts a i ≡ true
    → get_or (cells 77) (cell_place original.counts a i) 0 ≡ get_or (cells 78) (cell_place original.counts a i) 0
unfolding opened original
agree_arrays zero i e p = public_cells (0 + i) (omega (arith, ltb-true i 4 p))
agree_arrays (suc zero) i e p = public_cells (4 + i) (omega (arith, ltb-true i 256 p))
agree_arrays (suc (suc zero)) i e p = absurd (true≢false e)
agree_arrays (suc (suc (suc a))) i e p = absurd (nothing_inside i (ltb-true i 0 p))
  where
    nothing_inside : (k : ℕ) → k < 0 → ⊥
    nothing_inside k h = omega arith

agreeing : AgreeingStates original original.labels variables (cells 77) variables (cells 78)
unfolding opened original
agreeing =
    record {
      left_variables = refl;
      right_variables = refl;
      left_cells = refl;
      right_cells = refl;
      on_variables = record { at = λ x e. refl };
      on_arrays = record { at = agree_arrays };
    }

-- without guessing both states show that i is not below 4, and nothing else
shown_plainly : (secret n : ℕ) → plainly_shown original variables (cells secret) (suc n) ≡ branch false ∷ []
unfolding opened original plainly_shown
shown_plainly secret zero = refl
shown_plainly secret (suc n) =
    ap (λ (k : ℕ). (run original.counts endless k (started (root_of original) variables (cells secret) plain)).machine.shown) (add_two n)
    ∙ ap (λ (o : Outcome ℕ). o.machine.shown)
    (run_ended original.counts endless n 2 (started (root_of original) variables (cells secret) plain) (λ e. ends_differ Finished Spent refl e))
  where
    add_two : (k : ℕ) → suc (suc k) ≡ 2 + k
    add_two k = omega arith

plainly_related : (n m : ℕ) → OneBegins (plainly_shown original variables (cells 77) n) (plainly_shown original variables (cells 78) m)
unfolding opened plainly_shown
plainly_related zero m = record { either = inl (nil_begins _) }
plainly_related (suc n) zero = record { either = inr (nil_begins _) }
plainly_related (suc n) (suc m) = rw (shown_plainly 77 n, shown_plainly 78 m) (record { either = inl (begins_refl (branch false ∷ [])) })

-- what the script makes of the original
abbrev guessed : ℕ → List Observation
guessed secret = branch false ∷ read_at 0 4 ∷ read_at 1 secret ∷ []

abbrev ShownOn : (board : List Directive → Guide) → (secret : ℕ) → Type 0
ShownOn board secret = shown_on original endless (board script) (variables ++ (0 ∷ [])) (cells secret) 10 ≡ guessed secret

shown_guessing : ShownOn guessing 77 × ShownOn guessing 78
unfolding opened original
shown_guessing = (refl, refl)

shown_rolling : ShownOn rolling 77 × ShownOn rolling 78
unfolding opened original
shown_rolling = (refl, refl)

not_related : OneBegins (guessed 77) (guessed 78) → ⊥
not_related h =
    let e : read_at 1 77 ≡ read_at 1 78 = (one_begins_cons (one_begins_cons (one_begins_cons h).1).1).0 in
    let n : ◌≡◌ {A = ℕ} 77 78 = cc in
    omega arith

-- The fake "the same table" is no hardened table: the claim of demand 3 is false of it on a board that shows this
differs_on : (board : List Directive → Guide) → ShownOn board 77 × ShownOn board 78
    → (t : Table) → read_table bounds_check ≡ got t → ShowsTheSame board t.labels t t → ⊥
differs_on board shown t e h = refuted (subst (λ (p : Table). ShowsTheSame board p.labels p p) same h)
  where
    same : t ≡ original
    same = cc reads

    refuted : ShowsTheSame board original.labels original original → ⊥
    refuted g =
        not_related
        (subst₂ OneBegins shown.0 shown.1
        (g.related variables (cells 77) variables (cells 78) agreeing plainly_related script 10 10 endless endless))

pub unhardened_differs : (t : Table) → read_table bounds_check ≡ got t → ShowsTheSame guessing t.labels t t → ⊥
unhardened_differs = differs_on guessing shown_guessing

pub unhardened_differs_rolling : (t : Table) → read_table bounds_check ≡ got t → ShowsTheSame rolling t.labels t t → ⊥
unhardened_differs_rolling = differs_on rolling shown_rolling
