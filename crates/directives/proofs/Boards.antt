-- What a board takes and saves, from which boards and directives a match has left.
use Prim.Native.Nat.{ℕ, ◌<◌}
use native.Mathlib.Omega.{arith}
use mathlib.Core.Bool.{Bool, true, false, cond}
use mathlib.Core.Option.{Option, none, some}
use mathlib.Core.List.{List, [], ◌∷◌}
use mathlib.Core.Path.{◌≡◌, refl, ap, ◌∙◌}
use lib.ListN.{length, drop}
use Rattle.machine.specs.Directives.{directive_size, first_directive, before, read_rolling_directives, is_rollback, has_rollback, without_rollback}
use Rattle.machine.specs.declared.Board.{Board}
use Rattle.machine.specs.declared.Board.TheVariants.{Plain, Guessing, Rolling}
use Rattle.machine.specs.declared.Directive.{Directive}
use Rattle.std.specs.Prelude.{Some, None}
use Rattle.directives.specs.Listed.{found, is_some, takes_on, taken_on, read_on}
use Rattle.directives.proofs.DirectiveLists.{found_none, reads_next, reads_bad, reads_none_left}

-- a list with one directive more in front
without_more : (d : Directive) (ds : Option (List Directive)) (r : Bool) → is_rollback d ≡ r
    → is_some (without_rollback (before d ds)) ≡ cond (cond r false true) (is_some (without_rollback ds)) false
unfolding without_rollback has_rollback before is_some
without_more d none true e = refl
without_more d none false e = refl
without_more d (some ds) true e = rw e
without_more d (some ds) false e = rw e (go (has_rollback ds))
  where
    go : (h : Bool) → is_some (cond h none (some (d ∷ ds))) ≡ is_some (cond h none (some ds))
    go true = refl
    go false = refl

taken_more : (b : Board) (d : Directive) (ds : Option (List Directive)) → is_some (taken_on b (before d ds)) ≡ cond (takes_on b d) (is_some (taken_on b ds)) false
unfolding taken_on takes_on before is_some
taken_more Plain d ds = without_more d ds (is_rollback d) refl
taken_more Guessing d ds = without_more d ds (is_rollback d) refl
taken_more Rolling d none = refl
taken_more Rolling d (some ds) = refl

-- ---- what a board reads from an offset on
taken_none : (b : Board) → is_some (taken_on b none) ≡ false
unfolding taken_on without_rollback is_some
taken_none Plain = refl
taken_none Guessing = refl
taken_none Rolling = refl

taken_empty : (b : Board) → is_some (taken_on b (some [])) ≡ true
unfolding taken_on without_rollback has_rollback is_some
taken_empty Plain = refl
taken_empty Guessing = refl
taken_empty Rolling = refl

-- nothing is left
pub on_end : (b : Board) (s : List ℕ) → length s ≡ 0 → is_some (read_on b s) ≡ true
unfolding read_on
on_end b s ended = ap (λ (ds : Option (List Directive)). is_some (taken_on b ds)) (reads_none_left s (omega arith)) ∙ taken_empty b

-- a directive that the board takes, and one that it does not
pub on_next : (b : Board) (s : List ℕ) (d : Directive) → Some d ≡ found (first_directive s)
    → is_some (read_on b s) ≡ cond (takes_on b d) (is_some (read_on b (drop (directive_size d) s))) false
unfolding read_on
on_next b s d here =
    ap (λ (ds : Option (List Directive)). is_some (taken_on b ds)) (reads_next s d here)
    ∙ taken_more b d (read_rolling_directives (drop (directive_size d) s))

-- a record that is refused
pub on_refused : (b : Board) (s : List ℕ) → 0 < length s → None ≡ found (first_directive s) → is_some (read_on b s) ≡ false
unfolding read_on
on_refused b s more refused = ap (λ (ds : Option (List Directive)). is_some (taken_on b ds)) (reads_bad s more (found_none s refused)) ∙ taken_none b

-- a list that a board takes reads
pub reads_on : (b : Board) (s : List ℕ) → is_some (read_on b s) ≡ true → is_some (read_rolling_directives s) ≡ true
unfolding read_on is_some taken_on without_rollback
reads_on b s e = go b (read_rolling_directives s) e
  where
    go : (b : Board) (ds : Option (List Directive)) → is_some (taken_on b ds) ≡ true → is_some ds ≡ true
    go Plain none e = e
    go Plain (some ds) e = refl
    go Guessing none e = e
    go Guessing (some ds) e = refl
    go Rolling ds e = e
