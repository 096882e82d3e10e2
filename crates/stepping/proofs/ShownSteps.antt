-- What a shown step does under a directive, as the code finds it, is what the definitions say.
use Rattle.std.proofs.Common.{◌≡◌, ℕ, ◌*◌, ◌<◌, Bool, true, false, cond, List, [], ◌∷◌, get_or, refl, ap, ◌∙◌}
use mathlib.Core.Option.{Option, none, some, map}
use Rattle.bytes_le.specs.Numbers.{le_at, from_words}
use Rattle.awhile.specs.Language.{Com}
use Rattle.awhile.specs.Lists.{sum}
use Rattle.reader.specs.Index.{table_of}
use Rattle.machine.specs.Steps.{State, Taken, inside, cell_place, only_if, cell_at, cell_used, turned, loaded, stored, onward, at_fork, at_get, at_put}
use Rattle.machine.specs.Runs.{Room, Machine, step_of, shown_step}
use Rattle.stepping.specs.Actions.{back_on, changed, observation_of, shown_look, BackFits, ShownFits}
use Rattle.std.specs.Prelude.{Some, None, option_map}
use Rattle.std.specs.Prelude.{Option as Found}
use Rattle.directives.specs.Listed.{found}
use Rattle.directives.specs.Fitting.{asked_of, cell_for, cell_by, fork_fit, load_fit, store_fit, fit_of}
use Rattle.directives.specs.declared.fit.Access.TheVariants.{Read, Write}
use Rattle.machine.specs.Observations.{branch}
use Rattle.stepping.specs.Stepping.{ChangeFits}
use Rattle.stepping.proofs.Words.{word_at}
use Rattle.directives.proofs.Counts.{cell_within}
use Rattle.machine.proofs.Notes.{at_cell}
use Rattle.machine.specs.declared.Directive.{Directive}
use Rattle.machine.specs.declared.Directive.TheVariants.{Step, Force, Load, Store, Rollback}
use Rattle.directives.specs.declared.change.Back.{Back}
use Rattle.directives.specs.declared.change.Change.TheVariants.{PutBack, Assign}
use Rattle.directives.specs.declared.change.Shown.{Shown}
use Rattle.directives.specs.declared.change.Shown.TheVariants.{Fork, Get, Put}
use Rattle.directives.specs.declared.places.Cell.{Cell}
use Rattle.directives.specs.declared.fit.Fit.{Fit}
use Rattle.directives.specs.declared.fit.Fit.TheVariants.{Goes, Forces}

-- a shown step, by the directive
abbrev pub after_shown : (counts table : List ℕ) → List (Com ℕ) → State ℕ → Shown → Directive → Option (Taken ℕ)
after_shown counts table rest s (Fork v y n) d = at_fork counts s v (back_on table y rest) (back_on table n rest) d
after_shown counts table rest s (Get x a i) d = at_get counts s x a i rest d
after_shown counts table rest s (Put a i v) d = at_put counts s a i v rest d

-- a fitting step, with what it gives to save: a force the right side of its branch
abbrev pub fit_taken : (table : List ℕ) → List (Com ℕ) → State ℕ → Found Fit → Option (Taken ℕ)
fit_taken table rest s (Some (Goes c)) = some (onward (changed table c rest s s.flag))
fit_taken table rest s (Some (Forces f)) =
    some (record { state = changed table (PutBack f.wrong) rest s true; kept = changed table (PutBack f.right) rest s s.flag ∷ [] })
fit_taken table rest s None = none

-- a shown command takes a shown step
pub step_shown : (counts table : List ℕ) (rest : List (Com ℕ)) (room : Room) (m : Machine ℕ) (s : Shown)
    → step_of counts room m (shown_look table s rest) ≡ shown_step room m (observation_of s) (after_shown counts table rest m.state s) m.guide
unfolding step_of shown_look observation_of
step_shown counts table rest room m (Fork v y n) = refl
step_shown counts table rest room m (Get x a i) = refl
step_shown counts table rest room m (Put a i v) = refl

-- ---- a cell that is used is one of the cells
module _ (counts : List ℕ) where
  abbrev CellWithin : Option ℕ → Type 0
  CellWithin none = Unit {0}
  CellWithin (some p) = p < sum counts

  cell_at_within : (a i : ℕ) → CellWithin (cell_at counts a i)
  unfolding cell_at only_if
  cell_at_within a i = go (inside counts a i) refl
    where
      go : (b : Bool) → inside counts a i ≡ b → CellWithin (only_if b (cell_place counts a i))
      go true e = cell_within counts a i e
      go false e = tt

  cell_used_within : (f : Bool) (a i : ℕ) (other : Option ℕ) → CellWithin other → CellWithin (cell_used counts f a i other)
  unfolding cell_used
  cell_used_within f a i other h = go (inside counts a i) refl f
    where
      go : (b : Bool) → inside counts a i ≡ b → (g : Bool) → CellWithin (cond b (some (cell_place counts a i)) (cond g other none))
      go true e g = cell_within counts a i e
      go false e true = h
      go false e false = tt

  cell_for_within : (f : Bool) (own : Cell) (asked : Found Cell) → CellWithin (cell_for counts f own asked)
  unfolding cell_for
  cell_for_within f own (Some c) = cell_used_within f own.array own.index (cell_at counts c.array c.index) (cell_at_within c.array c.index)
  cell_for_within f own None = tt

  -- the cell of a step as the program has it
  own_used : (f : Bool) (a i : ℕ) → cell_used counts f a i (cell_at counts a i) ≡ cell_at counts a i
  unfolding cell_used cell_at only_if
  own_used f a i = go (inside counts a i) f
    where
      go : (b f : Bool) → cond b (some (cell_place counts a i)) (cond f (only_if b (cell_place counts a i)) none) ≡ only_if b (cell_place counts a i)
      go true f = refl
      go false true = refl
      go false false = refl

-- ---- what a shown step leaves
module _ (counts table : List ℕ) (rest : List (Com ℕ)) (s : State ℕ) where
  side_taken : (v : Bool) (y n : Back) (f : Bool) → turned s (cond v (back_on table y rest) (back_on table n rest)) f ≡ changed table (PutBack (cond v y n)) rest s f
  unfolding turned changed
  side_taken true y n f = refl
  side_taken false y n f = refl

  fork_after : (v : Bool) (y n : Back) (d : Directive) → after_shown counts table rest s (Fork v y n) d ≡ fit_taken table rest s (fork_fit v y n d)
  unfolding at_fork fork_fit onward
  fork_after v y n Step = ap (λ (t : State ℕ). some (record { state = t; kept = [] })) (side_taken v y n s.flag)
  fork_after v y n Force = λ i. some (record { state = side_taken v n y true i; kept = side_taken v y n s.flag i ∷ [] })
  fork_after v y n (Load b j) = refl
  fork_after v y n (Store b j) = refl
  fork_after v y n Rollback = refl

  -- a read and a write use the cell that their directive asks for
  get_uses : (x a i : ℕ) (d : Directive) → at_get counts s x a i rest d ≡ map (λ p. onward (loaded s x p rest)) (cell_by counts s.flag Read (record { array = a; index = i }) d)
  unfolding at_get cell_for asked_of
  get_uses x a i Step = rw own_used (at_cell counts (λ p. onward (loaded s x p rest)) a i)
  get_uses x a i Force = refl
  get_uses x a i (Load b j) = refl
  get_uses x a i (Store b j) = refl
  get_uses x a i Rollback = refl

  put_uses : (a i v : ℕ) (d : Directive) → at_put counts s a i v rest d ≡ map (λ p. onward (stored s p v rest)) (cell_by counts s.flag Write (record { array = a; index = i }) d)
  unfolding at_put cell_for asked_of
  put_uses a i v Step = rw own_used (at_cell counts (λ p. onward (stored s p v rest)) a i)
  put_uses a i v Force = refl
  put_uses a i v (Load b j) = refl
  put_uses a i v (Store b j) = refl
  put_uses a i v Rollback = refl

  store_found : (v : ℕ) (c : Option ℕ) → map (λ p. onward (stored s p v rest)) c ≡ fit_taken table rest s (option_map (store_fit v) (found c))
  unfolding stored changed onward
  store_found v none = refl
  store_found v (some p) = refl

  module _ (cells : List ℕ) (words : s.cells ≡ from_words (sum counts) cells) where
    loaded_word : (x p : ℕ) → p < sum counts → loaded s x p rest ≡ changed table (Assign x (le_at 4 cells (4 * p))) rest s s.flag
    unfolding loaded changed
    loaded_word x p there =
        let word : get_or s.cells p 0 ≡ le_at 4 cells (4 * p) = rw words (word_at (sum counts) cells p there) in
        rw word

    load_found : (x : ℕ) (c : Option ℕ) → CellWithin counts c → map (λ p. onward (loaded s x p rest)) c ≡ fit_taken table rest s (option_map (load_fit cells x) (found c))
    unfolding onward
    load_found x none there = refl
    load_found x (some p) there = ap (λ (t : State ℕ). some (onward t)) (loaded_word x p there)

    -- what a shown step leaves is what the code finds
    pub fit_after : (shown : Shown) (d : Directive) → after_shown counts table rest s shown d ≡ fit_taken table rest s (fit_of counts cells s.flag shown d)
    unfolding fit_of
    fit_after (Fork v y n) d = fork_after v y n d
    fit_after (Get x a i) d =
        get_uses x a i d ∙ load_found x (cell_by counts s.flag Read (record { array = a; index = i }) d) (cell_for_within counts s.flag (record { array = a; index = i }) (asked_of Read (record { array = a; index = i }) d))
    fit_after (Put a i v) d = put_uses a i v d ∙ store_found v (cell_by counts s.flag Write (record { array = a; index = i }) d)

-- ---- a change that was found can be made
module _ (table : List ℕ) where
  abbrev pub FitFits : Found Fit → Type 0
  FitFits (Some (Goes c)) = ChangeFits table c
  FitFits (Some (Forces f)) = BackFits table f.right × BackFits table f.wrong
  FitFits None = Unit {0}

  cond_fits : (v : Bool) (y n : Back) → BackFits table y → BackFits table n → BackFits table (cond v y n)
  cond_fits true y n p q = p
  cond_fits false y n p q = q

  load_fits : (cells : List ℕ) (x : ℕ) (c : Option ℕ) → x < (table_of table).variables → FitFits (option_map (load_fit cells x) (found c))
  load_fits cells x none h = tt
  load_fits cells x (some p) h = h

  store_fits : (v : ℕ) (c : Option ℕ) → CellWithin (table_of table).counts c → FitFits (option_map (store_fit v) (found c))
  store_fits v none h = tt
  store_fits v (some p) h = h

  pub fit_fits : (cells : List ℕ) (f : Bool) (s : Shown) (d : Directive) → ShownFits table s → FitFits (fit_of (table_of table).counts cells f s d)
  unfolding fit_of fork_fit
  fit_fits cells f (Fork v y n) Step h = cond_fits v y n h.0 h.1
  fit_fits cells f (Fork v y n) Force h = (cond_fits v y n h.0 h.1, cond_fits v n y h.1 h.0)
  fit_fits cells f (Fork v y n) (Load b j) h = tt
  fit_fits cells f (Fork v y n) (Store b j) h = tt
  fit_fits cells f (Fork v y n) Rollback h = tt
  fit_fits cells f (Get x a i) d h = load_fits cells x (cell_by (table_of table).counts f Read (record { array = a; index = i }) d) h
  fit_fits cells f (Put a i v) d h =
      store_fits v (cell_by (table_of table).counts f Write (record { array = a; index = i }) d) (cell_for_within (table_of table).counts f (record { array = a; index = i }) (asked_of Write (record { array = a; index = i }) d))

-- ---- what is forced is a branch, and its value is shown
abbrev pub ForcedShows : Shown → Found Fit → Type 0
ForcedShows s (Some (Goes c)) = Unit {0}
ForcedShows s (Some (Forces f)) = observation_of s ≡ branch f.value
ForcedShows s None = Unit {0}

pub forced_shows : (counts cells : List ℕ) (f : Bool) (s : Shown) (d : Directive) → ForcedShows s (fit_of counts cells f s d)
unfolding fit_of fork_fit observation_of
forced_shows counts cells f (Fork v y n) Step = tt
forced_shows counts cells f (Fork v y n) Force = refl
forced_shows counts cells f (Fork v y n) (Load b j) = tt
forced_shows counts cells f (Fork v y n) (Store b j) = tt
forced_shows counts cells f (Fork v y n) Rollback = tt
forced_shows counts cells f (Get x a i) d = go (cell_by counts f Read (record { array = a; index = i }) d)
  where
    go : (c : Option ℕ) → ForcedShows (Get x a i) (option_map (load_fit cells x) (found c))
    go none = tt
    go (some p) = tt
forced_shows counts cells f (Put a i v) d = go (cell_by counts f Write (record { array = a; index = i }) d)
  where
    go : (c : Option ℕ) → ForcedShows (Put a i v) (option_map (store_fit v) (found c))
    go none = tt
    go (some p) = tt
