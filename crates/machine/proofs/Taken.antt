-- What holds of every step that a directive can give at a branch, at a read and at a write.
use Prim.Native.Nat.{ℕ}
use mathlib.Core.Bool.{Bool, true, false, cond}
use mathlib.Core.Option.{Option, none, some, map}
use mathlib.Core.List.{List, [], ◌∷◌}
use Rattle.awhile.specs.Language.{Com}
use Rattle.machine.specs.Steps.{State, Taken, inside, cell_place, only_if, turned, loaded, stored, onward, cell_at, cell_used, at_fork, at_get, at_put}
use Rattle.machine.specs.declared.Directive.{Directive}
use Rattle.machine.specs.declared.Directive.TheVariants.{Step, Force, Load, Store, Rollback}

-- it holds of the step, if one is taken
abbrev pub IfTaken : {Note : Type 0} → (Taken Note → Type 0) → Option (Taken Note) → Type 0
IfTaken Q none = Unit {0}
IfTaken Q (some t) = Q t

-- what a step and what a force gives at a branch
module _ {Note : Type 0} (s : State Note) (v : Bool) (on_true on_false : List (Com Note)) where
  abbrev pub rightly : Taken Note
  rightly = onward (turned s (cond v on_true on_false) s.flag)

  abbrev pub wrongly : Taken Note
  wrongly = record { state = turned s (cond v on_false on_true) true; kept = turned s (cond v on_true on_false) s.flag ∷ [] }

module _ {Note : Type 0} (Q : Directive → Taken Note → Type 0) (counts : List ℕ) (s : State Note) where
  only_if_taken : (d : Directive) (b : Bool) (t : Taken Note) → Q d t → IfTaken (Q d) (only_if b t)
  unfolding only_if
  only_if_taken d true t q = q
  only_if_taken d false t q = tt

  cell_taken : (d : Directive) (after : ℕ → Taken Note) (c : Option ℕ) → ((p : ℕ) → Q d (after p)) → IfTaken (Q d) (map after c)
  cell_taken d after none q = tt
  cell_taken d after (some p) q = q p

  pub fork_taken : (v : Bool) (on_true on_false : List (Com Note)) → Q Step (rightly s v on_true on_false) → Q Force (wrongly s v on_true on_false)
      → (d : Directive) → IfTaken (Q d) (at_fork counts s v on_true on_false d)
  unfolding at_fork
  fork_taken v on_true on_false step force Step = step
  fork_taken v on_true on_false step force Force = force
  fork_taken v on_true on_false step force (Load b j) = tt
  fork_taken v on_true on_false step force (Store b j) = tt
  fork_taken v on_true on_false step force Rollback = tt

  -- a read takes the cell at some place, a write that at some place
  pub get_taken : (x a i : ℕ) (rest : List (Com Note)) → ((d : Directive) (p : ℕ) → Q d (onward (loaded s x p rest)))
      → (d : Directive) → IfTaken (Q d) (at_get counts s x a i rest d)
  unfolding at_get
  get_taken x a i rest q Step = only_if_taken Step (inside counts a i) (onward (loaded s x (cell_place counts a i) rest)) (q Step (cell_place counts a i))
  get_taken x a i rest q Force = tt
  get_taken x a i rest q (Load b j) =
      cell_taken (Load b j) (λ p. onward (loaded s x p rest)) (cell_used counts s.flag a i (cell_at counts b j)) (q (Load b j))
  get_taken x a i rest q (Store b j) = tt
  get_taken x a i rest q Rollback = tt

  pub put_taken : (a i v : ℕ) (rest : List (Com Note)) → ((d : Directive) (p : ℕ) → Q d (onward (stored s p v rest)))
      → (d : Directive) → IfTaken (Q d) (at_put counts s a i v rest d)
  unfolding at_put
  put_taken a i v rest q Step = only_if_taken Step (inside counts a i) (onward (stored s (cell_place counts a i) v rest)) (q Step (cell_place counts a i))
  put_taken a i v rest q Force = tt
  put_taken a i v rest q (Load b j) = tt
  put_taken a i v rest q (Store b j) =
      cell_taken (Store b j) (λ p. onward (stored s p v rest)) (cell_used counts s.flag a i (cell_at counts b j)) (q (Store b j))
  put_taken a i v rest q Rollback = tt
