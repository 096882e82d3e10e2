-- Two plain runs that are related stay related step by step, and show the same first observation.
use Prim.Native.Nat.{ℕ, zero, suc}
use mathlib.Core.Bool.{Bool, true, cond}
use mathlib.Core.List.{List, [], ◌∷◌, ◌++◌}
use mathlib.Core.Path.{◌≡◌, ap, subst₂, ◌∙◌}
use Rattle.awhile.specs.Language.{Com}
use lib.ListN.{get_or, set}
use Rattle.machine.specs.Observations.{Observation, branch, read_at, write_at}
use Rattle.machine.specs.Look.{Look, quiet, fork, get, put, look}
use Rattle.machine.specs.Steps.{State, inside, cell_place, only_if, quietly, turned, loaded, stored, onward, at_fork, at_get, at_put}
use Rattle.machine.specs.Prefixes.{OneBegins}
use Rattle.machine.proofs.Prefixes.{one_begins_cons}
use Rattle.machine.proofs.Traces.{turns, turn_of, turn_if, turn_from, turn, trace, trace_turns}

-- lists with a common front are related where what follows is
related_behind : (os : List Observation) {xs ys : List Observation} → OneBegins (os ++ xs) (os ++ ys) → OneBegins xs ys
related_behind [] h = h
related_behind (o ∷ os) h = related_behind os (one_begins_cons h).1

module _ {Note : Type 0} where
  -- a state by its parts
  abbrev pub state_of : List (Com Note) → (variables cells : List ℕ) → (flag : Bool) → State Note
  state_of p vs cs b = record { pending = p; variables = vs; cells = cs; flag = b }

  -- the plain runs from two states show lists of which one begins the other, at every two budgets
  pub record PlainRelated (counts : List ℕ) (s t : State Note) : Type 0 where
    pub at : (n m : ℕ) → OneBegins (trace counts n s) (trace counts m t)

  module _ (counts : List ℕ) (s t : State Note) (h : PlainRelated counts s t) where
    pub plain_after : (os : List Observation) (s' t' : State Note)
        → turn counts s ≡ turns os s' → turn counts t ≡ turns os t' → PlainRelated counts s' t'
    plain_after os s' t' p q =
        record {
          at = λ n m.
              related_behind os
              (subst₂ OneBegins (trace_turns counts n s os s' p) (trace_turns counts m t os t' q) (h.at (suc n) (suc m)));
        }

    pub plain_shows : (o u : Observation) (s' t' : State Note)
        → turn counts s ≡ turns (o ∷ []) s' → turn counts t ≡ turns (u ∷ []) t' → o ≡ u
    plain_shows o u s' t' p q =
        (one_begins_cons
        (subst₂ OneBegins (trace_turns counts zero s (o ∷ []) s' p) (trace_turns counts zero t (u ∷ []) t' q) (h.at 1 1))
        ).0

  -- the turn of a configuration is that of its look
  pub turn_by_look : (counts : List ℕ) (c : Com Note) (rest : List (Com Note)) (vs cs : List ℕ) (b : Bool) (l : Look Note)
      → look c rest vs ≡ l → turn counts (state_of (c ∷ rest) vs cs b) ≡ turn_of counts (state_of (c ∷ rest) vs cs b) l
  unfolding turn turn_from
  turn_by_look counts c rest vs cs b l e = ap (turn_of counts (state_of (c ∷ rest) vs cs b)) e

  pub turn_quiet : (counts : List ℕ) (c : Com Note) (rest p : List (Com Note)) (vs vs' cs : List ℕ) (b : Bool)
      → look c rest vs ≡ quiet p vs' → turn counts (state_of (c ∷ rest) vs cs b) ≡ turns [] (state_of p vs' cs b)
  unfolding turn_of quietly
  turn_quiet counts c rest p vs vs' cs b e = turn_by_look counts c rest vs cs b (quiet p vs') e

  -- a plain turn at a branch goes the right way; at a read or write in bounds it uses the own cell
  module _ (counts : List ℕ) (c : Com Note) (rest next : List (Com Note)) (vs cs : List ℕ) (b : Bool) where
    pub turn_fork : (v : Bool) (on_true on_false : List (Com Note)) → look c rest vs ≡ fork v on_true on_false
        → turn counts (state_of (c ∷ rest) vs cs b) ≡ turns (branch v ∷ []) (state_of (cond v on_true on_false) vs cs b)
    unfolding turn_of turn_if at_fork turned onward
    turn_fork v on_true on_false e = turn_by_look counts c rest vs cs b (fork v on_true on_false) e

    pub turn_get : (x a i : ℕ) → look c rest vs ≡ get x a i next → inside counts a i ≡ true
        → turn counts (state_of (c ∷ rest) vs cs b)
        ≡ turns (read_at a i ∷ []) (state_of next (set vs x (get_or cs (cell_place counts a i) 0)) cs b)
    unfolding turn_of turn_if at_get only_if loaded onward
    turn_get x a i e h = turn_by_look counts c rest vs cs b (get x a i next) e ∙ rw h

    pub turn_put : (a i v : ℕ) → look c rest vs ≡ put a i v next → inside counts a i ≡ true
        → turn counts (state_of (c ∷ rest) vs cs b)
        ≡ turns (write_at a i ∷ []) (state_of next vs (set cs (cell_place counts a i) v) b)
    unfolding turn_of turn_if at_put only_if stored onward
    turn_put a i v e h = turn_by_look counts c rest vs cs b (put a i v next) e ∙ rw h
