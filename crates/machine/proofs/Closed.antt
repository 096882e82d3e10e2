-- Two states side by side, and relations on such pairs that every step keeps. A board adds nothing here: what a closed relation gives for
-- runs is `Lockstep`, for all boards at once.
use Prim.Native.Nat.{ℕ, suc}
use mathlib.Core.Bool.{Bool, true, false, cond}
use mathlib.Core.List.{List, [], ◌∷◌, ◌++◌}
use mathlib.Core.Path.{◌≡◌, refl, ap}
use lib.ListN.{length}
use Rattle.awhile.specs.Language.{Com}
use Rattle.machine.specs.Look.{Look, quiet, fork, get, put, look}
use Rattle.machine.specs.Steps.{State, inside, cell_place, quietly, turned, loaded, stored}

module _ {Note : Type 0} (counts : List ℕ) (R : State Note → State Note → Type 0) where
  -- how the next steps of two states are alike
  pub data Alike (s t : State Note) : Look Note → Look Note → Type 0 where
    quiet_alike : (p : List (Com Note)) (vs ws : List ℕ) → R (quietly s p vs) (quietly t p ws) → Alike s t (quiet p vs) (quiet p ws)
    -- one value on both sides; the right side is related with the flag as it was, the wrong side with the flag set
    fork_alike : (v : Bool) (on_true on_false : List (Com Note))
        → R (turned s (cond v on_true on_false) s.flag) (turned t (cond v on_true on_false) t.flag)
        → R (turned s (cond v on_false on_true) true) (turned t (cond v on_false on_true) true)
        → Alike s t (fork v on_true on_false) (fork v on_true on_false)
    -- one index on both sides: related after the own cell, in bounds, and while guessing after the cell at any place
    get_alike : (x a i : ℕ) (rest : List (Com Note))
        → (inside counts a i ≡ true → R (loaded s x (cell_place counts a i) rest) (loaded t x (cell_place counts a i) rest))
        → ((p : ℕ) → s.flag ≡ true → R (loaded s x p rest) (loaded t x p rest))
        → Alike s t (get x a i rest) (get x a i rest)
    put_alike : (a i v w : ℕ) (rest : List (Com Note))
        → (inside counts a i ≡ true → R (stored s (cell_place counts a i) v rest) (stored t (cell_place counts a i) w rest))
        → ((p : ℕ) → s.flag ≡ true → R (stored s p v rest) (stored t p w rest))
        → Alike s t (put a i v rest) (put a i w rest)
    -- with the flag clear, an index out of bounds in the left or in the right one
    get_out_left : (x a i j : ℕ) (rest : List (Com Note)) → inside counts a i ≡ false → s.flag ≡ false → Alike s t (get x a i rest) (get x a j rest)
    get_out_right : (x a i j : ℕ) (rest : List (Com Note)) → inside counts a j ≡ false → t.flag ≡ false → Alike s t (get x a i rest) (get x a j rest)
    put_out_left : (a i j v w : ℕ) (rest : List (Com Note)) → inside counts a i ≡ false → s.flag ≡ false → Alike s t (put a i v rest) (put a j w rest)
    put_out_right : (a i j v w : ℕ) (rest : List (Com Note)) → inside counts a j ≡ false → t.flag ≡ false → Alike s t (put a i v rest) (put a j w rest)

  -- nothing is pending on either side, or one command is next on both and their looks are alike; the flags are equal
  pub data OneStep (s t : State Note) : Type 0 where
    over_alike : s.flag ≡ t.flag → s.pending ≡ [] → t.pending ≡ [] → OneStep s t
    next_alike : s.flag ≡ t.flag → (c : Com Note) (rest : List (Com Note)) → s.pending ≡ c ∷ rest → t.pending ≡ c ∷ rest
        → Alike s t (look c rest s.variables) (look c rest t.variables) → OneStep s t

  -- a relation that every step keeps, at a branch for both sides
  pub record Closed : Type 0 where
    pub step : (s t : State Note) → R s t → OneStep s t

-- lists of states side by side, such as saves: as many on both sides, and each pair related
pub data Both {A : Type 0} (R : A → A → Type 0) : List A → List A → Type 0 where
  neither : Both R [] []
  both : {x y : A} {xs ys : List A} → R x y → Both R xs ys → Both R (x ∷ xs) (y ∷ ys)

module _ {A : Type 0} {R : A → A → Type 0} where
  pub both_length : {xs ys : List A} → Both R xs ys → length xs ≡ length ys
  both_length neither = refl
  both_length (both r rs) = ap suc (both_length rs)

  pub both_append : {xs ys us vs : List A} → Both R xs ys → Both R us vs → Both R (xs ++ us) (ys ++ vs)
  both_append neither q = q
  both_append (both r rs) q = both r (both_append rs q)
