-- A closed relation pulled back along a change of notes is closed, and the pending lists are then equal with the notes that they had before
-- the change: a relation on programs with origins gives one on programs with node numbers, and the next nodes are the same.
use Prim.Native.Nat.{ℕ}
use mathlib.Core.Bool.{Bool, true, false, cond, true≢false}
use mathlib.Core.List.{List, [], ◌∷◌, map}
use mathlib.Core.Path.{◌≡◌, refl, sym, ap, ap₂, subst, subst₂, ◌∙◌}
use Rattle.awhile.specs.Language.{Com, skip, assign, sequence, if, while, read, write, map_notes}
use Rattle.machine.specs.Look.{Look, quiet, fork, get, put, look}
use Rattle.machine.specs.Steps.{State, inside, cell_place, quietly, turned, loaded, stored}
use Rattle.machine.proofs.Notes.{map_pending, map_look, map_state, cond_mapped, look_mapped}
use Rattle.machine.proofs.Closed.{Alike, quiet_alike, fork_alike, get_alike, put_alike, get_out_left, get_out_right, put_out_left, put_out_right}
use Rattle.machine.proofs.Closed.{OneStep, over_alike, next_alike, Closed}

-- two looks of one command: they differ in values alone
data SameShape {Note : Type 0} : Look Note → Look Note → Type 0 where
  quiets : (p : List (Com Note)) (vs ws : List ℕ) → SameShape (quiet p vs) (quiet p ws)
  forks : (v w : Bool) (x y : List (Com Note)) → SameShape (fork v x y) (fork w x y)
  gets : (x a i j : ℕ) (p : List (Com Note)) → SameShape (get x a i p) (get x a j p)
  puts : (a i j v w : ℕ) (p : List (Com Note)) → SameShape (put a i v p) (put a j w p)

look_shape : {Note : Type 0} (c : Com Note) (rest : List (Com Note)) (vs ws : List ℕ) → SameShape (look c rest vs) (look c rest ws)
unfolding look
look_shape (skip n) rest vs ws = quiets _ _ _
look_shape (assign n x e) rest vs ws = quiets _ _ _
look_shape (sequence n c d) rest vs ws = quiets _ _ _
look_shape (if n b c d) rest vs ws = forks _ _ _ _
look_shape (while n b c) rest vs ws = forks _ _ _ _
look_shape (read n x a i) rest vs ws = gets _ _ _ _ _
look_shape (write n a i e) rest vs ws = puts _ _ _ _ _ _

is_empty : {A : Type 0} → List A → Bool
is_empty [] = true
is_empty (x ∷ xs) = false

-- What looks of one form that are alike give, with the parts of either side apart: a part that stands on both sides is not taken apart twice.
module _ {Note : Type 0} (counts : List ℕ) (R : State Note → State Note → Type 0) (s t : State Note) where
  quiet_parts : (p q : List (Com Note)) (vs ws : List ℕ) → Alike counts R s t (quiet p vs) (quiet q ws) → R (quietly s p vs) (quietly t q ws)
  quiet_parts p q vs ws (quiet_alike n us zs r) = r

  get_parts : (p q : List (Com Note)) (P : (x a i y b j : ℕ) → Type 0)
      → ((x a i : ℕ)
      → (inside counts a i ≡ true → R (loaded s x (cell_place counts a i) p) (loaded t x (cell_place counts a i) q))
      → ((place : ℕ) → s.flag ≡ true → R (loaded s x place p) (loaded t x place q))
      → P x a i x a i)
      → ((x a i j : ℕ) → inside counts a i ≡ false → s.flag ≡ false → P x a i x a j)
      → ((x a i j : ℕ) → inside counts a j ≡ false → t.flag ≡ false → P x a i x a j)
      → (x a i y b j : ℕ) → Alike counts R s t (get x a i p) (get y b j q) → P x a i y b j
  get_parts p q P in_both left right x a i y b j (get_alike z c k n own any) = in_both z c k own any
  get_parts p q P in_both left right x a i y b j (get_out_left z c k m n out clear) = left z c k m out clear
  get_parts p q P in_both left right x a i y b j (get_out_right z c k m n out clear) = right z c k m out clear

  put_parts : (p q : List (Com Note)) (P : (a i v b j w : ℕ) → Type 0)
      → ((a i v w : ℕ)
      → (inside counts a i ≡ true → R (stored s (cell_place counts a i) v p) (stored t (cell_place counts a i) w q))
      → ((place : ℕ) → s.flag ≡ true → R (stored s place v p) (stored t place w q))
      → P a i v a i w)
      → ((a i j v w : ℕ) → inside counts a i ≡ false → s.flag ≡ false → P a i v a j w)
      → ((a i j v w : ℕ) → inside counts a j ≡ false → t.flag ≡ false → P a i v a j w)
      → (a i v b j w : ℕ) → Alike counts R s t (put a i v p) (put b j w q) → P a i v b j w
  put_parts p q P in_both left right a i v b j w (put_alike c k y z n own any) = in_both c k y z own any
  put_parts p q P in_both left right a i v b j w (put_out_left c k m y z n out clear) = left c k m y z out clear
  put_parts p q P in_both left right a i v b j w (put_out_right c k m y z n out clear) = right c k m y z out clear

fork_parts : {Note : Type 0} (counts : List ℕ) (R : State Note → State Note → Type 0) (s t : State Note) (x y x' y' : List (Com Note))
    (P : (v w : Bool) → Type 0)
    → ((v : Bool) → R (turned s (cond v x y) s.flag) (turned t (cond v x' y') t.flag) → R (turned s (cond v y x) true) (turned t (cond v y' x') true) → P v v)
    → (v w : Bool) → Alike counts R s t (fork v x y) (fork w x' y') → P v w
fork_parts counts R s t x y x' y' P given v w (fork_alike u n k r g) = given u r g

module _ {A B : Type 0} (f : A → B) (counts : List ℕ) (R : State B → State B → Type 0) where
  -- states that are related with their notes changed, and have one pending list before the change
  pub record Pulled (s t : State A) : Type 0 where
    pub same : s.pending ≡ t.pending
    pub related : R (map_state f s) (map_state f t)

  alike_pulled : (s t : State A) (l l' : Look A) → SameShape l l' → Alike counts R (map_state f s) (map_state f t) (map_look f l) (map_look f l') → Alike counts Pulled s t l l'
  unfolding map_look map_state quietly turned loaded stored
  alike_pulled s t l l' (quiets p vs ws) al =
      quiet_alike p vs ws (record { same = refl; related = quiet_parts counts R (map_state f s) (map_state f t) (map_pending f p) (map_pending f p) vs ws al })
  alike_pulled s t l l' (forks v w x y) al =
      fork_parts counts R (map_state f s) (map_state f t) (map_pending f x) (map_pending f y) (map_pending f x) (map_pending f y)
      (λ b c. Alike counts Pulled s t (fork b x y) (fork c x y))
      (λ u r g. fork_alike u x y
      (record { same = refl; related = subst (λ (q : List (Com B)). R (turned (map_state f s) q s.flag) (turned (map_state f t) q t.flag)) (cond_mapped (map_pending f) u x y) r })
      (record { same = refl; related = subst (λ (q : List (Com B)). R (turned (map_state f s) q true) (turned (map_state f t) q true)) (cond_mapped (map_pending f) u y x) g }))
      v w al
  alike_pulled s t l l' (gets x a i j p) al =
      get_parts counts R (map_state f s) (map_state f t) (map_pending f p) (map_pending f p)
      (λ y b k z c m. Alike counts Pulled s t (get y b k p) (get z c m p))
      (λ y b k own any. get_alike y b k p (λ h. record { same = refl; related = own h }) (λ place set. record { same = refl; related = any place set }))
      (λ y b k m out clear. get_out_left y b k m p out clear)
      (λ y b k m out clear. get_out_right y b k m p out clear)
      x a i x a j al
  alike_pulled s t l l' (puts a i j v w p) al =
      put_parts counts R (map_state f s) (map_state f t) (map_pending f p) (map_pending f p)
      (λ b k y c m z. Alike counts Pulled s t (put b k y p) (put c m z p))
      (λ b k y z own any. put_alike b k y z p (λ h. record { same = refl; related = own h }) (λ place set. record { same = refl; related = any place set }))
      (λ b k m y z out clear. put_out_left b k m y z p out clear)
      (λ b k m y z out clear. put_out_right b k m y z p out clear)
      a i v a j w al

  step_pulled : (s t : State A) → OneStep counts R (map_state f s) (map_state f t) → (cs : List (Com A)) → s.pending ≡ cs → t.pending ≡ cs → OneStep counts Pulled s t
  unfolding map_state map_pending is_empty
  step_pulled s t (over_alike fl p q) [] e e' = over_alike fl e e'
  step_pulled s t (over_alike fl p q) (c ∷ rest) e e' = absurd (true≢false (sym (ap is_empty (sym (ap (map (map_notes f)) e) ∙ p))))
  step_pulled s t (next_alike fl c' rest' p q al) [] e e' = absurd (true≢false (ap is_empty (sym (ap (map (map_notes f)) e) ∙ p)))
  step_pulled s t (next_alike fl c' rest' p q al) (c ∷ rest) e e' =
      let both : map_notes f c ∷ map (map_notes f) rest ≡ c' ∷ rest' = sym (ap (map (map_notes f)) e) ∙ p in
      let head : c' ≡ map_notes f c = cc in
      let tail : rest' ≡ map (map_notes f) rest = cc in
      next_alike fl c rest e e'
      (alike_pulled s t (look c rest s.variables) (look c rest t.variables) (look_shape c rest s.variables t.variables)
      (subst₂ (Alike counts R (map_state f s) (map_state f t))
      (ap₂ (λ (d : Com B) (ds : List (Com B)). look d ds s.variables) head tail ∙ look_mapped f c rest s.variables)
      (ap₂ (λ (d : Com B) (ds : List (Com B)). look d ds t.variables) head tail ∙ look_mapped f c rest t.variables)
      al))

  pub pulled_closed : Closed counts R → Closed counts Pulled
  pulled_closed closed = record { step = λ s t k. step_pulled s t (closed.step (map_state f s) (map_state f t) k.related) s.pending refl (sym k.same) }
