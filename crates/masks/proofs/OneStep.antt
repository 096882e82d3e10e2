-- The one-step lemma: locked configurations take the same kind of step, show the same and are locked again, at a branch for both
-- continuations; or, with the flag clear, an index is out of bounds in at least one of the two.
use Prim.Native.Nat.{ℕ, ◌<◌}
use native.Mathlib.Omega.{arith}
use mathlib.Core.Bool.{Bool, true, false, cond, ◌||◌, true≢false}
use mathlib.Core.List.{List, [], ◌∷◌}
use mathlib.Core.Option.{none}
use mathlib.Core.Path.{◌≡◌, refl, sym, ap, subst, subst₂, ◌∙◌}
use lib.ListN.{length, get_or, set, length-set}
use lib.Seq.{set-get_or, set-set, get_or-set_other}
use Rattle.awhile.specs.Language.{AExp, number, variable, choice, BExp, Com, skip, assign, sequence, if, while, read, write, value_of, truth_of}
use Rattle.awhile.specs.declared.Labelling.{Labelling}
use Rattle.labels.specs.Labellings.{◌⊑◌, variable_mark, array_mark, label_of, set_label, join, label_of_a, label_of_b}
use Rattle.labels.specs.Analysis.{analyse, read_label, write_label}
use Rattle.labels.proofs.Order.{⊑_refl, ⊑_trans, join_left, join_right}
use Rattle.labels.proofs.Analysis.{loop_settles}
use Rattle.labels.proofs.Booleans.{or_false_left, or_false_right}
use Rattle.labels.proofs.Values.{public_value}
use Rattle.machine.specs.Observations.{branch, read_at, write_at}
use Rattle.machine.specs.Look.{quiet, fork, get, put, look}
use Rattle.machine.specs.Steps.{State, inside, cell_place, quietly, turned, loaded, stored}
use Rattle.machine.proofs.PlainRuns.{state_of, PlainRelated, plain_after, plain_shows, turn_quiet, turn_fork, turn_get, turn_put}
use Rattle.machine.proofs.Closed.{Alike, quiet_alike, fork_alike, get_alike, put_alike, get_out_left, get_out_right, put_out_left, put_out_right}
use Rattle.machine.proofs.Closed.{OneStep, over_alike, next_alike, Closed}
use Rattle.masks.specs.Decisions.{Decision}
use Rattle.masks.specs.Covering.{Masked, ValueMasked, Covers, covers_sequence, covers_if, covers_while, covers_read, covers_write, AgreeOnArrays}
use Rattle.masks.specs.Hardening.{Origin, harden, masked_index, flag_if_true, flag_if_false, mask_value_of}
use Rattle.masks.specs.SameRun.{AssignsBelow}
use Rattle.masks.proofs.Locked.{condition_of, loop_of, read_of}
use Rattle.masks.proofs.Locked.{WellLabelled, nothing, item, loop, masked_read, Flagged, Besides, guessed, straight, Locked, steady, silent}
use Rattle.masks.proofs.Agreement.{public_below, flagged_larger, flagged_set, flagged_flag, same_condition, same_index, zero_guessing, same_straight, arrays_set}

-- ---- what holds besides, over a step
module _ {counts : List ℕ} where
  arrays_larger : {l m : Labelling} {cs ds : List ℕ} → ((a : ℕ) → label_of m (array_mark a) ≡ false → label_of l (array_mark a) ≡ false)
      → AgreeOnArrays l counts cs ds → AgreeOnArrays m counts cs ds
  arrays_larger keep h = record { at = λ a i e p. h.at a i (keep a e) p }

  besides_larger : {l m : Labelling} {s t : State Origin} {b : Bool} → ((a : ℕ) → label_of m (array_mark a) ≡ false → label_of l (array_mark a) ≡ false)
      → Besides counts l s t b → Besides counts m s t b
  besides_larger keep guessed = guessed
  besides_larger keep (straight arrays lengths plainly) = straight (arrays_larger keep arrays) lengths plainly

  -- a silent step on both sides
  besides_quiet : {l : Labelling} {b : Bool} (c : Com Origin) (rest p : List (Com Origin)) (vs ws vs' ws' cs ds : List ℕ)
      → look c rest vs ≡ quiet p vs' → look c rest ws ≡ quiet p ws'
      → Besides counts l (state_of (c ∷ rest) vs cs b) (state_of (c ∷ rest) ws ds b) b
      → Besides counts l (state_of p vs' cs b) (state_of p ws' ds b) b
  besides_quiet c rest p vs ws vs' ws' cs ds e₁ e₂ guessed = guessed
  besides_quiet c rest p vs ws vs' ws' cs ds e₁ e₂ (straight arrays lengths plainly) =
      straight arrays lengths
      (plain_after counts _ _ plainly [] _ _ (turn_quiet counts c rest p vs vs' cs false e₁) (turn_quiet counts c rest p ws ws' ds false e₂))

module _ (counts : List ℕ) (f : ℕ) where
  -- ---- added updates of the flag variable
  -- an update that gives the flag variable the machine's flag, before a list that is well labelled
  update_locked : {m : Labelling} {k : ℕ} (b : Bool) (e : AExp) (q : List (Com Origin)) (vs ws cs ds : List ℕ)
      → value_of e vs ≡ cond b 1 0 → value_of e ws ≡ cond b 1 0 → WellLabelled f m q → Flagged f k m vs ws
      → Besides counts m (state_of (assign none f e ∷ q) vs cs b) (state_of (assign none f e ∷ q) ws ds b) b
      → Locked counts f (state_of (assign none f e ∷ q) vs cs b) (state_of (assign none f e ∷ q) ws ds b)
  unfolding look
  update_locked {m} b e q vs ws cs ds p₁ p₂ wl fl be =
      let q₁ : look (assign none f e) q vs ≡ quiet q (set vs f (cond b 1 0)) = ap (λ (v : ℕ). quiet q (set vs f v)) p₁ in
      let q₂ : look (assign none f e) q ws ≡ quiet q (set ws f (cond b 1 0)) = ap (λ (v : ℕ). quiet q (set ws f v)) p₂ in
      silent b (assign none f e) q q vs ws (set vs f (cond b 1 0)) (set ws f (cond b 1 0)) cs ds q₁ q₂
      (steady b m q (set vs f (cond b 1 0)) (set ws f (cond b 1 0)) cs ds wl (flagged_flag fl (cond b 1 0))
      (besides_quiet (assign none f e) q q vs ws (set vs f (cond b 1 0)) (set ws f (cond b 1 0)) cs ds q₁ q₂ be))

  -- the same behind a sequence node
  side_locked : {m : Labelling} {k : ℕ} (b : Bool) (e : AExp) (h : Com Origin) (rest : List (Com Origin)) (vs ws cs ds : List ℕ)
      → value_of e vs ≡ cond b 1 0 → value_of e ws ≡ cond b 1 0 → WellLabelled f m (h ∷ rest) → Flagged f k m vs ws
      → Besides counts m (state_of (sequence none (assign none f e) h ∷ rest) vs cs b) (state_of (sequence none (assign none f e) h ∷ rest) ws ds b) b
      → Locked counts f (state_of (sequence none (assign none f e) h ∷ rest) vs cs b) (state_of (sequence none (assign none f e) h ∷ rest) ws ds b)
  unfolding look
  side_locked b e h rest vs ws cs ds p₁ p₂ wl fl be =
      silent b (sequence none (assign none f e) h) rest (assign none f e ∷ h ∷ rest) vs ws vs ws cs ds refl refl
      (update_locked b e (h ∷ rest) vs ws cs ds p₁ p₂ wl fl
      (besides_quiet (sequence none (assign none f e) h) rest (assign none f e ∷ h ∷ rest) vs ws vs ws cs ds refl refl be))

  -- ---- branches
  branch_value : {v w : Bool} → branch v ≡ branch w → v ≡ w
  branch_value e = cc

  -- the condition has one value on both sides: while guessing by its labels, else because the plain runs show it
  fork_same : {m : Labelling} (b : Bool) (c : Com Origin) (rest on_true on_false : List (Com Origin)) (v w : Bool) (vs ws cs ds : List ℕ)
      → look c rest vs ≡ fork v on_true on_false → look c rest ws ≡ fork w on_true on_false → (b ≡ true → v ≡ w)
      → Besides counts m (state_of (c ∷ rest) vs cs b) (state_of (c ∷ rest) ws ds b) b → v ≡ w
  fork_same b c rest on_true on_false v w vs ws cs ds e₁ e₂ h guessed = h refl
  fork_same b c rest on_true on_false v w vs ws cs ds e₁ e₂ h (straight arrays lengths plainly) =
      branch_value
      (plain_shows counts _ _ plainly (branch v) (branch w) _ _ (turn_fork counts c rest rest vs cs false v on_true on_false e₁)
      (turn_fork counts c rest rest ws ds false w on_true on_false e₂))

  fork_besides : {m : Labelling} (b : Bool) (c : Com Origin) (rest on_true on_false : List (Com Origin)) (v : Bool) (vs ws cs ds : List ℕ)
      → look c rest vs ≡ fork v on_true on_false → look c rest ws ≡ fork v on_true on_false
      → Besides counts m (state_of (c ∷ rest) vs cs b) (state_of (c ∷ rest) ws ds b) b
      → Besides counts m (state_of (cond v on_true on_false) vs cs b) (state_of (cond v on_true on_false) ws ds b) b
  fork_besides b c rest on_true on_false v vs ws cs ds e₁ e₂ guessed = guessed
  fork_besides b c rest on_true on_false v vs ws cs ds e₁ e₂ (straight arrays lengths plainly) =
      straight arrays lengths
      (plain_after counts _ _ plainly (branch v ∷ []) _ _ (turn_fork counts c rest rest vs cs false v on_true on_false e₁)
      (turn_fork counts c rest rest ws ds false v on_true on_false e₂))

  -- what the updates of the flag variable give: on the right side its old value, on the wrong side 1
  true_right : (e : BExp) (vs : List ℕ) (k : ℕ) → truth_of e vs ≡ true → get_or vs f 0 ≡ k → value_of (choice e (variable f) (number 1)) vs ≡ k
  unfolding value_of
  true_right e vs k p q = rw p q

  true_wrong : (e : BExp) (vs : List ℕ) → truth_of e vs ≡ false → value_of (choice e (variable f) (number 1)) vs ≡ 1
  unfolding value_of
  true_wrong e vs p = rw p

  false_right : (e : BExp) (vs : List ℕ) (k : ℕ) → truth_of e vs ≡ false → get_or vs f 0 ≡ k → value_of (choice e (number 1) (variable f)) vs ≡ k
  unfolding value_of
  false_right e vs k p q = rw p q

  false_wrong : (e : BExp) (vs : List ℕ) → truth_of e vs ≡ true → value_of (choice e (number 1) (variable f)) vs ≡ 1
  unfolding value_of
  false_wrong e vs p = rw p

  -- a side of a branch: locked wherever its update gives the flag variable the machine's flag
  Side : AExp → Labelling → List (Com Origin) → (vs ws cs ds : List ℕ) → Type 0
  Side e m p vs ws cs ds =
      (b : Bool) → value_of e vs ≡ cond b 1 0 → value_of e ws ≡ cond b 1 0
      → Besides counts m (state_of p vs cs b) (state_of p ws ds b) b → Locked counts f (state_of p vs cs b) (state_of p ws ds b)

  fork_locked : {m : Labelling} (b : Bool) (c : Com Origin) (rest on_true on_false : List (Com Origin)) (e : BExp) (vs ws cs ds : List ℕ)
      → look c rest vs ≡ fork (truth_of e vs) on_true on_false → look c rest ws ≡ fork (truth_of e ws) on_true on_false
      → (b ≡ true → truth_of e vs ≡ truth_of e ws)
      → Besides counts m (state_of (c ∷ rest) vs cs b) (state_of (c ∷ rest) ws ds b) b
      → Flagged f (cond b 1 0) m vs ws
      → Side (choice e (variable f) (number 1)) m on_true vs ws cs ds
      → Side (choice e (number 1) (variable f)) m on_false vs ws cs ds
      → Alike counts (Locked counts f) (state_of (c ∷ rest) vs cs b) (state_of (c ∷ rest) ws ds b) (look c rest vs) (look c rest ws)
  unfolding turned Side
  fork_locked {m} b c rest on_true on_false e vs ws cs ds e₁ e₂ h be fl side_true side_false =
      go (truth_of e vs) refl (sym (fork_same b c rest on_true on_false (truth_of e vs) (truth_of e ws) vs ws cs ds e₁ e₂ h be))
    where
      s : State Origin
      s = state_of (c ∷ rest) vs cs b

      t : State Origin
      t = state_of (c ∷ rest) ws ds b

      go : (v : Bool) → truth_of e vs ≡ v → truth_of e ws ≡ truth_of e vs → Alike counts (Locked counts f) s t (look c rest vs) (look c rest ws)
      go true p q =
          let l₁ : look c rest vs ≡ fork true on_true on_false = e₁ ∙ ap (λ (x : Bool). fork x on_true on_false) p in
          let l₂ : look c rest ws ≡ fork true on_true on_false = e₂ ∙ ap (λ (x : Bool). fork x on_true on_false) (q ∙ p) in
          subst₂ (Alike counts (Locked counts f) s t) (sym l₁) (sym l₂)
          (fork_alike true on_true on_false
          (side_true b (true_right e vs _ p fl.left) (true_right e ws _ (q ∙ p) fl.right) (fork_besides b c rest on_true on_false true vs ws cs ds l₁ l₂ be))
          (side_false true (false_wrong e vs p) (false_wrong e ws (q ∙ p)) guessed))
      go false p q =
          let l₁ : look c rest vs ≡ fork false on_true on_false = e₁ ∙ ap (λ (x : Bool). fork x on_true on_false) p in
          let l₂ : look c rest ws ≡ fork false on_true on_false = e₂ ∙ ap (λ (x : Bool). fork x on_true on_false) (q ∙ p) in
          subst₂ (Alike counts (Locked counts f) s t) (sym l₁) (sym l₂)
          (fork_alike false on_true on_false
          (side_false b (false_right e vs _ p fl.left) (false_right e ws _ (q ∙ p) fl.right) (fork_besides b c rest on_true on_false false vs ws cs ds l₁ l₂ be))
          (side_true true (true_wrong e vs p) (true_wrong e ws (q ∙ p)) guessed))

  -- ---- reads
  read_index : {a b i j : ℕ} → read_at a i ≡ read_at b j → i ≡ j
  read_index e = cc

  write_index : {a b i j : ℕ} → write_at a i ≡ write_at b j → i ≡ j
  write_index e = cc

  -- what follows a read is locked, whatever was read; with the flag clear what a public array gave is the same on both sides
  AfterRead : Labelling → Bool → (x a : ℕ) → List (Com Origin) → (vs ws cs ds : List ℕ) → Type 0
  AfterRead m b x a next vs ws cs ds =
      (u w : ℕ) → (b ≡ false → label_of m (array_mark a) ≡ false → u ≡ w)
      → Besides counts m (state_of next (set vs x u) cs b) (state_of next (set ws x w) ds b) b
      → Locked counts f (state_of next (set vs x u) cs b) (state_of next (set ws x w) ds b)

  module _ {m : Labelling} (c : Com Origin) (rest next : List (Com Origin)) (x a i j : ℕ) (vs ws cs ds : List ℕ) where
    get_straight : look c rest vs ≡ get x a i next → look c rest ws ≡ get x a j next
        → AgreeOnArrays m counts cs ds → length cs ≡ length ds → PlainRelated counts (state_of (c ∷ rest) vs cs false) (state_of (c ∷ rest) ws ds false)
        → AfterRead m false x a next vs ws cs ds
        → (p q : Bool) → inside counts a i ≡ p → inside counts a j ≡ q
        → Alike counts (Locked counts f) (state_of (c ∷ rest) vs cs false) (state_of (c ∷ rest) ws ds false) (get x a i next) (get x a j next)
    unfolding loaded AfterRead
    get_straight e₁ e₂ arrays lengths plainly after false q k₁ k₂ = get_out_left x a i j next k₁ refl
    get_straight e₁ e₂ arrays lengths plainly after true false k₁ k₂ = get_out_right x a i j next k₂ refl
    get_straight e₁ e₂ arrays lengths plainly after true true k₁ k₂ =
        subst (λ (k : ℕ). Alike counts (Locked counts f) (state_of (c ∷ rest) vs cs false) (state_of (c ∷ rest) ws ds false) (get x a i next) (get x a k next)) same
        (get_alike x a i next (λ h. after _ _ (λ r public. arrays.at a i public k₁) (straight arrays lengths related)) (λ b h. absurd (true≢false (sym h))))
      where
        same : i ≡ j
        same =
            read_index
            (plain_shows counts _ _ plainly (read_at a i) (read_at a j) _ _ (turn_get counts c rest next vs cs false x a i e₁ k₁)
            (turn_get counts c rest next ws ds false x a j e₂ k₂))

        related : PlainRelated counts (state_of next (set vs x (get_or cs (cell_place counts a i) 0)) cs false)
            (state_of next (set ws x (get_or ds (cell_place counts a i) 0)) ds false)
        related =
            plain_after counts _ _ plainly (read_at a i ∷ []) _ _ (turn_get counts c rest next vs cs false x a i e₁ k₁)
            (turn_get counts c rest next ws ds false x a i (e₂ ∙ ap (λ (k : ℕ). get x a k next) (sym same)) k₁)

    get_locked : (b : Bool) → look c rest vs ≡ get x a i next → look c rest ws ≡ get x a j next → (b ≡ true → i ≡ j)
        → Besides counts m (state_of (c ∷ rest) vs cs b) (state_of (c ∷ rest) ws ds b) b
        → AfterRead m b x a next vs ws cs ds
        → Alike counts (Locked counts f) (state_of (c ∷ rest) vs cs b) (state_of (c ∷ rest) ws ds b) (look c rest vs) (look c rest ws)
    unfolding loaded AfterRead
    get_locked b e₁ e₂ h guessed after =
        subst₂ (Alike counts (Locked counts f) _ _) (sym e₁) (sym (e₂ ∙ ap (λ (k : ℕ). get x a k next) (sym (h refl))))
        (get_alike x a i next (λ p. after _ _ (λ r. absurd (true≢false r)) guessed) (λ d p. after _ _ (λ r. absurd (true≢false r)) guessed))
    get_locked b e₁ e₂ h (straight arrays lengths plainly) after =
        subst₂ (Alike counts (Locked counts f) _ _) (sym e₁) (sym e₂) (get_straight e₁ e₂ arrays lengths plainly after _ _ refl refl)

  -- ---- writes
  -- what follows a write is locked; with the flag clear the public arrays agree after it
  AfterWrite : Labelling → Bool → List (Com Origin) → (vs ws : List ℕ) → Type 0
  AfterWrite m b next vs ws =
      (cs ds : List ℕ) → Besides counts m (state_of next vs cs b) (state_of next ws ds b) b → Locked counts f (state_of next vs cs b) (state_of next ws ds b)

  module _ {m : Labelling} (r : Bool) (c : Com Origin) (rest next : List (Com Origin)) (a i j v w : ℕ) (vs ws cs ds : List ℕ)
      (before : r ≡ false → label_of m (array_mark a) ≡ false) where
    put_straight : look c rest vs ≡ put a i v next → look c rest ws ≡ put a j w next → (r ≡ false → v ≡ w)
        → AgreeOnArrays m counts cs ds → length cs ≡ length ds → PlainRelated counts (state_of (c ∷ rest) vs cs false) (state_of (c ∷ rest) ws ds false)
        → AfterWrite (set_label m (array_mark a) r) false next vs ws
        → (p q : Bool) → inside counts a i ≡ p → inside counts a j ≡ q
        → Alike counts (Locked counts f) (state_of (c ∷ rest) vs cs false) (state_of (c ∷ rest) ws ds false) (put a i v next) (put a j w next)
    unfolding stored AfterWrite
    put_straight e₁ e₂ eq arrays lengths plainly after false q k₁ k₂ = put_out_left a i j v w next k₁ refl
    put_straight e₁ e₂ eq arrays lengths plainly after true false k₁ k₂ = put_out_right a i j v w next k₂ refl
    put_straight e₁ e₂ eq arrays lengths plainly after true true k₁ k₂ =
        subst (λ (k : ℕ). Alike counts (Locked counts f) (state_of (c ∷ rest) vs cs false) (state_of (c ∷ rest) ws ds false) (put a i v next) (put a k w next)) same
        (put_alike a i v w next
        (λ h.
        after _ _
        (straight (arrays_set a i v w r arrays lengths k₁ before eq)
        (length-set cs (cell_place counts a i) v ∙ (lengths ∙ sym (length-set ds (cell_place counts a i) w)))
        related))
        (λ b h. absurd (true≢false (sym h))))
      where
        same : i ≡ j
        same =
            write_index
            (plain_shows counts _ _ plainly (write_at a i) (write_at a j) _ _ (turn_put counts c rest next vs cs false a i v e₁ k₁)
            (turn_put counts c rest next ws ds false a j w e₂ k₂))

        related : PlainRelated counts (state_of next vs (set cs (cell_place counts a i) v) false) (state_of next ws (set ds (cell_place counts a i) w) false)
        related =
            plain_after counts _ _ plainly (write_at a i ∷ []) _ _ (turn_put counts c rest next vs cs false a i v e₁ k₁)
            (turn_put counts c rest next ws ds false a i w (e₂ ∙ ap (λ (k : ℕ). put a k w next) (sym same)) k₁)

    put_locked : (b : Bool) → look c rest vs ≡ put a i v next → look c rest ws ≡ put a j w next → (b ≡ true → i ≡ j) → (r ≡ false → v ≡ w)
        → Besides counts m (state_of (c ∷ rest) vs cs b) (state_of (c ∷ rest) ws ds b) b
        → AfterWrite (set_label m (array_mark a) r) b next vs ws
        → Alike counts (Locked counts f) (state_of (c ∷ rest) vs cs b) (state_of (c ∷ rest) ws ds b) (look c rest vs) (look c rest ws)
    unfolding stored AfterWrite
    put_locked b e₁ e₂ h eq guessed after =
        subst₂ (Alike counts (Locked counts f) _ _) (sym e₁) (sym (e₂ ∙ ap (λ (k : ℕ). put a k w next) (sym (h refl))))
        (put_alike a i v w next (λ p. after _ _ guessed) (λ d p. after _ _ guessed))
    put_locked b e₁ e₂ h eq (straight arrays lengths plainly) after =
        subst₂ (Alike counts (Locked counts f) _ _) (sym e₁) (sym e₂) (put_straight e₁ e₂ eq arrays lengths plainly after _ _ refl refl)

  -- ---- a well-labelled list, item by item
  well_labelled_from : {l m : Labelling} {p : List (Com Origin)} → l ⊑ m → WellLabelled f m p → WellLabelled f l p
  well_labelled_from h nothing = nothing
  well_labelled_from h (item c x n g cov sp wl) = item c x n (⊑_trans h g) cov sp wl
  well_labelled_from h (loop n b c x o g k cov sp cl wl) = loop n b c x o (⊑_trans h g) k cov sp cl wl
  well_labelled_from h (masked_read n v a i x o g k below wl) = masked_read n v a i x o (⊑_trans h g) k below wl

  -- a silent step to a well-labelled list
  quiet_step : {m : Labelling} (b : Bool) (c : Com Origin) (rest p : List (Com Origin)) (vs ws vs' ws' cs ds : List ℕ)
      → look c rest vs ≡ quiet p vs' → look c rest ws ≡ quiet p ws' → WellLabelled f m p → Flagged f (cond b 1 0) m vs' ws'
      → Besides counts m (state_of (c ∷ rest) vs cs b) (state_of (c ∷ rest) ws ds b) b
      → Alike counts (Locked counts f) (state_of (c ∷ rest) vs cs b) (state_of (c ∷ rest) ws ds b) (look c rest vs) (look c rest ws)
  unfolding quietly
  quiet_step {m} b c rest p vs ws vs' ws' cs ds e₁ e₂ wl fl be =
      subst₂ (Alike counts (Locked counts f) _ _) (sym e₁) (sym e₂)
      (quiet_alike p vs' ws' (steady b m p vs' ws' cs ds wl fl (besides_quiet c rest p vs ws vs' ws' cs ds e₁ e₂ be)))

  -- the next steps of two configurations with this pending list, flag and values are alike
  Steps : Bool → Labelling → List (Com Origin) → Type 0
  Steps b m p =
      (vs ws cs ds : List ℕ) → Flagged f (cond b 1 0) m vs ws → Besides counts m (state_of p vs cs b) (state_of p ws ds b) b
      → OneStep counts (Locked counts f) (state_of p vs cs b) (state_of p ws ds b)

  -- a covered condition while guessing
  guessing_condition : {m : Labelling} {vs ws : List ℕ} (n : Decision) (e : BExp) (b : Bool) → Masked (label_of_b m e) n.mask_condition
      → Flagged f (cond b 1 0) m vs ws → b ≡ true → truth_of (condition_of f n e) vs ≡ truth_of (condition_of f n e) ws
  guessing_condition {m} {vs} {ws} n e b h fl p = same_condition (subst (λ (t : Bool). Flagged f (cond t 1 0) m vs ws) p fl) n.mask_condition e h

  guessing_index : {m : Labelling} {vs ws : List ℕ} (n : Decision) (i : AExp) (b : Bool) → Masked (label_of_a m i) n.mask_index
      → Flagged f (cond b 1 0) m vs ws → b ≡ true
      → value_of (masked_index f n.mask_index i) vs ≡ value_of (masked_index f n.mask_index i) ws
  guessing_index {m} {vs} {ws} n i b h fl p = same_index (subst (λ (t : Bool). Flagged f (cond t 1 0) m vs ws) p fl) n.mask_index i h

  loop_steps : (b : Bool) {rest : List (Com Origin)} (n : Decision) (e : BExp) (c : Com Decision) (x : Bool) (m : Labelling)
      → Masked (label_of_b m e) n.mask_condition → Covers c (label_of_b m e || x) m → AssignsBelow f c → analyse c (label_of_b m e || x) m ⊑ m
      → WellLabelled f m rest → Steps b m (loop_of f n e c ∷ flag_if_false f (condition_of f n e) ∷ rest)
  unfolding Steps look Side flag_if_true flag_if_false
  loop_steps b {rest} n e c x m k cov sp closed wl vs ws cs ds fl be =
      next_alike refl (loop_of f n e c) (flag_if_false f (condition_of f n e) ∷ rest) refl refl
      (fork_locked b (loop_of f n e c) (flag_if_false f (condition_of f n e) ∷ rest) _ _ (condition_of f n e) vs ws cs ds refl refl
      (guessing_condition n e b k fl) be fl
      (λ b' p q be'. side_locked b' _ (harden f c) _ vs ws cs ds p q again fl be')
      (λ b' p q be'. update_locked b' _ rest vs ws cs ds p q wl fl be'))
    where
      again : WellLabelled f m (harden f c ∷ loop_of f n e c ∷ flag_if_false f (condition_of f n e) ∷ rest)
      again = item c (label_of_b m e || x) m (⊑_refl m) cov sp (loop n e c x m closed k cov sp closed wl)

  -- setting a variable's label leaves those of the arrays alone
  arrays_after_set : (m : Labelling) (x : ℕ) (r : Bool) (a : ℕ) → label_of (set_label m (variable_mark x) r) (array_mark a) ≡ false → label_of m (array_mark a) ≡ false
  unfolding label_of set_label
  arrays_after_set m x r a e = e

  -- what a read gives is the same on both sides where its label is public: with the flag clear
  read_public : (m : Labelling) (x : Bool) (a : ℕ) (i : AExp) → read_label m x a i ≡ false → label_of m (array_mark a) ≡ false
  unfolding read_label
  read_public m x a i e = or_false_left (label_of m (array_mark a)) x (or_false_right (label_of_a m i) _ e)

  index_public : (m : Labelling) (x : Bool) (a : ℕ) (i : AExp) → read_label m x a i ≡ false → label_of_a m i ≡ false
  unfolding read_label
  index_public m x a i e = or_false_left (label_of_a m i) _ e

  -- the value mask: while guessing it clears the variable, else it leaves it
  module _ (m : Labelling) (rest : List (Com Origin)) (v : ℕ) (r : Bool) (below : v < f) (wl : WellLabelled f (set_label m (variable_mark v) r) rest)
      (vs ws cs ds : List ℕ) (u w : ℕ) where
    Cleared : Bool → Type 0
    Cleared b =
        Flagged f (cond b 1 0) m vs ws → (b ≡ false → r ≡ false → u ≡ w)
        → Besides counts m (state_of (mask_value_of f v ∷ rest) (set vs v u) cs b) (state_of (mask_value_of f v ∷ rest) (set ws v w) ds b) b
        → Locked counts f (state_of (mask_value_of f v ∷ rest) (set vs v u) cs b) (state_of (mask_value_of f v ∷ rest) (set ws v w) ds b)

    kept_flag : (k y : ℕ) (xs : List ℕ) → get_or xs f 0 ≡ k → get_or (set xs v y) f 0 ≡ k
    kept_flag k y xs e = get_or-set_other xs v f y 0 (omega arith) ∙ e

    cleared : (b : Bool) → Cleared b
    unfolding Cleared look mask_value_of value_of
    cleared true fl eq be =
        silent true (mask_value_of f v) rest rest (set vs v u) (set ws v w) (set vs v 0) (set ws v 0) cs ds (zeroed vs u fl.left) (zeroed ws w fl.right)
        (steady true (set_label m (variable_mark v) r) rest (set vs v 0) (set ws v 0) cs ds wl (flagged_set fl v 0 0 r (omega arith) (λ p. refl)) guessed)
      where
        zeroed : (xs : List ℕ) (y : ℕ) → get_or xs f 0 ≡ 1 → look (mask_value_of f v) rest (set xs v y) ≡ quiet rest (set xs v 0)
        zeroed xs y e =
            ap (λ (z : ℕ). quiet rest (set (set xs v y) v z)) (zero_guessing f (set xs v y) (variable v) (kept_flag 1 y xs e)) ∙ ap (quiet rest) (set-set xs v y 0)
    cleared false fl eq be =
        silent false (mask_value_of f v) rest rest (set vs v u) (set ws v w) (set vs v u) (set ws v w) cs ds (left_alone vs u fl.left) (left_alone ws w fl.right)
        (steady false (set_label m (variable_mark v) r) rest (set vs v u) (set ws v w) cs ds wl (flagged_set fl v u w r (omega arith) (eq refl))
        (besides_larger (arrays_after_set m v r)
        (besides_quiet (mask_value_of f v) rest rest (set vs v u) (set ws v w) (set vs v u) (set ws v w) cs ds (left_alone vs u fl.left) (left_alone ws w fl.right) be)))
      where
        left_alone : (xs : List ℕ) (y : ℕ) → get_or xs f 0 ≡ 0 → look (mask_value_of f v) rest (set xs v y) ≡ quiet rest (set xs v y)
        left_alone xs y e =
            ap (λ (z : ℕ). quiet rest (set (set xs v y) v z)) (same_straight f (set xs v y) (variable v) (kept_flag 0 y xs e))
            ∙ ap (quiet rest) (set-get_or (set xs v y) v 0)

  masked_read_steps : (b : Bool) {rest : List (Com Origin)} (n : Decision) (v a : ℕ) (i : AExp) (x : Bool) (m : Labelling)
      → Masked (label_of_a m i) n.mask_index → v < f → WellLabelled f (set_label m (variable_mark v) (read_label m x a i)) rest
      → Steps b m (read_of f n v a i ∷ mask_value_of f v ∷ rest)
  unfolding Steps look AfterRead Cleared
  masked_read_steps b {rest} n v a i x m k below wl vs ws cs ds fl be =
      next_alike refl (read_of f n v a i) (mask_value_of f v ∷ rest) refl refl
      (get_locked (read_of f n v a i) (mask_value_of f v ∷ rest) (mask_value_of f v ∷ rest) v a _ _ vs ws cs ds b refl refl (guessing_index n i b k fl) be
      (λ u w eq be'.
      cleared m rest v (read_label m x a i) below wl vs ws cs ds u w b fl (λ p q. eq p (read_public m x a i q)) be'))

  -- a read whose value is not masked gives its variable a secret label
  unmasked_secret : {p q : Bool} → ValueMasked p q false → (p ≡ false → q ≡ false) → p ≡ false → ⊥
  unmasked_secret h g e = true≢false (sym (h.masked e (g e)))

  read_steps : (b : Bool) {rest : List (Com Origin)} (mask : Bool) (n : Decision) (v a : ℕ) (i : AExp) (x : Bool) (m : Labelling)
      → Masked (label_of_a m i) n.mask_index → ValueMasked (read_label m x a i) (label_of_a m i) mask → v < f
      → WellLabelled f (set_label m (variable_mark v) (read_label m x a i)) rest
      → Steps b m (cond mask (sequence none (read_of f n v a i) (mask_value_of f v)) (read_of f n v a i) ∷ rest)
  unfolding Steps look AfterRead
  read_steps b {rest} true n v a i x m k k₁ below wl vs ws cs ds fl be =
      next_alike refl _ rest refl refl
      (quiet_step b _ rest _ vs ws vs ws cs ds refl refl (masked_read n v a i x m (⊑_refl m) k below wl) fl be)
  read_steps b {rest} false n v a i x m k k₁ below wl vs ws cs ds fl be =
      next_alike refl _ rest refl refl
      (get_locked (read_of f n v a i) rest rest v a _ _ vs ws cs ds b refl refl (guessing_index n i b k fl) be
      (λ u w eq be'.
      steady b (set_label m (variable_mark v) (read_label m x a i)) rest (set vs v u) (set ws v w) cs ds wl
      (flagged_set fl v u w (read_label m x a i) (omega arith) (λ p. absurd (unmasked_secret k₁ (index_public m x a i) p)))
      (besides_larger (arrays_after_set m v (read_label m x a i)) be')))

  write_public : (m : Labelling) (x : Bool) (a : ℕ) (i e : AExp) → write_label m x a i e ≡ false → label_of m (array_mark a) ≡ false
  unfolding write_label
  write_public m x a i e p = or_false_left (label_of m (array_mark a)) _ p

  value_public : (m : Labelling) (x : Bool) (a : ℕ) (i e : AExp) → write_label m x a i e ≡ false → label_of_a m e ≡ false
  unfolding write_label
  value_public m x a i e p = or_false_left (label_of_a m e) x (or_false_right (label_of_a m i) _ (or_false_right (label_of m (array_mark a)) _ p))

  -- a write leaves the labels of the variables alone
  flagged_array : {k : ℕ} {m : Labelling} {vs ws : List ℕ} (a : ℕ) (r : Bool) → Flagged f k m vs ws → Flagged f k (set_label m (array_mark a) r) vs ws
  unfolding label_of set_label
  flagged_array a r fl =
      record { agree = record { at = λ x e. fl.agree.at x e }; left = fl.left; right = fl.right; lengths = fl.lengths; declared = fl.declared }

  -- the hardened form of any command that the decisions cover
  command_steps : (b : Bool) {rest : List (Com Origin)} (c : Com Decision) (x : Bool) (m : Labelling)
      → Covers c x m → AssignsBelow f c → WellLabelled f (analyse c x m) rest → Steps b m (harden f c ∷ rest)
  unfolding Steps look harden analyse AfterRead AfterWrite Side flag_if_true flag_if_false
  command_steps b {rest} (skip n) x m cov sp wl vs ws cs ds fl be =
      next_alike refl _ rest refl refl (quiet_step b _ rest rest vs ws vs ws cs ds refl refl wl fl be)
  command_steps b {rest} (assign n v e) x m cov below wl vs ws cs ds fl be =
      next_alike refl _ rest refl refl
      (quiet_step b _ rest rest vs ws _ _ cs ds refl refl wl
      (flagged_set fl v _ _ (label_of_a m e || x) (omega arith) (λ p. public_value m vs ws fl.agree e (or_false_left (label_of_a m e) x p)))
      (besides_larger (arrays_after_set m v (label_of_a m e || x)) be))
  command_steps b {rest} (sequence n c d) x m (covers_sequence k₁ k₂) (s₁, s₂) wl vs ws cs ds fl be =
      next_alike refl _ rest refl refl
      (quiet_step b _ rest _ vs ws vs ws cs ds refl refl
      (item c x m (⊑_refl m) k₁ s₁ (item d x (analyse c x m) (⊑_refl (analyse c x m)) k₂ s₂ wl)) fl be)
  command_steps b {rest} (if n e c d) x m (covers_if k k₁ k₂) (s₁, s₂) wl vs ws cs ds fl be =
      next_alike refl _ rest refl refl
      (fork_locked b _ rest _ _ (condition_of f n e) vs ws cs ds refl refl (guessing_condition n e b k fl) be fl
      (λ b' p q be'. side_locked b' _ (harden f c) rest vs ws cs ds p q (first c k₁ s₁ (join_left _ _)) fl be')
      (λ b' p q be'. side_locked b' _ (harden f d) rest vs ws cs ds p q (first d k₂ s₂ (join_right _ _)) fl be'))
    where
      first : (h : Com Decision) → Covers h (label_of_b m e || x) m → AssignsBelow f h
          → analyse h (label_of_b m e || x) m ⊑ join (analyse c (label_of_b m e || x) m) (analyse d (label_of_b m e || x) m)
          → WellLabelled f m (harden f h ∷ rest)
      first h k' s' below = item h (label_of_b m e || x) m (⊑_refl m) k' s' (well_labelled_from below wl)
  command_steps b {rest} (while n e c) x m (covers_while k k₁) s₁ wl vs ws cs ds fl be =
      next_alike refl _ rest refl refl
      (quiet_step b _ rest _ vs ws vs ws cs ds refl refl
      (loop n e c x (analyse (while n e c) x m) (loop_settles n e c x m).above k k₁ s₁ (loop_settles n e c x m).closed wl) fl be)
  command_steps b {rest} (read n v a i) x m (covers_read k k₁) below wl vs ws cs ds fl be =
      read_steps b n.mask_value n v a i x m k k₁ below wl vs ws cs ds fl be
  command_steps b {rest} (write n a i e) x m (covers_write k) below wl vs ws cs ds fl be =
      next_alike refl _ rest refl refl
      (put_locked (write_label m x a i e) _ rest rest a _ _ _ _ vs ws cs ds (write_public m x a i e) b refl refl (guessing_index n i b k fl)
      (λ p. public_value m vs ws fl.agree e (value_public m x a i e p)) be
      (λ cs' ds' be'. steady b (set_label m (array_mark a) (write_label m x a i e)) rest vs ws cs' ds' wl (flagged_array a (write_label m x a i e) fl) be'))

  steady_steps : (b : Bool) (l : Labelling) (p : List (Com Origin)) → WellLabelled f l p → Steps b l p
  unfolding Steps
  steady_steps b l p nothing vs ws cs ds fl be = over_alike refl refl refl
  steady_steps b l p (item c x m g cov sp wl) vs ws cs ds fl be =
      command_steps b c x m cov sp wl vs ws cs ds (flagged_larger g fl) (besides_larger (λ a. public_below g (array_mark a)) be)
  steady_steps b l p (loop n e c x m g k cov sp closed wl) vs ws cs ds fl be =
      loop_steps b n e c x m k cov sp closed wl vs ws cs ds (flagged_larger g fl) (besides_larger (λ a. public_below g (array_mark a)) be)
  steady_steps b l p (masked_read n v a i x m g k below wl) vs ws cs ds fl be =
      masked_read_steps b n v a i x m k below wl vs ws cs ds (flagged_larger g fl) (besides_larger (λ a. public_below g (array_mark a)) be)

  one_step : {s t : State Origin} → Locked counts f s t → OneStep counts (Locked counts f) s t
  unfolding Steps quietly
  one_step (steady b l p vs ws cs ds wl fl be) = steady_steps b l p wl vs ws cs ds fl be
  one_step (silent b c rest p vs ws vs' ws' cs ds e₁ e₂ h) =
      next_alike refl c rest refl refl (subst₂ (Alike counts (Locked counts f) _ _) (sym e₁) (sym e₂) (quiet_alike p vs' ws' h))

  -- THE ONE-STEP LEMMA: locked configurations step alike and are locked again
  pub locked_closed : Closed counts (Locked counts f)
  locked_closed = record { step = λ s t h. one_step h }
