-- One step of a hardened program without guessing, against the step of the original that it copies.
use Prim.Native.Nat.{ℕ, zero, suc, ◌<◌}
use mathlib.Core.Path.{◌≡◌, refl, ap, ◌∙◌}
use mathlib.Core.Bool.{Bool, true, false, cond}
use mathlib.Core.Option.{none, some}
use mathlib.Core.List.{List, [], ◌∷◌, ◌++◌}
use lib.ListN.{length, get_or, set, length-set}
use lib.Seq.{get_or_at, set-get_or, set-append_left}
use native.Mathlib.Omega.{arith}
use Rattle.awhile.specs.Language.{AExp, number, variable, add, subtract, multiply, choice, value_of}
use Rattle.awhile.specs.Language.{BExp, constant, equal, less, not, and, truth_of}
use Rattle.awhile.specs.Language.{Com, skip, assign, sequence, if, while, read, write, note_of}
use Rattle.machine.specs.Look.{Look, quiet, fork, get, put, look}
use Rattle.masks.specs.Decisions.{Decision}
use Rattle.masks.specs.Hardening.{Origin, masked_condition, zero_if_guessing, masked_index, flag_if_true, flag_if_false, mask_value_of, harden}
use Rattle.masks.specs.SameRun.{AssignsBelow}

-- the hardened program's variables where its flag is 0
abbrev pub with_flag : List ℕ → List ℕ
with_flag vs = vs ++ (0 ∷ [])

-- A variable that is not there has the value 0, so the flag's 0 at the end changes no value.
pub get_with_flag : (vs : List ℕ) (x : ℕ) → get_or (with_flag vs) x 0 ≡ get_or vs x 0
get_with_flag [] zero = refl
get_with_flag [] (suc x) = refl
get_with_flag (v ∷ vs) zero = refl
get_with_flag (v ∷ vs) (suc x) = get_with_flag vs x

mutual
  unfolding value_of truth_of

  pub value_with_flag : (e : AExp) (vs : List ℕ) → value_of e (with_flag vs) ≡ value_of e vs
  value_with_flag (number n) vs = refl
  value_with_flag (variable x) vs = get_with_flag vs x
  value_with_flag (add a b) vs = rw (value_with_flag a vs, value_with_flag b vs)
  value_with_flag (subtract a b) vs = rw (value_with_flag a vs, value_with_flag b vs)
  value_with_flag (multiply a b) vs = rw (value_with_flag a vs, value_with_flag b vs)
  value_with_flag (choice c a b) vs = rw (truth_with_flag c vs, value_with_flag a vs, value_with_flag b vs)

  pub truth_with_flag : (b : BExp) (vs : List ℕ) → truth_of b (with_flag vs) ≡ truth_of b vs
  truth_with_flag (constant b) vs = refl
  truth_with_flag (equal a b) vs = rw (value_with_flag a vs, value_with_flag b vs)
  truth_with_flag (less a b) vs = rw (value_with_flag a vs, value_with_flag b vs)
  truth_with_flag (not b) vs = rw (truth_with_flag b vs)
  truth_with_flag (and b c) vs = rw (truth_with_flag b vs, truth_with_flag c vs)

-- The flag's updates, with any number for the 1: without guessing it does not matter what a wrong guess would set.
abbrev set_unless : (f : ℕ) → BExp → (v : ℕ) → Com Origin
set_unless f b v = assign none f (choice b (variable f) (number v))

abbrev set_where : (f : ℕ) → BExp → (v : ℕ) → Com Origin
set_where f b v = assign none f (choice b (number v) (variable f))

module _ (f : ℕ) (vs : List ℕ) (width : length vs ≡ f) where
  pub flag_zero : get_or (with_flag vs) f 0 ≡ 0
  flag_zero = get_or_at vs 0 [] 0 f width

  -- where the flag is 0, masks change no condition and no index
  condition_masked : (mask : Bool) (b : BExp) → truth_of (masked_condition f mask b) (with_flag vs) ≡ truth_of b vs
  unfolding masked_condition truth_of value_of
  condition_masked true b = rw flag_zero (truth_with_flag b vs)
  condition_masked false b = truth_with_flag b vs

  index_masked : (mask : Bool) (i : AExp) → value_of (masked_index f mask i) (with_flag vs) ≡ value_of i vs
  unfolding masked_index zero_if_guessing truth_of value_of
  index_masked true i = rw flag_zero (value_with_flag i vs)
  index_masked false i = value_with_flag i vs

  -- an assignment below the flag
  pub set_with_flag : (x v : ℕ) → x < f → set (with_flag vs) x v ≡ with_flag (set vs x v)
  set_with_flag x v below = set-append_left vs (0 ∷ []) x v (omega arith)

  -- the added commands change nothing where the condition is as it was taken, or the flag is 0
  module _ (rest : List (Com Origin)) where
    value_kept : (x : ℕ) → look (mask_value_of f x) rest (with_flag vs) ≡ quiet rest (with_flag vs)
    unfolding look mask_value_of zero_if_guessing value_of truth_of
    value_kept x = rw flag_zero (ap (quiet rest) (set-get_or (with_flag vs) x 0))

    flag_kept_true : (b : BExp) (v : ℕ) → truth_of b (with_flag vs) ≡ true → look (set_unless f b v) rest (with_flag vs) ≡ quiet rest (with_flag vs)
    unfolding look value_of
    flag_kept_true b v e = rw e (ap (quiet rest) (set-get_or (with_flag vs) f 0))

    flag_kept_false : (b : BExp) (v : ℕ) → truth_of b (with_flag vs) ≡ false → look (set_where f b v) rest (with_flag vs) ≡ quiet rest (with_flag vs)
    unfolding look value_of
    flag_kept_false b v e = rw e (ap (quiet rest) (set-get_or (with_flag vs) f 0))

-- a few silent steps that change no variable, and then R
pub data Silently (vs : List ℕ) (R : List (Com Origin) → Type 0) : List (Com Origin) → Type 0 where
  now : {hs : List (Com Origin)} → R hs → Silently vs R hs
  soon : {h : Com Origin} {hs hs' : List (Com Origin)} → look h hs vs ≡ quiet hs' vs → Silently vs R hs' → Silently vs R (h ∷ hs)

-- more silent steps after some
pub silently_then :
    (vs : List ℕ) (R Q : List (Com Origin) → Type 0) → ((hs : List (Com Origin)) → R hs → Silently vs Q hs)
    → {hs : List (Com Origin)} → Silently vs R hs → Silently vs Q hs
silently_then vs R Q more (now {hs} r) = more hs r
silently_then vs R Q more (soon e s) = soon e (silently_then vs R Q more s)

-- the copies of a command's condition and index
abbrev condition_copy : (f : ℕ) → Decision → BExp → BExp
condition_copy f n b = masked_condition f n.mask_condition b

abbrev index_copy : (f : ℕ) → Decision → AExp → AExp
index_copy f n i = masked_index f n.mask_index i

-- a loop's copy, without the flag update after it
abbrev loop_copy : (f : ℕ) → Decision → BExp → (v : ℕ) → Com Decision → Com Origin
loop_copy f n b v c = while (some n.node) (condition_copy f n b) (sequence none (set_unless f (condition_copy f n b) v) (harden f c))

-- a hardened pending list: each command hardened, or a loop that is under way with the flag update that comes after it
pub data Copies (f : ℕ) : List (Com Decision) → List (Com Origin) → Type 0 where
  done : Copies f [] []
  whole :
      {c : Com Decision} {cs : List (Com Decision)} {hs : List (Com Origin)} → AssignsBelow f c → Copies f cs hs
      → Copies f (c ∷ cs) (harden f c ∷ hs)
  underway :
      {n : Decision} {b : BExp} {c : Com Decision} {v w : ℕ} {cs : List (Com Decision)} {hs : List (Com Origin)} → AssignsBelow f c → Copies f cs hs
      → Copies f (while n b c ∷ cs) (loop_copy f n b v c ∷ set_where f (condition_copy f n b) w ∷ hs)

-- the hardened program's next step does what the original's does, and its pending list is then, after added commands, a hardened one
pub data LookCopied (f : ℕ) (vs : List ℕ) : Look Decision → Look Origin → Type 0 where
  quiets :
      {cs : List (Com Decision)} {hs : List (Com Origin)} {ws ws' : List ℕ} → ws' ≡ with_flag ws → length ws ≡ f
      → Silently (with_flag ws) (Copies f cs) hs → LookCopied f vs (quiet cs ws) (quiet hs ws')
  forks :
      {v v' : Bool} {cs cs' : List (Com Decision)} {hs hs' : List (Com Origin)} → v' ≡ v
      → Silently (with_flag vs) (Copies f (cond v cs cs')) (cond v hs hs') → LookCopied f vs (fork v cs cs') (fork v' hs hs')
  gets :
      {x a i i' : ℕ} {cs : List (Com Decision)} {hs : List (Com Origin)} → i' ≡ i → x < f
      → ((v : ℕ) → Silently (with_flag (set vs x v)) (Copies f cs) hs) → LookCopied f vs (get x a i cs) (get x a i' hs)
  puts :
      {a i i' v v' : ℕ} {cs : List (Com Decision)} {hs : List (Com Origin)} → i' ≡ i → v' ≡ v → Silently (with_flag vs) (Copies f cs) hs
      → LookCopied f vs (put a i v cs) (put a i' v' hs)

-- the hardened program stands right before the copy of the original's next command, or both have nothing pending
pub data Ready (f : ℕ) (vs : List ℕ) : List (Com Decision) → List (Com Origin) → Type 0 where
  nothing : Ready f vs [] []
  copied :
      {c : Com Decision} {cs : List (Com Decision)} {h : Com Origin} {hs : List (Com Origin)} → note_of h ≡ some (note_of c).node
      → LookCopied f vs (look c cs vs) (look h hs (with_flag vs)) → Ready f vs (c ∷ cs) (h ∷ hs)

module _ (f : ℕ) (vs : List ℕ) (width : length vs ≡ f) {cs : List (Com Decision)} {hs : List (Com Origin)} (rest : Copies f cs hs) where
  -- right after a branch its condition has the value that was shown, so the added commands keep the flag
  sides_copied :
      (b : BExp) (c d : Com Decision) (u w : ℕ) → AssignsBelow f c → AssignsBelow f d → (v : Bool) → truth_of b (with_flag vs) ≡ v
      → Silently
      (with_flag vs)
      (Copies f (cond v (c ∷ cs) (d ∷ cs)))
      (cond v (sequence none (set_unless f b u) (harden f c) ∷ hs) (sequence none (set_where f b w) (harden f d) ∷ hs))
  unfolding look
  sides_copied b c d u w below below' true e = soon refl (soon (flag_kept_true f vs width _ b u e) (now (whole below rest)))
  sides_copied b c d u w below below' false e = soon refl (soon (flag_kept_false f vs width _ b w e) (now (whole below' rest)))

  module _ (n : Decision) (b : BExp) (c : Com Decision) (u w : ℕ) (below : AssignsBelow f c) where
    passes_copied :
        (v : Bool) → truth_of (condition_copy f n b) (with_flag vs) ≡ v
        → Silently
        (with_flag vs)
        (Copies f (cond v (c ∷ while n b c ∷ cs) cs))
        (cond
        v
        (sequence none (set_unless f (condition_copy f n b) u) (harden f c) ∷ loop_copy f n b u c ∷ set_where f (condition_copy f n b) w ∷ hs)
        (set_where f (condition_copy f n b) w ∷ hs))
    unfolding look
    passes_copied true e = soon refl (soon (flag_kept_true f vs width _ _ u e) (now (whole below (underway below rest))))
    passes_copied false e = soon (flag_kept_false f vs width _ _ w e) (now rest)

    loop_ready : Ready f vs (while n b c ∷ cs) (loop_copy f n b u c ∷ set_where f (condition_copy f n b) w ∷ hs)
    unfolding look note_of
    loop_ready =
        let value : truth_of (condition_copy f n b) (with_flag vs) ≡ truth_of b vs = condition_masked f vs width n.mask_condition b in
        copied refl (forks value (passes_copied (truth_of b vs) value))

  read_ready :
      (n : Decision) (x a : ℕ) (i : AExp) → x < f → (mask : Bool)
      → Silently
      (with_flag vs)
      (Ready f vs (read n x a i ∷ cs))
      (cond
      mask
      (sequence none (read (some n.node) x a (index_copy f n i)) (mask_value_of f x))
      (read (some n.node) x a (index_copy f n i))
      ∷ hs)
  unfolding look note_of
  read_ready n x a i below true =
      soon
      refl
      (now
      (copied
      refl
      (gets
      (index_masked f vs width n.mask_index i)
      below
      (λ v. soon (value_kept f (set vs x v) (length-set vs x v ∙ width) hs x) (now rest)))))
  read_ready n x a i below false = now (copied refl (gets (index_masked f vs width n.mask_index i) below (λ v. now rest)))

  -- a command's hardened form comes, after added commands that change nothing, to its copy
  whole_ready : (c : Com Decision) → AssignsBelow f c → Silently (with_flag vs) (Ready f vs (c ∷ cs)) (harden f c ∷ hs)
  unfolding harden flag_if_true flag_if_false look note_of
  whole_ready (skip n) below = now (copied refl (quiets refl width (now rest)))
  whole_ready (assign n x e) below =
      let assigned : set (with_flag vs) x (value_of e (with_flag vs)) ≡ with_flag (set vs x (value_of e vs)) =
      ap (set (with_flag vs) x) (value_with_flag e vs) ∙ set_with_flag f vs width x (value_of e vs) below
      in
      now (copied refl (quiets assigned (length-set vs x (value_of e vs) ∙ width) (now rest)))
  whole_ready (sequence n c d) below = now (copied refl (quiets refl width (now (whole below.0 (whole below.1 rest)))))
  whole_ready (if n b c d) below =
      let value : truth_of (condition_copy f n b) (with_flag vs) ≡ truth_of b vs = condition_masked f vs width n.mask_condition b in
      now (copied refl (forks value (sides_copied (condition_copy f n b) c d _ _ below.0 below.1 (truth_of b vs) value)))
  whole_ready (while n b c) below = soon refl (now (loop_ready n b c _ _ below))
  whole_ready (read n x a i) below = read_ready n x a i below n.mask_value
  whole_ready (write n a i e) below = now (copied refl (puts (index_masked f vs width n.mask_index i) (value_with_flag e vs) (now rest)))

-- before the next copy stand added commands that change nothing
pub copies_ready :
    (f : ℕ) (vs : List ℕ) → length vs ≡ f → {cs : List (Com Decision)} {hs : List (Com Origin)} → Copies f cs hs
    → Silently (with_flag vs) (Ready f vs cs) hs
copies_ready f vs width done = now nothing
copies_ready f vs width (whole {c} below rest) = whole_ready f vs width rest c below
copies_ready f vs width (underway {n} {b} {c} {v} {w} below rest) = now (loop_ready f vs width rest n b c v w below)
