-- Two configurations of the hardened program that the attacker cannot tell apart: one pending list, one flag, public variables that agree.
use Prim.Native.Nat.{ℕ, ◌<◌}
use mathlib.Core.Bool.{Bool, true, false, cond, ◌||◌}
use mathlib.Core.List.{List, [], ◌∷◌}
use mathlib.Core.Option.{some, none}
use mathlib.Core.Path.{◌≡◌}
use lib.ListN.{length, get_or}
use Rattle.awhile.specs.Language.{AExp, BExp, Com, sequence, while, read}
use Rattle.awhile.specs.declared.Labelling.{Labelling}
use Rattle.labels.specs.Labellings.{◌⊑◌, variable_mark, set_label, label_of_a, label_of_b}
use Rattle.labels.specs.Analysis.{analyse, read_label}
use Rattle.labels.specs.Rules.{AgreeOn}
use Rattle.machine.specs.Look.{look, quiet}
use Rattle.machine.specs.Steps.{State}
use Rattle.machine.proofs.PlainRuns.{state_of, PlainRelated}
use Rattle.masks.specs.Decisions.{Decision}
use Rattle.masks.specs.Hardening.{Origin, harden, masked_condition, masked_index, flag_if_true, flag_if_false, mask_value_of}
use Rattle.masks.specs.SameRun.{AssignsBelow}
use Rattle.masks.specs.Covering.{Masked, Covers, AgreeOnArrays}

-- the condition of a command as it is copied
abbrev pub condition_of : ℕ → Decision → BExp → BExp
condition_of f n b = masked_condition f n.mask_condition b

-- the loop inside a hardened loop
abbrev pub loop_of : ℕ → Decision → BExp → Com Decision → Com Origin
loop_of f n b c = while (some n.node) (condition_of f n b) (sequence none (flag_if_true f (condition_of f n b)) (harden f c))

abbrev pub read_of : ℕ → Decision → (variable array : ℕ) → AExp → Com Origin
read_of f n v a i = read (some n.node) v a (masked_index f n.mask_index i)

-- A pending list that is well labelled from a labelling: each item is the hardened form, with covering decisions, of a command analysed
-- from a labelling at least as large, and the rest is well labelled from its outcome.
pub data WellLabelled (f : ℕ) : Labelling → List (Com Origin) → Type 0 where
  nothing : {l : Labelling} → WellLabelled f l []
  item : {l : Labelling} {rest : List (Com Origin)} (c : Com Decision) (x : Bool) (m : Labelling)
      → l ⊑ m → Covers c x m → AssignsBelow f c → WellLabelled f (analyse c x m) rest
      → WellLabelled f l (harden f c ∷ rest)
  -- a loop that is under way: its body is closed at the labelling
  loop : {l : Labelling} {rest : List (Com Origin)} (n : Decision) (b : BExp) (c : Com Decision) (x : Bool) (m : Labelling)
      → l ⊑ m → Masked (label_of_b m b) n.mask_condition → Covers c (label_of_b m b || x) m → AssignsBelow f c → analyse c (label_of_b m b || x) m ⊑ m
      → WellLabelled f m rest
      → WellLabelled f l (loop_of f n b c ∷ flag_if_false f (condition_of f n b) ∷ rest)
  -- a read that is followed by the mask of its value
  masked_read : {l : Labelling} {rest : List (Com Origin)} (n : Decision) (v a : ℕ) (i : AExp) (x : Bool) (m : Labelling)
      → l ⊑ m → Masked (label_of_a m i) n.mask_index → v < f → WellLabelled f (set_label m (variable_mark v) (read_label m x a i)) rest
      → WellLabelled f l (read_of f n v a i ∷ mask_value_of f v ∷ rest)

-- the variables of two configurations: they agree on what is public, and the flag variable has this value in both
pub record Flagged (f value : ℕ) (l : Labelling) (vs ws : List ℕ) : Type 0 where
  pub agree : AgreeOn l vs ws
  pub left : get_or vs f 0 ≡ value
  pub right : get_or ws f 0 ≡ value
  pub lengths : length vs ≡ length ws
  pub declared : f < length vs

-- what holds besides, by the machine's flag: with the flag clear the public arrays agree and the plain runs are related; with the flag set, nothing
pub data Besides (counts : List ℕ) (l : Labelling) (s t : State Origin) : Bool → Type 0 where
  guessed : Besides counts l s t true
  straight : AgreeOnArrays l counts s.cells t.cells → length s.cells ≡ length t.cells → PlainRelated counts s t → Besides counts l s t false

-- the relation on pairs of configurations
pub data Locked (counts : List ℕ) (f : ℕ) : State Origin → State Origin → Type 0 where
  steady : (b : Bool) (l : Labelling) (p : List (Com Origin)) (vs ws cs ds : List ℕ)
      → WellLabelled f l p → Flagged f (cond b 1 0) l vs ws → Besides counts l (state_of p vs cs b) (state_of p ws ds b) b
      → Locked counts f (state_of p vs cs b) (state_of p ws ds b)
  -- the next step is silent on both sides, and what it leaves is locked
  silent : (b : Bool) (c : Com Origin) (rest p : List (Com Origin)) (vs ws vs' ws' cs ds : List ℕ)
      → look c rest vs ≡ quiet p vs' → look c rest ws ≡ quiet p ws'
      → Locked counts f (state_of p vs' cs b) (state_of p ws' ds b)
      → Locked counts f (state_of (c ∷ rest) vs cs b) (state_of (c ∷ rest) ws ds b)
