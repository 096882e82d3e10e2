-- What masks leave as it is: "Without guessing, from flag 0, a hardened table finishes or sticks at some budget exactly where the original does;
-- cut earlier, its observations begin the original's at some budget."
use Rattle.std.specs.Prelude.{ℕ, ◌<◌, ◌≡◌, ◌↔◌, false, List, [], ◌∷◌, ◌++◌, get_or}
use Rattle.std.proofs.Math.Option.{Option, none, some, map}
use Rattle.awhile.specs.Language.{Com, skip, assign, sequence, if, while, read, write, note_of}
use Rattle.machine.specs.Runs.{Outcome, endless, plain, run, started}
use Rattle.machine.specs.Prefixes.{Begins}
use Rattle.machine.specs.declared.End.TheVariants.{Finished, Stuck}
use Rattle.masks.specs.Hardening.{Origin}

-- every variable that a command assigns or reads into is below f
module _ {Note : Type 0} (f : ℕ) where
  abbrev pub AssignsBelow : Com Note → Type 0
  AssignsBelow (skip n) = Unit {0}
  AssignsBelow (assign n x e) = x < f
  AssignsBelow (sequence n c d) = AssignsBelow c × AssignsBelow d
  AssignsBelow (if n b c d) = AssignsBelow c × AssignsBelow d
  AssignsBelow (while n b c) = AssignsBelow c
  AssignsBelow (read n x a i) = x < f
  AssignsBelow (write n a i e) = Unit {0}

module _ {Note : Type 0} where
  -- the runs of a program without guessing, one for each budget, with an observation buffer that is long enough
  unfoldable pub plain_run : (counts : List ℕ) → Com Note → (variables cells : List ℕ) → (budget : ℕ) → Outcome Note
  plain_run counts c vs cs budget = run counts endless budget (started c vs cs plain)

  -- the note of the next command, if one is pending
  unfoldable pub next_note : List (Com Note) → Option Note
  next_note [] = none
  next_note (c ∷ rest) = some (note_of c)

  -- at some budget
  pub record AtSome (P : Outcome Note → Type 0) (runs : ℕ → Outcome Note) : Type 0 where
    pub budget : ℕ
    pub holds : P (runs budget)

module _ {Note : Type 0} where
  -- the same observations, variables and cells; the hardened program has its flag f = 0 after the original's variables
  pub record SameResult (original : Outcome ℕ) (hardened : Outcome Note) : Type 0 where
    pub shown : hardened.machine.shown ≡ original.machine.shown
    pub variables : hardened.machine.state.variables ≡ original.machine.state.variables ++ (0 ∷ [])
    pub cells : hardened.machine.state.cells ≡ original.machine.state.cells

  -- the hardened program's next command is the copy of the original's
  pub record NextIsCopy (origin : Note → Origin) (original : List (Com ℕ)) (hardened : List (Com Note)) : Type 0 where
    pub node : ℕ
    pub next : next_note original ≡ some node
    pub copy : map origin (next_note hardened) ≡ some (some node)

  -- the runs of a program and of its hardened form, from corresponding states. The hardened commands may carry any notes, such as their
  -- numbers in its table, that tell their origin.
  pub record SameRun (f : ℕ) (origin : Note → Origin) (original : ℕ → Outcome ℕ) (hardened : ℕ → Outcome Note) : Type 0 where
    -- one finishes at some budget exactly if the other does, and with the same result
    pub finishes : AtSome (λ o. o.end ≡ Finished) original ↔ AtSome (λ o. o.end ≡ Finished) hardened
    pub finished : (m n : ℕ) → (original m).end ≡ Finished → (hardened n).end ≡ Finished → SameResult (original m) (hardened n)
    -- one sticks at some budget exactly if the other does, with the same result, and at the copy of the same command
    pub sticks : AtSome (λ o. o.end ≡ Stuck) original ↔ AtSome (λ o. o.end ≡ Stuck) hardened
    pub stuck : (m n : ℕ) → (original m).end ≡ Stuck → (hardened n).end ≡ Stuck → SameResult (original m) (hardened n)
    pub stuck_at :
        (m n : ℕ) → (original m).end ≡ Stuck → (hardened n).end ≡ Stuck
        → NextIsCopy origin (original m).machine.state.pending (hardened n).machine.state.pending
    -- what one has shown at any budget begins what the other shows at some budget
    pub begins : (n : ℕ) → AtSome (λ o. Begins (hardened n).machine.shown o.machine.shown) original
    pub begun : (m : ℕ) → AtSome (λ o. Begins (original m).machine.shown o.machine.shown) hardened
    -- at every budget, the program's flag is 0 and the machine's is not set
    pub variable_flag : (n : ℕ) → get_or (hardened n).machine.state.variables f 0 ≡ 0
    pub machine_flag : (n : ℕ) → (hardened n).machine.state.flag ≡ false
