-- Neither the pending list nor that of any save ever holds more entries than the program has nodes.
use Prim.Native.Nat.{ℕ, ◌+◌, ◌≤◌, ◌<◌}
use native.Mathlib.Omega.{arith}
use mathlib.Core.Path.{subst}
use mathlib.Core.Bool.{Bool, true, false, cond}
use mathlib.Core.List.{List, [], ◌∷◌, ◌++◌}
use lib.ListN.{length}
use lib.Dec.{leb}
use Rattle.awhile.specs.Language.{Com, skip, assign, sequence, if, while, read, write}
use Rattle.awhile.specs.Tables.{Table}
use Rattle.awhile.specs.Trees.{root_of}
use Rattle.awhile.specs.Encoding.{nodes_of}
use Rattle.awhile.specs.WellFormed.{WellFormed}
use Rattle.awhile.proofs.Size.{root_size}
use Rattle.machine.specs.Look.{Look, quiet, fork, get, put, look}
use Rattle.machine.specs.Steps.{State, Taken, only_if, quietly, turned, loaded, stored, onward}
use Rattle.machine.specs.Runs.{Room, Guide, plain, guessing, rolling, Machine, Next, stacked, next, run, started}
use Rattle.machine.proofs.Taken.{rightly, wrongly}
use Rattle.machine.proofs.Invariants.{AfterStep, AfterStack, AfterSteps, Kept, after_next, after_run}

-- ---- what holds of a pending list before and after every look holds along a run, of the pending list and of every save's
module _ {Note : Type 0} (P : List (Com Note) → Type 0) where
  -- it holds of every list that a look can go on with
  abbrev pub AfterLook : Look Note → Type 0
  AfterLook (quiet rest vs) = P rest
  AfterLook (fork v on_true on_false) = P on_true × P on_false
  AfterLook (get x a i rest) = P rest
  AfterLook (put a i v rest) = P rest

  -- it holds of the pending list of every state
  abbrev pub Every : List (State Note) → Type 0
  Every [] = Unit {0}
  Every (s ∷ ss) = P s.pending × Every ss

  -- it holds of a machine's pending list and of every save's, on any board
  abbrev Pending : Guide → State Note → List (State Note) → Type 0
  Pending g s ss = P s.pending × Every ss

  abbrev pub AfterNext : Next Note → Type 0
  AfterNext = AfterStep Pending

  every_append : (ss ts : List (State Note)) → Every ss → Every ts → Every (ss ++ ts)
  every_append [] ts p q = q
  every_append (s ∷ ss) ts p q = (p.0, every_append ss ts p.1 q)

  cond_either : (b : Bool) (cs ds : List (Com Note)) → P cs → P ds → P (cond b cs ds)
  cond_either true cs ds p q = p
  cond_either false cs ds p q = q

  module _ (ss : List (State Note)) (saved : Every ss) where
    stacked_after : (g : Guide) (t : Taken Note) → P t.state.pending → Every t.kept → AfterStack Pending g t.state (stacked g t.kept ss)
    unfolding stacked only_if
    stacked_after plain t p q = (p, saved)
    stacked_after (guessing ds) t p q = (p, saved)
    stacked_after (rolling ds) t p q = go (leb (length t.kept + length ss) 8)
      where
        go : (b : Bool) → AfterStack Pending (rolling ds) t.state (only_if b (t.kept ++ ss))
        go true = (p, every_append t.kept ss q saved)
        go false = tt

    look_after : (g : Guide) (s : State Note) (l : Look Note) → AfterLook l → AfterSteps Pending g s ss l
    unfolding quietly turned loaded stored onward
    look_after g s (quiet rest vs) p = (p, saved)
    look_after g s (fork v cs ds) p =
        let right = cond_either v cs ds p.0 p.1 in
        λ g' led. (stacked_after g' (rightly s v cs ds) right tt, stacked_after g' (wrongly s v cs ds) (cond_either v ds cs p.1 p.0) (right, tt))
    look_after g s (get x a i rest) p = λ g' led c. stacked_after g' (onward (loaded s x c rest)) p tt
    look_after g s (put a i v rest) p = λ g' led c. stacked_after g' (onward (stored s c v rest)) p tt

  module _ (counts : List ℕ) (room : Room) (keeps : (c : Com Note) (rest : List (Com Note)) (vs : List ℕ) → P (c ∷ rest) → AfterLook (look c rest vs)) where
    kept_pending : Kept Pending
    kept_pending =
        record {
          by-steps = λ g s ss p c rest e. look_after ss p.1 g s (look c rest s.variables) (keeps c rest s.variables (subst P e p.0));
          by-rollbacks = λ d ds s newest older p. p.1;
        }

    pub next_after : (m : Machine Note) → P m.state.pending → Every m.saves → AfterNext (next counts room m)
    next_after m p saved = after_next Pending counts room kept_pending m (p, saved)

    -- what every look keeps holds of the pending list that a run leaves, and of those of its saves
    pub pending_keeps : (n : ℕ) (m : Machine Note) → P m.state.pending → Every m.saves
        → P (run counts room n m).machine.state.pending × Every (run counts room n m).machine.saves
    pending_keeps n m p saved = after_run Pending counts room kept_pending n m (p, saved)

-- ---- room for the pending list
-- every command has a node
pub nodes_of_some : {Note : Type 0} (c : Com Note) → 0 < nodes_of c
unfolding nodes_of
nodes_of_some (skip n) = omega arith
nodes_of_some (assign n x e) = omega arith
nodes_of_some (sequence n c d) = omega arith
nodes_of_some (if n b c d) = omega arith
nodes_of_some (while n b c) = omega arith
nodes_of_some (read n x a i) = omega arith
nodes_of_some (write n a i e) = omega arith

module _ {Note : Type 0} (room : ℕ) where
  -- wherever a command is pending, its nodes and the entries after it fit
  abbrev pub Fits : List (Com Note) → Type 0
  Fits [] = Unit {0}
  Fits (c ∷ rest) = (nodes_of c + length rest ≤ room) × Fits rest

  pub fits_length : (cs : List (Com Note)) → Fits cs → length cs ≤ room
  fits_length [] p = omega arith
  fits_length (c ∷ rest) p = omega (arith, nodes_of_some c, p.0)

  pub look_fits : (c : Com Note) (rest : List (Com Note)) (vs : List ℕ) → Fits (c ∷ rest) → AfterLook Fits (look c rest vs)
  unfolding look nodes_of
  look_fits (skip n) rest vs p = p.1
  look_fits (assign n x e) rest vs p = p.1
  look_fits (sequence n c d) rest vs p = (omega (arith, nodes_of_some d, p.0), (omega (arith, p.0), p.1))
  look_fits (if n b c d) rest vs p = ((omega (arith, p.0), p.1), (omega (arith, p.0), p.1))
  look_fits (while n b c) rest vs p = ((omega (arith, p.0), (p.0, p.1)), p.1)
  look_fits (read n x a i) rest vs p = p.1
  look_fits (write n a i e) rest vs p = p.1

-- for a program: what fits at the start fits along the run
started_fits :
    {Note : Type 0} (counts : List ℕ) (room : Room) (budget : ℕ) (c : Com Note) (vs cells : List ℕ) (g : Guide)
    → Fits (nodes_of c) (run counts room budget (started c vs cells g)).machine.state.pending
    × Every (Fits (nodes_of c)) (run counts room budget (started c vs cells g)).machine.saves
unfolding started
started_fits counts room budget c vs cells g =
    pending_keeps (Fits (nodes_of c)) counts room (look_fits (nodes_of c)) budget (started c vs cells g) (omega arith, tt) tt

every_weaker : {Note : Type 0} (P Q : List (Com Note) → Type 0) → ((cs : List (Com Note)) → P cs → Q cs)
    → (ss : List (State Note)) → Every P ss → Every Q ss
every_weaker P Q weaker [] p = tt
every_weaker P Q weaker (s ∷ ss) p = (weaker s.pending p.0, every_weaker P Q weaker ss p.1)

-- for a table, neither the pending list of a run nor that of a save ever holds more entries than the table has nodes
module _ (t : Table) (w : WellFormed t) (room : Room) (budget : ℕ) (vs cells : List ℕ) (g : Guide) where
  abbrev left : Machine ℕ
  left = (run t.counts room budget (started (root_of t) vs cells g)).machine

  short : (cs : List (Com ℕ)) → Fits (nodes_of (root_of t)) cs → length cs ≤ length t.nodes
  short cs p = omega (arith, root_size t w, fits_length (nodes_of (root_of t)) cs p)

  pub table_room : length left.state.pending ≤ length t.nodes
  table_room = short left.state.pending (started_fits t.counts room budget (root_of t) vs cells g).0

  pub saves_room : Every (λ cs. length cs ≤ length t.nodes) left.saves
  saves_room = every_weaker _ _ short left.saves (started_fits t.counts room budget (root_of t) vs cells g).1
