-- The runs of a program and of its hardened form side by side, without guessing.
use Prim.Native.Nat.{ℕ, zero, suc, ◌+◌}
use mathlib.Core.Path.{◌≡◌, refl, sym, ap, subst, ◌∙◌}
use mathlib.Core.Bool.{Bool, true, false}
use mathlib.Core.Option.{some}
use mathlib.Core.List.{List, [], ◌∷◌, append-nil}
use lib.ListN.{length, get_or, length-set}
use Rattle.awhile.specs.Language.{Com, note_of}
use Rattle.machine.specs.Observations.{Observation, read_at, write_at}
use Rattle.machine.specs.Look.{Look, quiet, look}
use Rattle.machine.specs.Steps.{State, inside, cell_place, only_if, quietly, turned, loaded, stored, onward, at_fork, at_get, at_put}
use Rattle.machine.specs.Runs.{endless, holds, plain, Machine, Next, over, goes, Outcome}
use Rattle.machine.specs.Runs.{rollback_next, moved, if_room, stacked, stacked_if, shown_if, shown_step, step_of, next_of, next_by, next, end_number, end_without, run}
use Rattle.machine.specs.declared.End.{End}
use Rattle.machine.specs.declared.End.TheVariants.{Finished, Spent, Stuck}
use Rattle.machine.proofs.Runs.{run_over, run_goes, ends_differ}
use Rattle.awhile.proofs.Notes.{note_mapped}
use Rattle.machine.proofs.Notes.{map_pending, map_state, map_machine, map_outcome}
use Rattle.masks.specs.Decisions.{Decision}
use Rattle.masks.specs.Hardening.{Origin}
use Rattle.masks.specs.SameRun.{next_note, AtSome, SameResult, NextIsCopy}
use Rattle.masks.proofs.SameRunSteps.{with_flag, set_with_flag, Silently, now, soon, silently_then, Copies}
use Rattle.masks.proofs.SameRunSteps.{LookCopied, quiets, forks, gets, puts, Ready, nothing, copied, copies_ready}

-- The programs side by side: the original carries its decisions as notes, of which the node numbers are its own.

-- the original's pending list and outcome with its own notes
unfoldable pub numbers : List (Com Decision) → List (Com ℕ)
numbers cs = map_pending (λ n. n.node) cs

unfoldable pub numbered : Outcome Decision → Outcome ℕ
numbered o = map_outcome (λ n. n.node) o

-- a hardened command's note is its origin
abbrev pub itself : Origin → Origin
itself n = n

-- a machine that does not guess, between two steps
abbrev pub plain_at : {Note : Type 0} → List (Com Note) → (variables cells : List ℕ) → (steps used : ℕ) → List Observation → Machine Note
plain_at cs vs cells k u os =
    record { state = record { pending = cs; variables = vs; cells = cells; flag = false }; saves = []; guide = plain; steps = k; used = u; shown = os }

-- the original and the hardened program at corresponding places, perhaps with added commands before the next copy
pub data Meets (f : ℕ) : Machine Decision → Machine Origin → Type 0 where
  meets :
      {cs : List (Com Decision)} {hs : List (Com Origin)} {vs cells : List ℕ} {k u k' u' : ℕ} {os : List Observation} → length vs ≡ f
      → Silently (with_flag vs) (Ready f vs cs) hs → Meets f (plain_at cs vs cells k u os) (plain_at hs (with_flag vs) cells k' u' os)

pub meets_copies :
    {f : ℕ} {cs : List (Com Decision)} {hs : List (Com Origin)} {vs cells : List ℕ} {k u k' u' : ℕ} {os : List Observation} → length vs ≡ f
    → Silently (with_flag vs) (Copies f cs) hs → Meets f (plain_at cs vs cells k u os) (plain_at hs (with_flag vs) cells k' u' os)
meets_copies {f} {cs} {vs = vs} width s =
    meets width (silently_then (with_flag vs) (Copies f cs) (Ready f vs cs) (λ hs. copies_ready f vs width {hs = hs}) s)

-- the next steps of both: not taken for one reason, or taken to corresponding places
data NextCopied (f : ℕ) (m : Machine Decision) (h : Machine Origin) : Next Decision → Next Origin → Type 0 where
  both_over : {e : End} → (e ≡ Stuck → NextIsCopy itself (numbers m.state.pending) h.state.pending) → NextCopied f m h (over e) (over e)
  both_go : {m' : Machine Decision} {h' : Machine Origin} → Meets f m' h' → NextCopied f m h (goes m') (goes h')

next_is_copy :
    (c : Com Decision) (cs : List (Com Decision)) (h : Com Origin) (hs : List (Com Origin)) → note_of h ≡ some (note_of c).node
    → NextIsCopy itself (numbers (c ∷ cs)) (h ∷ hs)
unfolding numbers map_pending next_note
next_is_copy c cs h hs note = record { node = (note_of c).node; next = ap some (note_mapped (λ n. n.node) c); copy = ap some note }

-- a read or write happens in both, or both stick
shown_copied :
    (f : ℕ) (m : Machine Decision) (h : Machine Origin) → NextIsCopy itself (numbers m.state.pending) h.state.pending → (o : Observation)
    (fits : Bool) (s : State Decision) (s' : State Origin) → Meets f (moved m s m.saves plain 0 (o ∷ [])) (moved h s' h.saves plain 0 (o ∷ []))
    → NextCopied f m h (shown_if endless m o plain 0 (only_if fits (onward s))) (shown_if endless h o plain 0 (only_if fits (onward s')))
unfolding shown_if stacked stacked_if if_room only_if onward holds
shown_copied f m h copy o true s s' meet = both_go meet
shown_copied f m h copy o false s s' meet = both_over (λ e. copy)

-- an added command is one silent step of the hardened program alone
next_added :
    (counts : List ℕ) (h : Com Origin) (hs hs' : List (Com Origin)) (vs cells : List ℕ) (k u : ℕ) (os : List Observation)
    → look h hs vs ≡ quiet hs' vs
    → next counts endless (plain_at (h ∷ hs) vs cells k u os) ≡ goes (plain_at hs' vs cells (k + 1) (u + 0) os)
unfolding next rollback_next next_by next_of step_of quietly moved
next_added counts h hs hs' vs cells k u os e = rw (e, step_of, append-nil)

module _ (f : ℕ) (counts vs cells : List ℕ) (k u k' u' : ℕ) (os : List Observation) (width : length vs ≡ f) where
  -- at a copy both programs take the same step, or both do not
  step_copied :
      (cs : List (Com Decision)) (hs : List (Com Origin)) → NextIsCopy itself (numbers cs) hs → {l : Look Decision} {l' : Look Origin}
      → LookCopied f vs l l'
      → NextCopied
      f
      (plain_at cs vs cells k u os)
      (plain_at hs (with_flag vs) cells k' u' os)
      (step_of counts endless (plain_at cs vs cells k u os) l)
      (step_of counts endless (plain_at hs (with_flag vs) cells k' u' os) l')
  unfolding step_of moved quietly shown_step shown_if stacked stacked_if if_room holds at_fork turned at_get at_put only_if onward loaded stored
  step_copied cs hs copy (quiets e width' s) = rw e (both_go (meets_copies width' s))
  step_copied cs hs copy (forks e s) = rw e (both_go (meets_copies width s))
  step_copied cs hs copy (gets {x} {a} {i} e below s) =
      let v : ℕ = get_or cells (cell_place counts a i) 0 in
      rw
      (e, set_with_flag f vs width x v below)
      (shown_copied f _ _ copy (read_at a i) (inside counts a i) _ _ (meets_copies (length-set vs x v ∙ width) (s v)))
  step_copied cs hs copy (puts {a} {i} e e' s) =
      rw (e, e') (shown_copied f _ _ copy (write_at a i) (inside counts a i) _ _ (meets_copies width s))

  ready_copied :
      {cs : List (Com Decision)} {hs : List (Com Origin)} → Ready f vs cs hs
      → NextCopied
      f
      (plain_at cs vs cells k u os)
      (plain_at hs (with_flag vs) cells k' u' os)
      (next counts endless (plain_at cs vs cells k u os))
      (next counts endless (plain_at hs (with_flag vs) cells k' u' os))
  unfolding next rollback_next next_by next_of end_number
  ready_copied nothing = both_over (λ e. absurd (ends_differ Finished Stuck refl e))
  ready_copied (copied {c} {cs} {h} {hs} note l) = step_copied (c ∷ cs) (h ∷ hs) (next_is_copy c cs h hs note) l

-- The runs side by side: for each budget of the one there is a budget of the other with a corresponding outcome.

pub record Paired (f : ℕ) (o : Outcome ℕ) (h : Outcome Origin) : Type 0 where
  pub result : SameResult o h
  pub width : length o.machine.state.variables ≡ f
  pub unset : h.machine.state.flag ≡ false

pub record SameEnd (o : Outcome ℕ) (h : Outcome Origin) : Type 0 where
  pub end : h.end ≡ o.end
  pub stuck : h.end ≡ Stuck → NextIsCopy itself o.machine.state.pending h.machine.state.pending

-- an outcome of the hardened program against the original's: the ends agree unless the hardened run was cut
pub record Follows (f : ℕ) (o : Outcome ℕ) (h : Outcome Origin) : Type 0 where
  pub paired : Paired f o h
  pub ended : (h.end ≡ Spent → ⊥) → SameEnd o h

-- an outcome of the original against the hardened program's: the ends agree
pub record Leads (f : ℕ) (o : Outcome ℕ) (h : Outcome Origin) : Type 0 where
  pub paired : Paired f o h
  pub ended : SameEnd o h

leads_follows : {f : ℕ} {o : Outcome ℕ} {h : Outcome Origin} → Leads f o h → Follows f o h
leads_follows l = record { paired = l.paired; ended = λ uncut. l.ended }

paired_meets :
    {f : ℕ} {m : Machine Decision} {h : Machine Origin} (e e' : End) → Meets f m h
    → Paired f (numbered (record { end = e; machine = m })) (record { end = e'; machine = h })
unfolding numbered map_outcome map_machine map_state
paired_meets e e' (meets width s) = record { result = record { shown = refl; variables = refl; cells = refl }; width = width; unset = refl }

-- what holds at some budget after a step does so, one later, before it
earlier :
    {Note : Type 0} (counts : List ℕ) (P : Outcome Note → Type 0) (m : Machine Note) {m' : Machine Note} → next counts endless m ≡ goes m'
    → AtSome P (λ b. run counts endless b m') → AtSome P (λ b. run counts endless b m)
earlier counts P m e after =
    record { budget = suc after.budget; holds = subst P (sym (run_goes counts endless after.budget m e)) after.holds }

-- for this budget of the hardened program there is one of the original, and the other way round
abbrev pub Followed : (f : ℕ) → (counts : List ℕ) → (budget : ℕ) → Machine Decision → Machine Origin → Type 0
Followed f counts n m h = AtSome (λ o. Follows f (numbered o) (run counts endless n h)) (λ b. run counts endless b m)

abbrev pub Led : (f : ℕ) → (counts : List ℕ) → (budget : ℕ) → Machine Decision → Machine Origin → Type 0
Led f counts n m h = AtSome (Leads f (numbered (run counts endless n m))) (λ b. run counts endless b h)

module _ (f : ℕ) (counts : List ℕ) where
  -- right before a copy, with no budget left: both finished, or both cut
  leads_zero :
      (vs cells : List ℕ) (k u k' u' : ℕ) (os : List Observation) → length vs ≡ f
      → {cs : List (Com Decision)} {hs : List (Com Origin)} → Ready f vs cs hs
      → Leads f (numbered (run counts endless 0 (plain_at cs vs cells k u os))) (run counts endless 0 (plain_at hs (with_flag vs) cells k' u' os))
  unfolding run rollback_next end_without end_number numbered numbers map_outcome map_machine map_state
  leads_zero vs cells k u k' u' os width nothing =
      record {
        paired = paired_meets _ _ (meets width (now nothing));
        ended = record { end = refl; stuck = λ e. absurd (ends_differ Finished Stuck refl e) };
      }
  leads_zero vs cells k u k' u' os width (copied {c} {cs} {h} {hs} note l) =
      record {
        paired = paired_meets _ _ (meets width (now (copied note l)));
        ended = record { end = refl; stuck = λ e. next_is_copy c cs h hs note };
      }

  module _ (m : Machine Decision) (h : Machine Origin) (meet : Meets f m h) where
    -- with budget left, where no step is taken
    leads_over :
        (n n' : ℕ) {e : End} → next counts endless m ≡ over e → next counts endless h ≡ over e
        → (e ≡ Stuck → NextIsCopy itself (numbers m.state.pending) h.state.pending)
        → Leads f (numbered (run counts endless (suc n) m)) (run counts endless (suc n') h)
    unfolding numbered numbers map_outcome map_machine map_state
    leads_over n n' {e} over-m over-h copy =
        rw
        (run_over counts endless n m over-m, run_over counts endless n' h over-h)
        (record { paired = paired_meets e e meet; ended = record { end = refl; stuck = copy } })

    -- with budget left, by the next steps
    followed_copied :
        (n : ℕ) {x : Next Decision} {y : Next Origin} → next counts endless m ≡ x → next counts endless h ≡ y → NextCopied f m h x y
        → ((m' : Machine Decision) (h' : Machine Origin) → Meets f m' h' → Followed f counts n m' h') → Followed f counts (suc n) m h
    followed_copied n next-m next-h (both_over copy) rest =
        record { budget = 1; holds = leads_follows (leads_over 0 n next-m next-h copy) }
    followed_copied n next-m next-h (both_go {m'} {h'} meet') rest =
        earlier
        counts
        (λ o. Follows f (numbered o) (run counts endless (suc n) h))
        m
        next-m
        (rw (run_goes counts endless n h next-h) (rest m' h' meet'))

    led_copied :
        (n : ℕ) {x : Next Decision} {y : Next Origin} → next counts endless m ≡ x → next counts endless h ≡ y → NextCopied f m h x y
        → ((m' : Machine Decision) (h' : Machine Origin) → Meets f m' h' → Led f counts n m' h') → Led f counts (suc n) m h
    led_copied n next-m next-h (both_over copy) rest = record { budget = 1; holds = leads_over n 0 next-m next-h copy }
    led_copied n next-m next-h (both_go {m'} {h'} meet') rest =
        rw
        (run_goes counts endless n m next-m)
        (earlier counts (Leads f (numbered (run counts endless n m'))) h next-h (rest m' h' meet'))

  -- what holds at some budget from right before a copy does so with added commands in front of it
  silently_earlier :
      (P : Outcome Origin → Type 0) (R : List (Com Origin) → Type 0) (vs cells : List ℕ) (os : List Observation)
      → ((hs : List (Com Origin)) (k u : ℕ) → R hs → AtSome P (λ b. run counts endless b (plain_at hs vs cells k u os)))
      → {hs : List (Com Origin)} → Silently vs R hs → (k u : ℕ) → AtSome P (λ b. run counts endless b (plain_at hs vs cells k u os))
  silently_earlier P R vs cells os ready (now {hs} r) k u = ready hs k u r
  silently_earlier P R vs cells os ready (soon {h} {hs} {hs'} e s) k u =
      earlier counts P _ (next_added counts h hs hs' vs cells k u os e) (silently_earlier P R vs cells os ready s (k + 1) (u + 0))

  -- for each budget of the hardened program there is one of the original with a corresponding outcome
  pub follow : (n : ℕ) {m : Machine Decision} {h : Machine Origin} → Meets f m h → Followed f counts n m h
  unfolding run rollback_next end_without
  follow zero (meets width (soon e s)) =
      record { budget = 0; holds = record { paired = paired_meets _ _ (meets width (soon e s)); ended = λ uncut. absurd (uncut refl) } }
  follow zero (meets {vs} {cells} {k} {u} {k'} {u'} {os} width (now r)) =
      record { budget = 0; holds = leads_follows (leads_zero vs cells k u k' u' os width r) }
  follow (suc n) (meets {vs} {cells} {k'} {u'} {os} width (soon {h} {hs} {hs'} e s)) =
      rw (run_goes counts endless n _ (next_added counts h hs hs' (with_flag vs) cells k' u' os e)) (follow n (meets width s))
  follow (suc n) (meets {vs} {cells} {k} {u} {k'} {u'} {os} width (now r)) =
      followed_copied
      _
      _
      (meets width (now r))
      n
      refl
      refl
      (ready_copied f counts vs cells k u k' u' os width r)
      (λ m' h'. follow n {m = m'} {h = h'})

  -- for each budget of the original there is one of the hardened program with a corresponding outcome
  pub lead : (n : ℕ) {m : Machine Decision} {h : Machine Origin} → Meets f m h → Led f counts n m h
  lead zero (meets {cs} {vs = vs} {cells} {k} {u} {k'} {u'} {os} width s) =
      silently_earlier
      _
      (Ready f vs cs)
      (with_flag vs)
      cells
      os
      (λ hs k' u' r. record { budget = 0; holds = leads_zero vs cells k u k' u' os width r })
      s
      k'
      u'
  lead (suc n) (meets {cs} {vs = vs} {cells} {k} {u} {k'} {u'} {os} width s) =
      silently_earlier
      _
      (Ready f vs cs)
      (with_flag vs)
      cells
      os
      (λ hs k' u' r.
      led_copied
      _
      _
      (meets width (now r))
      n
      refl
      refl
      (ready_copied f counts vs cells k u k' u' os width r)
      (λ m' h'. lead n {m = m'} {h = h'}))
      s
      k'
      u'
