-- What is noted of a table's expressions: one after the other, until those of all commands are.
use Prim.Native.Nat.{ℕ, ◌+◌, ◌<◌}
use native.Mathlib.Decide.{ℕ_discrete}
use native.Mathlib.Omega.{arith}
use mathlib.Core.List.Memᴰ
use mathlib.Core.List.{List, [], ◌∷◌, flat_map, Memᴰ}
use mathlib.Core.Logic.{◌⊎◌, inl, inr, ⊎_elim}
use mathlib.Core.Path.{◌≡◌, refl, sym, ap, ◌∙◌}
use lib.ListN.{length, get_or, set, length-set}
use lib.Seq.{get_or-set_same, get_or-set_other}
use Rattle.awhile.specs.Nodes.{form, sort_of}
use Rattle.awhile.specs.declared.Node.{Node}
use Rattle.awhile.specs.declared.Node.TheVariants.{Assign, If, While, Read, Write}
use Rattle.awhile.specs.declared.Labelling.{Labelling}
use Rattle.awhile.specs.declared.Sort.TheVariants.{Numeric, Truth, Command}
use Rattle.reader.specs.Admitted.{Admitted}
use Rattle.reader.specs.Index.{node_in, numeric_in, truth_in, HasSort}
use Rattle.reader.proofs.Admitted.{offsets_in, bytes, indexed}
use Rattle.reader.proofs.Index.{indexed_numeric, indexed_truth}
use Rattle.labels.specs.Labellings.{label_of_a, label_of_b}
use Rattle.variables.specs.Variables.{variables_of_a, variables_of_b, variables_of, meet}
use Rattle.variables.specs.Named.{expression_of, field_expressions, expressions_of, named_at, NamedBelow, Named, Names}
use Rattle.variables.proofs.MaskMeets.{label_meets_a, label_meets_b}
use Rattle.reader.proofs.NodeKinds.{command_kinds}

-- ---- the variables of a node by its sort
module _ {table : List ℕ} (admitted : Admitted table) {n : ℕ} where
  pub numeric_named : HasSort table Numeric n → named_at table n ≡ variables_of_a (numeric_in table n)
  unfolding variables_of
  numeric_named h = ap variables_of (indexed_numeric table (offsets_in table) (bytes admitted) (indexed admitted) n h.inside h.is_sort)

  pub truth_named : HasSort table Truth n → named_at table n ≡ variables_of_b (truth_in table n)
  unfolding variables_of
  truth_named h = ap variables_of (indexed_truth table (offsets_in table) (bytes admitted) (indexed admitted) n h.inside h.is_sort)

  -- what the code stores there is noted
  module _ {r : ℕ} (before : List ℕ) where
    pub numeric_stored : HasSort table Numeric n → r ≡ variables_of_a (numeric_in table n) → set before n r ≡ set before n (named_at table n)
    numeric_stored h e = ap (set before n) (e ∙ sym (numeric_named h))

    pub truth_stored : HasSort table Truth n → r ≡ variables_of_b (truth_in table n) → set before n r ≡ set before n (named_at table n)
    truth_stored h e = ap (set before n) (e ∙ sym (truth_named h))

-- ---- one expression noted
module _ (table : List ℕ) (e : ℕ) (before : List ℕ) (inside : e < length before) where
  -- it is right there
  set_own : get_or (set before e (named_at table e)) e 0 ≡ named_at table e
  set_own = get_or-set_same before e (named_at table e) 0 inside

  -- and whatever else stands there is as it was
  set_others : (f : ℕ) → (get_or (set before e (named_at table e)) f 0 ≡ get_or before f 0) ⊎ (get_or (set before e (named_at table e)) f 0 ≡ named_at table f)
  set_others f = go (ℕ_discrete f e)
    where
      go : Dec (f ≡ e) → (get_or (set before e (named_at table e)) f 0 ≡ get_or before f 0) ⊎ (get_or (set before e (named_at table e)) f 0 ≡ named_at table f)
      go (yes p) = inr (rw p set_own)
      go (no p) = inl (get_or-set_other before e f (named_at table e) 0 p)

-- ---- the expressions of one command: none, one or two
module _ (table : List ℕ) (n : ℕ) (before : List ℕ) where
  pub names_none : expressions_of (node_in table n) ≡ [] → Names table n before before
  names_none is = record { own = λ e m. absurd (Memᴰ.not-nil (rw is at m)); others = λ e. inl refl }

  pub names_one : (e : ℕ) → expressions_of (node_in table n) ≡ e ∷ [] → e < length before → {after : List ℕ} → after ≡ set before e (named_at table e)
      → Names table n before after
  names_one e is inside a =
      rw a
      (record {
        own = λ f m. ⊎_elim (λ p. rw p (set_own table e before inside)) (λ r. absurd (Memᴰ.not-nil r)) (Memᴰ.cases_cons (rw is at m));
        others = set_others table e before inside;
      })

  pub names_two : (d e : ℕ) → expressions_of (node_in table n) ≡ d ∷ e ∷ [] → d < length before → e < length before
      → {between after : List ℕ} → between ≡ set before d (named_at table d) → after ≡ set between e (named_at table e) → Names table n before after
  names_two d e is first second b a =
      let right : (f : ℕ) → (get_or (set before d (named_at table d)) f 0 ≡ get_or before f 0) ⊎ (get_or (set before d (named_at table d)) f 0 ≡ named_at table f) =
      set_others table d before first in
      let long : e < length (set before d (named_at table d)) = simp length-set (omega arith) in
      let last : (f : ℕ) → f ≡ d → get_or (set (set before d (named_at table d)) e (named_at table e)) f 0 ≡ named_at table f =
      λ f p. ⊎_elim (λ q. q ∙ rw p (set_own table d before first)) (λ q. q) (set_others table e (set before d (named_at table d)) long f) in
      rw (a, b)
      (record {
        own = λ f m.
            ⊎_elim (last f)
            (λ r. ⊎_elim (λ p. rw p (set_own table e (set before d (named_at table d)) long)) (λ q. absurd (Memᴰ.not-nil q)) (Memᴰ.cases_cons r))
            (Memᴰ.cases_cons (rw is at m));
        others = λ f. ⊎_elim (λ q. ⊎_elim (λ r. inl (q ∙ r)) (λ r. inr (q ∙ r)) (right f)) inr (set_others table e (set before d (named_at table d)) long f);
      })

-- ---- the commands below a number
module _ {table : List ℕ} {n : ℕ} {before : List ℕ} (h : NamedBelow table before n) where
  -- with the command of this number, those below the next are noted
  pub names_next : {after : List ℕ} → Names table n before after → NamedBelow table after (n + 1)
  names_next {after} s = record { at = λ k e less sort m. go k e less sort m (ℕ_discrete k n) }
    where
      go : (k e : ℕ) → k < n + 1 → sort_of (node_in table k) ≡ Command → Memᴰ e (expressions_of (node_in table k)) → Dec (k ≡ n) → get_or after e 0 ≡ named_at table e
      go k e less sort m (yes p) = s.own e (rw p at m)
      go k e less sort m (no p) = ⊎_elim (λ q. q ∙ h.at k e (omega arith) sort m) (λ q. q) (s.others e)

  -- a node that is no command holds none
  pub names_skip : (sort_of (node_in table n) ≡ Command → ⊥) → NamedBelow table before (n + 1)
  names_skip no_command = record { at = λ k e less sort m. go k e less sort m (ℕ_discrete k n) }
    where
      go : (k e : ℕ) → k < n + 1 → sort_of (node_in table k) ≡ Command → Memᴰ e (expressions_of (node_in table k)) → Dec (k ≡ n) → get_or before e 0 ≡ named_at table e
      go k e less sort m (yes p) = absurd (no_command (rw p at sort))
      go k e less sort m (no p) = h.at k e (omega arith) sort m

-- ---- labels by what is noted
module _ {table named : List ℕ} (admitted : Admitted table) (names : Named table named) {n : ℕ} (command : HasSort table Command n) (l : Labelling) {e : ℕ}
    (held : Memᴰ e (expressions_of (node_in table n))) where
  -- the label of a number that a command holds
  pub numeric_label : HasSort table Numeric e → meet l.variables (get_or named e 0) ≡ label_of_a l (numeric_in table e)
  numeric_label h =
      ap (meet l.variables) (names.all.at n e command.inside command.is_sort held ∙ numeric_named admitted h) ∙ sym (label_meets_a l (numeric_in table e))

  -- the label of a truth that it holds
  pub truth_label : HasSort table Truth e → meet l.variables (get_or named e 0) ≡ label_of_b l (truth_in table e)
  truth_label h =
      ap (meet l.variables) (names.all.at n e command.inside command.is_sort held ∙ truth_named admitted h) ∙ sym (label_meets_b l (truth_in table e))

-- ---- the commands that hold no expression
pub none_held : (m : Node) → sort_of m ≡ Command → ((x e : ℕ) → m ≡ Assign x e → ⊥) → ((b c d : ℕ) → m ≡ If b c d → ⊥) → ((b c : ℕ) → m ≡ While b c → ⊥)
    → ((x a i : ℕ) → m ≡ Read x a i → ⊥) → ((a i e : ℕ) → m ≡ Write a i e → ⊥) → expressions_of m ≡ []
unfolding expressions_of field_expressions expression_of form flat_map
none_held m sort assign if while read write =
    command_kinds (λ k. m ≡ k → expressions_of k ≡ [])
    (λ o. refl)
    (λ x e o. absurd (assign x e o))
    (λ c d o. refl)
    (λ b c d o. absurd (if b c d o))
    (λ b c o. absurd (while b c o))
    (λ x a i o. absurd (read x a i o))
    (λ a i e o. absurd (write a i e o))
    m sort refl
