-- Label questions: which byte answers a pair, and whose label it tells.
use Prim.Native.Nat.{ℕ, zero, suc, ◌+◌, ◌*◌, ◌%◌, ◌≤◌, ◌<◌}
use native.Mathlib.Omega.{arith}
use native.Mathlib.Decide.{ℕ_discrete}
use mathlib.Core.Bool.{Bool, true, false, cond, ◌&&◌}
use mathlib.Core.Logic.{⊎_elim}
use mathlib.Core.List.Memᴰ
use mathlib.Core.List.{List, [], ◌∷◌, ◌++◌, Memᴰ}
use mathlib.Core.Path.{◌≡◌, refl, sym, ap, ◌∙◌}
use lib.ListN.{length, get_or, take, drop, length-append, get_or-append}
use lib.Seq.{get_or_at, drop-drop}
use lib.Dec.{eqb, ltb, leb}
use borrow.Author.Tests.{leb-true, eqb-true, eqb-false, eq-eqb}
use Rattle.bytes_le.specs.Numbers.{from_le, le_at}
use Rattle.awhile.specs.Language.{Com, skip, assign, sequence, if, while, read, write, note_of, map_notes}
use Rattle.awhile.specs.Nodes.{sort_of, same_sort}
use Rattle.awhile.specs.Standing.{standing}
use Rattle.awhile.specs.Tables.{Table}
use Rattle.awhile.specs.Trees.{root_of}
use Rattle.awhile.specs.WellFormed.{WellFormed}
use Rattle.awhile.specs.declared.Labelling.{Labelling}
use Rattle.awhile.specs.declared.Node.TheVariants.{Skip}
use Rattle.awhile.specs.declared.Sort.TheVariants.{Command}
use Rattle.awhile.proofs.Lists.{and_first, and_second}
use Rattle.awhile.proofs.Standing.{root_standing}
use Rattle.labels.specs.Labellings.{variable_mark, label_of}
use Rattle.labels.specs.Annotation.{Entry, annotate, parts}
use Rattle.labels.specs.Sheet.{entry_of, annotated}
use Rattle.labels.specs.Questions.{max_questions, pairs_in, pair_at, question_at, is_command, askable, all_askable, answerable, entering, answer_to, answers_to, TheCommand, TellsLabel}
use Rattle.labels.specs.Rules.{program_of}
use Rattle.labels.specs.declared.Question.{Question}
use Rattle.labels.proofs.Rules.{analysis_satisfies}

-- ---- a list that is answered
-- none of the causes of 11
pub record Answerable (t : Table) (s : List ℕ) : Type 0 where
  pub few : length s ≤ 4 * max_questions
  pub whole : length s % 4 ≡ 0
  pub all : all_askable t s (pairs_in s) ≡ true

pub answerable_list : (t : Table) (s : List ℕ) → answerable t s ≡ true → Answerable t s
unfolding answerable
answerable_list t s h =
    let rest = and_second (leb (length s) (4 * max_questions)) (eqb (length s % 4) 0 && all_askable t s (pairs_in s)) h in
    record {
      few = leb-true (length s) (4 * max_questions) (and_first (leb (length s) (4 * max_questions)) _ h);
      whole = eqb-true (length s % 4) 0 (and_first (eqb (length s % 4) 0) (all_askable t s (pairs_in s)) rest);
      all = and_second (eqb (length s % 4) 0) (all_askable t s (pairs_in s)) rest;
    }

-- ---- pairs of a list
module _ (a : Com Entry) (s : List ℕ) where
  -- one byte a pair
  pub length_answers : (n : ℕ) → length (answers_to a s n) ≡ n
  unfolding answers_to
  length_answers zero = refl
  length_answers (suc n) = simp length-append (omega (arith, length_answers n))

  -- and byte i is the answer to pair i
  pub answer_at : (n i : ℕ) → i < n → get_or (answers_to a s n) i 0 ≡ answer_to a (question_at s i)
  unfolding answers_to
  answer_at zero i h = absurd (omega arith)
  answer_at (suc n) i h = go (ℕ_discrete i n) (answer_at n i)
    where
      go : Dec (i ≡ n) → (i < n → get_or (answers_to a s n) i 0 ≡ answer_to a (question_at s i))
          → get_or (answers_to a s n ++ (answer_to a (question_at s n) ∷ [])) i 0 ≡ answer_to a (question_at s i)
      go (yes e) before =
          get_or_at (answers_to a s n) (answer_to a (question_at s n)) [] 0 i (length_answers n ∙ sym e) ∙ ap (λ k. answer_to a (question_at s k)) (sym e)
      go (no e) before =
          let earlier : i < n = omega arith in
          get_or-append (answers_to a s n) (answer_to a (question_at s n) ∷ []) 0 i (omega (arith, length_answers n)) ∙ before earlier

module _ (t : Table) (s : List ℕ) where
  -- where all can be asked, each can
  pub askable_at : (n i : ℕ) → all_askable t s n ≡ true → i < n → askable t (question_at s i) ≡ true
  unfolding all_askable
  askable_at zero i h k = absurd (omega arith)
  askable_at (suc n) i h k = go (ℕ_discrete i n) (askable_at n i (and_second (askable t (question_at s n)) (all_askable t s n) h))
    where
      go : Dec (i ≡ n) → (i < n → askable t (question_at s i) ≡ true) → askable t (question_at s i) ≡ true
      go (yes e) before = ap (λ k. askable t (question_at s k)) e ∙ and_first (askable t (question_at s n)) (all_askable t s n) h
      go (no e) before = before (omega arith)

-- the fields of a pair are read from its own four bytes
first_field : (l : List ℕ) → take 2 (take 4 l) ≡ take 2 l
first_field [] = refl
first_field (a ∷ []) = refl
first_field (a ∷ b ∷ l) = refl

second_field : (l : List ℕ) → take 2 (drop 2 (take 4 l)) ≡ take 2 (drop 2 l)
second_field [] = refl
second_field (a ∷ []) = refl
second_field (a ∷ b ∷ []) = refl
second_field (a ∷ b ∷ c ∷ []) = refl
second_field (a ∷ b ∷ c ∷ d ∷ l) = refl

-- a pair alone asks what it asks in the list
pub pair_alone : (s : List ℕ) (i : ℕ) → question_at (pair_at s i) 0 ≡ question_at s i
unfolding question_at le_at
pair_alone s i =
    let p : take 2 (take 4 (drop (4 * i) s)) ≡ take 2 (drop (4 * i) s) = first_field (drop (4 * i) s) in
    let q : take 2 (drop 2 (take 4 (drop (4 * i) s))) ≡ take 2 (drop (4 * i + 2) s) =
    second_field (drop (4 * i) s) ∙ ap (take 2) (drop-drop 2 (4 * i) s) in
    λ j. record { node = from_le (p j); variable = from_le (q j) }

-- ---- the command of a number
module _ (n : ℕ) where
  -- how many of these commands have it
  unfoldable numbered : List (Com Entry) → ℕ
  numbered [] = 0
  numbered (p ∷ ps) = cond (eqb n (note_of p).node) 1 0 + numbered ps

  numbered_append : (ps qs : List (Com Entry)) → numbered (ps ++ qs) ≡ numbered ps + numbered qs
  unfolding numbered
  numbered_append [] qs = omega arith
  numbered_append (p ∷ ps) qs = omega (arith, numbered_append ps qs)

  numbered_parts : (a : Com Entry) → numbered (parts a) ≡ standing n (program_of a)
  unfolding numbered parts standing map_notes note_of
  numbered_parts (skip e) = omega arith
  numbered_parts (assign e v x) = omega arith
  numbered_parts (sequence e c d) = omega (arith, numbered_append (parts c) (parts d), numbered_parts c, numbered_parts d)
  numbered_parts (if e b c d) = omega (arith, numbered_append (parts c) (parts d), numbered_parts c, numbered_parts d)
  numbered_parts (while e b c) = omega (arith, numbered_parts c)
  numbered_parts (read e v x i) = omega arith
  numbered_parts (write e x i v) = omega arith

  none_numbered : (ps : List (Com Entry)) → numbered ps ≡ 0 → (c : Com Entry) → Memᴰ c ps → (note_of c).node ≡ n → ⊥
  unfolding numbered
  none_numbered [] h c m e = Memᴰ.not-nil m
  none_numbered (p ∷ ps) h c m e =
      ⊎_elim
      (λ same.
      let hit : eqb n (note_of p).node ≡ true = eq-eqb n (note_of p).node (sym e ∙ ap (λ (x : Com Entry). (note_of x).node) same) in
      let one : 1 + numbered ps ≡ 0 = rw hit at h in
      omega arith)
      (λ later. none_numbered ps (omega arith) c later e)
      (Memᴰ.cases_cons m)

  -- the one command that has it, and what enters it
  pub record Found (ps : List (Com Entry)) : Type 0 where
    pub command : Com Entry
    pub the : TheCommand ps n command
    pub enters : entering n ps ≡ entry_of command

  -- the first of them, where no other has it
  found_first : (p : Com Entry) (ps : List (Com Entry)) → eqb n (note_of p).node ≡ true → numbered ps ≡ 0 → Found (p ∷ ps)
  unfolding entering
  found_first p ps e none =
      record {
        command = p;
        the = record {
          stands = Memᴰ.head refl;
          is_node = sym (eqb-true n (note_of p).node e);
          only = λ c m is. ⊎_elim (λ same. same) (λ later. absurd (none_numbered ps none c later is)) (Memᴰ.cases_cons m);
        };
        enters = rw e;
      }

  -- a later one, where the first has it not
  found_later : (p : Com Entry) (ps : List (Com Entry)) → eqb n (note_of p).node ≡ false → Found ps → Found (p ∷ ps)
  unfolding entering
  found_later p ps e r =
      record {
        command = r.command;
        the = record {
          stands = Memᴰ.tail r.the.stands;
          is_node = r.the.is_node;
          only =
              λ c m is.
              ⊎_elim
              (λ same. absurd (eqb-false n (note_of p).node e (sym is ∙ ap (λ (x : Com Entry). (note_of x).node) same)))
              (λ later. r.the.only c later is)
              (Memᴰ.cases_cons m);
        };
        enters = rw e r.enters;
      }

  found : (ps : List (Com Entry)) → numbered ps ≡ 1 → Found ps
  unfolding numbered
  found [] h = absurd (omega arith)
  found (p ∷ ps) h = go (eqb n (note_of p).node) refl (found ps)
    where
      go : (b : Bool) → eqb n (note_of p).node ≡ b → (numbered ps ≡ 1 → Found ps) → Found (p ∷ ps)
      go true e rest = let none : 1 + numbered ps ≡ 1 = rw e at h in found_first p ps e (omega arith)
      go false e rest = let one : 0 + numbered ps ≡ 1 = rw e at h in found_later p ps e (rest (omega arith))

-- a command node of a table has its one command in the annotated program
pub command_found : (t : Table) (l : Labelling) (n : ℕ) → WellFormed t → is_command t n ≡ true → Found n (parts (annotated t l))
unfolding annotated is_command
command_found t l n w h =
    let inside : ltb n (length t.nodes) ≡ true = and_first (ltb n (length t.nodes)) (same_sort (sort_of (get_or t.nodes n Skip)) Command) h in
    let command : same_sort (sort_of (get_or t.nodes n Skip)) Command ≡ true = and_second (ltb n (length t.nodes)) (same_sort (sort_of (get_or t.nodes n Skip)) Command) h in
    let once : standing n (root_of t) ≡ 1 = root_standing n t w ∙ rw (inside, command) in
    found n (parts (annotate (root_of t) false l)) (numbered_parts n (annotate (root_of t) false l) ∙ ap (standing n) (analysis_satisfies (root_of t) false l).program ∙ once)

-- the answer to a question that can be asked tells the label of its variable where its command is entered
pub answer_tells : (t : Table) (l : Labelling) (q : Question) → WellFormed t → askable t q ≡ true → TellsLabel (annotated t l) q (answer_to (annotated t l) q)
unfolding answer_to askable
answer_tells t l q w h =
    let f = command_found t l q.node w (and_first (is_command t q.node) (ltb q.variable t.variables) h) in
    record {
      command = f.command;
      asked = f.the;
      label = ap (λ (m : Labelling). cond (label_of m (variable_mark q.variable)) 1 0) f.enters;
    }
