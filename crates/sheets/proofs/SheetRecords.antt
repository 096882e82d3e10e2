-- The records of the label sheet, from the notes in memory: each command node's record stands once, and no other node has one.
use Prim.Native.Nat.{ℕ, zero, suc, ◌+◌}
use native.Mathlib.Decide.{ℕ_discrete}
use native.Mathlib.Nat.{zero-add, suc-add}
use mathlib.Core.Bool.{cond}
use mathlib.Core.Path.{◌≡◌, sym, ap, ◌∙◌}
use mathlib.Core.List.{List, [], ◌++◌, append-nil, append_assoc, flat_map}
use lib.Dec.{eqb}
use borrow.Author.Tests.{eq-eqb, ne_eqb}
use Rattle.reader.specs.Index.{command_in}
use Rattle.awhile.specs.Language.{Com, skip, assign, sequence, if, while, read, write, note_of, map_notes}
use Rattle.awhile.proofs.Lists.{flat_map_append}
use Rattle.labels.specs.Annotation.{Entry, parts}
use Rattle.labels.specs.Sheet.{SheetRecord, command_records, records_at}
use Rattle.analysis.specs.declared.noting.Note.{Note}
use Rattle.analysis.specs.Notes.{note_in}
use Rattle.awhile.specs.Standing.{standing}
use Rattle.sheets.specs.Rows.{records_in}

-- a list so many times over
unfoldable pub copies : ℕ → List SheetRecord → List SheetRecord
copies zero r = []
copies (suc k) r = r ++ copies k r

copies_add : (j k : ℕ) (r : List SheetRecord) → copies (j + k) r ≡ copies j r ++ copies k r
unfolding copies
copies_add zero k r = rw zero-add
copies_add (suc j) k r = rw suc-add (ap (λ s. r ++ s) (copies_add j k r) ∙ sym (append_assoc r (copies j r) (copies k r)))

copies_three : (i j k : ℕ) (r : List SheetRecord) {a b c : List SheetRecord} → a ≡ copies i r → b ≡ copies j r → c ≡ copies k r → a ++ (b ++ c) ≡ copies (i + j + k) r
copies_three i j k r p q e = rw (p, q, e, copies_add (i + j) k r, copies_add i j r, append_assoc)

copies_two : (i j : ℕ) (r : List SheetRecord) {a b : List SheetRecord} → a ≡ copies i r → b ≡ copies j r → a ++ b ≡ copies (i + j) r
copies_two i j r p q = rw (p, q, copies_add i j r)

-- a command's own record, if its number is the one asked for
copies_own : (n k : ℕ) (r : List SheetRecord) {s : List SheetRecord} → (k ≡ n → s ≡ r) → cond (eqb k n) s [] ≡ copies (cond (eqb n k) 1 0) r
unfolding copies
copies_own n k r {s} h = go (ℕ_discrete k n)
  where
    go : Dec (k ≡ n) → cond (eqb k n) s [] ≡ copies (cond (eqb n k) 1 0) r
    go (yes e) = rw (eq-eqb k n e, eq-eqb n k (sym e), append-nil) (h e)
    go (no e) = rw (ne_eqb k n e, ne_eqb n k (λ f. e (sym f)))

-- every command of a command is that of its number in the table
module _ (table : List ℕ) where
  abbrev pub Located : Com ℕ → Type 0
  Located (skip n) = skip n ≡ command_in table n
  Located (assign n v e) = assign n v e ≡ command_in table n
  Located (sequence n c d) = (sequence n c d ≡ command_in table n) × Located c × Located d
  Located (if n b c d) = (if n b c d ≡ command_in table n) × Located c × Located d
  Located (while n b c) = (while n b c ≡ command_in table n) × Located c
  Located (read n v a i) = read n v a i ≡ command_in table n
  Located (write n a i e) = write n a i e ≡ command_in table n

  module _ (ns : List Note) (n : ℕ) where
    own_record : (k : ℕ) (c : Com ℕ) → c ≡ command_in table k → k ≡ n → command_records (map_notes (note_in ns) c) ≡ records_in table ns n
    unfolding records_in
    own_record k c p e = ap (λ m. command_records (map_notes (note_in ns) m)) (p ∙ ap (command_in table) e)

    -- the records of a node number are as many as commands have it
    pub records_copied : (c : Com ℕ) → Located c → records_at (map_notes (note_in ns) c) n ≡ copies (standing n c) (records_in table ns n)
    unfolding records_at parts map_notes flat_map standing note_of note_in
    records_copied (skip k) p = rw append-nil (copies_own n k (records_in table ns n) (own_record k (skip k) p))
    records_copied (assign k v e) p = rw append-nil (copies_own n k (records_in table ns n) (own_record k (assign k v e) p))
    records_copied (sequence k c d) p =
        rw (flat_map_append (λ (q : Com Entry). cond (eqb (note_of q).node n) (command_records q) []))
        (copies_three (cond (eqb n k) 1 0) (standing n c) (standing n d) (records_in table ns n) (copies_own n k (records_in table ns n) (own_record k (sequence k c d) p.0))
        (records_copied c p.1) (records_copied d p.2))
    records_copied (if k b c d) p =
        rw (flat_map_append (λ (q : Com Entry). cond (eqb (note_of q).node n) (command_records q) []))
        (copies_three (cond (eqb n k) 1 0) (standing n c) (standing n d) (records_in table ns n) (copies_own n k (records_in table ns n) (own_record k (if k b c d) p.0))
        (records_copied c p.1) (records_copied d p.2))
    records_copied (while k b c) p =
        copies_two (cond (eqb n k) 1 0) (standing n c) (records_in table ns n) (copies_own n k (records_in table ns n) (own_record k (while k b c) p.0)) (records_copied c p.1)
    records_copied (read k v a i) p = rw append-nil (copies_own n k (records_in table ns n) (own_record k (read k v a i) p))
    records_copied (write k a i e) p = rw append-nil (copies_own n k (records_in table ns n) (own_record k (write k a i e) p))
