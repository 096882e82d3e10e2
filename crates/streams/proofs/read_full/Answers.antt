-- A round puts what it read behind what was read before it.
use Rattle.std.proofs.Common.{◌≡◌, ℕ, ◌+◌, ◌-◌, ◌≤◌, List, ◌++◌, rules, length, take, sym, ap, ◌∙◌, subst, length-take-le}
use Rattle.std.proofs.Math.Seq.{take-append-add}
use Rattle.std.proofs.lemmas.List.{take-append-le}
use Rattle.std.specs.Io.KnownBytes.{Consumes}
use Rattle.std.proofs.KnownBytes.{Consumes-trans}
use borrow.Rule.Slice.PartMut.{put_mid, post_of}
use Rattle.streams.proofs.read_full.Goals as goal

take_filled : (d k n : ℕ) (xs ys : List ℕ) → d ≤ length xs → n ≤ length ys → take (d + n) (put_mid d k xs ys) ≡ take d xs ++ take n ys
take_filled d k n xs ys within fits =
    ap (λ m. take (m + n) (put_mid d k xs ys)) (sym (length-take-le d xs within)) ∙ take-append-add (take d xs) (ys ++ post_of d k xs) n
    ∙ ap (λ l. take d xs ++ l) (take-append-le n ys (post_of d k xs) fits)

pub loop-done-preserved : goal.loop-done-preserved
loop-done-preserved g c =
    let done = c.loop-done.done in
    let filled = take_filled done (length c.loop-done.buffer - done) c.in_ok-count.count c.loop-done.buffer c.read.new.buf c.loop-done.invariant.1 c.in_ok-count.ensures.bound.0 in
    (search rules, search rules, subst (Consumes _ _) (sym filled) (Consumes-trans _ _ _ _ _ c.loop-done.invariant.2 c.in_ok-count.ensures.bytes.0))
