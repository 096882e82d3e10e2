-- `put_answers` writes the answers where they fit.
use native.Mathlib.Omega.{arith}
use mathlib.Core.Path.{sym, ap, ◌∙◌}
use lib.Seq.{sets}
use Rattle.labels.specs.Questions.{pairs_in}
use Rattle.questions.specs.Noted.{noted_answers}
use Rattle.questions.proofs.NotedAnswers.{length_noted}
use Rattle.write_entries.proofs.Doing.{done_written, done_short}
use Rattle.write_entries.proofs.writing.put_answers.Goals as goal

pub returns-then-out-size : goal.returns-then-out-size
returns-then-out-size c =
    let bytes = length_noted c.args.notes.now c.args.list.now (pairs_in c.args.list.now) in
    done_short _ c.args.out.now (omega (arith, c.if-out-size.true, c.pairs_in-size.ensures, bytes))

pub returns : goal.returns
returns c =
    let bytes = length_noted c.args.notes.now c.args.list.now (pairs_in c.args.list.now) in
    done_written _ c.args.out.now (omega (arith, c.if-out-size.false, c.pairs_in-size.ensures, bytes))
    (c.write_answers.ensures ∙ ap (λ k. sets c.args.out.now 0 (noted_answers c.args.notes.now c.args.list.now k)) c.pairs_in-size.ensures)
    (c.pairs_in-size.ensures ∙ sym bytes)
