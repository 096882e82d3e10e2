-- `answer_numbers` puts one number more at each turn, or drops it.
use native.Mathlib.Omega.{arith}
use Prim.Native.Nat.{◌+◌, ◌*◌}
use mathlib.Core.Path.{◌≡◌, ap, ◌∙◌}
use lib.ListN.{length, take, get_or}
use lib.Seq.{sets}
use Rattle.std.proofs.lemmas.List.{take_all}
use Rattle.bytes_le.specs.Numbers.{le}
use Rattle.entries.specs.Answers.{answered}
use Rattle.answers.proofs.Numbers.{answered_none, answered_more, answered_dropped}
use Rattle.answers.proofs.slice.answer_numbers.Goals as goal
use Rattle.answers.proofs.slice.answer_numbers.Goals.{then-i-answer, else-i-answer}

pub loop-i-init : goal.loop-i-init
loop-i-init c = answered_none c.args.numbers.now c.args.answer.now

pub loop-i-preserved : goal.loop-i-preserved
loop-i-preserved c =
    let ns = c.args.numbers.now in
    let i = c.loop-i.i in
    elim c.if-i-answer.branch [
      | then-i-answer w ↦ w.answer-is ∙ w.put64.ensures
          ∙ ap (λ l. sets l (8 * i) (le 8 (get_or ns i 0))) c.loop-i.invariant
          ∙ answered_more ns c.args.answer.now i c.loop-i-test.true (omega (arith, w.if-i-answer.true, c.loop-i.auto.answer))
      | else-i-answer w ↦ w.answer-is ∙ c.loop-i.invariant
          ∙ answered_dropped ns c.args.answer.now i (omega (arith, w.if-i-answer.false, c.loop-i.auto.answer))
    ]

pub returns : goal.returns
returns c = c.loop-i.invariant ∙ ap (λ ns. answered ns c.args.answer.now) (take_all c.loop-i.i c.args.numbers.now (omega arith))
