-- `answer_numbers`: at every turn the numbers passed so far are answered.
use mathlib.Core.Path.{◌≡◌}
use lib.ListN.{take}
use Rattle.entries.specs.Answers.{answered}
use Rattle.answers.proofs.slice.answer_numbers.Given as goal

abbrev pub invariant-loop-i : goal.invariant-loop-i
invariant-loop-i l = l.answer ≡ answered (take l.i l.numbers) l.initial.answer
