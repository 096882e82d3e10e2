-- `write_answers` writes one answer behind the other.
use mathlib.Core.Path.{◌≡◌}
use lib.Seq.{sets}
use Rattle.questions.specs.Noted.{noted_answers}
use Rattle.questions.proofs.writing.write_answers.Given as goal

abbrev pub invariant-loop-i : goal.invariant-loop-i
invariant-loop-i l = l.out ≡ sets l.initial.out 0 (noted_answers l.notes l.questions l.i)
