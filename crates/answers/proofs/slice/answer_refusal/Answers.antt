-- `answer_refusal` answers a refusal's number and place.
use mathlib.Core.List.{[], ◌∷◌}
use mathlib.Core.Path.{ap₂, ◌∙◌}
use Rattle.entries.specs.Answers.{answered, refusal_numbers}
use Rattle.answers.proofs.slice.answer_refusal.Goals as goal

pub returns : goal.returns
unfolding refusal_numbers
returns c =
    let told = c.from-number.ensures in
    (told.0, c.answer_numbers.ensures ∙ ap₂ (λ n p. answered (n ∷ p ∷ []) c.args.answer.now) told.0 told.1)
