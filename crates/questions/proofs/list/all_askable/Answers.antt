-- `all_askable` asks of each pair.
use native.Mathlib.Omega.{arith}
use mathlib.Core.Path.{refl, ap, ◌∙◌}
use borrow.Author.Rules.{rules}
use Rattle.std.proofs.lemmas.Iterator.{YieldsList-from_range}
use Rattle.std.proofs.lemmas.Iterator.Search.{all_from_yields_List}
use Rattle.reader.specs.Index.{table_of}
use Rattle.labels.specs.Questions.{question_at, askable, all_askable}
use Rattle.questions.proofs.Lists.{each_askable}
use Rattle.questions.proofs.list.all_askable.Goals as goal

pub returns : goal.returns
returns c =
    let t = table_of c.args.table.now in
    let s = c.args.questions.now in
    all_from_yields_List (λ i. askable t (question_at s i)) _ _ c.all.result c.all.ensures.ran
    (YieldsList-from_range 0 c.pairs_in.result c.pairs_in.result refl (omega arith)) (λ x b q k. search rules)
    ∙ each_askable t s c.pairs_in.result ∙ ap (all_askable t s) c.pairs_in.ensures
