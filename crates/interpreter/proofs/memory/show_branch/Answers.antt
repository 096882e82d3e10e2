-- `show_branch` writes a branch's record.
use Prim.Native.Nat.{◌+◌}
use mathlib.Core.Path.{ap, ◌∙◌}
use borrow.Author.Rules.{rules}
use lib.Seq.{sets}
use Rattle.bytes_le.specs.Numbers.{le}
use Rattle.interpreter.proofs.Effects.{stored_record}
use Rattle.interpreter.proofs.memory.show_branch.Goals as goal

pub returns : goal.returns
returns c = stored_record _ _ _ _ _ _ _ c.show_head.ensures (c.put16.ensures ∙ ap (λ n. sets c.show_head.new.out (c.args.at + 4) (le 2 n)) (c.from.ensures ∙ search rules))
