-- `put_hardened` decides on the program, and writes what comes out where it fits.
use native.Mathlib.Omega.{arith}
use mathlib.Core.Path.{sym, ◌∙◌}
use borrow.Author.Tests.{leb-true, leb-false}
use Rattle.deciding.proofs.DecidedChoices.{all_decided}
use Rattle.hardener.specs.Output.{Measurable}
use Rattle.write_entries.proofs.Doing.{done_written, done_short}
use Rattle.write_entries.proofs.writing.put_hardened.Goals as goal
use Rattle.write_entries.proofs.writing.put_hardened.Goals.{After-decide_all}

-- what is decided can be measured
measurable : (c : After-decide_all) → Measurable c.args.labelled.now.expressions.table.now c.decide_all.new.decisions
measurable c =
    record {
      decided = all_decided c.args.labelled.now.expressions.admitted c.decide_all.ensures (omega (arith, c.requires.room, c.decide_all.auto.decisions)) c.requires.labelled;
      few = c.requires.few;
    }

pub hardened_fits-requires : goal.hardened_fits-requires
hardened_fits-requires c = measurable (goal.at.hardened_fits-requires c).After-decide_all

pub write_hardened-requires : goal.write_hardened-requires
write_hardened-requires c =
    record {
      measurable = measurable (goal.at.write_hardened-requires c).After-decide_all;
      fits = leb-true _ _ (sym c.hardened_fits.ensures ∙ c.if-not-hardened_fits.false);
    }

pub returns-then-not-hardened_fits : goal.returns-then-not-hardened_fits
returns-then-not-hardened_fits c = done_short _ c.args.out.now (leb-false _ _ (sym c.hardened_fits.ensures ∙ c.if-not-hardened_fits.true))

pub returns : goal.returns
returns c =
    let wrote = c.write_hardened.ensures in
    done_written _ c.args.out.now (leb-true _ _ (sym c.hardened_fits.ensures ∙ c.if-not-hardened_fits.false)) wrote.stored wrote.counted
