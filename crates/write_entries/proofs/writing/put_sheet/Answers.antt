-- `put_sheet` writes the sheet where it fits.
use mathlib.Core.Path.{sym, ◌∙◌}
use borrow.Author.Tests.{leb-true, leb-false}
use Rattle.write_entries.proofs.Doing.{done_written, done_short}
use Rattle.write_entries.proofs.writing.put_sheet.Goals as goal

pub write_sheet-requires : goal.write_sheet-requires
write_sheet-requires c = leb-true _ _ (sym (c.sheet_fits.ensures c.args.masks) ∙ c.if-not-sheet_fits.false)

pub returns-then-not-sheet_fits : goal.returns-then-not-sheet_fits
returns-then-not-sheet_fits c = done_short _ c.args.out.now (leb-false _ _ (sym (c.sheet_fits.ensures c.args.masks) ∙ c.if-not-sheet_fits.true))

pub returns : goal.returns
returns c =
    let wrote = c.write_sheet.ensures in
    done_written _ c.args.out.now (leb-true _ _ (sym (c.sheet_fits.ensures c.args.masks) ∙ c.if-not-sheet_fits.false)) wrote.0 wrote.1
