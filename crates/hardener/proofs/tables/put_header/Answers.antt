-- `put_header` stores the fields, one behind the other.
use mathlib.Core.Path.{ap, ◌∙◌}
use lib.Seq.{sets}
use Rattle.bytes_le.specs.Numbers.{le}
use Rattle.awhile.specs.Encoding.{header_bytes}
use Rattle.hardener.proofs.tables.put_header.Goals as goal

pub returns : goal.returns
unfolding header_bytes le
returns c =
    let header = c.args.header in
    c.put16-4.ensures ∙ ap (λ l. sets l 8 (le 2 header.nodes)) (c.put8-2.ensures ∙ ap (λ l. sets l 7 (le 1 header.arrays)) (c.put8.ensures ∙ ap (λ l. sets l 6 (le 1 header.variables)) (c.put16-3.ensures ∙ ap (λ l. sets l 4 (le 2 header.version)) (c.put16-2.ensures ∙ ap (λ l. sets l 2 (le 2 1)) c.put16.ensures))))
