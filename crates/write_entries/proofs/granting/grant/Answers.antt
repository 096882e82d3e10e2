-- `grant` asks what its job asks.
use Rattle.reader.specs.Index.{table_of}
use Rattle.write_entries.proofs.Jobs.{sheet_granted}
use Rattle.write_entries.proofs.granting.grant.Goals as goal

pub returns-in-Sheet : goal.returns-in-Sheet
returns-in-Sheet c = let args = c.args in rw c.in-Sheet.is (sheet_granted args.list.now (table_of args.table.now))

pub returns-in-Answers : goal.returns-in-Answers
returns-in-Answers c = rw c.in-Answers.is c.grant_answers.ensures

pub returns-in-Hardened : goal.returns-in-Hardened
returns-in-Hardened c = rw c.in-Hardened.is c.grant_hardened.ensures
