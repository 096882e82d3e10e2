-- `harden_single` writes what a command without command parts hardens to: its parts are expressions, masked as decided.
use mathlib.Core.Path.{◌≡◌, ap, ◌∙◌}
use Rattle.awhile.specs.Nodes.{sort_of}
use Rattle.awhile.specs.declared.Node.{Node}
use Rattle.awhile.specs.declared.Node.TheVariants.{Skip}
use Rattle.reader.proofs.Index.{Parts}
use Rattle.reader.proofs.Admitted.{parts}
use Rattle.reader.proofs.NodeKinds.{unnamed_skip}
use Rattle.hardener.proofs.PartWrites.{skip_asks, skip_wrote, assign_asks, assign_wrote, read_asks, read_wrote, write_asks, write_wrote}
use borrow.Enum.Refused.{opened}
use Rattle.hardener.proofs.commands.harden_single.Goals as goal
use Rattle.hardener.proofs.commands.harden_single.Goals.{Start}

-- the parts of its node
of : (c : Start) (m : Node) → c.args.node ≡ m → Parts c.args.plan.now.table.now c.args.n m
of c = parts c.requires.single.3 c.requires.single.0.inside c.requires.single.1

pub harden_assign-requires : goal.harden_assign-requires
harden_assign-requires c =
    let asked = assign_asks c.args.plan.now c.args.from c.requires.space_for _ _ (of (goal.at.harden_assign-requires c).Start _ c.in-Assign.is) in
    record { of_sort = asked.0; space_for = asked.1 }

pub harden_read-requires : goal.harden_read-requires
harden_read-requires c =
    let asked = read_asks c.args.plan.now c.args.from c.requires.space_for _ _ _ (of (goal.at.harden_read-requires c).Start _ c.in-Read.is) in
    record { of_sort = asked.0; space_for = asked.1 }

pub harden_write-requires : goal.harden_write-requires
harden_write-requires c =
    let asked = write_asks c.args.plan.now c.args.from c.requires.space_for _ _ _ (of (goal.at.harden_write-requires c).Start _ c.in-Write.is) in
    record { of_sort = asked.0; space_for = asked.1 }

pub append-requires : goal.append-requires
append-requires c =
    let skip : c.args.node ≡ Skip = unnamed_skip c.args.node (ap sort_of c.requires.single.1 ∙ c.requires.single.0.is_sort) (opened c.in_default.in_default-own.keys4) c.requires.single.2 in
    skip_asks c.args.plan.now c.args.from c.requires.space_for (of (goal.at.append-requires c).Start _ skip)

pub returns-in-Assign : goal.returns-in-Assign
returns-in-Assign c = assign_wrote c.args.plan.now c.args.from c.requires.space_for _ _ (of (goal.at.returns-in-Assign c).Start _ c.in-Assign.is) c.harden_assign.ensures

pub returns-in-Read : goal.returns-in-Read
returns-in-Read c = read_wrote c.args.plan.now c.args.from c.requires.space_for _ _ _ (of (goal.at.returns-in-Read c).Start _ c.in-Read.is) c.harden_read.ensures

pub returns-in-Write : goal.returns-in-Write
returns-in-Write c = write_wrote c.args.plan.now c.args.from c.requires.space_for _ _ _ (of (goal.at.returns-in-Write c).Start _ c.in-Write.is) c.harden_write.ensures

pub returns-in_default : goal.returns-in_default
returns-in_default c =
    let skip : c.args.node ≡ Skip = unnamed_skip c.args.node (ap sort_of c.requires.single.1 ∙ c.requires.single.0.is_sort) (opened c.in_default.in_default-own.keys4) c.requires.single.2 in
    skip_wrote c.args.plan.now c.args.from c.requires.space_for (of (goal.at.returns-in_default c).Start _ skip) c.append.ensures
