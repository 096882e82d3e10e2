-- `harden_input` makes the output of what the entry leaves.
use Rattle.bytes_le.proofs.Numbers.{slice_bytes, below_take}
use Rattle.program.proofs.ProgramAnswers.{hardened_answered, refused_answered}
use Rattle.program.proofs.input.harden_input.Goals as goal

pub returns-then-refusal-eq0 : goal.returns-then-refusal-eq0
returns-then-refusal-eq0 c =
    let buffer = c.args.buffer.now in
    let read = below_take 256 c.args.count buffer (slice_bytes buffer c.type_inv.buffer) in
    hardened_answered buffer c.args.count c.args.out.now read c.requires.longest_table_in_bounds c.requires.longest_table_in_bounds_2
    c.flow_harden-refusal.ensures.writes c.if-refusal-eq0.true c.u32_at-second.ensures

pub returns : goal.returns
returns c =
    let buffer = c.args.buffer.now in
    let read = below_take 256 c.args.count buffer (slice_bytes buffer c.type_inv.buffer) in
    refused_answered buffer c.args.count c.args.out.now read c.requires.longest_table_in_bounds c.requires.longest_table_in_bounds_2
    c.flow_harden-refusal.ensures.writes c.if-refusal-eq0.false c.u32_at-second.ensures c.put_refusal.ensures
