use Rattle.std.proofs.Common.{arith}
use Rattle.bpf_insn.specs.Machine.{Packet}
use Rattle.filter_group.proofs.Verdicts.{hits_done}
use Rattle.filter_group.proofs.placements.run_planned.Goals as goal

pub returns-then-first-parts : goal.returns-then-first-parts
returns-then-first-parts c = λ programs groups h.
    let packet : Packet = record { bytes = c.args.bytes.now; original = c.args.original } in
    hits_done programs groups c.args.parts.now packet h c.args.plan.now.count c.run.new.lists.hits.items (let all = c.if-first-parts.true in omega arith) (c.in_ok-run.ensures programs groups h)
