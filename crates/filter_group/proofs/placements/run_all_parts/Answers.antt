use Rattle.std.proofs.Common.{sym, subst}
use Rattle.bpf_insn.specs.Machine.{Packet}
use Rattle.filter_group.specs.Places.{HitsSoFar}
use Rattle.filter_group.proofs.Verdicts.{hits_none_yet}
use Rattle.filter_group.proofs.placements.run_all_parts.Goals as goal

pub run_parts-requires-clause-below : goal.run_parts-requires-clause-below
run_parts-requires-clause-below c = λ programs groups h.
    let packet : Packet = record { bytes = c.args.bytes.now; original = c.args.original } in
    subst (HitsSoFar programs groups packet 0) (sym c.clear.ensures.items) (hits_none_yet programs groups c.args.parts.now packet h)
