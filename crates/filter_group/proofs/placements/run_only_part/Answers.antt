use Rattle.std.proofs.Common.{arith, length, sym, subst, refl}
use Rattle.std.proofs.lemmas.Option.{slice_get_read}
use Rattle.bpf_insn.specs.Machine.{Packet}
use Rattle.filter_group.specs.Places.{HitsSoFar}
use Rattle.filter_group.specs.Together.{AreHits}
use Rattle.filter_group.proofs.Verdicts.{hits_done, hits_none_yet, hits_of_group}
use Rattle.filter_group.proofs.placements.run_only_part.Goals as goal

pub returns : goal.returns
returns c = λ programs groups h.
    let packet : Packet = record { bytes = c.args.bytes.now; original = c.args.original } in
    let parts = c.args.parts.now in
    let only = c.requires in
    let part = c.index-parts-0.result in
    let there = slice_get_read parts (length parts) 0 part refl (omega arith) c.index-parts-0.is in
    let added = c.in_ok-add_all_hits.ensures in
    let none = subst (HitsSoFar programs groups packet 0) (sym c.clear.ensures.items) (hits_none_yet programs groups parts packet h) in
    subst (AreHits programs packet (length programs)) (sym added.added)
    (hits_done programs groups parts packet h 1 _ (omega arith) (hits_of_group programs groups parts packet h 0 part there _ added.found none added.hits))
