use Rattle.std.proofs.Common.{◌≡◌, [], arith, vec_len}
use Rattle.pcap_reader.proofs.FeedLemmas.{none_left}
use Rattle.keep_engine.proofs.RecordLemmas.{takes_then}
use Rattle.keep_engine.proofs.sifting.take_piece.Goals as goal

pub returns-then-is_empty-clause-takes : goal.returns-then-is_empty-clause-takes
returns-then-is_empty-clause-takes c =
    let none : c.take_whole.new.part.items ≡ [] =
    none_left c.take_whole.new.part.items (vec_len c.take_whole.new.part) c.is_empty.result (omega (arith, c.take_whole.new.part.ok.0)) c.is_empty.ensures c.if-is_empty.true in
    takes_then c.take_in_place.result _ _ _ c.args.part.now.items c.args.piece.now c.take_whole.new.part.items c.in_ok-rest.rest.now c.complete.new.part.items _ _ c.take_whole.new.kept _ c.in_ok-rest.ensures c.in_ok-take_whole.ensures
    (rw none c.take_in_place.ensures.takes)

pub returns-clause-takes : goal.returns-clause-takes
returns-clause-takes c =
    takes_then c.take_records.result _ _ _ c.args.part.now.items c.args.piece.now c.take_whole.new.part.items c.in_ok-rest.rest.now c.complete.new.part.items _ _ c.take_whole.new.kept _ c.in_ok-rest.ensures c.in_ok-take_whole.ensures
    (rw c.in_ok-extend_from_slice.ensures.items at c.take_records.ensures.takes)
