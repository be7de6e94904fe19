use Rattle.std.proofs.Common.{[], arith}
use Rattle.pcap_reader.proofs.AnswerLemmas.{whole_or_front}
use Rattle.pcap_reader.proofs.FeedLemmas.{are_bytes}
use Rattle.pcap_reader.proofs.LawLemmas.{one_reading}
use Rattle.pcap_reader.proofs.ReadingLemmas.{has_reading}
use Rattle.pcap_reader.proofs.feed.read_capture.Goals as goal

pub returns-clause-gives : goal.returns-clause-gives
returns-clause-gives c =
    let held = c.piece.ensures.holds [] [] c.new-feed.ensures.holds (omega arith) in
    whole_or_front c.args.bytes.now _ c.finish.result (c.finish.ensures.whole c.args.bytes.now held) (c.finish.ensures.front c.args.bytes.now held)

pub returns-clause-only : goal.returns-clause-only
returns-clause-only c = c.finish.ensures.only c.args.bytes.now (c.piece.ensures.holds [] [] c.new-feed.ensures.holds (omega arith))

pub returns-clause-readable : goal.returns-clause-readable
returns-clause-readable c = has_reading c.args.bytes.now

pub returns-clause-one : goal.returns-clause-one
returns-clause-one c = one_reading c.args.bytes.now (are_bytes _ (λ i. omega (arith, c.type_inv.bytes i)))
