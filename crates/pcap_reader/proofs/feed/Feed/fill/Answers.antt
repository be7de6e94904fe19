use Rattle.std.proofs.Common.{arith, take, length-take-le}
use Rattle.pcap_reader.proofs.FeedLemmas.{two_parts, not_empty}
use Rattle.pcap_reader.proofs.feed.Feed.fill.Goals as goal

pub returns-clause-takes : goal.returns-clause-takes
returns-clause-takes c = record {
  front = take c.min-count.result c.args.rest.now.now;
  parts = two_parts c.min-count.result c.args.rest.now.now;
  some = λ any. omega (arith, not_empty c.args.rest.now.now any, length-take-le c.min-count.result c.args.rest.now.now (omega arith));
  holds = c.piece.ensures.holds;
}
