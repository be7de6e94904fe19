use Rattle.pcapng_reader.proofs.FeedLemmas.{ends_as}
use Rattle.pcapng_reader.proofs.feed.BlockFeed.ending.Goals as goal

pub returns-clause-ends : goal.returns-clause-ends
returns-clause-ends c = λ given fed held. ends_as given fed c.args.self.now c.is_within.result c.end.result c.in_default.is c.is_within.ensures c.end.ensures held
