use Rattle.pcapng_reader.proofs.FeedLemmas.{stopped-lasts, stopped_of}
use Rattle.pcapng_reader.proofs.feed.BlockFeed.next.Goals as goal

pub returns-in-Some-clause-advances : goal.returns-in-Some-clause-advances
returns-in-Some-clause-advances c = λ given fed held short.
    stopped-lasts fed c.args.rest.now.now given c.in-Some.fault (stopped_of given fed c.args.self.now c.in-Some.fault c.in-Some.is held)
