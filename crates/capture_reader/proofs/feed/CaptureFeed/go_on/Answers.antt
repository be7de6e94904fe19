use Rattle.capture_reader.proofs.FeedLemmas.{stopped-on}
use Rattle.capture_reader.proofs.feed.CaptureFeed.go_on.Goals as goal

pub returns-in-Some-clause-advances : goal.returns-in-Some-clause-advances
returns-in-Some-clause-advances c = λ given fed held short. stopped-on fed c.args.rest.now.now given c.args.self.now c.in-Some.fault c.in-Some.is held
