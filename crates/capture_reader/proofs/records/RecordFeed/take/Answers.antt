use Rattle.capture_reader.proofs.RecordLemmas.{takes_long}
use Rattle.capture_reader.proofs.records.RecordFeed.take.Goals as goal

pub returns-in-TooLong-clause-advances : goal.returns-in-TooLong-clause-advances
returns-in-TooLong-clause-advances c = λ given fed held short. takes_long c.args.rest.now.now c.args.self.now c.args.header c.requires.between.0 c.requires.between.1 c.requires.between.2 c.in-TooLong.ensures given fed held
