use Rattle.capture_reader.proofs.RecordLemmas.{advances_after, let_go}
use Rattle.capture_reader.proofs.records.RecordFeed.next.Goals as goal

pub returns-in-None-clause-advances : goal.returns-in-None-clause-advances
returns-in-None-clause-advances c =
    advances_after c.args.rest.now.now c.begin.new.rest.now c.args.self.now c.let_go.new.self c.begin.new.self c.begin.result
    (λ given fed held. let_go given fed c.args.self.now c.let_go.new.self c.let_go.ensures.0 c.let_go.ensures.1 c.let_go.ensures.2 c.let_go.ensures.3 held) c.begin.ensures.advances

pub returns-in-Some-clause-advances : goal.returns-in-Some-clause-advances
returns-in-Some-clause-advances c =
    advances_after c.args.rest.now.now c.take.new.rest.now c.args.self.now c.let_go.new.self c.take.new.self c.take.result
    (λ given fed held. let_go given fed c.args.self.now c.let_go.new.self c.let_go.ensures.0 c.let_go.ensures.1 c.let_go.ensures.2 c.let_go.ensures.3 held) c.take.ensures.advances

pub returns-in-Some-2-clause-advances : goal.returns-in-Some-2-clause-advances
returns-in-Some-2-clause-advances c =
    advances_after c.args.rest.now.now c.fill.new.rest.now c.args.self.now c.let_go.new.self c.fill.new.self c.fill.result
    (λ given fed held. let_go given fed c.args.self.now c.let_go.new.self c.let_go.ensures.0 c.let_go.ensures.1 c.let_go.ensures.2 c.let_go.ensures.3 held) c.fill.ensures.advances
