use Rattle.std.proofs.Common.{arith, refl, ap, length}
use Rattle.pcap_reader.proofs.FeedLemmas.{none_left}
use Rattle.std.proofs.Common.{vec_len}
use Rattle.capture_reader.proofs.RecordLemmas.{ends_whole, ends_within}
use Rattle.capture_reader.proofs.records.RecordFeed.ending.Goals as goal

pub returns-in-Some-Some : goal.returns-in-Some-Some
returns-in-Some-Some c = λ given fed held. ends_whole given fed c.args.self.now c.in-Some-Some.field-0-0 c.in-Some-Some.is-0 (rw c.in-Some-Some.is-1 refl) held

pub returns-in-Some-None : goal.returns-in-Some-None
returns-in-Some-None c = λ given fed held. ends_whole given fed c.args.self.now c.in-Some-None.field-0-0 c.in-Some-None.is-0
    (rw c.in-Some-None.is-1 (none_left c.args.self.now.part.items (vec_len c.args.self.now.part) c.is_empty.result (omega (arith, c.args.self.now.part.ok.0)) c.is_empty.ensures c.if-is_empty.true)) held

pub returns-in-Some-None-2 : goal.returns-in-Some-None-2
returns-in-Some-None-2 c = λ given fed held. ends_within given fed c.args.self.now c.in-Some-None-2.field-0-0 c.in-Some-None-2.is-0 c.in-Some-None-2.is-1
    (λ none. absurd (grind (arith, ap length none, c.args.self.now.part.ok.0))) held
