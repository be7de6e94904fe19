use Rattle.std.proofs.Common.{[], Ok, Err}
use Rattle.pcap_reader.specs.Held.{held_fault}
use Rattle.pcap_reader.proofs.AnswerLemmas.{gives_only, whole_or_front}
use Rattle.pcap_reader.proofs.feed.Feed.finish.Goals as goal

pub returns-in-Ok-clause-whole : goal.returns-in-Ok-clause-whole
returns-in-Ok-clause-whole c = λ fed held other. rw c.from_vec-packets.ensures (c.in-Ok.ensures.whole [] fed held other)

pub returns-in-Ok-clause-only : goal.returns-in-Ok-clause-only
returns-in-Ok-clause-only c = λ fed held.
    gives_only fed (Ok (record { header = c.in-Ok.header; packets = c.from_vec-packets.result })) held.0 (whole_or_front fed (held_fault c.args.self) (Ok (record { header = c.in-Ok.header; packets = c.from_vec-packets.result }))
    (λ other. rw c.from_vec-packets.ensures (c.in-Ok.ensures.whole [] fed held other))
    (λ refused. let never = c.in-Ok.ensures.refused refused in absurd (cc)))

pub returns-clause-whole : goal.returns-clause-whole
returns-clause-whole c = λ fed held other. rw c.from_vec-packets.ensures (c.in-Err.ensures.whole [] fed held other)

pub returns-clause-only : goal.returns-clause-only
returns-clause-only c = λ fed held.
    gives_only fed (Err (record { header = c.args.self.header; before = c.from_vec-packets.result; fault = c.in-Err.fault })) held.0 (whole_or_front fed (held_fault c.args.self) (Err (record { header = c.args.self.header; before = c.from_vec-packets.result; fault = c.in-Err.fault }))
    (λ other. rw c.from_vec-packets.ensures (c.in-Err.ensures.whole [] fed held other))
    (λ refused. (let memory = c.in-Err.ensures.refused refused in cc, rw c.from_vec-packets.ensures (c.in-Err.ensures.front [] fed held refused))))
