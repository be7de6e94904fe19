use Rattle.std.proofs.Common.{take, ◌+◌, ◌<◌, refl, arith}
use Rattle.std.proofs.lemmas.List.Elements.{All-take}
use Rattle.pcap_reader.proofs.FeedLemmas.{are_bytes, split_front, two_parts}
use Rattle.pcap_reader.proofs.feed.split_record.Goals as goal

pub returns-in-Ok-Some : goal.returns-in-Ok-Some
returns-in-Ok-Some c = (
  take (16 + c.in-Ok-Some.captured) c.args.bytes.now,
  two_parts (16 + c.in-Ok-Some.captured) c.args.bytes.now,
  split_front c.args.big c.args.bytes.now c.in-Ok-Some.captured _ (rw c.in-Ok-Some.field-0-is at c.in-Ok-Some.ensures.found) refl c.word_at.ensures,
  All-take (λ b. b < 256) (16 + c.in-Ok-Some.captured) c.args.bytes.now (are_bytes _ (λ i. omega (arith, c.type_inv.bytes i))),
)
