use Rattle.std.proofs.Common.{ap, ◌∙◌}
use Rattle.pcap_reader.specs.Savefile.{number}
use Rattle.pcap_reader.proofs.FeedLemmas.{to_end}
use Rattle.pcap_reader.proofs.feed.packet_of.Goals as goal

pub returns : goal.returns
returns c = (
  c.from_vec-bytes.ensures ∙ (c.in_ok-from_slice.ensures.items ∙ to_end 16 c.args.part.now),
  c.word_at-original.ensures ∙ ap (number c.args.big 4) (to_end 12 c.args.part.now),
)
