use Rattle.std.proofs.Common.{length}
use Rattle.pcap_reader.specs.Sharing.{SharesTo}
use Rattle.pcap_reader.proofs.shared.share_whole.Given as goal

abbrev pub invariant-loop-seen : goal.invariant-loop-seen
invariant-loop-seen l = SharesTo l.initial.rest.now l.rest.now l.initial.feed l.feed l.initial.packets.items l.packets.items

abbrev pub decreases-loop-seen : goal.decreases-loop-seen
decreases-loop-seen l = length l.rest.now
