use Rattle.std.proofs.Common.{◌≤◌, length}
use Rattle.pcap_reader.specs.Held.{Grows}
use Rattle.pcap_reader.proofs.FeedLemmas.{SoFed}
use Rattle.pcap_reader.proofs.feed.Feed.take.Given as goal

abbrev pub invariant-loop-rest : goal.invariant-loop-rest
invariant-loop-rest l = record { so_fed : SoFed l.bytes l.rest l.fn.self l.self; grows : Grows l.fn.self l.self; within : length l.rest ≤ length l.bytes }

abbrev pub decreases-loop-rest : goal.decreases-loop-rest
decreases-loop-rest l = length l.rest
