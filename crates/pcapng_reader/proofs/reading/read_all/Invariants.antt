use Rattle.std.proofs.Common.{length}
use Rattle.pcapng_reader.specs.Held.{place_of}
use Rattle.pcapng_reader.proofs.FeedLemmas.{HasRead}
use Rattle.pcapng_reader.proofs.reading.read_all.Given as goal

abbrev pub invariant-loop-total : goal.invariant-loop-total
invariant-loop-total l = HasRead l.bytes l.rest l.blocks.items (place_of l.feed)

abbrev pub decreases-loop-total : goal.decreases-loop-total
decreases-loop-total l = length l.rest
