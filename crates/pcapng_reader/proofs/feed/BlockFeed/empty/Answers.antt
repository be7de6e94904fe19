use Rattle.std.proofs.Common.{refl}
use Rattle.pcapng_reader.proofs.FeedLemmas.{nothing_fed}
use Rattle.pcapng_reader.proofs.FrugalLemmas.{nothing_kept}
use Rattle.pcapng_reader.proofs.feed.BlockFeed.empty.Goals as goal

pub returns : goal.returns
returns c = (nothing_fed c.new.result.items c.new-2.result.items c.new.ensures.items c.new-2.ensures.items, refl, refl, nothing_kept c.new-2.result.items c.new-2.ensures.items)
