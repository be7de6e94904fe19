use Rattle.pcapng_reader.specs.Held.{place_of}
use Rattle.pcapng_reader.proofs.FeedLemmas.{whole_front}
use Rattle.pcapng_reader.proofs.feed.BlockFeed.take_block.Goals as goal

pub split_at-requires : goal.split_at-requires
split_at-requires c = (whole_front (place_of c.args.self.now) c.args.rest.now.now c.args.total c.args.content c.requires).within
