use Rattle.std.proofs.Common.{arith, refl}
use Rattle.capture_reader.specs.declared.feed.Format.TheVariants.{Pcapng, Savefile}
use Rattle.capture_reader.proofs.FeedLemmas.{pcapng_goes_whole, savefile_goes_whole}
use Rattle.capture_reader.proofs.feed.CaptureFeed.next_whole.Goals as goal

pub returns-in-Savefile-clause-advances : goal.returns-in-Savefile-clause-advances
returns-in-Savefile-clause-advances c = savefile_goes_whole c.args.rest.now.now c.next_whole.new.rest.now c.args.self.now (record c.args.self.now { format = Savefile c.next_whole.new.self }) c.in-Savefile.records c.next_whole.new.self c.next_whole.result
    (grind (arith, c.if-is_some.false, c.is_some.ensures)) c.in-Savefile.is (grind (arith, c.if-is_some.false, c.is_some.ensures)) refl c.next_whole.ensures.advances

pub returns-in-Pcapng-clause-advances : goal.returns-in-Pcapng-clause-advances
returns-in-Pcapng-clause-advances c = pcapng_goes_whole c.args.rest.now.now c.next_whole_packet.new.rest.now c.args.self.now (record c.args.self.now { format = Pcapng c.next_whole_packet.new.feed }) c.in-Pcapng.blocks c.next_whole_packet.new.feed c.next_whole_packet.result
    (grind (arith, c.if-is_some.false, c.is_some.ensures)) c.in-Pcapng.is (grind (arith, c.if-is_some.false, c.is_some.ensures)) refl c.next_whole_packet.ensures.advances
