use Rattle.std.proofs.Common.{refl}
use Rattle.capture_reader.specs.declared.feed.Format.TheVariants.{Pcapng, Savefile}
use Rattle.capture_reader.proofs.FeedLemmas.{pcapng_goes, pcapng_stops, savefile_goes}
use Rattle.capture_reader.proofs.feed.CaptureFeed.step.Goals as goal

pub returns-in_err-next_block-in-Pcapng-clause-advances : goal.returns-in_err-next_block-in-Pcapng-clause-advances
returns-in_err-next_block-in-Pcapng-clause-advances c = pcapng_stops c.args.rest.now.now c.next_block.new.rest.now c.args.self.now (record c.args.self.now { format = Pcapng c.next_block.new.feed }) c.in-Pcapng.blocks c.next_block.new.feed
    c.from_residual-in_err-next_block-in-Pcapng.result c.in_err-next_block-in-Pcapng.field-0.0 c.from_residual-in_err-next_block-in-Pcapng.ensures.1 c.requires c.in-Pcapng.is c.in_err-next_block-in-Pcapng.ensures.advances

pub returns-in_ok-next-in-Savefile-clause-advances : goal.returns-in_ok-next-in-Savefile-clause-advances
returns-in_ok-next-in-Savefile-clause-advances c = savefile_goes c.args.rest.now.now c.next.new.rest.now c.args.self.now (record c.args.self.now { format = Savefile c.next.new.self }) c.in-Savefile.records c.next.new.self c.in_ok-next-in-Savefile.field-0
    c.requires c.in-Savefile.is c.requires refl c.in_ok-next-in-Savefile.ensures.advances

pub returns-in_ok-next_block-in-Pcapng-clause-advances : goal.returns-in_ok-next_block-in-Pcapng-clause-advances
returns-in_ok-next_block-in-Pcapng-clause-advances c = pcapng_goes c.args.rest.now.now c.next_block.new.rest.now c.args.self.now (record c.args.self.now { format = Pcapng c.next_block.new.feed }) c.in-Pcapng.blocks c.next_block.new.feed c.in_ok-next_block-in-Pcapng.field-0
    c.requires c.in-Pcapng.is c.requires refl c.in_ok-next_block-in-Pcapng.ensures.advances
