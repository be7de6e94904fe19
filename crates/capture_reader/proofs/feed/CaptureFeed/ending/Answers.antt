use Rattle.capture_reader.specs.declared.fault.ReadFault.TheVariants.{Pcapng as OfPcapng}
use Rattle.capture_reader.proofs.FeedLemmas.{ends_handed, ends_pcapng, ends_unknown}
use Rattle.capture_reader.proofs.feed.CaptureFeed.ending.Goals as goal

pub returns-in_err-ending-in-Pcapng-clause-ends : goal.returns-in_err-ending-in-Pcapng-clause-ends
returns-in_err-ending-in-Pcapng-clause-ends c = λ given fed held. ends_handed OfPcapng given fed c.from_residual-in_err-ending-in-Pcapng.result c.in_err-ending-in-Pcapng.field-0.0 c.from_residual-in_err-ending-in-Pcapng.ensures.1
    (rw c.in_err-ending-in-Pcapng.was at (ends_pcapng given fed c.args.self.now c.in-Pcapng.blocks c.ending-in-Pcapng.result c.in_default.is c.in-Pcapng.is c.ending-in-Pcapng.ensures.ends held))

pub returns-in-Unknown-clause-ends : goal.returns-in-Unknown-clause-ends
returns-in-Unknown-clause-ends c = λ given fed held. ends_unknown given fed c.args.self.now c.in_default.is c.in-Unknown.is held
