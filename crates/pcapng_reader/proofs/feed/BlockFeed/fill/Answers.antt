use Rattle.std.proofs.Common.{take, length-take-le, arith, refl}
use Rattle.pcapng_reader.proofs.FeedLemmas.{goes_apart, grown_next}
use Rattle.pcapng_reader.proofs.FrugalLemmas.{grown_frugal}
use Rattle.pcapng_reader.proofs.feed.BlockFeed.fill.Goals as goal

pub returns-clause-advances : goal.returns-clause-advances
returns-clause-advances c =
    goes_apart c.args.rest.now.now c.min-count.result c.args.self.now c.look.new.self c.look.result c.look.ensures.apart
    (λ given fed held short. c.look.ensures.looks given _ (grown_next given fed (take c.min-count.result c.args.rest.now.now) c.args.self.now _ c.wanted.result
    c.requires.between.0 c.requires.between.1 c.requires.between.2 held c.wanted.ensures (omega (arith, length-take-le c.min-count.result c.args.rest.now.now (omega arith))) c.in_ok-extend_from_slice.ensures.items refl) short)

pub returns-clause-frugal : goal.returns-clause-frugal
returns-clause-frugal c = λ f.
    c.look.ensures.frugal (grown_frugal c.args.self.now (take c.min-count.result c.args.rest.now.now) c.extend_from_slice.new.self.items c.wanted.result c.requires.between.2 c.requires.between.1 f c.wanted.ensures
    (omega (arith, length-take-le c.min-count.result c.args.rest.now.now (omega arith))) c.in_ok-extend_from_slice.ensures.items)
