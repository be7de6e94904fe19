use Rattle.std.proofs.Common.{take, length, length-append, length-take-le, arith, refl, ap}
use Rattle.pcapng_reader.proofs.FeedLemmas.{goes_apart, takes_passing, passed_last, open_by}
use Rattle.pcapng_reader.proofs.FrugalLemmas.{passing_frugal}
use Rattle.std.proofs.Common.{Some}
use Rattle.pcapng_reader.proofs.feed.BlockFeed.pass.Goals as goal

pub returns-then-passing-gt0-clause-advances : goal.returns-then-passing-gt0-clause-advances
returns-then-passing-gt0-clause-advances c =
    takes_passing c.args.rest.now.now c.min-count.result c.args.self.now _ c.args.passing
    c.requires.between.0 c.requires.between.1 c.requires.between.2 c.if-passing-gt0.true (omega arith) refl refl refl refl refl

pub returns-clause-advances : goal.returns-clause-advances
returns-clause-advances c =
    goes_apart c.args.rest.now.now c.min-count-2.result c.args.self.now c.end_passing.new.self c.end_passing.result c.end_passing.ensures.apart
    (λ given fed held short. c.end_passing.ensures.looks given _ (passed_last given fed (take c.min-count-2.result c.args.rest.now.now) c.args.self.now _ c.args.passing
    (open_by given fed c.args.self.now (Some c.args.passing) c.requires.between.0 c.requires.between.1 c.requires.between.2 held) (omega arith)
    (omega (arith, length-take-le c.min-count-2.result c.args.rest.now.now (omega arith))) c.in_ok-extend_from_slice.ensures.items refl) short)

pub returns-then-passing-gt0-clause-frugal : goal.returns-then-passing-gt0-clause-frugal
returns-then-passing-gt0-clause-frugal c = λ f. passing_frugal c.args.self.now c.args.passing c.requires.between.2 f

pub returns-clause-frugal : goal.returns-clause-frugal
returns-clause-frugal c = λ f.
    let few = passing_frugal c.args.self.now c.args.passing c.requires.between.2 f in
    let piece = take c.min-count-2.result c.args.rest.now.now in
    c.end_passing.ensures.frugal (omega (arith, few, length-take-le c.min-count-2.result c.args.rest.now.now (omega arith), ap length c.in_ok-extend_from_slice.ensures.items, length-append c.args.self.now.part.items piece))
