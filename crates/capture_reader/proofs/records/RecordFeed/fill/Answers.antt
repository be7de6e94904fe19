use Rattle.std.proofs.Common.{arith, refl, take, length-take-le}
use Rattle.pcap_reader.proofs.FeedLemmas.{to_end}
use Rattle.capture_reader.specs.Recording.{IsWanted}
use Rattle.capture_reader.proofs.RecordLemmas.{goes_apart, grown_next, read_of, refused_by}
use Rattle.capture_reader.proofs.records.RecordFeed.fill.Goals as goal

pub returns-in_err-extend_from_slice-clause-advances : goal.returns-in_err-extend_from_slice-clause-advances
returns-in_err-extend_from_slice-clause-advances c = refused_by c.args.rest.now.now c.args.rest.now.now c.args.self.now (record c.args.self.now { part = c.extend_from_slice.new.self }) c.from_residual.result c.from_residual.ensures.1

pub returns-clause-advances : goal.returns-clause-advances
returns-clause-advances c =
    let wanted : IsWanted c.args.header.big c.args.self.now.part.items c.wanted.result = rw c.as_slice.ensures.value at c.wanted.ensures in
    goes_apart c.args.rest.now.now _ c.min-count.result c.args.self.now c.look.new.self c.look.result (to_end c.min-count.result c.args.rest.now.now) c.look.ensures.apart
    (λ given fed held short. c.look.ensures.looks given _ (grown_next given fed (take c.min-count.result c.args.rest.now.now) c.args.header c.args.self.now (record c.args.self.now { part = c.extend_from_slice.new.self }) c.wanted.result
    (read_of given fed c.args.self.now c.args.header c.requires.between.0 c.requires.between.1 held) wanted (omega (arith, length-take-le c.min-count.result c.args.rest.now.now (omega arith))) c.in_ok-extend_from_slice.ensures.items refl) short)
