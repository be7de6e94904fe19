use Rattle.std.proofs.Common.{arith, refl}
use Rattle.pcap_reader.proofs.FeedLemmas.{to_end}
use Rattle.capture_reader.proofs.FeedLemmas.{begins_few, begins_stopped, begins_told}
use Rattle.capture_reader.proofs.feed.CaptureFeed.begin.Goals as goal

pub returns-then-len-lt-MAGIC-clause-advances : goal.returns-then-len-lt-MAGIC-clause-advances
returns-then-len-lt-MAGIC-clause-advances c = begins_few c.args.rest.now.now _ c.min-count.result c.args.self.now (record c.args.self.now { first = c.extend_from_slice.new.self }) (to_end c.min-count.result c.args.rest.now.now)
    c.requires.0 c.requires.1 c.requires.0 c.requires.1 c.in_ok-extend_from_slice.ensures.items (omega (arith, c.extend_from_slice.new.self.ok.0))

pub returns-in_err-self-clause-advances : goal.returns-in_err-self-clause-advances
returns-in_err-self-clause-advances c = begins_stopped c.args.rest.now.now _ c.extend_from_slice.new.self.items c.min-count.result c.args.self.now (record c.args.self.now { first = c.extend_from_slice.new.self }) c.from_residual-in_err-self.result c.in_err-self.field-0.0
    c.from_residual-in_err-self.ensures.1 (to_end c.min-count.result c.args.rest.now.now) c.requires.0 c.requires.1 c.in_ok-extend_from_slice.ensures.items (omega (arith, c.args.self.now.first.ok.0)) (omega (arith, c.extend_from_slice.new.self.ok.0))
    (rw c.deref.ensures.value at c.in_err-self.ensures.stops)

pub returns-clause-advances : goal.returns-clause-advances
returns-clause-advances c =
    begins_told c.args.rest.now.now _ c.min-count.result c.args.self.now (record c.args.self.now { first = c.extend_from_slice.new.self; format = c.in_ok-self.field-0 }) c.in_ok-self.field-0 (to_end c.min-count.result c.args.rest.now.now)
    c.requires.0 c.requires.1 c.requires.0 refl c.in_ok-extend_from_slice.ensures.items (omega (arith, c.args.self.now.first.ok.0)) (rw c.deref.ensures.value at c.in_ok-self.ensures.holds)
