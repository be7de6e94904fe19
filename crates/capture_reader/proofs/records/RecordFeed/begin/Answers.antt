use Rattle.std.proofs.Common.{arith, refl, Some}
use Rattle.pcap_reader.proofs.FeedLemmas.{to_end}
use Rattle.capture_reader.proofs.RecordLemmas.{begins_header, begins_nothing, begins_wrong}
use Rattle.capture_reader.proofs.records.RecordFeed.begin.Goals as goal

pub returns-in_err-header_of-clause-advances : goal.returns-in_err-header_of-clause-advances
returns-in_err-header_of-clause-advances c = begins_wrong c.args.rest.now.now _ c.extend_from_slice.new.self.items c.min-count.result c.min-front.result c.args.self.now (record c.args.self.now { part = c.extend_from_slice.new.self }) c.from_residual-in_err-header_of.result c.in_err-header_of.field-0.0
    c.from_residual-in_err-header_of.ensures.1 (to_end c.min-count.result c.args.rest.now.now) c.requires.0 c.requires.1 c.in_ok-extend_from_slice.ensures.items (omega arith) (omega arith) (rw c.deref.ensures.value at c.in_err-header_of.ensures.fault)

pub returns-in-None-clause-advances : goal.returns-in-None-clause-advances
returns-in-None-clause-advances c = begins_nothing c.args.rest.now.now _ c.min-count.result c.min-front.result c.args.self.now (record c.args.self.now { part = c.extend_from_slice.new.self }) (to_end c.min-count.result c.args.rest.now.now) c.requires.0 c.requires.1 c.requires.0 c.requires.1 refl
    c.in_ok-extend_from_slice.ensures.items (omega arith) (omega arith) (rw (c.in-None.is, c.deref.ensures.value) at c.in_ok-header_of.ensures.found)

pub returns-in-Some-clause-advances : goal.returns-in-Some-clause-advances
returns-in-Some-clause-advances c = begins_header c.args.rest.now.now _ c.extend_from_slice.new.self.items c.min-count.result c.min-front.result c.args.self.now (record c.args.self.now { header = Some c.in-Some.header; part = c.clear.new.self }) c.in-Some.header _ refl refl (to_end c.min-count.result c.args.rest.now.now) c.requires.0 c.requires.1 c.requires.0 refl refl
    c.clear.ensures.items c.in_ok-extend_from_slice.ensures.items (omega arith) (omega arith) (rw (c.in-Some.is, c.deref.ensures.value) at c.in_ok-header_of.ensures.found)
