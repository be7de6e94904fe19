use Rattle.std.proofs.lemmas.List.{length-take}
use Rattle.std.proofs.Common.{length-drop, ℕ, arith, rules, refl}
use Rattle.pcap_reader.specs.declared.capture.CaptureFault.TheVariants.{NoMemory}
use Rattle.pcap_reader.proofs.FeedLemmas.{handed_on, grows_on, so_fed_refused, so_fed_next, so_fed_stopped}
use Rattle.pcap_reader.proofs.feed.Feed.take.Goals as goal

pub returns-in_err-extend_from_slice-clause-grown :
    goal.returns-in_err-extend_from_slice-clause-grown
returns-in_err-extend_from_slice-clause-grown c = λ given fed held short.
    handed_on given _ (record c.loop-rest.self { part = c.extend_from_slice.new.self }) c.from_residual.result NoMemory c.from_residual.ensures.1
    (so_fed_refused c.args.bytes.now c.loop-rest.rest.now _ _ c.loop-rest.invariant.so_fed given fed held short)

pub loop-rest-preserved : goal.loop-rest-preserved
loop-rest-preserved c = record {
  so_fed = so_fed_next c.args.bytes.now c.loop-rest.rest.now c.extend_from_slice.new.self.items c.args.self.now c.loop-rest.self c.close.new.self c.wanted.result c.min-count.result
      c.loop-rest.invariant.so_fed (rw c.as_slice.ensures.value at c.wanted.ensures) (search rules) (omega arith) c.in_ok-extend_from_slice.ensures.items c.in_ok-close.ensures.closed c.close.ensures.same;
  grows = grows_on _ c.loop-rest.self (record c.loop-rest.self { part = c.extend_from_slice.new.self }) _ refl refl c.loop-rest.invariant.grows c.close.ensures.grows;
  within = omega (arith, length-take {A = ℕ}, length-drop {A = ℕ}, c.loop-rest.invariant.within);
}

pub returns-in_err-close-clause-grown : goal.returns-in_err-close-clause-grown
returns-in_err-close-clause-grown c = λ given fed held short.
    handed_on given _ c.close.new.self c.from_residual-in_err-close.result c.in_err-close.field-0.0 c.from_residual-in_err-close.ensures.1
    (so_fed_stopped c.args.bytes.now c.loop-rest.rest.now c.extend_from_slice.new.self.items c.args.self.now c.loop-rest.self c.close.new.self c.wanted.result c.min-count.result
    c.in_err-close.field-0.0 c.loop-rest.invariant.so_fed (rw c.as_slice.ensures.value at c.wanted.ensures) (search rules) (omega arith) c.in_ok-extend_from_slice.ensures.items c.in_err-close.ensures.closed given fed held short)
