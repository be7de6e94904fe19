use Rattle.std.proofs.Common.{[], arith, ap, length, refl}
use Rattle.pcap_reader.proofs.FeedLemmas.{none_left}
use Rattle.capture_reader.proofs.BlockLemmas.{begun_next, begun_stops, begun_whole}
use Rattle.capture_reader.proofs.blocks.begun.Goals as goal

pub loop-rest-init : goal.loop-rest-init
loop-rest-init c = record { done = []; parts = refl; going = c.new-feed.ensures.1; holds = c.new-feed.ensures.0 }

pub loop-rest-smaller : goal.loop-rest-smaller
loop-rest-smaller c = c.in_ok-next.ensures.shorter (λ none. absurd (grind (arith, ap length none)))

pub loop-rest-preserved : goal.loop-rest-preserved
loop-rest-preserved c = begun_next c.args.first.now c.loop-rest.rest.now c.next.new.rest.now c.loop-rest.feed c.next.new.self c.in_ok-next.field-0 c.requires c.loop-rest.invariant c.in_ok-next.ensures.advances c.in_ok-next.ensures.says

pub returns-in_err-next-clause-stops : goal.returns-in_err-next-clause-stops
returns-in_err-next-clause-stops c = begun_stops c.args.first.now c.loop-rest.rest.now c.next.new.rest.now c.loop-rest.feed c.next.new.self c.from_residual.result c.in_err-next.field-0.0 c.from_residual.ensures.1 c.requires c.loop-rest.invariant c.in_err-next.ensures.advances

pub returns-clause-holds : goal.returns-clause-holds
returns-clause-holds c = begun_whole c.args.first.now c.loop-rest.rest.now c.loop-rest.feed (none_left c.loop-rest.rest.now _ c.is_empty.result refl c.is_empty.ensures c.loop-rest-test.false) c.loop-rest.invariant
