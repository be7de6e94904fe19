use Rattle.std.proofs.Common.{◌≡◌, [], arith, length-append}
use Rattle.std.proofs.lemmas.List.Elements.{All-push}
use Rattle.core_machine.proofs.lanes.empty_lanes.Goals as goal

pub loop-preserved : goal.loop-preserved
loop-preserved g c =
    let is = c.in_ok-push.ensures.items in
    rw is (simp length-append (omega arith), All-push (λ lane. lane.items ≡ []) c.loop.lanes.items c.new.result c.loop.invariant.1 c.new.ensures.items)
