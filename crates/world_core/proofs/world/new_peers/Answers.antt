use Rattle.std.proofs.Common.{[]}
use Rattle.world_core.specs.Keeping.{seen_peer, PeerIsKept}
use Rattle.world_core.proofs.BootKeeping.{seen_more, all_more}
use Rattle.world_core.proofs.world.new_peers.Goals as goal

pub loop-budget-preserved : goal.loop-budget-preserved
loop-budget-preserved g c = (
  seen_more (seen_peer g.C.Channel.messages) c.loop-budget.peers.items c.push.new.self.items c.in_ok-new.field-0 c.args.budgets.now c.loop-budget.budget-index _ c.in_ok-push.ensures.items c.loop-budget.invariant.0 c.in_ok-new.ensures.seen c.loop-budget-test.true,
  all_more (PeerIsKept c.args.limits []) c.loop-budget.peers.items c.push.new.self.items c.in_ok-new.field-0 c.in_ok-push.ensures.items c.loop-budget.invariant.1 c.in_ok-new.ensures.kept,
)
