use Rattle.world_core.proofs.BootKeeping.{boot_kept}
use Rattle.world_core.proofs.world.WorldOver.assemble.Goals as goal

pub invariant_of-result : goal.invariant_of-result
invariant_of-result g c = boot_kept g.C.Channel.messages c.in_ok-core0.core0 c.in-Ok.peers.items c.args.limits c.args.budget c.args.others.now (record {
  log = c.in_ok-core0.ensures.log;
  replica = c.in_ok-core0.ensures.replica;
  coordinator = c.in_ok-core0.ensures.coordinator;
  begun = c.in_ok-core0.ensures.begun;
  seen = c.in-Ok.ensures.seen;
  kept = c.in-Ok.ensures.kept;
  few = c.requires;
})
