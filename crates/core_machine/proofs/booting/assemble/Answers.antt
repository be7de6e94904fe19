use Rattle.std.proofs.Common.{◌∙◌}
use Rattle.core_machine.proofs.BootedMachines.{short_lanes, wiring_long, wiring_silent, all_booted, all_requests, is_machine}
use Rattle.core_machine.proofs.booting.assemble.Goals as goal

pub start_cores-requires : goal.start_cores-requires
start_cores-requires c = record {
  count = (c.requires.count.1, wiring_long _ _ c.in_ok-links.ensures, c.in_ok-lanes.ensures.count);
  short = short_lanes _ _ c.requires.short c.in_ok-lanes.ensures.lanes;
  silent = wiring_silent _ _ c.in_ok-links.ensures;
}

pub returns-clause-machine : goal.returns-clause-machine
returns-clause-machine c = is_machine _ _ _ _ _ _ c.requires.count.0 c.in_ok-links.ensures c.in_ok-lanes.ensures.count c.in_ok-cores.ensures

pub returns-clause-requests : goal.returns-clause-requests
returns-clause-requests c = all_requests _ _ _ _ _ _ _ _ c.in_ok-cores.ensures (wiring_long _ _ c.in_ok-links.ensures) c.in_ok-lanes.ensures.count c.in_ok-lanes.ensures.lanes

pub returns-clause-booted : goal.returns-clause-booted
returns-clause-booted c = all_booted _ _ _ _ _ _ _ c.in_ok-cores.ensures (wiring_long _ _ c.in_ok-links.ensures) c.in_ok-lanes.ensures.count

pub returns-clause-cores : goal.returns-clause-cores
returns-clause-cores c = c.in_ok-cores.ensures.all ∙ wiring_long _ _ c.in_ok-links.ensures
