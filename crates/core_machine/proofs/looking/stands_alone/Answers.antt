use Rattle.std.proofs.Common.{subst}
use Rattle.core_links.specs.RingSlots.{ring_view}
use Rattle.core_loop.specs.Cores.{Stands}
use Rattle.core_loop.specs.Turning.{HasStopped}
use Rattle.core_machine.specs.Machines.{RingCore}
use Rattle.core_machine.proofs.looking.stands_alone.Goals as goal

pub returns-clause-stands : goal.returns-clause-stands
returns-clause-stands g c = subst (λ (x : RingCore). Stands ring_view x) c.core-core.ensures c.stands.ensures

pub returns-clause-stopped : goal.returns-clause-stopped
returns-clause-stopped g c = subst (λ (x : RingCore). HasStopped x.cores x.clock x.part (ring_view x.links) x.stopped) c.core-core.ensures c.has_stopped.ensures
