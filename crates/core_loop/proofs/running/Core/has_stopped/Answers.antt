use Rattle.std.proofs.Common.{subst}
use Rattle.core_loop.specs.Cores.{CoreState}
use Rattle.core_loop.specs.Turning.{HasStopped}
use Rattle.core_loop.proofs.running.Core.has_stopped.Goals as goal

pub returns : goal.returns
returns g c = subst (λ (s : CoreState g.row.L.Denot). HasStopped s.cores s.clock s.part (g.L.Links.view s.links) s.stopped) c.self.view_is c.self.invariant.5
