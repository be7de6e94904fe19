use Rattle.std.proofs.Common.{subst}
use Rattle.core_loop.specs.Cores.{CoreState}
use Rattle.core_loop.specs.Answering.{IsGivenCount}
use Rattle.core_loop.proofs.running.Core.given.Goals as goal

pub returns : goal.returns
returns g c = let i = c.self.inside in subst (λ (s : CoreState g.row.L.Denot). IsGivenCount i.given s.history s.pending) c.self.view_is c.self.invariant.6
