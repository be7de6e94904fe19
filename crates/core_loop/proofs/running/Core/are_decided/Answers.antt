use Rattle.std.proofs.Common.{subst}
use Rattle.core_loop.specs.Cores.{CoreState}
use Rattle.core_loop.specs.Answering.{AreDecided}
use Rattle.core_loop.proofs.Answering.{decided}
use Rattle.core_loop.proofs.running.Core.are_decided.Goals as goal

pub returns : goal.returns
returns g c =
    let i = c.self.inside in
    subst (λ (s : CoreState g.row.L.Denot). AreDecided s.part s.history) c.self.view_is (decided i.part i.number i.cores i.clock i.history.items (g.L.Links.view i.links) c.self.invariant.2)
