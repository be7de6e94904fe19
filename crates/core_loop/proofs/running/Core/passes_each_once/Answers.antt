use Rattle.core_loop.proofs.Passing.{passed_once}
use Rattle.core_loop.proofs.running.Core.passes_each_once.Goals as goal

pub returns : goal.returns
returns g c = passed_once g.L.Links.view
