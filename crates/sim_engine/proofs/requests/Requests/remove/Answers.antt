use Rattle.sim_engine.proofs.Places.{kept_remove}
use Rattle.sim_engine.proofs.requests.Requests.remove.Goals as goal

pub invariant_of-self : goal.invariant_of-self
invariant_of-self c = kept_remove c.self.inside.places.items c.self.inside.first c.self.inside.firsts.items c.self.invariant c.args.place
