use Rattle.core_loop.specs.Outcomes.{outcome}
use Rattle.core_loop.proofs.Acting.{other_acts_on}
use Rattle.core_loop.proofs.events.take.Goals as goal

pub returns-else-peer-ne0-clause-acts : goal.returns-else-peer-ne0-clause-acts
returns-else-peer-ne0-clause-acts g c = other_acts_on c.args.context.number c.args.context.cores c.args.context.clock _ _ c.args.part.now c.in-OtherCore.core c.take-taken.new.core (outcome c.take-taken.result c.take-taken.new.done) c.in-OtherCore.is c.requires.fits c.take-taken.ensures.acts
