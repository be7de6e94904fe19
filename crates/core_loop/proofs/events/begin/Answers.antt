use Rattle.core_loop.specs.Outcomes.{outcome}
use Rattle.core_loop.proofs.Acting.{other_acts_on}
use Rattle.core_loop.proofs.events.begin.Goals as goal

pub returns-in-OtherCore-clause-acts : goal.returns-in-OtherCore-clause-acts
returns-in-OtherCore-clause-acts g c = other_acts_on c.args.context.number c.args.context.cores c.args.context.clock _ _ c.args.part.now c.in-OtherCore.core c.begin-in-OtherCore.new.core (outcome c.begin-in-OtherCore.result c.begin-in-OtherCore.new.done) c.in-OtherCore.is c.requires.fits c.begin-in-OtherCore.ensures.acts
