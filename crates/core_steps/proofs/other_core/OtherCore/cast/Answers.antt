use Rattle.core_steps.proofs.Taking.{prepare_taken}
use Rattle.core_steps.proofs.other_core.OtherCore.cast.Goals as goal

pub returns-clause-takes : goal.returns-clause-takes
returns-clause-takes c = λ op short before between considers. prepare_taken short before c.args.self.now c.cast.new.self c.args.txn op c.args.vote considers c.cast.ensures
