use Rattle.core_machine.proofs.Agreeing.{all_joined, all_own, agrees}
use Rattle.core_machine.proofs.agreement.agree.Goals as goal

pub look_at_all-requires-clause-own : goal.look_at_all-requires-clause-own
look_at_all-requires-clause-own c = all_own c.requires.0 c.requires.1 c.requires.2 c.args.first.now c.args.others.now c.requires.3

pub look_at_all-requires-clause-joined : goal.look_at_all-requires-clause-joined
look_at_all-requires-clause-joined c = all_joined c.requires.0 c.requires.1 c.requires.2 c.args.first.now c.args.others.now c.requires.3

pub returns-clause-agree : goal.returns-clause-agree
returns-clause-agree c = λ limits budget budgets machine. agrees limits budget budgets c.args.first.now c.look_at_all.new.first c.args.others.now machine c.look_at_all.ensures.first c.stands.ensures c.has_stopped.ensures c.look_at_all.ensures.each
