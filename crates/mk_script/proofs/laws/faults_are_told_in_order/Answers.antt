use Rattle.mk_script.proofs.OrderLemmas.{first_fault}
use Rattle.mk_script.proofs.TotalLemmas.{some_meaning}
use Rattle.mk_script.proofs.laws.faults_are_told_in_order.Goals as goal

pub returns-clause-some : goal.returns-clause-some
returns-clause-some c = some_meaning

pub returns-clause-first : goal.returns-clause-first
returns-clause-first c = first_fault
