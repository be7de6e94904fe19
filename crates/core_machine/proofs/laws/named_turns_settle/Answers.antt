use Rattle.core_machine.proofs.Naming.{named_rest, named_fewer}
use Rattle.core_machine.proofs.laws.named_turns_settle.Goals as goal

pub returns-clause-rests : goal.returns-clause-rests
returns-clause-rests c = named_rest

pub returns-clause-fewer : goal.returns-clause-fewer
returns-clause-fewer c = named_fewer
