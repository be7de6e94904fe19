use Rattle.core_machine.proofs.Machines.{machine_ran}
use Rattle.core_machine.proofs.laws.cores_stay_a_machine.Goals as goal

pub returns : goal.returns
returns c = machine_ran
