use Rattle.core_machine.proofs.Rounding.{rounds_settle}
use Rattle.core_machine.proofs.laws.fair_rounds_settle.Goals as goal

pub returns : goal.returns
returns c = rounds_settle
