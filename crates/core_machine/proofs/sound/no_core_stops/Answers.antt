use Rattle.core_machine.proofs.Stopping.{other_goes_on, first_goes_on}
use Rattle.core_machine.proofs.sound.no_core_stops.Goals as goal

pub returns-clause-other : goal.returns-clause-other
returns-clause-other c = other_goes_on

pub returns-clause-first : goal.returns-clause-first
returns-clause-first c = first_goes_on
