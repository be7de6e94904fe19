use Rattle.core_machine.proofs.Still.{still_rests}
use Rattle.core_machine.proofs.sound.a_still_machine_is_at_rest.Goals as goal

pub returns : goal.returns
returns c = still_rests
