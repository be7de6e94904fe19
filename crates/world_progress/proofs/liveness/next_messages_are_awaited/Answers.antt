use Rattle.world_progress.proofs.Awaited.{next_awaited}
use Rattle.world_progress.proofs.liveness.next_messages_are_awaited.Goals as goal

pub returns : goal.returns
returns c = next_awaited
