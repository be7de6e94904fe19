use Rattle.world_model.proofs.SoundLogs.{run_sound}
use Rattle.world_model.proofs.laws.tables_are_sound.Goals as goal

pub returns : goal.returns
returns c = run_sound
