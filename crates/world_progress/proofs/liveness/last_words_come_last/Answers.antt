use Rattle.world_progress.proofs.LastWords.{last_words}
use Rattle.world_progress.proofs.liveness.last_words_come_last.Goals as goal

pub returns : goal.returns
returns c = λ limits budget budgets core0 others end ends h. last_words limits budget budgets core0 others end ends h
