use Rattle.std.proofs.Common.{length}
use Rattle.core_threads.proofs.settling.+are_at_end.Given as goal

abbrev pub decreases-are_at_end : goal.decreases-are_at_end
decreases-are_at_end l = length l.cores.now
