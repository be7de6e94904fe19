use Rattle.std.proofs.Common.{length}
use Rattle.core_machine.proofs.agreement.+look_at_all.Given as goal

abbrev pub decreases-look_at_all : goal.decreases-look_at_all
decreases-look_at_all l = length l.others.now
