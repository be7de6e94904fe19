use Rattle.std.proofs.Common.{length}
use Rattle.mkdemux_cores.proofs.settling.+fault_of.Given as goal

-- proposed from what the function passes where it calls itself
abbrev pub decreases-fault_of : goal.decreases-fault_of
decreases-fault_of l = length l.cores.now
