use Rattle.std.proofs.Common.{length}
use Rattle.mkdemux_cores.proofs.naming.+name_all.Given as goal

-- proposed from what the function passes where it calls itself
abbrev pub decreases-name_all : goal.decreases-name_all
decreases-name_all l = length l.cores.now
