use Rattle.std.proofs.Common.{length}
use Rattle.mkdemux_cores.proofs.settling.+take_all.Given as goal

-- proposed from what the function passes where it calls itself
abbrev pub decreases-take_all : goal.decreases-take_all
decreases-take_all l = length l.cores.now
