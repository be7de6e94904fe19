use Rattle.std.proofs.Common.{◌+◌}
use Rattle.filter_codegen.proofs.facts.Facts.common.Given as goal

abbrev pub decreases-facts : goal.decreases-facts
decreases-facts l = l.first + l.second
