use Rattle.std.proofs.Common.{rules}
use Rattle.installed_filters.specs.Counts.{numbers}
use Rattle.installed_filters.proofs.reaches.key_of.Goals as goal

pub returns : goal.returns
unfolding numbers
returns c = search rules
