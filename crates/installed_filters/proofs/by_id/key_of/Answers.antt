use Rattle.std.proofs.Common.{rules}
use Rattle.installed_filters.specs.Under.{ids}
use Rattle.installed_filters.proofs.by_id.key_of.Goals as goal

pub returns : goal.returns
unfolding ids
returns c = search rules
