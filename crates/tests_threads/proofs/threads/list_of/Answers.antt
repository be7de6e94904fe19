use Rattle.filter_table.specs.Limits.{default_limits}
use Rattle.tests_threads.proofs.threads.list_of.Goals as goal

pub conclude-requires : goal.conclude-requires
conclude-requires c = (default_limits, c.requires.0, c.requires.1, c.requires.2)
