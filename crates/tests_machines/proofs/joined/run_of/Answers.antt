use Rattle.std.proofs.Common.{[], ◌∷◌}
use Rattle.filter_table.specs.Limits.{default_limits}
use Rattle.tests_machines.proofs.joined.run_of.Goals as goal

pub conclude-requires : goal.conclude-requires
conclude-requires c = (default_limits, 100, 100 ∷ [], rw c.in_ok-cores.ensures.items (c.take_turns.ensures 100 (100 ∷ []) c.in_ok-first.ensures))
