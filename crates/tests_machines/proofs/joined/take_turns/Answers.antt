use Rattle.core_machine.proofs.Machines.{machine_ran, same_more, same_none}
use Rattle.tests_machines.proofs.joined.take_turns.Goals as goal
use Rattle.filter_table.specs.Limits.{default_limits}

pub loop-preserved : goal.loop-preserved
loop-preserved c = λ budget budgets machine. machine_ran default_limits budget budgets _ _ (c.loop.invariant budget budgets machine) (same_more _ _ _ _ c.turn.ensures.core (same_more _ _ _ _ c.turn-in-loop.ensures.core same_none))
