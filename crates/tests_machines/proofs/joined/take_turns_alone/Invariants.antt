use Rattle.std.proofs.Common.{ℕ, List, [], ◌∷◌}
use Rattle.core_machine.specs.Machines.{IsMachine}
use Rattle.tests_machines.proofs.joined.take_turns_alone.Given as goal
use Rattle.filter_table.specs.Limits.{default_limits}

abbrev pub invariant-loop : goal.invariant-loop
invariant-loop l = (budget : ℕ) (budgets : List ℕ) → IsMachine default_limits budget budgets (l.initial.core ∷ []) → IsMachine default_limits budget budgets (l.core ∷ [])
