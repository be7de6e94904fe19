use Rattle.std.proofs.Common.{ℕ, List, [], ◌∷◌}
use Rattle.std.proofs.lemmas.Result.{IfOk-at_ok}
use Rattle.core_machine.specs.Machines.{RingCore, IsMachine}
use Rattle.core_machine.specs.Booting.{IsMachineOf}
use Rattle.tests_threads.proofs.threads.worked_run.Goals as goal
use Rattle.filter_table.specs.Limits.{TableLimits, default_limits}

-- cores that came up as a machine are one still, whatever keeps them so
still_machine : (budgets : List ℕ) (old new : List RingCore) → IsMachineOf default_limits budgets old → ((budget : ℕ) (rest : List ℕ) → IsMachine default_limits budget rest old → IsMachine default_limits budget rest new) → (budget : ℕ) × (rest : List ℕ) × IsMachine default_limits budget rest new
still_machine [] old new m keeps = absurd m
still_machine (budget ∷ rest) old new m keeps = (budget, rest, keeps budget rest m)

pub returns : goal.returns
returns g c =
    let cores = c.expect-machine.result.cores in
    let up = IfOk-at_ok (λ machine. IsMachineOf default_limits c.args.budgets.now machine.cores) c.expect-machine.ensures c.boot.ensures.machine in
    still_machine c.args.budgets.now cores c.expect.result.cores.items up
    (IfOk-at_ok (λ ended. (limits : TableLimits) (budget : ℕ) (rest : List ℕ) → IsMachine limits budget rest cores → IsMachine limits budget rest ended.cores.items) c.expect.ensures c.run_machine.ensures.machine default_limits)
