use Rattle.std.proofs.Common.{[], ◌∷◌}
use Rattle.std.proofs.lemmas.Result.{IfOk-weaker}
use Rattle.filter_table.specs.Limits.{default_limits}
use Rattle.tests_threads.proofs.threads.run_within.Goals as goal

pub returns-in-Ok : goal.returns-in-Ok
returns-in-Ok g c = IfOk-weaker c.run_machine.result _ _ (λ ended keeps. (100, 100 ∷ [], keeps default_limits 100 (100 ∷ []) c.in-Ok.ensures.machine)) c.run_machine.ensures.machine
