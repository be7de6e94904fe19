use Rattle.std.proofs.Common.{ℕ, List, subst}
use Rattle.filter_table.specs.declared.operation.Op.{Op}
use Rattle.core_machine.specs.Booting.{HaveRequests}
use Rattle.core_machine.proofs.BootedMachines.{machine_of, none_done}
use Rattle.core_machine.proofs.booting.boot_machine.Goals as goal

pub returns-in-Ok-clause-nothing : goal.returns-in-Ok-clause-nothing
returns-in-Ok-clause-nothing c =
    none_done c.in-Ok.cores.items c.in-Ok.ports.items c.in-Ok.ensures.booted (subst (λ (rs : List (ℕ × Op)). HaveRequests rs c.in-Ok.cores.items) c.new.ensures.items c.in-Ok.ensures.requests)

pub returns-in-Ok-clause-some_machine : goal.returns-in-Ok-clause-some_machine
returns-in-Ok-clause-some_machine c = let m = machine_of c.args.limits c.args.budgets.now c.in-Ok.cores.items c.in-Ok.ensures.machine in (c.args.limits, m.0, m.1, m.2)
