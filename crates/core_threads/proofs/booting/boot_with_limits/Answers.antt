use Rattle.std.proofs.Common.{List, sym, subst}
use Rattle.core_machine.specs.Machines.{RingCore}
use Rattle.core_threads.specs.Booted.{IsBootedMachine}
use Rattle.core_threads.proofs.Recording.{booted_none, booted_machine}
use Rattle.core_threads.proofs.booting.boot_with_limits.Goals as goal

pub record_all-requires : goal.record_all-requires
record_all-requires c = booted_none _ _ c.in-Ok.ensures.booted

pub invariant_of-result : goal.invariant_of-result
invariant_of-result c =
    let up = booted_machine _ c.args.budgets.now c.in-Ok.booted.0.items c.in-Ok.booted.1.items c.in-Ok.ensures.machine c.in-Ok.ensures.booted in
    subst (λ (l : List RingCore). IsBootedMachine l c.in-Ok.booted.1.items) (sym c.in-Ok-record_all.ensures) up
