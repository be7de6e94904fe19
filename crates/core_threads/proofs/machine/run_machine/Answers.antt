use Rattle.std.proofs.Common.{List, subst}
use Rattle.core_machine.specs.Machines.{RingCore}
use Rattle.core_threads.specs.Joining.{HaveRan}
use Rattle.core_threads.proofs.Runs.{can_finish, ends_rightly, machine_still}
use Rattle.core_threads.proofs.machine.run_machine.Goals as goal

pub finish-requires : goal.finish-requires
finish-requires g c =
    let loads = c.in_ok-cores.ensures in
    let joined = c.in_ok-joined.ensures in
    let ran = subst (λ (l : List RingCore). HaveRan l c.in_ok-joined.joined.ran.items) loads.cores joined.cores in
    can_finish c.args.machine.cores c.args.machine.ports c.args.jobs.items _ _ _ loads.booted loads.outlets ran joined.outlets

pub returns-clause-ended : goal.returns-clause-ended
returns-clause-ended g c =
    let loads = c.in_ok-cores.ensures in
    let joined = c.in_ok-joined.ensures in
    let ran = subst (λ (l : List RingCore). HaveRan l c.in_ok-joined.joined.ran.items) loads.cores joined.cores in
    ends_rightly c.args.machine.cores c.args.machine.ports c.args.jobs.items _ _ _ loads.booted loads.outlets ran joined.outlets _ _ _ c.in_ok-ended.ensures.finishes

pub returns-clause-machine : goal.returns-clause-machine
returns-clause-machine g c =
    let loads = c.in_ok-cores.ensures in
    let joined = c.in_ok-joined.ensures in
    let ran = subst (λ (l : List RingCore). HaveRan l c.in_ok-joined.joined.ran.items) loads.cores joined.cores in
    machine_still c.args.machine.cores c.args.jobs.items _ _ _
    (ends_rightly c.args.machine.cores c.args.machine.ports c.args.jobs.items _ _ _ loads.booted loads.outlets ran joined.outlets _ _ _ c.in_ok-ended.ensures.finishes)

pub returns-clause-one_machine : goal.returns-clause-one_machine
returns-clause-one_machine g c =
    let up = c.in_ok-cores.ensures.booted in
    (up.limits, up.budget, up.budgets, returns-clause-machine g c up.limits up.budget up.budgets up.machine)
