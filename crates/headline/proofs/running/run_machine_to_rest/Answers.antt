use Rattle.std.proofs.Common.{◌≡◌, ◌<◌, All, ℕ, sym, subst}
use Rattle.rx_queue.specs.declared.job.Job.{Job}
use Rattle.core_threads.specs.Settling.{HasHalted}
use Rattle.headline.specs.declared.fault.Fault.TheVariants.{Halted}
use Rattle.headline.proofs.Ending.{givable, halted_as, has_halted, have_ended}
use Rattle.headline.proofs.running.run_machine_to_rest.Goals as goal

pub boot_with_limits-requires-clause-short : goal.boot_with_limits-requires-clause-short
boot_with_limits-requires-clause-short g c = givable c.args.requests.items c.requires.short

pub run_to_rest-requires-after_bounds : goal.run_to_rest-requires-after_bounds
run_to_rest-requires-after_bounds g c =
    let inside = subst (λ (n : ℕ). All (λ (j : ℕ × Job). j.0 < n) c.args.jobs.items) (sym c.in-Ok.ensures.cores) c.requires.jobs in
    search inside

pub returns-in-None-clause-ended : goal.returns-in-None-clause-ended
returns-in-None-clause-ended g c =
    have_ended c.args.limits c.args.budgets.now c.args.requests.items c.args.jobs.items c.in-Ok.machine.cores c.in_ok-rested.rested.cores.items c.in_ok-rested.rested.left.items c.in_ok-rested.rested.undone
    c.in-None.is c.in-Ok.ensures.machine c.in-Ok.ensures.cores c.in-Ok.ensures.requests c.in_ok-rested.ensures.rests (c.in_ok-rested.ensures.machine c.args.limits)

pub returns-in-Some-clause-why : goal.returns-in-Some-clause-why
returns-in-Some-clause-why g c = λ core why e.
    let named : Halted c.in-Some.core c.in-Some.why ≡ Halted core why = cc in
    halted_as (HasHalted c.args.limits c.args.budgets.now c.args.requests.items c.args.jobs.items) c.in-Some.core core c.in-Some.why why named
    (has_halted c.args.limits c.args.budgets.now c.args.requests.items c.args.jobs.items c.in-Ok.machine.cores c.in_ok-rested.rested.cores.items c.in_ok-rested.rested.left.items c.in_ok-rested.rested.undone c.in-Some.core c.in-Some.why
    c.in-Some.is c.in-Ok.ensures.machine c.in-Ok.ensures.requests c.in_ok-rested.ensures.rests)
